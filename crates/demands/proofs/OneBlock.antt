-- Demand 2 of one block as it is stored: what it is mended to, and what the verdict says of it. Assumes nothing.
use Prim.Native.Nat.{ℕ, zero, suc, ◌+◌, ◌≤◌}
use mathlib.Core.Path.{◌≡◌, refl, sym, ap, subst, ◌∙◌}
use mathlib.Core.List.{List}
use native.Mathlib.Omega.{arith}
use lib.ListN.{length, get_or}
use Rattle.ground.proofs.Totals.{total_same, total_zero, total_few}
use Rattle.lane.specs.Decision.{Kind, even, beyond, decide, lost?, lost_as?}
use Rattle.lane.proofs.TwoKinds.{kind_exactly, lost_exactly, kinds_exactly}
use Rattle.shape.specs.declared.Shape.{Shape}
use Rattle.shape.specs.declared.Shape.TheVariants.{One}
use Rattle.shape.specs.Shape.{before, rows}
use Rattle.stored.specs.Stored.{complemented}
use Rattle.stored.proofs.Forms.{length_complemented, complemented_fits, complemented_twice}
use Rattle.sums.specs.Words.{lane}
use Rattle.lane.specs.Lane.{apart}
use Rattle.block.specs.Block.{ValidBlock, lanes_lost, lanes_lost_as, bits_changed, mended_block, Fitting, Near, SameRows}
use Rattle.block.specs.declared.Verdict.TheVariants.{Lost}
use Rattle.block.specs.Verdict.{verdict_number, verdict_count, verdict_beyond, Said, said_of, verdict, verdict_of}
use Rattle.block.proofs.Blocks.{kept_valid, kept_near, near_none, near_rows, mended_fits, length_mended}
use Rattle.std.specs.Prelude.{Ok}
use Rattle.store.proofs.StoredBlocks.{apart_stored, bits_stored, same_stored}
use Rattle.block.proofs.Told.{three_lost, lost_three, kept_count, clean_none, none_clean, counts, few_lost, kinds_lost, beyond_one, clean_left}
use Rattle.demands.specs.Demand2.{ValidStored, Meant, LaneLost, LaneLostAs, CountsLanes, Mends}
use Rattle.demands.proofs.SameBlocks.{same_apart}

few_changed : (shape : Shape) (old new : List ℕ) → Near shape old new → bits_changed shape old new ≤ 32
unfolding bits_changed
few_changed shape old new near = total_few 32 _ near

-- blocks with the same rows differ in no bit
same_bits : (shape : Shape) (a b : List ℕ) → SameRows shape a b → bits_changed shape a b ≡ 0
unfolding bits_changed
same_bits shape a b same = total_same 32 _ (λ i. 0) (λ i h. same_apart shape a b same i) ∙ total_zero 32

-- a clean verdict counts nothing, and one that is neither clean nor lost is mended
module _ (kinds : Kind → ℕ) where
  clean_zero : (lost changed : ℕ) → verdict_number (verdict lost kinds changed) ≡ 1 → verdict_count (verdict lost kinds changed) ≡ 0
  clean_zero zero zero e = refl
  clean_zero zero (suc changed) e = absurd (omega arith)
  clean_zero (suc lost) changed e = absurd (omega arith)

  else_two : (lost changed : ℕ) → (verdict_number (verdict lost kinds changed) ≡ 1 → ⊥) → (verdict_number (verdict lost kinds changed) ≡ 3 → ⊥)
      → verdict_number (verdict lost kinds changed) ≡ 2
  else_two zero zero clean ne = absurd (clean refl)
  else_two zero (suc changed) clean ne = refl
  else_two (suc lost) changed clean ne = absurd (ne refl)

-- the lanes of a kind, and all that are lost, are counted by what is decided of each lane of the code's block
module _ (shape : Shape) (found : List ℕ) where
  kind_counted : (kind : Kind) → CountsLanes (lanes_lost_as shape (complemented found) kind) (LaneLostAs kind shape found)
  unfolding lanes_lost_as
  kind_counted kind =
      record {
        such? = λ i. lost_as? kind (decide (before shape) (lane i (complemented found)));
        exactly = λ i h. kind_exactly (before shape) (lane i (complemented found)) kind;
        counted = refl;
      }

  lanes_counted : CountsLanes (lanes_lost shape (complemented found)) (LaneLost shape found)
  unfolding lanes_lost
  lanes_counted =
      record {
        such? = λ i. lost? (decide (before shape) (lane i (complemented found)));
        exactly = λ i h. lost_exactly (before shape) (lane i (complemented found));
        counted = refl;
      }

-- in shape 1 no second count
one_beyond : (shape : Shape) (found : List ℕ) → shape ≡ One → verdict_beyond (verdict_of shape found) ≡ 0
one_beyond shape found e = rw e (beyond_one found)

module _ (shape : Shape) (found : List ℕ) (fits : Fitting found) (long : rows shape ≤ length found) where
  -- the code's block, as it was found and as it is left; and what is stored then
  abbrev code : List ℕ
  code = complemented found

  abbrev coded : List ℕ
  coded = mended_block shape code

  abbrev left : List ℕ
  left = complemented coded

  abbrev lost : ℕ
  lost = lanes_lost shape code

  abbrev kinds : Kind → ℕ
  kinds = lanes_lost_as shape code

  abbrev changed : ℕ
  changed = bits_changed shape code coded

  code_fits : Fitting code
  code_fits = complemented_fits found fits

  code_long : rows shape ≤ length code
  code_long = rw (length_complemented found) long

  coded_long : rows shape ≤ length coded
  coded_long = rw (length_mended shape code) code_long

  left_long : rows shape ≤ length left
  left_long = rw (length_complemented coded) coded_long

  -- lanes are as far apart as they are stored as in the code
  off_left : (i : ℕ) → apart (before shape) (lane i found) (lane i left) ≡ apart (before shape) (lane i code) (lane i coded)
  off_left i =
      ap (λ (b : List ℕ). apart (before shape) (lane i b) (lane i left)) (sym (complemented_twice found))
      ∙ apart_stored shape code coded code_long coded_long i

  bits_left : bits_changed shape found left ≡ changed
  bits_left =
      ap (λ (b : List ℕ). bits_changed shape b left) (sym (complemented_twice found)) ∙ bits_stored shape code coded code_long coded_long

  left_meant : lost ≡ 0 → Meant shape found left
  left_meant none =
      record {
        whole = left_long;
        words = complemented_fits coded (mended_fits shape code code_fits);
        valid = rw (complemented_twice coded) (kept_valid shape code code_long none);
        near = λ i h. rw (off_left i) (kept_near shape code code_long none i h);
      }

  code_near : (other : List ℕ) → Meant shape found other → Near shape code (complemented other)
  code_near other m i h = rw (apart_stored shape found other long m.whole i) (m.near i h)

  left_only : (other : List ℕ) → Meant shape found other → SameRows shape other left
  left_only other m =
      same_stored shape other left m.whole left_long
      (λ j h.
      sym (near_rows shape code code_long (complemented other) m.valid (code_near other m) (mended_fits shape code code_fits)
      (complemented_fits other m.words) j h)
      ∙ ap (λ (b : List ℕ). get_or b j 0) (sym (complemented_twice coded)))

  valid_meant : ValidStored shape found → Meant shape found found
  valid_meant v =
      record {
        whole = long;
        words = fits;
        valid = v;
        near = λ i h. omega (arith, same_apart shape found found (λ j l. refl) i);
      }

  -- a block that was valid is clean, and a clean one was valid
  pub clean_same : lost ≡ 0 → changed ≡ 0 → coded ≡ code
  clean_same = clean_left shape code code_long

  clean_valid : lost ≡ 0 → changed ≡ 0 → ValidStored shape found
  clean_valid l c = subst (λ (b : List ℕ). ValidBlock shape b) (clean_same l c) (kept_valid shape code code_long l)

  -- what a lost verdict counts
  says_lost : verdict_number (verdict lost kinds changed) ≡ 3 → said_of (verdict lost kinds changed) ≡ said_of (Lost (kinds even) (kinds beyond))
  says_lost says = lost_three kinds lost changed (three_lost kinds lost changed says)

  pub mends : Mends shape found left (Ok (verdict_of shape code))
  unfolding verdict_of
  mends =
      record {
        mended = λ ne. left_meant (kept_count kinds lost changed ne).0;
        count = λ ne. (kept_count kinds lost changed ne).1 ∙ sym bits_left;
        no_beyond = λ ne. (kept_count kinds lost changed ne).2;
        only = left_only;
        lost = (
          λ says other m. three_lost kinds lost changed says (near_none shape code code_long (complemented other) m.valid (code_near other m)),
          λ none. ap (λ (s : Said). s.verdict) (lost_three kinds lost changed (λ e. none left (left_meant e))),
        );
        lanes_even = λ says. subst (λ (s : Said). CountsLanes s.count (LaneLostAs even shape found)) (sym (says_lost says)) (kind_counted shape found even);
        lanes_beyond = λ says.
            subst (λ (s : Said). CountsLanes s.beyond (LaneLostAs beyond shape found)) (sym (says_lost says)) (kind_counted shape found beyond);
        kinds = λ i. kinds_exactly (before shape) (lane i code);
        lanes = λ says.
            subst (λ (s : Said). CountsLanes (s.count + s.beyond) (LaneLost shape found)) (sym (says_lost says))
            (subst (λ (n : ℕ). CountsLanes n (LaneLost shape found)) (sym (kinds_lost shape code)) (lanes_counted shape found));
        one_no_beyond = one_beyond shape code;
        range = counts kinds 32 lost changed (kinds_lost shape code) (few_lost shape code)
            (λ e. rw (← bits_left) (few_changed shape found left (left_meant e).near));
        clean = (
          λ says. let z = clean_none kinds lost changed says in clean_valid z.0 z.1,
          λ v.
              none_clean kinds lost changed (near_none shape code code_long code v (code_near found (valid_meant v)))
              (sym bits_left ∙ same_bits shape found left (left_only found (valid_meant v))),
        );
        clean_count = λ says. clean_zero kinds lost changed says;
        else_mended = else_two kinds lost changed;
      }

  -- what the verdict says of the block that is left
  pub lost_same : verdict_number (verdict_of shape code) ≡ 3 → lost ≡ 0 → ⊥
  unfolding verdict_of
  lost_same says = three_lost kinds lost changed says

  pub clean_numbers : verdict_number (verdict_of shape code) ≡ 1 → (lost ≡ 0) × (changed ≡ 0)
  unfolding verdict_of
  clean_numbers says = clean_none kinds lost changed says

  pub kept_numbers : (verdict_number (verdict_of shape code) ≡ 3 → ⊥) → lost ≡ 0
  unfolding verdict_of
  kept_numbers ne = (kept_count kinds lost changed ne).0
