-- What a verdict tells of a block: its counts, that lost and clean leave it as it is, and that only lost loses lanes. Assumes nothing.
use Prim.Native.Nat.{ℕ, zero, suc, ◌+◌, ◌≤◌}
use mathlib.Core.Bool.{Bool, true, false, true≢false}
use mathlib.Core.Path.{◌≡◌, refl, sym, ap, subst, ◌∙◌}
use mathlib.Core.List.{List}
use native.Mathlib.Omega.{arith}
use lib.ListN.{length}
use denote.Enum.Declared.{row}
use denote.Laws.{Is}
use mir.Syntax.{w32}
use mir.Val.{Fits, Val}
use borrow.Author.Rules.{rules}
use Rattle.lane.specs.Lane.{odd}
use Rattle.lane.specs.Decision.{Kind, even, beyond, decide, decision, lost?, changes}
use Rattle.lane.proofs.Bits.{pick_one}
use Rattle.lane.proofs.TwoKinds.{one_kind, never_beyond}
use Rattle.ground.proofs.Totals.{total_same, total_add, total_few}
use Rattle.shape.specs.declared.Shape.{Shape}
use Rattle.shape.specs.declared.Shape.TheVariants.{One}
use Rattle.block.specs.declared.Verdict.{Verdict}
use Rattle.block.specs.declared.Verdict.TheVariants.{Clean, Mended, Lost}
use Rattle.shape.specs.Shape.{before, rows}
use Rattle.sums.specs.Words.{lane}
use Rattle.block.specs.Block.{lanes_lost, lanes_lost_as, bits_changed, mended_block}
use Rattle.block.specs.Verdict.{verdict_number, verdict_count, verdict_beyond, said_of, verdict, verdict_of}
use Rattle.block.specs.contracts.Verdict.{the_type}
use Rattle.block.proofs.Blocks.{none_counted, counted_none, none_kept, mended_kept, mended_lost, unchanged_lanes, changed_odd}

-- ---- by the variants that a test of the code leaves

abbrev pub NotLost : Verdict → Type 0
NotLost v = (e b : ℕ) → v ≡ Lost e b → ⊥

abbrev pub NotMended : Verdict → Type 0
NotMended v = (n : ℕ) → v ≡ Mended n → ⊥

-- ---- by the numbers of lanes lost, of each kind of them, and of bits changed

module _ (kinds : Kind → ℕ) where
  -- lost: some lane is
  some_lost : (lost changed e b : ℕ) → verdict lost kinds changed ≡ Lost e b → lost ≡ 0 → ⊥
  some_lost zero zero e b says z = let w : ◌≡◌ {A = ℕ} 0 1 = cc in omega arith
  some_lost zero (suc changed) e b says z = let w : ◌≡◌ {A = ℕ} 0 1 = cc in omega arith
  some_lost (suc lost) changed e b says z = omega arith

  -- mended: none is
  none_mended : (lost changed m : ℕ) → verdict lost kinds changed ≡ Mended m → lost ≡ 0
  none_mended zero changed m says = refl
  none_mended (suc lost) changed m says = let w : ◌≡◌ {A = ℕ} 0 1 = cc in absurd (omega arith)

  -- not lost: no lane is
  none_lost : (lost changed : ℕ) → NotLost (verdict lost kinds changed) → lost ≡ 0
  none_lost zero changed keys = refl
  none_lost (suc lost) changed keys = absurd (keys _ _ refl)

  -- not mended: where no lane is lost no bit changed
  none_changed : (lost changed : ℕ) → NotMended (verdict lost kinds changed) → lost ≡ 0 → changed ≡ 0
  none_changed zero zero keys e = refl
  none_changed zero (suc changed) keys e = absurd (keys _ refl)
  none_changed (suc lost) changed keys e = absurd (omega arith)

  -- ---- its number and its counts

  pub three_lost : (lost changed : ℕ) → verdict_number (verdict lost kinds changed) ≡ 3 → lost ≡ 0 → ⊥
  three_lost zero zero e z = omega arith
  three_lost zero (suc changed) e z = omega arith
  three_lost (suc lost) changed e z = omega arith

  pub lost_three : (lost changed : ℕ) → (lost ≡ 0 → ⊥) → said_of (verdict lost kinds changed) ≡ said_of (Lost (kinds even) (kinds beyond))
  lost_three zero changed ne = absurd (ne refl)
  lost_three (suc lost) changed ne = refl

  pub kept_count : (lost changed : ℕ) → (verdict_number (verdict lost kinds changed) ≡ 3 → ⊥)
      → (lost ≡ 0) × (verdict_count (verdict lost kinds changed) ≡ changed) × (verdict_beyond (verdict lost kinds changed) ≡ 0)
  kept_count zero zero ne = (refl, refl, refl)
  kept_count zero (suc changed) ne = (refl, refl, refl)
  kept_count (suc lost) changed ne = absurd (ne refl)

  pub clean_none : (lost changed : ℕ) → verdict_number (verdict lost kinds changed) ≡ 1 → (lost ≡ 0) × (changed ≡ 0)
  clean_none zero zero e = (refl, refl)
  clean_none zero (suc changed) e = absurd (omega arith)
  clean_none (suc lost) changed e = absurd (omega arith)

  pub none_clean : (lost changed : ℕ) → lost ≡ 0 → changed ≡ 0 → verdict_number (verdict lost kinds changed) ≡ 1
  none_clean zero zero l c = refl
  none_clean zero (suc changed) l c = absurd (omega arith)
  none_clean (suc lost) changed l c = absurd (omega arith)

  -- its two counts together
  abbrev counted : ℕ → ℕ → ℕ
  counted lost changed = verdict_count (verdict lost kinds changed) + verdict_beyond (verdict lost kinds changed)

  module _ (most : ℕ) where
    -- are no more than there are lanes
    few_counted : (lost changed : ℕ) → kinds even + kinds beyond ≡ lost → lost ≤ most → (lost ≡ 0 → changed ≤ most) → counted lost changed ≤ most
    few_counted zero zero k l c = omega arith
    few_counted zero (suc changed) k l c = omega (arith, c refl)
    few_counted (suc lost) changed k l c = omega arith

    -- and something, where it is not clean
    pub counts : (lost changed : ℕ) → kinds even + kinds beyond ≡ lost → lost ≤ most → (lost ≡ 0 → changed ≤ most)
        → (verdict_number (verdict lost kinds changed) ≡ 1 → ⊥)
        → (1 ≤ counted lost changed) × (counted lost changed ≤ most)
    counts zero zero k l c ne = absurd (ne refl)
    counts zero (suc changed) k l c ne = (omega arith, omega (arith, c refl))
    counts (suc lost) changed k l c ne = (omega arith, omega arith)

  -- the second is of lanes lost beyond the rows
  beyond_within : (lost changed : ℕ) → kinds beyond ≡ 0 → verdict_beyond (verdict lost kinds changed) ≡ 0
  beyond_within zero zero e = refl
  beyond_within zero (suc changed) e = refl
  beyond_within (suc lost) changed e = e

-- a verdict in the code has numbers of 32 bits
pub count_fits : (v : Verdict) (vs : List Val) → Is (row the_type) v vs → Fits w32 (verdict_count v) × Fits w32 (verdict_beyond v)
count_fits Clean vs h = (omega arith, omega arith)
count_fits (Mended m) vs h = (search rules, omega arith)
count_fits (Lost e b) vs h = (search rules, search rules)

-- ---- of a block

pub few_lost : (shape : Shape) (block : List ℕ) → lanes_lost shape block ≤ 32
unfolding lanes_lost
few_lost shape block = total_few 32 _ (λ i h. pick_one (lost? (decide (before shape) (lane i block))))

-- each lost lane is of one kind
pub kinds_lost : (shape : Shape) (block : List ℕ) → lanes_lost_as shape block even + lanes_lost_as shape block beyond ≡ lanes_lost shape block
unfolding lanes_lost lanes_lost_as
kinds_lost shape block = total_add 32 _ _ ∙ total_same 32 _ _ (λ i h. one_kind (decide (before shape) (lane i block)))

-- in shape 1 none is lost beyond the rows: they are 16, and so no sum is
pub none_beyond : (block : List ℕ) → lanes_lost_as One block beyond ≡ 0
unfolding lanes_lost_as
none_beyond block = none_counted 32 _ (λ i h. never_beyond 15 (lane i block) 4 refl)

pub beyond_one : (block : List ℕ) → verdict_beyond (verdict_of One block) ≡ 0
unfolding verdict_of
beyond_one block = beyond_within (lanes_lost_as One block) (lanes_lost One block) _ (none_beyond block)

pub count_most : (shape : Shape) (block : List ℕ) → rows shape ≤ length block
    → verdict_count (verdict_of shape block) + verdict_beyond (verdict_of shape block) ≤ 32
unfolding verdict_of
count_most shape block long =
    few_counted (lanes_lost_as shape block) 32 (lanes_lost shape block) (bits_changed shape block (mended_block shape block)) (kinds_lost shape block)
    (few_lost shape block)
    (λ none.
    rw (mended_kept shape block none, changed_odd shape block long (none_kept shape block none))
    (total_few 32 _ (λ i h. pick_one (odd (rows shape) (lane i block)))))

-- an even lane that is not lost is unchanged
even_unchanged : (m : ℕ) (o : Bool) (s p : ℕ) → o ≡ false → lost? (decision m o s) ≡ false → changes (decision m o s) p ≡ false
unfolding decision
even_unchanged m true s p e k = absurd (true≢false e)
even_unchanged m false zero p e k = refl
even_unchanged m false (suc s) p e k = absurd (true≢false k)

module _ (shape : Shape) (block : List ℕ) where
  -- where no bit changes the block is as it was
  pub clean_left : rows shape ≤ length block → lanes_lost shape block ≡ 0 → bits_changed shape block (mended_block shape block) ≡ 0
      → mended_block shape block ≡ block
  clean_left long none same =
      let kept = none_kept shape block none in
      let even = counted_none 32 (λ i. odd (rows shape) (lane i block))
      (sym (changed_odd shape block long kept) ∙ sym (ap (bits_changed shape block) (mended_kept shape block none)) ∙ same) in
      mended_kept shape block none
      ∙ sym (unchanged_lanes shape block (λ i h p. even_unchanged (before shape) _ _ p (even i h) (kept i h)))

  module _ (v : Verdict) (says : v ≡ verdict_of shape block) where
    pub lost_some : (e b : ℕ) → v ≡ Lost e b → lanes_lost shape block ≡ 0 → ⊥
    unfolding verdict_of
    lost_some e b l = some_lost (lanes_lost_as shape block) (lanes_lost shape block) _ e b (sym says ∙ l)

    pub mended_none : (m : ℕ) → v ≡ Mended m → lanes_lost shape block ≡ 0
    unfolding verdict_of
    mended_none m says_so = none_mended (lanes_lost_as shape block) (lanes_lost shape block) _ m (sym says ∙ says_so)

    pub not_lost : NotLost v → lanes_lost shape block ≡ 0
    unfolding verdict_of
    not_lost keys = none_lost (lanes_lost_as shape block) (lanes_lost shape block) _ (subst NotLost says keys)

    pub not_mended : rows shape ≤ length block → NotMended v → mended_block shape block ≡ block
    unfolding verdict_of
    not_mended long keys = by (lanes_lost shape block) refl
      where
        by : (n : ℕ) → lanes_lost shape block ≡ n → mended_block shape block ≡ block
        by zero e =
            clean_left long e
            (none_changed (lanes_lost_as shape block) (lanes_lost shape block) _ (subst NotMended says keys) e)
        by (suc n) e = mended_lost shape block n e
