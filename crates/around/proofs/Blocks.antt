-- A block is mended around named rows lane by lane: what is left is a block that it may have been meant to be, the only one, and lost says that there
-- is none; the bits changed inside and outside are both 0 exactly if it was valid. Assumes nothing.
use Prim.Native.Nat.{ℕ, zero, suc, ◌-◌, ◌^◌, ◌≤◌, ◌<◌}
use mathlib.Core.Bool.{Bool, true, false, not, ◌&&◌, and-false}
use mathlib.Core.Path.{◌≡◌, refl, sym, ap, ◌∙◌}
use mathlib.Core.List.{List}
use mathlib.Core.Logic.{⊎_elim, by_cases}
use native.Mathlib.Decide.{ℕ_discrete}
use native.Mathlib.Nat.{eq-or-lt_of_le, le_of_suc-le-suc}
use native.Mathlib.Omega.{arith}
use lib.Bits.{bit_xor, xor_lt, xor_zero_r}
use lib.Dec.{eqb}
use lib.ListN.{length, get_or, get_or-eq_default}
use lib.Pow.{pow_pos}
use lib.Seq.{get_or-set_same, get_or-set_other}
use borrow.Author.Tests.{eq-eqb, ne_eqb}
use Rattle.lane.specs.Bit.{bit, ◌⊕◌, pick}
use Rattle.lane.specs.Lane.{Lane, count, diff}
use Rattle.lane.proofs.Bits.{bit_of_xor, bit_zero, ⊕-zero}
use Rattle.lane.proofs.Linear.{count_same, valid_same}
use Rattle.lane.proofs.Distance.{empty, ⊕-same}
use Rattle.lane.proofs.Mended.{⊕-cancel, count_empty}
use Rattle.lane.proofs.Rows.{split_below}
use Rattle.ground.specs.Choice.{if_zero}
use Rattle.ground.specs.Totals.{total}
use Rattle.ground.proofs.Lists.{get_or_list_of, length_list_of}
use Rattle.ground.proofs.Totals.{total_same, total_zero}
use Rattle.shape.specs.declared.Shape.{Shape}
use Rattle.shape.specs.Shape.{before, rows}
use Rattle.sums.specs.Words.{lane, word}
use Rattle.sums.proofs.WordBits.{bit_number, number_lt, number_bits}
use Rattle.block.specs.Block.{ValidBlock, SameRows, Fitting}
use Rattle.block.proofs.Blocks.{none_counted, counted_none, rows_same}
use Rattle.around.specs.Named.{among?}
use Rattle.around.specs.Lane.{inside, outside, MeantLane, lane_lost?, lane_changes, lane_around}
use Rattle.around.specs.Block.{MeantBlock, lanes_lost_around, around_lanes, around_block, bits_inside, bits_outside}
use Rattle.around.specs.Inner.{changed_at}
use Rattle.around.proofs.Lanes.{RowsTo, around_meant, meant_kept, never_second, meant_left}

-- a total of 0 has no value above it
total_none : (n : ℕ) (f : ℕ → ℕ) → total n f ≡ 0 → (i : ℕ) → i < n → f i ≡ 0
unfolding total
total_none zero f e i h = absurd (omega arith)
total_none (suc n) f e i h =
    ⊎_elim (λ q. ap f q ∙ (let z : f n ≡ 0 = omega arith in z)) (λ l. total_none n f (omega arith) i l) (eq-or-lt_of_le (le_of_suc-le-suc h))

-- what is meant is so by its rows
pub meant_same : (m : ℕ) (named : List ℕ) (f g h : Lane) → ((j : ℕ) → j < suc m → g (suc j) ≡ h (suc j)) → MeantLane m named f g → MeantLane m named f h
meant_same m named f g h e v =
    record {
      valid = valid_same m g h e v.valid;
      near =
          rw (← count_same (suc m) (outside named f g) (outside named f h)
          (λ j l. ap (λ (b : Bool). not (among? named (suc j)) && (f (suc j) ⊕ b)) (e j l)))
          v.near;
    }

-- a block with a row changed, row by row
pub row_changed : (block : List ℕ) (r w : ℕ) → 1 ≤ r → (j : ℕ) → j < length block
    → get_or (changed_at block (r - 1) w) j 0 ≡ bit_xor (get_or block j 0) (pick (eqb (suc j) r) w)
row_changed block r w low j h =
    by_cases (ℕ_discrete (suc j) r)
    (λ e.
    let q : r - 1 ≡ j = omega arith in
    rw (eq-eqb (suc j) r e, q) (get_or-set_same block j (bit_xor (get_or block j 0) w) 0 h))
    (λ ne.
    rw (ne_eqb (suc j) r ne)
    (get_or-set_other block (r - 1) j (bit_xor (get_or block (r - 1) 0) w) 0 (λ q. ne (omega arith)) ∙ sym (xor_zero_r (get_or block j 0))))

module _ (shape : Shape) (named block : List ℕ) where
  abbrev m : ℕ
  m = before shape

  -- no lane is lost
  abbrev pub AllKept : Type 0
  AllKept = (i : ℕ) → i < 32 → lane_lost? m named (lane i block) ≡ false

  pub kept_none : AllKept → lanes_lost_around shape named block ≡ 0
  unfolding lanes_lost_around
  kept_none k = none_counted 32 (λ i. lane_lost? m named (lane i block)) k

  pub none_kept : lanes_lost_around shape named block ≡ 0 → AllKept
  unfolding lanes_lost_around
  none_kept e = counted_none 32 (λ i. lane_lost? m named (lane i block)) e

  pub around_kept : lanes_lost_around shape named block ≡ 0 → around_block shape named block ≡ around_lanes shape named block
  unfolding around_block
  around_kept e = ap (λ (n : ℕ). if_zero n (around_lanes shape named block) block) e

  pub around_lost : (n : ℕ) → lanes_lost_around shape named block ≡ suc n → around_block shape named block ≡ block
  unfolding around_block
  around_lost n e = ap (λ (n : ℕ). if_zero n (around_lanes shape named block) block) e

  length_lanes : length (around_lanes shape named block) ≡ length block
  unfolding around_lanes
  length_lanes = length_list_of (length block) _

  pub length_around : length (around_block shape named block) ≡ length block
  unfolding around_block
  length_around = by (lanes_lost_around shape named block)
    where
      by : (n : ℕ) → length (if_zero n (around_lanes shape named block) block) ≡ length block
      by zero = length_lanes
      by (suc n) = refl

  -- words that fit are mended to words that fit
  pub around_fits : Fitting block → Fitting (around_block shape named block)
  unfolding around_block around_lanes
  around_fits f = by (lanes_lost_around shape named block)
    where
      lanes : Fitting (around_lanes shape named block)
      lanes j =
          ⊎_elim
          (λ h. rw (get_or_list_of (length block) _ j h) (xor_lt 32 (get_or block j 0) _ (f j) (number_lt 32 _)))
          (λ h. rw (get_or-eq_default (around_lanes shape named block) 0 {n = j} (rw length_lanes h)) (pow_pos 32))
          (split_below j (length block))

      by : (n : ℕ) → Fitting (if_zero n (around_lanes shape named block) block)
      by zero = lanes
      by (suc n) = f

  module _ (long : rows shape ≤ length block) where
    -- each lane of what is left is that lane mended
    lane_around_lem : (i : ℕ) → i < 32 → (j : ℕ) → j < rows shape → lane i (around_lanes shape named block) (suc j) ≡ lane_around m named (lane i block) (suc j)
    unfolding around_lanes
    lane_around_lem i hi j h =
        ap (bit i) (get_or_list_of (length block) _ j (omega arith))
        ∙ bit_of_xor i (get_or block j 0) (word (λ i. lane_changes m named (lane i block) (suc j)))
        ∙ ap (λ (b : Bool). bit i (get_or block j 0) ⊕ b) (bit_number 32 i _ hi)

    -- the bits that differ in some rows, by the rows that are changed in each lane
    differ_where : (which : Lane)
        → total 32 (λ i. count (rows shape) (λ p. which p && diff (lane i block) (lane i (around_lanes shape named block)) p))
        ≡ total 32 (λ i. count (rows shape) (λ p. which p && lane_changes m named (lane i block) p))
    differ_where which =
        total_same 32 _ _
        (λ i hi.
        count_same (rows shape) (λ p. which p && diff (lane i block) (lane i (around_lanes shape named block)) p)
        (λ p. which p && lane_changes m named (lane i block) p)
        (λ j h.
        ap (λ (b : Bool). which (suc j) && b)
        (ap (λ (b : Bool). lane i block (suc j) ⊕ b) (lane_around_lem i hi j h)
        ∙ ⊕-cancel (lane i block (suc j)) (lane_changes m named (lane i block) (suc j)))))

    module _ (within : RowsTo (rows shape) named) where
      -- what is left where no lane is lost may have been meant
      pub left_meant : lanes_lost_around shape named block ≡ 0 → MeantBlock shape named block (around_block shape named block)
      left_meant none i hi =
          rw (around_kept none)
          (meant_same m named (lane i block) _ _ (λ j h. sym (lane_around_lem i hi j h))
          (around_meant m named (lane i block) within (none_kept none i hi)))

      -- and where some block may have been meant no lane is lost
      pub meant_none : (meant : List ℕ) → MeantBlock shape named block meant → lanes_lost_around shape named block ≡ 0
      meant_none meant h = kept_none (λ i hi. meant_kept m named (lane i block) within (lane i meant) (h i hi))

      module _ (few : length named ≤ 3) where
        -- it is the one that is left
        pub meant_rows : (meant : List ℕ) → Fitting meant → Fitting block → MeantBlock shape named block meant
            → SameRows shape meant (around_block shape named block)
        meant_rows meant fits small h =
            rows_same shape meant (around_block shape named block) fits (around_fits small)
            (λ i hi. never_second m named (lane i block) (lane i meant) _ few (h i hi) (left_meant (meant_none meant h) i hi))

        -- ---- what the code leaves: row p changed by the word of p

        module _ (change : ℕ → ℕ) (small : (p : ℕ) → change p < 2 ^ 32)
            (meant : (i : ℕ) → i < 32 → MeantLane m named (lane i block) (diff (lane i block) (λ p. bit i (change p)))) where
          change_bits : (i : ℕ) → i < 32 → (j : ℕ) → j < rows shape → bit i (change (suc j)) ≡ lane_changes m named (lane i block) (suc j)
          change_bits i hi j h =
              let f = lane i block in
              sym (⊕-cancel (f (suc j)) (bit i (change (suc j))))
              ∙ ap (λ (b : Bool). f (suc j) ⊕ b) (meant_left m named f _ within few (meant i hi) j h)
              ∙ ⊕-cancel (f (suc j)) (lane_changes m named f (suc j))

          pub change_none : lanes_lost_around shape named block ≡ 0
          change_none = kept_none (λ i hi. meant_kept m named (lane i block) within _ (meant i hi))

          -- is the block mended around the named rows
          pub change_row : (j : ℕ) → j < rows shape → bit_xor (get_or block j 0) (change (suc j)) ≡ get_or (around_block shape named block) j 0
          unfolding around_lanes
          change_row j h =
              rw (around_kept change_none, get_or_list_of (length block) _ j (omega arith))
              (ap (bit_xor (get_or block j 0)) (number_bits 32 (change (suc j)) _ (small (suc j)) (λ i hi. change_bits i hi j h)))

          change_where : (which : Lane)
              → total 32 (λ i. count (rows shape) (λ p. which p && diff (lane i block) (lane i (around_block shape named block)) p))
              ≡ total 32 (λ i. count (rows shape) (λ p. which p && bit i (change p)))
          change_where which =
              rw (around_kept change_none)
              (differ_where which
              ∙ total_same 32 _ _
              (λ i hi.
              count_same (rows shape) (λ p. which p && lane_changes m named (lane i block) p) (λ p. which p && bit i (change p))
              (λ j h. ap (λ (b : Bool). which (suc j) && b) (sym (change_bits i hi j h)))))

          pub change_inside : bits_inside shape named block (around_block shape named block)
              ≡ total 32 (λ i. count (rows shape) (λ p. among? named p && bit i (change p)))
          unfolding bits_inside
          change_inside = change_where (among? named)

          pub change_outside : bits_outside shape named block (around_block shape named block)
              ≡ total 32 (λ i. count (rows shape) (λ p. not (among? named p) && bit i (change p)))
          unfolding bits_outside
          change_outside = change_where (λ p. not (among? named p))

        -- ---- clean

        -- a valid block stays, and no bit is changed
        module _ (valid : ValidBlock shape block) where
          itself : (i : ℕ) → i < 32 → MeantLane m named (lane i block) (diff (lane i block) (λ p. bit i 0))
          itself i hi =
              let f = lane i block in
              let same : (j : ℕ) → j < suc m → f (suc j) ≡ f (suc j) ⊕ bit i 0 =
              λ j h. sym (ap (λ (b : Bool). f (suc j) ⊕ b) (bit_zero i) ∙ ⊕-zero (f (suc j))) in
              record {
                valid = valid_same m f _ same (valid i hi);
                near =
                    rw (
                      count_same (suc m) (outside named f (diff f (λ p. bit i 0))) (λ p. false)
                          (λ j h.
                          ap (λ (b : Bool). not (among? named (suc j)) && b) (⊕-cancel (f (suc j)) (bit i 0) ∙ bit_zero i)
                          ∙ and-false (not (among? named (suc j)))),
                      count_empty (suc m),
                    )
                    (omega arith);
              }

          none : (which : Lane) → total 32 (λ i. count (rows shape) (λ p. which p && bit i 0)) ≡ 0
          none which =
              total_same 32 _ (λ i. 0)
              (λ i hi.
              count_same (rows shape) (λ p. which p && bit i 0) (λ p. false)
              (λ j h. ap (λ (b : Bool). which (suc j) && b) (bit_zero i) ∙ and-false (which (suc j)))
              ∙ count_empty (rows shape))
              ∙ total_zero 32

          pub valid_kept : lanes_lost_around shape named block ≡ 0
          valid_kept = change_none (λ p. 0) (λ p. pow_pos 32) itself

          pub valid_inside : bits_inside shape named block (around_block shape named block) ≡ 0
          valid_inside = change_inside (λ p. 0) (λ p. pow_pos 32) itself ∙ none (among? named)

          pub valid_outside : bits_outside shape named block (around_block shape named block) ≡ 0
          valid_outside = change_outside (λ p. 0) (λ p. pow_pos 32) itself ∙ none (λ p. not (among? named p))

          pub valid_row : (j : ℕ) → j < rows shape → get_or block j 0 ≡ get_or (around_block shape named block) j 0
          valid_row j h = sym (xor_zero_r (get_or block j 0)) ∙ change_row (λ p. 0) (λ p. pow_pos 32) itself j h

      -- and a block of which no bit is changed was valid
      pub unchanged_valid : lanes_lost_around shape named block ≡ 0 → bits_inside shape named block (around_block shape named block) ≡ 0
          → bits_outside shape named block (around_block shape named block) ≡ 0 → ValidBlock shape block
      unfolding bits_inside bits_outside
      unchanged_valid none no-inside no-outside i hi =
          valid_same m (lane i (around_block shape named block)) (lane i block) (λ j h. sym (⊕-same _ _ (same j h))) (left_meant none i hi).valid
        where
          either : (n d : Bool) → n && d ≡ false → not n && d ≡ false → d ≡ false
          either true d p q = p
          either false d p q = q

          same : (j : ℕ) → j < rows shape → diff (lane i block) (lane i (around_block shape named block)) (suc j) ≡ false
          same j h =
              either (among? named (suc j)) _
              (empty (rows shape) (inside named (lane i block) (lane i (around_block shape named block))) (total_none 32 _ no-inside i hi) j h)
              (empty (rows shape) (outside named (lane i block) (lane i (around_block shape named block))) (total_none 32 _ no-outside i hi) j h)
