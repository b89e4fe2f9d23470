-- A block is mended lane by lane: what is left is valid, within one bit a lane, and the only such block; lost says that there is none. Assumes nothing.
use Prim.Native.Nat.{ℕ, zero, suc, ◌+◌, ◌≤◌, ◌<◌}
use mathlib.Core.Bool.{Bool, true, false}
use mathlib.Core.Path.{◌≡◌, refl, sym, ap, ◌∙◌}
use mathlib.Core.List.{List}
use mathlib.Core.Logic.{⊎_elim}
use native.Mathlib.Nat.{eq-or-lt_of_le, le_of_suc-le-suc}
use native.Mathlib.Omega.{arith}
use lib.Bits.{bit_xor, xor_zero_r, xor_lt}
use lib.ListN.{length, get_or, get_or-eq_default}
use lib.Pow.{pow_pos}
use Rattle.lane.specs.Bit.{bit, ◌⊕◌, pick}
use Rattle.lane.specs.Lane.{odd, diff, apart}
use Rattle.lane.specs.Decision.{decide, lost?, changes, mended}
use Rattle.lane.proofs.Bits.{bit_of_xor, bit_ext_below}
use Rattle.lane.proofs.Linear.{count_same, valid_same}
use Rattle.lane.proofs.Distance.{never_two}
use Rattle.lane.proofs.Rows.{split_below}
use Rattle.lane.proofs.Mended.{mended_valid, mended_count, mended_near, near_kept}
use Rattle.shape.specs.declared.Shape.{Shape}
use Rattle.shape.specs.Shape.{before, rows}
use Rattle.ground.specs.Totals.{total}
use Rattle.ground.specs.Choice.{if_zero}
use Rattle.sums.specs.Words.{lane, word}
use Rattle.ground.proofs.Lists.{get_or_list_of, length_list_of, list_is}
use Rattle.ground.proofs.Totals.{total_same, total_zero}
use Rattle.block.specs.Block.{ValidBlock, Near, SameRows, Fitting, lanes_lost, mended_lanes, mended_block, bits_changed}
use Rattle.sums.proofs.WordBits.{bit_number, number_lt, number_same}
use Rattle.block.proofs.Flips.{word_none}

-- ---- counts over the lanes

pub none_counted : (n : ℕ) (f : ℕ → Bool) → ((i : ℕ) → i < n → f i ≡ false) → total n (λ i. pick (f i) 1) ≡ 0
none_counted n f h = total_same n (λ i. pick (f i) 1) (λ i. 0) (λ i l. ap (λ (b : Bool). pick b 1) (h i l)) ∙ total_zero n

pub counted_none : (n : ℕ) (f : ℕ → Bool) → total n (λ i. pick (f i) 1) ≡ 0 → (i : ℕ) → i < n → f i ≡ false
unfolding total
counted_none zero f e i h = absurd (omega arith)
counted_none (suc n) f e i h =
    ⊎_elim (λ q. ap f q ∙ last (f n) (total n (λ i. pick (f i) 1)) e) (λ l. counted_none n f (omega arith) i l) (eq-or-lt_of_le (le_of_suc-le-suc h))
  where
    last : (b : Bool) (t : ℕ) → t + pick b 1 ≡ 0 → b ≡ false
    last true t e = absurd (omega arith)
    last false t e = refl

module _ (shape : Shape) (block : List ℕ) where
  -- no lane is lost
  abbrev pub AllKept : Type 0
  AllKept = (i : ℕ) → i < 32 → lost? (decide (before shape) (lane i block)) ≡ false

  pub kept_none : AllKept → lanes_lost shape block ≡ 0
  unfolding lanes_lost
  kept_none k = none_counted 32 (λ i. lost? (decide (before shape) (lane i block))) k

  pub none_kept : lanes_lost shape block ≡ 0 → AllKept
  unfolding lanes_lost
  none_kept e = counted_none 32 (λ i. lost? (decide (before shape) (lane i block))) e

  pub mended_kept : lanes_lost shape block ≡ 0 → mended_block shape block ≡ mended_lanes shape block
  unfolding mended_block
  mended_kept e = ap (λ (n : ℕ). if_zero n (mended_lanes shape block) block) e

  pub mended_lost : (n : ℕ) → lanes_lost shape block ≡ suc n → mended_block shape block ≡ block
  unfolding mended_block
  mended_lost n e = ap (λ (n : ℕ). if_zero n (mended_lanes shape block) block) e

  pub length_lanes : length (mended_lanes shape block) ≡ length block
  unfolding mended_lanes
  length_lanes = length_list_of (length block) _

  -- where no lane changes, neither does the block
  pub unchanged_lanes : ((i : ℕ) → i < 32 → (p : ℕ) → changes (decide (before shape) (lane i block)) p ≡ false) → block ≡ mended_lanes shape block
  unfolding mended_lanes
  unchanged_lanes h =
      list_is (length block) block _ refl
      (λ j l.
      sym (xor_zero_r (get_or block j 0))
      ∙ ap (bit_xor (get_or block j 0)) (sym (number_same 32 _ (λ i. false) (λ i r. h i r (suc j)) ∙ word_none)))

  module _ (long : rows shape ≤ length block) where
    -- each lane of the mended block is that lane mended
    pub lane_mended : (i : ℕ) → i < 32 → (j : ℕ) → j < rows shape → lane i (mended_lanes shape block) (suc j) ≡ mended (before shape) (lane i block) (suc j)
    unfolding mended_lanes
    lane_mended i hi j h =
        ap (bit i) (get_or_list_of (length block) _ j (omega arith))
        ∙ bit_of_xor i (get_or block j 0) (word (λ i. changes (decide (before shape) (lane i block)) (suc j)))
        ∙ ap (λ (b : Bool). bit i (get_or block j 0) ⊕ b) (bit_number 32 i _ hi)

    lane_apart : (i : ℕ) → i < 32
        → apart (before shape) (lane i block) (lane i (mended_lanes shape block)) ≡ apart (before shape) (lane i block) (mended (before shape) (lane i block))
    lane_apart i hi =
        count_same (rows shape) (diff (lane i block) (lane i (mended_lanes shape block))) (diff (lane i block) (mended (before shape) (lane i block)))
        (λ j h. ap (λ (b : Bool). lane i block (suc j) ⊕ b) (lane_mended i hi j h))

    -- the bits changed are as many as there are odd lanes
    pub changed_odd : AllKept → bits_changed shape block (mended_lanes shape block) ≡ total 32 (λ i. pick (odd (rows shape) (lane i block)) 1)
    unfolding bits_changed
    changed_odd k = total_same 32 _ _ (λ i hi. lane_apart i hi ∙ mended_count (before shape) (lane i block) (k i hi))

    pub lanes_valid : AllKept → ValidBlock shape (mended_lanes shape block)
    lanes_valid k i hi =
        valid_same (before shape) (mended (before shape) (lane i block)) (lane i (mended_lanes shape block)) (λ j h. sym (lane_mended i hi j h))
        (mended_valid (before shape) (lane i block) (k i hi))

    pub lanes_near : AllKept → (i : ℕ) → i < 32 → apart (before shape) (lane i block) (lane i (mended_lanes shape block)) ≤ 1
    lanes_near k i hi = rw (lane_apart i hi) (mended_near (before shape) (lane i block) (k i hi))

-- ---- one block at most

pub rows_same : (shape : Shape) (a b : List ℕ) → Fitting a → Fitting b
    → ((i : ℕ) → i < 32 → (j : ℕ) → j < rows shape → lane i a (suc j) ≡ lane i b (suc j)) → SameRows shape a b
rows_same shape a b fa fb h j l = bit_ext_below 32 (get_or a j 0) (get_or b j 0) (fa j) (fb j) (λ i hi. h i hi j l)

-- there is never a second valid block within one bit a lane
pub never_second : (shape : Shape) (found a b : List ℕ) → Fitting a → Fitting b → ValidBlock shape a → ValidBlock shape b
    → Near shape found a → Near shape found b → SameRows shape a b
never_second shape found a b fa fb va vb na nb =
    rows_same shape a b fa fb (λ i hi. never_two (before shape) (lane i found) (lane i a) (lane i b) (va i hi) (vb i hi) (na i hi) (nb i hi))

module _ (shape : Shape) (found : List ℕ) (long : rows shape ≤ length found) where
  -- a block with no lane lost is mended to a valid block within one bit a lane
  pub kept_valid : lanes_lost shape found ≡ 0 → ValidBlock shape (mended_block shape found)
  kept_valid e = rw (mended_kept shape found e) (lanes_valid shape found long (none_kept shape found e))

  pub kept_near : lanes_lost shape found ≡ 0 → Near shape found (mended_block shape found)
  kept_near e = rw (mended_kept shape found e) (lanes_near shape found long (none_kept shape found e))

  -- where a valid block is within one bit a lane, no lane is lost and the block is mended to it
  module _ (meant : List ℕ) (valid : ValidBlock shape meant) (near : Near shape found meant) where
    pub near_none : lanes_lost shape found ≡ 0
    near_none = kept_none shape found (λ i hi. near_kept (before shape) (lane i found) (lane i meant) (valid i hi) (near i hi))

    pub near_rows : Fitting (mended_block shape found) → Fitting meant → SameRows shape (mended_block shape found) meant
    near_rows fm fn =
        never_second shape found (mended_block shape found) meant fm fn (kept_valid near_none) valid (kept_near near_none) near

  -- so where a lane is lost there is no such block
  pub lost_none : (n : ℕ) → lanes_lost shape found ≡ suc n → (meant : List ℕ) → ValidBlock shape meant → Near shape found meant → ⊥
  lost_none n e meant v h = let z = near_none meant v h in omega arith

-- words that fit are mended to words that fit
pub mended_fits : (shape : Shape) (found : List ℕ) → Fitting found → Fitting (mended_block shape found)
unfolding mended_block mended_lanes
mended_fits shape found f = go (lanes_lost shape found)
  where
    lanes : Fitting (mended_lanes shape found)
    lanes j =
        ⊎_elim
        (λ h. rw (get_or_list_of (length found) _ j h) (xor_lt 32 (get_or found j 0) _ (f j) (number_lt 32 _)))
        (λ h. rw (get_or-eq_default (mended_lanes shape found) 0 {n = j} (rw (length_lanes shape found) h)) (pow_pos 32))
        (split_below j (length found))

    go : (n : ℕ) → Fitting (if_zero n (mended_lanes shape found) found)
    go zero = lanes
    go (suc n) = f

pub length_mended : (shape : Shape) (found : List ℕ) → length (mended_block shape found) ≡ length found
unfolding mended_block
length_mended shape found = go (lanes_lost shape found)
  where
    go : (n : ℕ) → length (if_zero n (mended_lanes shape found) found) ≡ length found
    go zero = length_lanes shape found
    go (suc n) = refl
