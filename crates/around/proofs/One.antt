-- One row is named: the sums with its mark taken out are those of the block with the row changed where it is wrong, and that block's ordinary verdict
-- and mending are the verdict and the mending around the row. Assumes nothing.
use Prim.Native.Nat.{ℕ, zero, suc, ◌-◌, ◌^◌, ◌≤◌, ◌<◌}
use mathlib.Core.Bool.{Bool, true, false, not, cond, ◌&&◌, and-true, and-false}
use mathlib.Core.Path.{◌≡◌, refl, sym, ap, ap₂, ◌∙◌}
use mathlib.Core.List.{List, [], ◌∷◌}
use mathlib.Core.Logic.{inr}
use native.Mathlib.Omega.{arith}
use lib.Bits.{bit_xor, xor_lt, or_lt}
use lib.Count.{ones}
use lib.Dec.{eqb}
use lib.ListN.{length, get_or, length-set}
use lib.Pow.{pow_pos}
use lib.Seq.{ext_get_or}
use borrow.Author.Tests.{ne_eqb}
use Rattle.std.proofs.Math.Bool.{and_comm}
use Rattle.lane.specs.Bit.{bit, ◌⊕◌, pick}
use Rattle.lane.specs.Lane.{Lane, sum, odd, diff}
use Rattle.lane.specs.Decision.{Decision, decision, decide, lost?, changes}
use Rattle.lane.proofs.Bits.{bit_of_xor, bit_zero, bit_ext_below, xor_assoc}
use Rattle.lane.proofs.Linear.{sum_same, count_same}
use Rattle.lane.proofs.Exactly.{pick_bit, sum_lt}
use Rattle.ground.proofs.Lists.{get_or_list_of, length_list_of}
use Rattle.ground.proofs.Totals.{total_same, total_zero}
use Rattle.shape.specs.declared.Shape.{Shape}
use Rattle.shape.specs.Shape.{before, rows}
use Rattle.shape.proofs.Sizes.{before_small}
use Rattle.sums.specs.Words.{lane, word}
use Rattle.sums.specs.Sums.{sums_of, any_of}
use Rattle.sums.proofs.Doubt.{bit_any, word_lt}
use Rattle.sums.proofs.WordBits.{bit_number, number_bits, number_lt}
use Rattle.block.specs.Block.{SameRows, lanes_lost, mended_lanes, mended_block, bits_changed}
use Rattle.block.proofs.Blocks.{none_kept, mended_kept, changed_odd}
use Rattle.block.proofs.Lanes.{ones_total}
use Rattle.block.proofs.Told.{clean_left}
use Rattle.around.specs.Named.{among?}
use Rattle.around.specs.Lane.{MeantLane, weight, lane_lost?}
use Rattle.around.specs.Block.{lanes_lost_around, around_block, bits_inside, bits_outside}
use Rattle.around.specs.Inner.{mark, changed_by, changed_at}
use Rattle.around.proofs.Lanes.{RowsTo, ⊕-assoc}
use Rattle.around.proofs.Blocks.{row_changed, meant_same, change_row, change_inside, change_outside}
use Rattle.around.proofs.Marks.{mark_low, weight_small, digits, digits_same, change_digit}
use Rattle.around.proofs.Digits.{bit_changed}
use Rattle.around.proofs.More.{digit_of}
use Rattle.around.proofs.OneRow as row

-- ---- the sums with a mark changed in some lanes

changed_fits : (mk lanes : ℕ) (sums : List ℕ) → lanes < 2 ^ 32 → ((k : ℕ) → k < 8 → get_or sums k 0 < 2 ^ 32)
    → (k : ℕ) → k < 8 → get_or (changed_by mk lanes sums) k 0 < 2 ^ 32
unfolding changed_by
changed_fits mk lanes sums small fits k h =
    rw (get_or_list_of 8 (λ k. bit_xor (get_or sums k 0) (pick (bit k mk) lanes)) k h) (xor_lt 32 (get_or sums k 0) _ (fits k h) (some (bit k mk)))
  where
    some : (t : Bool) → pick t lanes < 2 ^ 32
    some true = small
    some false = pow_pos 32

any_fits : (n : ℕ) (sums : List ℕ) → n ≤ 8 → ((k : ℕ) → k < 8 → get_or sums k 0 < 2 ^ 32) → any_of n sums < 2 ^ 32
unfolding any_of
any_fits zero sums h fits = pow_pos 32
any_fits (suc n) sums h fits = or_lt 32 (any_of n sums) (get_or sums n 0) (any_fits n sums (omega arith) fits) (fits n (omega arith))

-- the sums with a mark taken out of the odd lanes; the lanes with a sum left
abbrev pub taken_out : ℕ → List ℕ → List ℕ
taken_out mk sums = changed_by mk (get_or sums 7 0) sums

abbrev pub left_lanes : ℕ → List ℕ → ℕ
left_lanes mk sums = any_of 7 (taken_out mk sums)

-- the sums with the mark changed in those too; the lanes in which its row is wrong
abbrev pub turned_sums : ℕ → List ℕ → List ℕ
turned_sums mk sums = changed_by mk (left_lanes mk sums) (taken_out mk sums)

abbrev pub wrong_lanes : ℕ → List ℕ → ℕ
wrong_lanes mk sums = bit_xor (get_or sums 7 0) (left_lanes mk sums)

module _ (shape : Shape) (block : List ℕ) (long : rows shape ≤ length block) (r : ℕ) (low : 1 ≤ r) (high : r ≤ rows shape)
    {sums : List ℕ} (are : sums ≡ sums_of shape block) where
  abbrev pub m : ℕ
  m = before shape

  abbrev pub mk : ℕ
  mk = mark (rows shape) r

  abbrev odds : ℕ
  odds = get_or sums 7 0

  abbrev first : List ℕ
  first = taken_out mk sums

  abbrev left_in : ℕ
  left_in = left_lanes mk sums

  abbrev second : List ℕ
  second = turned_sums mk sums

  abbrev wrong_in : ℕ
  wrong_in = wrong_lanes mk sums

  -- the block with the row changed there
  abbrev turned : List ℕ
  turned = changed_at block (r - 1) wrong_in

  -- ---- words fit

  sums_fit : (k : ℕ) → k < 8 → get_or sums k 0 < 2 ^ 32
  sums_fit k h = rw are (word_lt shape block k h)

  odds_fit : odds < 2 ^ 32
  odds_fit = sums_fit 7 (omega arith)

  first_fit : (k : ℕ) → k < 8 → get_or first k 0 < 2 ^ 32
  first_fit = changed_fits mk odds sums odds_fit sums_fit

  pub left_fit : left_in < 2 ^ 32
  left_fit = any_fits 7 first (omega arith) first_fit

  pub wrong_fit : wrong_in < 2 ^ 32
  wrong_fit = xor_lt 32 odds left_in odds_fit left_fit

  -- ---- lane by lane

  module _ (i : ℕ) (hi : i < 32) where
    abbrev f : Lane
    f = lane i block

    sums_digit : (k : ℕ) → k < 8 → bit i (get_or sums k 0) ≡ digits m f k
    sums_digit k h = ap (λ (l : List ℕ). bit i (get_or l k 0)) are ∙ digit_of shape block i hi k h

    odds_bit : bit i odds ≡ odd (suc m) f
    odds_bit = sums_digit 7 (omega arith)

    first_digit : (k : ℕ) → k < 7 → bit i (get_or first k 0) ≡ bit k (bit_xor (sum m f) (pick (odd (suc m) f) (weight m r)))
    first_digit k h =
        bit_changed mk odds sums i k (omega arith)
        ∙ ap₂ (λ (s t : Bool). s ⊕ (bit k mk && t))
        (sums_digit k (omega arith) ∙ ap (λ (t : Bool). cond t (odd (suc m) f) (bit k (sum m f))) (ne_eqb k 7 (λ e. omega arith)))
        odds_bit
        ∙ ap (λ (t : Bool). bit k (sum m f) ⊕ t)
        (and_comm (bit k mk) (odd (suc m) f)
        ∙ ap (λ (t : Bool). odd (suc m) f && t) (mark_low m (before_small shape) r high k h)
        ∙ sym (pick_bit k (odd (suc m) f) (weight m r)))
        ∙ sym (bit_of_xor k (sum m f) (pick (odd (suc m) f) (weight m r)))

    left_bit : bit i left_in ≡ row.left? (odd (suc m) f) (sum m f) (weight m r)
    left_bit =
        bit_any i first 7
        ∙ ap (λ (n : ℕ). not (eqb n 0))
        (sym (number_bits 7 (bit_xor (sum m f) (pick (odd (suc m) f) (weight m r))) (λ k. bit i (get_or first k 0))
        (xor_lt 7 (sum m f) (pick (odd (suc m) f) (weight m r)) (sum_lt 7 m f (before_small shape)) (some (odd (suc m) f)))
        (λ k h. sym (first_digit k h))))
      where
        some : (t : Bool) → pick t (weight m r) < 2 ^ 7
        some true = weight_small m (before_small shape) r
        some false = pow_pos 7

    -- is the row wrong in this lane
    abbrev wrong : Bool
    wrong = row.wrong m r low high f

    wrong_bit : bit i wrong_in ≡ wrong
    wrong_bit = bit_of_xor i odds left_in ∙ ap₂ ◌⊕◌ odds_bit left_bit

    -- the lane of the block that is turned is the lane turned
    lane_turned : (j : ℕ) → j < rows shape → lane i turned (suc j) ≡ row.turned m r low high f (suc j)
    lane_turned j h =
        ap (bit i) (row_changed block r wrong_in low j (omega arith))
        ∙ bit_of_xor i (get_or block j 0) (pick (eqb (suc j) r) wrong_in)
        ∙ ap (λ (t : Bool). f (suc j) ⊕ t)
        (pick_bit i (eqb (suc j) r) wrong_in ∙ and_comm (eqb (suc j) r) (bit i wrong_in) ∙ ap (λ (t : Bool). t && eqb (suc j) r) wrong_bit)

    second_digit : (k : ℕ) → k < 8 → bit i (get_or second k 0) ≡ digits m (lane i turned) k
    second_digit k h =
        bit_changed mk left_in first i k h
        ∙ ap (λ (t : Bool). t ⊕ (bit k mk && bit i left_in)) (bit_changed mk odds sums i k h)
        ∙ ⊕-assoc (bit i (get_or sums k 0)) (bit k mk && bit i odds) (bit k mk && bit i left_in)
        ∙ ap₂ ◌⊕◌ (sums_digit k h)
        (both (bit k mk) (bit i odds) (bit i left_in) ∙ ap (λ (t : Bool). t && bit k mk) (sym (bit_of_xor i odds left_in) ∙ wrong_bit))
        ∙ sym (change_digit m (before_small shape) f r wrong (inr (low, high)) k h)
        ∙ sym (digits_same m (lane i turned) (row.turned m r low high f) lane_turned k)
      where
        both : (b x y : Bool) → (b && x) ⊕ (b && y) ≡ (x ⊕ y) && b
        both true x y = sym (and-true (x ⊕ y))
        both false x y = sym (and-false (x ⊕ y))

    -- what is decided of it
    decided_same : decide m (lane i turned) ≡ decide m (row.turned m r low high f)
    decided_same =
        ap₂ (decision m) (ap (bit 0) (count_same (suc m) (lane i turned) (row.turned m r low high f) lane_turned))
        (sum_same m (lane i turned) (row.turned m r low high f) (λ j h. lane_turned j (omega arith)))

    lost_lane : lost? (decide m (lane i turned)) ≡ lane_lost? m (r ∷ []) f
    lost_lane = ap lost? decided_same ∙ row.turned_lost m r low high f

    odd_lane : odd (suc m) (lane i turned) ≡ bit i left_in
    odd_lane =
        ap (bit 0) (count_same (suc m) (lane i turned) (row.turned m r low high f) lane_turned) ∙ row.turned_odd m r low high f ∙ sym left_bit

  -- ---- the sums are those of the block with the row changed

  pub second_are : second ≡ sums_of shape turned
  unfolding changed_by
  second_are =
      ext_get_or 0 second (sums_of shape turned) (length_list_of 8 _ ∙ sym (sums_length shape turned))
      (λ k h.
      let l : k < 8 = omega (arith, length_list_of 8 (λ k. bit_xor (get_or first k 0) (pick (bit k mk) left_in))) in
      bit_ext_below 32 (get_or second k 0) (get_or (sums_of shape turned) k 0) (changed_fits mk left_in first left_fit first_fit k l) (word_lt shape turned k l)
      (λ i hi. second_digit i hi k l ∙ sym (digit_of shape turned i hi k l)))
    where
      sums_length : (shape : Shape) (block : List ℕ) → length (sums_of shape block) ≡ 8
      sums_length shape block = unfold sums_of in refl

  turned_long : rows shape ≤ length turned
  turned_long = rw (length-set block (r - 1) (bit_xor (get_or block (r - 1) 0) wrong_in)) long

  pub lost_turned : lanes_lost shape turned ≡ lanes_lost_around shape (r ∷ []) block
  unfolding lanes_lost lanes_lost_around
  lost_turned = total_same 32 _ _ (λ i hi. ap (λ (t : Bool). pick t 1) (lost_lane i hi))

  -- ---- where no lane is lost

  module _ (none : lanes_lost shape turned ≡ 0) where
    -- row p is changed by the word of p
    abbrev change : ℕ → ℕ
    change p = bit_xor (pick (eqb p r) wrong_in) (word (λ i. changes (decide m (lane i turned)) p))

    change_small : (p : ℕ) → change p < 2 ^ 32
    change_small p = xor_lt 32 (pick (eqb p r) wrong_in) _ (some (eqb p r)) (number_lt 32 _)
      where
        some : (t : Bool) → pick t wrong_in < 2 ^ 32
        some true = wrong_fit
        some false = pow_pos 32

    change_bit : (i : ℕ) (hi : i < 32) (p : ℕ) → bit i (change p) ≡ row.change m r low high (lane i block) p
    change_bit i hi p =
        bit_of_xor i (pick (eqb p r) wrong_in) (word (λ i. changes (decide m (lane i turned)) p))
        ∙ ap₂ ◌⊕◌ (pick_bit i (eqb p r) wrong_in ∙ and_comm (eqb p r) (bit i wrong_in) ∙ ap (λ (t : Bool). t && eqb p r) (wrong_bit i hi))
        (bit_number 32 i (λ i. changes (decide m (lane i turned)) p) hi ∙ ap (λ (d : Decision). changes d p) (decided_same i hi))

    kept : (i : ℕ) → i < 32 → lost? (decide m (row.turned m r low high (lane i block))) ≡ false
    kept i hi = ap lost? (sym (decided_same i hi)) ∙ none_kept shape turned none i hi

    change_meant : (i : ℕ) → i < 32 → MeantLane m (r ∷ []) (lane i block) (diff (lane i block) (λ p. bit i (change p)))
    change_meant i hi =
        meant_same m (r ∷ []) (lane i block) (diff (lane i block) (row.change m r low high (lane i block))) (diff (lane i block) (λ p. bit i (change p)))
        (λ j h. ap (λ (t : Bool). lane i block (suc j) ⊕ t) (sym (change_bit i hi (suc j))))
        (row.change_meant m r low high (lane i block) (kept i hi))

    few : length (r ∷ []) ≤ 3
    few = omega arith

    within : RowsTo (rows shape) (r ∷ [])
    within = (low, high, tt)

    -- the block that is turned is mended to the one around the row
    pub one_rows : SameRows shape (mended_block shape turned) (around_block shape (r ∷ []) block)
    unfolding mended_lanes
    one_rows j h =
        ap (λ (b : List ℕ). get_or b j 0) (mended_kept shape turned none)
        ∙ get_or_list_of (length turned) _ j (omega (arith, turned_long))
        ∙ ap (λ (w : ℕ). bit_xor w (word (λ i. changes (decide m (lane i turned)) (suc j)))) (row_changed block r wrong_in low j (omega arith))
        ∙ xor_assoc (get_or block j 0) (pick (eqb (suc j) r) wrong_in) (word (λ i. changes (decide m (lane i turned)) (suc j)))
        ∙ change_row shape (r ∷ []) block long within few change change_small change_meant j h

    pub one_inside : bits_inside shape (r ∷ []) block (around_block shape (r ∷ []) block) ≡ ones wrong_in
    one_inside =
        change_inside shape (r ∷ []) block long within few change change_small change_meant
        ∙ total_same 32 _ _
        (λ i hi.
        count_same (rows shape) (λ p. among? (r ∷ []) p && bit i (change p)) (λ p. among? (r ∷ []) p && row.change m r low high (lane i block) p)
        (λ j h. ap (λ (t : Bool). among? (r ∷ []) (suc j) && t) (change_bit i hi (suc j)))
        ∙ row.count_inside m r low high (lane i block) (kept i hi)
        ∙ ap (λ (t : Bool). pick t 1) (sym (wrong_bit i hi)))
        ∙ sym (ones_total 32 wrong_in wrong_fit)

    pub one_outside : bits_outside shape (r ∷ []) block (around_block shape (r ∷ []) block) ≡ ones left_in
    one_outside =
        change_outside shape (r ∷ []) block long within few change change_small change_meant
        ∙ total_same 32 _ _
        (λ i hi.
        count_same (rows shape) (λ p. not (among? (r ∷ []) p) && bit i (change p)) (λ p. not (among? (r ∷ []) p) && row.change m r low high (lane i block) p)
        (λ j h. ap (λ (t : Bool). not (among? (r ∷ []) (suc j)) && t) (change_bit i hi (suc j)))
        ∙ row.count_outside m r low high (lane i block) (kept i hi)
        ∙ ap (λ (t : Bool). pick t 1) (row.turned_odd m r low high (lane i block) ∙ sym (left_bit i hi)))
        ∙ sym (ones_total 32 left_in left_fit)

    -- where no sum is left, the row alone is changed
    pub one_alone : left_in ≡ 0 → mended_block shape turned ≡ turned
    one_alone no-left =
        clean_left shape turned turned_long none
        (ap (bits_changed shape turned) (mended_kept shape turned none) ∙ changed_odd shape turned turned_long (none_kept shape turned none)
        ∙ total_same 32 _ (λ i. 0) (λ i hi. ap (λ (t : Bool). pick t 1) (odd_lane i hi ∙ ap (bit i) no-left ∙ bit_zero i))
        ∙ total_zero 32)
