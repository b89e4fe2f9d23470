-- The words decide and mend as the definitions do, whichever eight words they are. Assumes nothing.
use Prim.Native.Nat.{ℕ, zero, suc, ◌-◌, ◌^◌, ◌<◌}
use mathlib.Core.Bool.{Bool, true, false, cond, not, ◌&&◌, ◌||◌}
use mathlib.Core.Path.{◌≡◌, refl, sym, ap, ap₂, ◌∙◌}
use mathlib.Core.List.{List}
use native.Mathlib.Nat.{mod-eq_of_lt}
use native.Mathlib.Omega.{arith}
use lib.Bits.{bit_xor, bit_and, bit_or, and_le_l, and_lt, or_lt}
use lib.Count.{ones}
use lib.Dec.{eqb, ltb, leb, eqb-suc-zero, lit<}
use lib.ListN.{length, get_or}
use lib.Pow.{pow_pos}
use borrow.Author.Tests.{leb-true, leb-false, lt-ltb, le-ltb, ltb-false, not-true}
use Rattle.lane.specs.Bit.{bit, pick}
use Rattle.lane.specs.Decision.{Kind, even, beyond, flipped, lost, decision, lost?, lost_as?, changes}
use Rattle.lane.proofs.Bits.{bit_zero, bit_of_and, bit_of_or, bit_not, bit_ext_below}
use Rattle.lane.proofs.TwoKinds.{either_kind}
use Rattle.ground.proofs.Bools.{both}
use Rattle.ground.proofs.Lists.{list_of_same}
use Rattle.ground.proofs.Totals.{total_same}
use Rattle.shape.specs.declared.Shape.{Shape}
use Rattle.shape.specs.Shape.{before, rows}
use Rattle.shape.proofs.Sizes.{before_small}
use Rattle.block.specs.declared.Verdict.TheVariants.{Clean, Mended, Lost}
use Rattle.block.specs.Verdict.{said_of, said_by}
use Rattle.sums.specs.Sums.{sum_in, odd_in, any_of}
use Rattle.block.specs.Sums.{decision_in, lost_in, lost_as_in, odd_count, changed_in, Decides, MendsLanes}
use Rattle.block.specs.Inner.{above_of, lost_lanes, naming_lanes, row_named, flipped_in}
use Rattle.sums.proofs.WordBits.{number_same}
use Rattle.sums.proofs.Doubt.{bit_any}
use Rattle.block.proofs.Lanes.{bit_above, lost_test, lost_test_lem, ones_total}
use Rattle.block.proofs.Blocks.{counted_none, none_counted}

-- a word with no ones is 0
no_ones : (w : ℕ) → w < 2 ^ 32 → ones w ≡ 0 → w ≡ 0
no_ones w h e =
    bit_ext_below 32 w 0 h (lit< tt) (λ i l. counted_none 32 (λ i. bit i w) (sym (ones_total 32 w h) ∙ e) i l ∙ sym (bit_zero i))

none_ones : ones 0 ≡ 0
none_ones = ones_total 32 0 (lit< tt) ∙ none_counted 32 (λ i. bit i 0) (λ i l. bit_zero i)

-- an odd lane whose sum names a row changes that row, and any other lane none
changes_named : (m : ℕ) (o : Bool) (s p : ℕ) → (o && not (ltb m s)) && eqb p (row_named (suc m) s) ≡ changes (decision m o s) p
unfolding decision
changes_named m false zero p = refl
changes_named m false (suc s) p = refl
changes_named m true zero p = rw (le-ltb m 0 (omega arith))
changes_named m true (suc s) p = rw (eqb-suc-zero s) (go (leb (suc s) m) refl)
  where
    go : (t : Bool) → leb (suc s) m ≡ t → not (ltb m (suc s)) && eqb p (suc s) ≡ changes (cond t (flipped (suc s)) (lost beyond)) p
    go true e = rw (le-ltb m (suc s) (leb-true (suc s) m e))
    go false e = rw (lt-ltb m (suc s) (leb-false (suc s) m e))

-- the lanes above some number are a word as the digits are
pub above_lt : (top n : ℕ) (digits : List ℕ) → ((k : ℕ) → k < n → get_or digits k 0 < 2 ^ 32) → above_of top n digits < 2 ^ 32
unfolding above_of
above_lt top zero digits h = pow_pos 32
above_lt top (suc k) digits h = by (bit k top) (above_of top k digits) (above_lt top k digits (λ j l. h j (omega arith)))
  where
    by : (t : Bool) (rest : ℕ) → rest < 2 ^ 32 → cond t (bit_and rest (get_or digits k 0)) (bit_or rest (get_or digits k 0)) < 2 ^ 32
    by true rest l = and_lt 32 rest (get_or digits k 0) l (h k (omega arith))
    by false rest l = or_lt 32 rest (get_or digits k 0) l (h k (omega arith))

-- what is said by the numbers of lanes lost and bits changed
said_lost : (n : ℕ) (kinds : Kind → ℕ) (c : ℕ) → (n ≡ 0 → ⊥) → said_of (Lost (kinds even) (kinds beyond)) ≡ said_by n kinds c
said_lost zero kinds c ne = absurd (ne refl)
said_lost (suc n) kinds c ne = refl

said_mended : (n : ℕ) (kinds : Kind → ℕ) → (n ≡ 0 → ⊥) → said_of (Mended n) ≡ said_by 0 kinds n
said_mended zero kinds ne = absurd (ne refl)
said_mended (suc n) kinds ne = refl

module _ (shape : Shape) (sums : List ℕ) where
  abbrev m : ℕ
  m = before shape

  abbrev parity : ℕ
  parity = get_or sums 7 0

  abbrev lost_as : Kind → ℕ
  lost_as = lost_lanes m parity sums

  abbrev lost_word : ℕ
  lost_word = bit_or (lost_as even) (lost_as beyond)

  lane_above : (i : ℕ) → bit i (above_of m 7 sums) ≡ ltb m (sum_in sums i)
  lane_above i = bit_above i sums m 7 ∙ ap (λ (x : ℕ). ltb x (sum_in sums i)) (mod-eq_of_lt (before_small shape))

  module _ (hp : parity < 2 ^ 32) (ha : any_of 7 sums < 2 ^ 32) where
    lane_tested : (kind : Kind) (i : ℕ) → i < 32 → bit i (lost_as kind) ≡ lost_test kind m (odd_in sums i) (sum_in sums i)
    lane_tested even i hi = bit_of_and i (any_of 7 sums) ((2 ^ 32 - 1) - parity) ∙ ap₂ ◌&&◌ (bit_any i sums 7) (bit_not 32 i parity hi hp)
    lane_tested beyond i hi = bit_of_and i parity (above_of m 7 sums) ∙ ap (λ (b : Bool). bit i parity && b) (lane_above i)

    lane_lost_as : (kind : Kind) (i : ℕ) → i < 32 → bit i (lost_as kind) ≡ lost_as? kind (decision_in shape sums i)
    lane_lost_as kind i hi = lane_tested kind i hi ∙ lost_test_lem kind m (odd_in sums i) (sum_in sums i)

    lane_lost : (i : ℕ) → i < 32 → bit i lost_word ≡ lost? (decision_in shape sums i)
    lane_lost i hi =
        bit_of_or i (lost_as even) (lost_as beyond)
        ∙ ap₂ ◌||◌ (lane_lost_as even i hi) (lane_lost_as beyond i hi)
        ∙ either_kind (decision_in shape sums i)

    pub lost_as_lt : (kind : Kind) → lost_as kind < 2 ^ 32
    lost_as_lt even = omega (arith, and_le_l (any_of 7 sums) ((2 ^ 32 - 1) - parity))
    lost_as_lt beyond = omega (arith, and_le_l parity (above_of m 7 sums))

    lost_lt : lost_word < 2 ^ 32
    lost_lt = or_lt 32 (lost_as even) (lost_as beyond) (lost_as_lt even) (lost_as_lt beyond)

    kind_count : (kind : Kind) → ones (lost_as kind) ≡ lost_as_in shape sums kind
    unfolding lost_as_in
    kind_count kind =
        ones_total 32 (lost_as kind) (lost_as_lt kind) ∙ total_same 32 _ _ (λ i hi. ap (λ (b : Bool). pick b 1) (lane_lost_as kind i hi))

    lost_count : ones lost_word ≡ lost_in shape sums
    unfolding lost_in
    lost_count = ones_total 32 lost_word lost_lt ∙ total_same 32 _ _ (λ i hi. ap (λ (b : Bool). pick b 1) (lane_lost i hi))

    odd_count_lem : ones parity ≡ odd_count sums
    unfolding odd_count
    odd_count_lem = ones_total 32 parity hp

    -- ---- what is said

    pub lost_decides : (lost_word ≡ 0 → ⊥) → Decides shape sums (Lost (ones (lost_as even)) (ones (lost_as beyond)))
    lost_decides some =
        ap₂ (λ (e b : ℕ). said_of (Lost e b)) (kind_count even) (kind_count beyond)
        ∙ said_lost (lost_in shape sums) (lost_as_in shape sums) (odd_count sums) (λ z. some (no_ones lost_word lost_lt (lost_count ∙ z)))

    module _ (no-lost : lost_word ≡ 0) where
      none : lost_in shape sums ≡ 0
      none = sym lost_count ∙ ap ones no-lost ∙ none_ones

      pub mended_decides : (parity ≡ 0 → ⊥) → Decides shape sums (Mended (ones parity))
      mended_decides some =
          ap (λ (n : ℕ). said_of (Mended n)) odd_count_lem
          ∙ said_mended (odd_count sums) (lost_as_in shape sums) (λ z. some (no_ones parity hp (odd_count_lem ∙ z)))
          ∙ ap (λ (n : ℕ). said_by n (lost_as_in shape sums) (odd_count sums)) (sym none)

      pub clean_decides : parity ≡ 0 → Decides shape sums Clean
      clean_decides z = ap₂ (λ (n c : ℕ). said_by n (lost_as_in shape sums) c) (sym none) (sym (sym odd_count_lem ∙ ap ones z ∙ none_ones))

  -- ---- what is mended

  module _ (fits : above_of m 7 sums < 2 ^ 32) where
    abbrev naming : ℕ
    naming = naming_lanes m parity sums

    lane_naming : (i : ℕ) → i < 32 → bit i naming ≡ odd_in sums i && not (ltb m (sum_in sums i))
    lane_naming i hi =
        bit_of_and i parity ((2 ^ 32 - 1) - above_of m 7 sums)
        ∙ ap (λ (b : Bool). bit i parity && b) (bit_not 32 i (above_of m 7 sums) hi fits ∙ ap not (lane_above i))

    -- the sum of such a lane is below the rows
    pub named_low : (i : ℕ) → i < 32 → bit i naming ≡ true → sum_in sums i < rows shape
    named_low i hi e =
        let low = (both (odd_in sums i) (not (ltb m (sum_in sums i))) (sym (lane_naming i hi) ∙ e)).1 in
        omega (arith, ltb-false m (sum_in sums i) (not-true (ltb m (sum_in sums i)) low))

    pub mends_lanes : (block : List ℕ) → MendsLanes shape block sums (flipped_in (rows shape) sums (λ i. bit i naming) block)
    unfolding flipped_in changed_in
    mends_lanes block =
        list_of_same (length block) _ _
        (λ j h.
        ap (bit_xor (get_or block j 0))
        (number_same 32 _ _
        (λ i hi.
        ap (λ (b : Bool). b && eqb (suc j) (row_named (rows shape) (sum_in sums i))) (lane_naming i hi)
        ∙ changes_named m (odd_in sums i) (sum_in sums i) (suc j))))
