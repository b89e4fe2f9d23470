-- The sums of the code's block, from those of the stored one: digits 0 and 1 are complemented in every lane, and nothing else. Assumes nothing.
use Prim.Native.Nat.{ℕ, suc, ◌≤◌, ◌<◌}
use mathlib.Core.Bool.{Bool, true, false, cond}
use mathlib.Core.Path.{◌≡◌, refl, sym, ap, ap₂, ◌∙◌}
use mathlib.Core.List.{List, [], ◌∷◌}
use native.Mathlib.Omega.{arith}
use lib.Bits.{bit_xor, xor_lt}
use lib.Dec.{leb, lit<}
use lib.ListN.{length, get_or}
use Rattle.lane.specs.Bit.{bit, ◌⊕◌}
use Rattle.lane.specs.Lane.{Lane, sum, count, odd, diff}
use Rattle.lane.proofs.Bits.{bit_of_xor, bit_zero, ⊕-zero}
use Rattle.lane.proofs.Linear.{sum_diff, odd_diff, sum_same, count_same}
use Rattle.shape.specs.declared.Shape.{Shape}
use Rattle.shape.specs.declared.Shape.TheVariants.{One, Two}
use Rattle.shape.specs.Shape.{before, rows}
use Rattle.stored.specs.Stored.{ones, mask, complemented}
use Rattle.stored.proofs.Forms.{row_complemented}
use Rattle.sums.specs.Words.{lane, number, word}
use Rattle.sums.specs.Sums.{sums_of}
use Rattle.sums.proofs.WordBits.{number_lt, number_bits, number_same, bit_number}
use Rattle.sums.proofs.RowSums.{same_eight}

-- ---- rows 1 and 2 as a lane

-- the rows that are stored complemented
abbrev pub pair : Lane
pair p = leb p 2

pair_sum : (shape : Shape) → sum (before shape) pair ≡ 3
unfolding sum
pair_sum One = refl
pair_sum Two = refl

pair_even : (shape : Shape) → odd (rows shape) pair ≡ false
unfolding count bit
pair_even One = refl
pair_even Two = refl

pub bit_ones : (i : ℕ) → i < 32 → bit i ones ≡ true
bit_ones i h = ap (bit i) all ∙ bit_number 32 i (λ i. true) h
  where
    all : ones ≡ word (λ i. true)
    all = unfold number in refl

bit_mask : (i : ℕ) → i < 32 → (p : ℕ) → bit i (mask p) ≡ pair p
bit_mask i h p = by (leb p 2)
  where
    by : (b : Bool) → bit i (cond b ones 0) ≡ b
    by true = bit_ones i h
    by false = bit_zero i

-- ---- a lane of the code's block, from that of the stored one

module _ (shape : Shape) (block : List ℕ) (long : rows shape ≤ length block) where
  pub lane_masked : (i j : ℕ) → j < rows shape → lane i (complemented block) (suc j) ≡ lane i block (suc j) ⊕ bit i (mask (suc j))
  lane_masked i j l = ap (bit i) (row_complemented block j (omega arith)) ∙ bit_of_xor i (get_or block j 0) (mask (suc j))

  pub lane_complemented : (i : ℕ) → i < 32 → (j : ℕ) → j < rows shape → lane i (complemented block) (suc j) ≡ diff (lane i block) pair (suc j)
  lane_complemented i h j l = lane_masked i j l ∙ ap (λ (b : Bool). lane i block (suc j) ⊕ b) (bit_mask i h (suc j))

  pub sum_complemented : (i : ℕ) → i < 32 → sum (before shape) (lane i (complemented block)) ≡ bit_xor (sum (before shape) (lane i block)) 3
  sum_complemented i h =
      sum_same (before shape) _ (diff (lane i block) pair) (λ j l. lane_complemented i h j (omega arith))
      ∙ sum_diff (before shape) (lane i block) pair ∙ ap (bit_xor (sum (before shape) (lane i block))) (pair_sum shape)

  pub odd_complemented : (i : ℕ) → i < 32 → odd (rows shape) (lane i (complemented block)) ≡ odd (rows shape) (lane i block)
  odd_complemented i h =
      ap (bit 0) (count_same (rows shape) _ (diff (lane i block) pair) (lane_complemented i h))
      ∙ odd_diff (rows shape) (lane i block) pair ∙ ap (λ (b : Bool). odd (rows shape) (lane i block) ⊕ b) (pair_even shape)
      ∙ ⊕-zero (odd (rows shape) (lane i block))

  -- ---- the eight words

  abbrev digit : ℕ → List ℕ → ℕ
  digit k block = word (λ i. bit k (sum (before shape) (lane i block)))

  digit_bit : (k i : ℕ) → i < 32 → bit k (sum (before shape) (lane i (complemented block))) ≡ bit k (sum (before shape) (lane i block)) ⊕ bit k 3
  digit_bit k i h = ap (bit k) (sum_complemented i h) ∙ bit_of_xor k (sum (before shape) (lane i block)) 3

  turned : (k : ℕ) → bit k 3 ≡ true → bit_xor (digit k block) ones ≡ digit k (complemented block)
  turned k e =
      number_bits 32 _ _ (xor_lt 32 (digit k block) ones (number_lt 32 _) (lit< tt))
      (λ i h.
      bit_of_xor i (digit k block) ones ∙ ap₂ ◌⊕◌ (bit_number 32 i _ h) (bit_ones i h ∙ sym e) ∙ sym (digit_bit k i h))

  kept : (k : ℕ) → bit k 3 ≡ false → digit k block ≡ digit k (complemented block)
  kept k e =
      number_same 32 _ _
      (λ i h. sym (digit_bit k i h ∙ ap (λ (b : Bool). bit k (sum (before shape) (lane i block)) ⊕ b) e ∙ ⊕-zero (bit k (sum (before shape) (lane i block)))))

  pub code_sums : {a b c d e f g h : ℕ} → a ∷ b ∷ c ∷ d ∷ e ∷ f ∷ g ∷ h ∷ [] ≡ sums_of shape block
      → bit_xor a ones ∷ bit_xor b ones ∷ c ∷ d ∷ e ∷ f ∷ g ∷ h ∷ [] ≡ sums_of shape (complemented block)
  unfolding sums_of bit
  code_sums {a} {b} {c} {d} {e} {f} {g} {h} are =
      let at : (k : ℕ) → get_or (a ∷ b ∷ c ∷ d ∷ e ∷ f ∷ g ∷ h ∷ []) k 0 ≡ get_or (sums_of shape block) k 0 = λ k. ap (λ (l : List ℕ). get_or l k 0) are in
      same_eight (ap (λ (w : ℕ). bit_xor w ones) (at 0) ∙ turned 0 refl) (ap (λ (w : ℕ). bit_xor w ones) (at 1) ∙ turned 1 refl) (at 2 ∙ kept 2 refl)
      (at 3 ∙ kept 3 refl) (at 4 ∙ kept 4 refl) (at 5 ∙ kept 5 refl) (at 6 ∙ kept 6 refl)
      (at 7 ∙ number_same 32 _ _ (λ i l. sym (odd_complemented i l)))
