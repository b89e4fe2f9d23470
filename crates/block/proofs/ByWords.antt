-- The definitions computed by words, 32 lanes at once, so that a worked example costs little to compute. Assumes nothing.
use Prim.Native.Nat.{ℕ, zero, suc, ◌^◌, ◌≤◌, ◌<◌}
use mathlib.Core.Bool.{Bool, true, ◌&&◌}
use mathlib.Core.Path.{◌≡◌, refl, sym, ap, ap₂, ◌∙◌}
use mathlib.Core.List.{List, [], ◌∷◌}
use native.Mathlib.Omega.{arith}
use lib.Bits.{bit_xor, bit_or}
use lib.Count.{ones}
use lib.Dec.{ltb}
use lib.ListN.{length, get_or, set}
use lib.Pow.{pow_pos}
use borrow.Author.Tests.{ltb-true}
use Rattle.lane.specs.Bit.{bit, pick}
use Rattle.lane.specs.Decision.{Kind, even, beyond}
use Rattle.shape.specs.declared.Shape.{Shape}
use Rattle.block.specs.declared.Verdict.TheVariants.{Clean, Mended, Lost}
use Rattle.shape.specs.Shape.{before, rows}
use Rattle.shape.proofs.Sizes.{rows_fit}
use Rattle.ground.specs.Totals.{total}
use Rattle.ground.proofs.Bools.{both}
use Rattle.ground.proofs.Choices.{refused_kept}
use Rattle.sums.specs.Words.{row}
use Rattle.block.specs.Block.{data_block, valid_block, lanes_lost, mended_block}
use Rattle.block.specs.Verdict.{verdict_of}
use Rattle.sums.specs.Sums.{sums_of, any_of}
use Rattle.sums.specs.Inner.{xor_rows}
use Rattle.block.specs.Inner.{above_of, lost_lanes, naming_lanes, flipped_in, xor_all, with_checks}
use Rattle.sums.proofs.RowSums.{sums_are}
use Rattle.sums.proofs.Doubt.{word_lt, any_lt}
use Rattle.block.proofs.Lanes.{ones_total}
use Rattle.block.proofs.Blocks.{mended_kept}
use Rattle.block.proofs.Judged.{lost_as_lt, above_lt, lost_decides, mended_decides, clean_decides, mends_lanes}
use Rattle.block.proofs.Told.{lost_some, mended_none}
use Rattle.block.proofs.Decided.{decided, lanes_mended}
use Rattle.block.proofs.Data.{data_lt}
use Rattle.block.proofs.Encoding.{built}

-- every word of a list fits in 32 bits
unfoldable pub fit? : List ℕ → Bool
fit? [] = true
fit? (w ∷ list) = ltb w (2 ^ 32) && fit? list

pub fit_each : (list : List ℕ) → fit? list ≡ true → (k : ℕ) → get_or list k 0 < 2 ^ 32
unfolding fit?
fit_each [] e k = pow_pos 32
fit_each (w ∷ list) e zero = ltb-true w (2 ^ 32) (both (ltb w (2 ^ 32)) (fit? list) e).0
fit_each (w ∷ list) e (suc k) = fit_each list (both (ltb w (2 ^ 32)) (fit? list) e).1 k

-- how many bits of a word are ones
abbrev pub bits : ℕ → ℕ
bits w = total 32 (λ i. pick (bit i w) 1)

-- the sums of a block, row by row
abbrev pub row_sums : Shape → List ℕ → List ℕ
row_sums shape block =
    let digit : ℕ → ℕ = λ k. xor_rows (bit k) (before shape) (λ p. row p block) in
    digit 0 ∷ digit 1 ∷ digit 2 ∷ digit 3 ∷ digit 4 ∷ digit 5 ∷ digit 6 ∷ xor_rows (λ p. true) (rows shape) (λ p. row p block) ∷ []

row_sums_lem : (shape : Shape) (block : List ℕ) → ((k : ℕ) → get_or block k 0 < 2 ^ 32) → row_sums shape block ≡ sums_of shape block
row_sums_lem shape block fits = sums_are shape block (λ p. row p block) each (λ p f l. refl) refl refl refl refl refl refl refl refl
  where
    each : (p : ℕ) → row p block < 2 ^ 32
    each zero = pow_pos 32
    each (suc j) = fits j

pub written : (shape : Shape) (list : List ℕ) → fit? list ≡ true
    → valid_block shape list
    ≡ set (with_checks (row_sums shape (data_block shape list)) (data_block shape list)) (before shape)
    (bit_xor (get_or (row_sums shape (data_block shape list)) 7 0) (xor_all 7 (row_sums shape (data_block shape list))))
written shape list e =
    let block = data_block shape list in
    sym
    (ap (λ (sums : List ℕ). set (with_checks sums block) (before shape) (bit_xor (get_or sums 7 0) (xor_all 7 sums)))
    (row_sums_lem shape block (data_lt shape list (fit_each list e)))
    ∙ built shape list (fit_each list e))

module _ (shape : Shape) (block : List ℕ) (fit : fit? block ≡ true) (long : length block ≡ 72) where
  abbrev sums : List ℕ
  sums = row_sums shape block

  abbrev parity : ℕ
  parity = get_or sums 7 0

  abbrev lost : Kind → ℕ
  lost = lost_lanes (before shape) parity sums

  are : sums ≡ sums_of shape block
  are = row_sums_lem shape block (fit_each block fit)

  parity_lt : parity < 2 ^ 32
  parity_lt = omega (arith, ap (λ (l : List ℕ). get_or l 7 0) are, word_lt shape block 7 (omega arith))

  any_small : any_of 7 sums < 2 ^ 32
  any_small = omega (arith, ap (any_of 7) are, any_lt shape block 7 (omega arith))

  whole : rows shape ≤ length block
  whole = let h = rows_fit shape in omega arith

  above_small : above_of (before shape) 7 sums < 2 ^ 32
  above_small =
      above_lt (before shape) 7 sums (λ k h. omega (arith, ap (λ (l : List ℕ). get_or l k 0) are, word_lt shape block k (omega arith)))

  -- a lost block: how many lanes of each kind, and the block as it was
  pub lost_by_words : (bit_or (lost even) (lost beyond) ≡ 0 → ⊥)
      → (verdict_of shape block ≡ Lost (bits (lost even)) (bits (lost beyond))) × (mended_block shape block ≡ block)
  unfolding mended_block
  lost_by_words ne =
      let says = decided shape block whole are (lost_decides shape sums parity_lt any_small ne) in
      let counted : (kind : Kind) → ones (lost kind) ≡ bits (lost kind) =
      λ kind. ones_total 32 (lost kind) (lost_as_lt shape sums parity_lt any_small kind) in
      (sym says ∙ ap₂ Lost (counted even) (counted beyond), refused_kept (lanes_lost shape block) _ block (lost_some shape block _ says _ _ refl))

  -- a mended block: how many odd lanes, and the row that each one's sum names flipped
  pub mended_by_words : bit_or (lost even) (lost beyond) ≡ 0 → (parity ≡ 0 → ⊥)
      → (verdict_of shape block ≡ Mended (bits parity))
      × (mended_block shape block ≡ flipped_in (rows shape) sums (λ i. bit i (naming_lanes (before shape) parity sums)) block)
  mended_by_words z ne =
      let says = decided shape block whole are (mended_decides shape sums parity_lt any_small z ne) in (
        sym says ∙ ap Mended (ones_total 32 parity parity_lt),
        mended_kept shape block (mended_none shape block _ says _ refl) ∙ sym (lanes_mended shape block are (mends_lanes shape sums above_small block)),
      )

  -- a clean block
  pub clean_by_words : bit_or (lost even) (lost beyond) ≡ 0 → parity ≡ 0 → verdict_of shape block ≡ Clean
  clean_by_words z none = sym (decided shape block whole are (clean_decides shape sums parity_lt any_small z none))
