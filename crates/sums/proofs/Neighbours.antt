-- Rows that are neighbours, column by column: the four columns of 17 words give the sums. Assumes nothing.
use Prim.Native.Nat.{ℕ, suc, ◌+◌, ◌*◌, ◌-◌, ◌^◌, ◌<◌}
use mathlib.Core.Bool.{true}
use mathlib.Core.Path.{◌≡◌, refl, sym, ap}
use mathlib.Core.List.{List, [], ◌∷◌}
use native.Mathlib.Nat.{add-zero}
use native.Mathlib.Omega.{arith}
use lib.Bits.{bit_xor}
use lib.ListN.{get_or, replicate}
use Rattle.lane.specs.Bit.{bit}
use Rattle.ground.specs.Stores.{stores}
use Rattle.shape.specs.declared.Shape.TheVariants.{Two}
use Rattle.sums.specs.declared.Column.{Column}
use Rattle.sums.specs.declared.Endings.{Endings}
use Rattle.sums.specs.Sums.{lying, sums_of}
use Rattle.sums.specs.Inner.{column_of, in_column, tabled, endings_of, across_of}
use Rattle.sums.proofs.RowSums.{Made, one, same, ◌xor◌, agree?, agreed, sums_are}
use Rattle.sums.proofs.Lying.{placed, placed_fits, placed_lies}

module _ (words : List ℕ) (at : ℕ) where
  abbrev w : ℕ → ℕ
  w = placed words at 1

  abbrev x : ℕ → Column
  x c = column_of (in_column words at c)

  module _ {n : ℕ} where
    -- row k + 1
    abbrev row : (k : ℕ) {j : ℕ} → j ≡ at + k → Made n w (get_or words j 0)
    row k {j} e = same (ap (λ (i : ℕ). get_or words i 0) (let f : j ≡ at + k * 1 = omega arith in f)) (one (suc k))

    -- column c: its word in group q, what groups q + 1 to q + 3 give, and what it gives
    module _ (c : ℕ) where
      abbrev in_group : (q : ℕ) → Made n w (in_column words at c q)
      in_group q = row (4 * q - 1 + c) (omega arith)

      abbrev low : (q : ℕ) → Made n w (bit_xor (in_column words at c (q + 1)) (in_column words at c (q + 3)))
      low q = in_group (q + 1) xor in_group (q + 3)

      abbrev high : (q : ℕ) → Made n w (bit_xor (in_column words at c (q + 2)) (in_column words at c (q + 3)))
      high q = in_group (q + 2) xor in_group (q + 3)

      abbrev three : (q : ℕ) → Made n w (bit_xor (in_column words at c (q + 1)) (bit_xor (in_column words at c (q + 2)) (in_column words at c (q + 3))))
      three q = in_group (q + 1) xor high q

      abbrev made_4 : Made n w (x c).d4
      made_4 = in_group 4 xor three 4 xor (in_group 12 xor three 12)

      abbrev made_6 : Made n w (x c).d6
      made_6 = in_group 16 xor in_group 17

      abbrev made_all : Made n w (x c).all
      made_all = three 0 xor (in_group 8 xor three 8) xor made_4 xor made_6

    -- the four columns together
    abbrev four : {f : ℕ → ℕ} → ((c : ℕ) → Made n w (f c)) → Made n w (bit_xor (bit_xor (bit_xor (f 0) (f 1)) (f 2)) (f 3))
    four m = m 0 xor m 1 xor m 2 xor m 3

    -- the rows that end alike: column c, and row k + 1
    abbrev ending : (c k : ℕ) {j : ℕ} → j ≡ at + k → Made n w (bit_xor (x c).all (get_or words j 0))
    ending c k e = made_all c xor row k e

  -- the eight words, from the tables of the columns: by computing
  pub beside_sums : ((k : ℕ) → get_or words k 0 < 2 ^ 32) → {table top all : List ℕ} → table ≡ tabled (replicate 16 0) x 4
      → top ≡ stores (replicate 4 0) (λ c. c) (λ c. (x c).d6) 4 → all ≡ stores (replicate 4 0) (λ c. c) (λ c. (x c).all) 4
      → {ended : Endings} {d2 d3 d4 d5 : ℕ} → ended ≡ endings_of words at all → d2 ≡ across_of table 0 → d3 ≡ across_of table 1
      → d4 ≡ across_of table 2 → d5 ≡ across_of table 3
      → bit_xor ended.e01 ended.e11 ∷ bit_xor ended.e10 ended.e11 ∷ d2 ∷ d3 ∷ d4 ∷ d5
      ∷ bit_xor (bit_xor (bit_xor (get_or top 0 0) (get_or top 1 0)) (get_or top 2 0)) (get_or top 3 0)
      ∷ bit_xor (bit_xor (bit_xor ended.e01 ended.e11) ended.e00) ended.e10 ∷ []
      ≡ sums_of Two (lying Two words at 1)
  unfolding tabled stores agree? bit
  beside_sums fits et ep ea e e2 e3 e4 e5 =
      rw (e, e2, e3, e4, e5, et, ep, ea)
      (sums_are Two _ _ (placed_fits words at 1 fits) (placed_lies Two words at 1) (agreed (bit 0) (ending 1 0 (sym (add-zero at)) xor ending 3 2 refl) refl)
      (agreed (bit 1) (ending 2 1 refl xor ending 3 2 refl) refl)
      (agreed (bit 2) (four (λ c. low c 0 xor low c 4 xor low c 8 xor low c 12 xor in_group c 17)) refl)
      (agreed (bit 3) (four (λ c. high c 0 xor high c 4 xor high c 8 xor high c 12)) refl) (agreed (bit 4) (four made_4) refl)
      (agreed (bit 5) (four (λ c. in_group c 8 xor three c 8 xor (in_group c 12 xor three c 12))) refl) (agreed (bit 6) (four made_6) refl)
      (agreed (λ p. true) (ending 1 0 (sym (add-zero at)) xor ending 3 2 refl xor ending 0 71 refl xor ending 2 1 refl) refl))
