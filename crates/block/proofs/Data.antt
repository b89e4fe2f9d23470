-- Where the data words stand in a block, and that every other row is zero. Assumes nothing.
use Prim.Native.Nat.{ℕ, suc, ◌-◌, ◌^◌, ◌<◌}
use mathlib.Core.Bool.{Bool, not}
use mathlib.Core.Path.{◌≡◌, refl, ◌∙◌}
use mathlib.Core.List.{List}
use mathlib.Core.Logic.{⊎_elim}
use native.Mathlib.Omega.{arith}
use lib.Dec.{lit<}
use lib.ListN.{length, get_or, get_or-replicate, get_or-eq_default}
use lib.Pow.{pow_pos}
use Rattle.lane.specs.Rows.{power?, DataRow, rows_where}
use Rattle.lane.proofs.Rows.{row_passes, row_there, rows_rise, data_row, data_fails, split_below}
use Rattle.shape.specs.declared.Shape.{Shape}
use Rattle.shape.specs.declared.Shape.TheVariants.{One, Two}
use Rattle.shape.proofs.Sizes.{before_lt}
use Rattle.shape.specs.Shape.{before, digits, data_rows_of, words}
use Rattle.ground.proofs.Stores.{length_stores, stores_hit, stores_miss, stores_all}
use Rattle.block.specs.Block.{blank, data_block}

-- the rows before the last number below 2 to the digits
pub before_digits : (shape : Shape) → before shape < 2 ^ digits shape
before_digits One = lit< tt
before_digits Two = lit< tt

-- there are as many data rows as data words
pub data_count : (shape : Shape) → length (data_rows_of shape) ≡ words shape
unfolding rows_where power?
data_count One = refl
data_count Two = refl

length_blank : length blank ≡ 72
length_blank = refl

pub blank_zero : (j : ℕ) → get_or blank j 0 ≡ 0
blank_zero j = ⊎_elim (λ l. get_or-replicate 72 j 0 0 l) (λ l. get_or-eq_default blank 0 l) (split_below j 72)

module _ (shape : Shape) where
  abbrev test : ℕ → Bool
  test p = not (power? (digits shape) p)

  abbrev pub row_of_data : ℕ → ℕ
  row_of_data k = get_or (data_rows_of shape) k 0

  -- each entry of the table is a data row
  pub entry_row : (k : ℕ) → k < words shape → DataRow (before shape) (row_of_data k)
  entry_row k h =
      let r = row_passes test (before shape) k (rw (data_count shape) h) in
      data_row (digits shape) (before shape) (row_of_data k) (before_digits shape) r.0 r.1 r.2

  -- each data row is an entry
  pub row_entry : (p : ℕ) → DataRow (before shape) p → (k : ℕ) × (k < words shape) × (row_of_data k ≡ p)
  row_entry p d =
      let r = row_there test (before shape) p d.first d.last (data_fails (digits shape) (before shape) p d) in
      (r.0, rw (data_count shape) at r.1, r.2)

  -- no two entries are the same
  pub entry_once : (k j : ℕ) → k < words shape → j < words shape → row_of_data k ≡ row_of_data j → k ≡ j
  entry_once k j hk hj e =
      ⊎_elim (λ l. let r = rows_rise test (before shape) k j l (rw (data_count shape) hj) in absurd (omega arith))
      (λ l. ⊎_elim (λ g. let r = rows_rise test (before shape) j k g (rw (data_count shape) hk) in absurd (omega arith)) (λ g. omega arith) (split_below j k))
      (split_below k j)

  module _ (list : List ℕ) where
    pub length_data : length (data_block shape list) ≡ 72
    unfolding data_block
    length_data = length_stores blank _ _ (words shape) ∙ length_blank

    -- data word k stands in data row k
    pub data_hit : (k : ℕ) → k < words shape → get_or (data_block shape list) (row_of_data k - 1) 0 ≡ get_or list k 0
    unfolding data_block
    data_hit k h =
        let d = entry_row k h in
        let b = before_lt shape in
        stores_hit blank (λ k. row_of_data k - 1) (λ k. get_or list k 0) k (words shape)
        (λ j hj e. let f = entry_row j hj in entry_once k j h hj (omega (arith, e, d.first, f.first))) h
        (rw length_blank (omega (arith, d.last, d.first)))

    -- a place that is no data row holds zero
    pub data_miss : (j : ℕ) → (DataRow (before shape) (suc j) → ⊥) → get_or (data_block shape list) j 0 ≡ 0
    unfolding data_block
    data_miss j ne =
        stores_miss blank (λ k. row_of_data k - 1) (λ k. get_or list k 0) j (words shape)
        (λ k h e. let d = entry_row k h in ne (rw (sym_row k j e d) d))
        ∙ blank_zero j
      where
        sym_row : (k j : ℕ) → j ≡ row_of_data k - 1 → DataRow (before shape) (row_of_data k) → suc j ≡ row_of_data k
        sym_row k j e d = let f = d.first in omega arith

    -- a data word that fits leaves a word that fits
    pub data_lt : ((k : ℕ) → get_or list k 0 < 2 ^ 32) → (j : ℕ) → get_or (data_block shape list) j 0 < 2 ^ 32
    unfolding data_block
    data_lt h = stores_all (λ w. w < 2 ^ 32) blank _ _ (words shape) (λ j. rw (blank_zero j) (pow_pos 32)) (λ k l. h k)
