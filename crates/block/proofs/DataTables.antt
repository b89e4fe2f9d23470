-- The two tables of data rows, once: what is used of them follows from what they are. Assumes nothing.
use Prim.Native.Nat.{ℕ, zero, suc, ◌+◌, ◌*◌, ◌-◌, ◌≤◌, ◌<◌}
use mathlib.Core.Bool.{Bool, not}
use mathlib.Core.Path.{◌≡◌, refl, ap, ◌∙◌}
use mathlib.Core.List.{List, [], ◌∷◌}
use native.Mathlib.Nat.{mul-le-mul_right}
use native.Mathlib.Omega.{arith}
use lib.ListN.{length, get_or, take}
use Rattle.lane.specs.Rows.{power?, rows_where}
use Rattle.lane.proofs.Rows.{row_passes, row_there, rows_rise, data_row, data_fails}
use Rattle.ground.specs.Stores.{stores}
use Rattle.ground.proofs.Stores.{stores_agree}
use Rattle.shape.specs.declared.Shape.{Shape}
use Rattle.shape.specs.declared.Shape.TheVariants.{One, Two}
use Rattle.shape.specs.Shape.{before, digits, data_rows_of, words}
use Rattle.sums.specs.Words.{row}
use Rattle.block.specs.Block.{blank, data_block, data_into}
use Rattle.sums.specs.Sums.{lying}
use Rattle.block.specs.Sums.{CopiesData}
use Rattle.block.specs.DataTables.{DataTable}
use Rattle.block.proofs.Data.{before_digits, data_count}
use Rattle.sums.proofs.Lying.{placed_lies}

-- the tables of the code, which it does not name to a proof: each proof that cites one shows that the code's own table is the same
abbrev pub data_one : List ℕ
data_one =
    3 ∷ 5 ∷ 6 ∷ 7 ∷ 9 ∷ 10 ∷ 11 ∷ 12 ∷ 13 ∷ 14 ∷ 15 ∷ []

abbrev pub data_two : List ℕ
data_two =
    3 ∷ 5 ∷ 6 ∷ 7 ∷ 9 ∷ 10 ∷ 11 ∷ 12 ∷ 13 ∷ 14 ∷ 15 ∷ 17 ∷ 18 ∷ 19 ∷ 20 ∷ 21 ∷ 22 ∷ 23 ∷ 24 ∷ 25 ∷ 26 ∷ 27 ∷ 28 ∷ 29 ∷ 30 ∷ 31 ∷ 33 ∷
    34 ∷ 35 ∷ 36 ∷ 37 ∷ 38 ∷ 39 ∷ 40 ∷ 41 ∷ 42 ∷ 43 ∷ 44 ∷ 45 ∷ 46 ∷ 47 ∷ 48 ∷ 49 ∷ 50 ∷ 51 ∷ 52 ∷ 53 ∷ 54 ∷ 55 ∷ 56 ∷ 57 ∷ 58 ∷ 59 ∷
    60 ∷ 61 ∷ 62 ∷ 63 ∷ 65 ∷ 66 ∷ 67 ∷ 68 ∷ 69 ∷ 70 ∷ 71 ∷ []

-- the list of the data rows is such a table
rows_table : (shape : Shape) → DataTable shape (data_rows_of shape)
rows_table shape =
    let test : ℕ → Bool = λ p. not (power? (digits shape) p) in
    record {
      is = refl;
      rising = rows_rise test (before shape);
      rows = λ k h. let r = row_passes test (before shape) k h in data_row (digits shape) (before shape) _ (before_digits shape) r.0 r.1 r.2;
      complete = λ p d. row_there test (before shape) p d.first d.last (data_fails (digits shape) (before shape) p d);
    }

pub data_one_lem : DataTable One data_one
unfolding rows_where power?
data_one_lem = rows_table One

pub data_two_lem : DataTable Two data_two
unfolding rows_where power?
data_two_lem = rows_table Two

-- the data rows of shape 1 are the first of shape 2's
pub data_front : (shape : Shape) → DataTable shape (take (words shape) data_two)
data_front One = data_one_lem
data_front Two = data_two_lem

-- ---- what the functions use of a table

module _ {shape : Shape} {table : List ℕ} (t : DataTable shape table) where
  -- data words spread over the rows of this very table are the shape's data block
  pub table_spread : (code list : List ℕ) {placed : List ℕ} → placed ≡ stores blank (λ k. get_or code k 0 - 1) (λ k. get_or list k 0) (length code)
      → code ≡ table
      → placed ≡ data_block shape list
  unfolding data_block
  table_spread code list e same =
      e
      ∙ ap (λ (l : List ℕ). stores blank (λ k. get_or l k 0 - 1) (λ k. get_or list k 0) (length l)) (same ∙ t.is)
      ∙ ap (stores blank (λ k. get_or (data_rows_of shape) k 0 - 1) (λ k. get_or list k 0)) (data_count shape)

  module _ (words : List ℕ) (at s : ℕ) (there : at + before shape * s < length words) where
    -- its rows are there where the last one is
    pub table_there : (code : List ℕ) → code ≡ table → (k : ℕ) → k < length code → (1 ≤ get_or code k 0) × (at + (get_or code k 0 - 1) * s < length words)
    table_there code same k h =
        let d = t.rows k (rw same at h) in
        let p : get_or table k 0 - 1 ≤ before shape = omega (arith, d.last) in
        rw same (d.first, omega (arith, mul-le-mul_right s p))

    row_lies : (p : ℕ) → 1 ≤ p → p ≤ before shape → get_or words (at + (p - 1) * s) 0 ≡ row p (lying shape words at s)
    row_lies zero f l = absurd (omega arith)
    row_lies (suc j) f l =
        let e : suc j - 1 ≡ j = omega arith in
        ap (λ (k : ℕ). get_or words (at + k * s) 0) e ∙ placed_lies shape words at s (suc j) f (omega arith)

    -- and the words that lie there, copied to a buffer, are the shape's data
    pub table_copied : (code buffer : List ℕ) {copied : List ℕ}
        → copied ≡ stores buffer (λ k. k) (λ k. get_or words (at + (get_or code k 0 - 1) * s) 0) (length code)
        → code ≡ table
        → CopiesData shape words at s buffer copied
    unfolding data_into
    table_copied code buffer e same =
        let lies : ℕ → ℕ = λ k. row (get_or table k 0) (lying shape words at s) in
        record {
          there =
              λ h.
              e
              ∙ ap (λ (l : List ℕ). stores buffer (λ k. k) (λ k. get_or words (at + (get_or l k 0 - 1) * s) 0) (length l)) same
              ∙ stores_agree buffer (λ k. k) _ lies (length table) (λ k l. let d = t.rows k l in row_lies (get_or table k 0) d.first d.last)
              ∙ ap (λ (l : List ℕ). stores buffer (λ k. k) (λ k. row (get_or l k 0) (lying shape words at s)) (length l)) t.is
              ∙ ap (stores buffer (λ k. k) (λ k. row (get_or (data_rows_of shape) k 0) (lying shape words at s))) (data_count shape);
          missing = λ no. absurd (no there);
        }
