-- A row's index is in range, and one to one over block and row: the group, the row and the place are its digits. Assumes nothing.
use Prim.Native.Nat.{ℕ, zero, suc, ◌+◌, ◌-◌, ◌*◌, ◌/◌, ◌%◌, ◌≤◌, ◌<◌}
use mathlib.Core.Path.{◌≡◌, sym, ap, ◌∙◌}
use native.Mathlib.Nat.{add-mul, zero-mul, mul_comm, mul_assoc, mul_right_comm, mod-lt, div-add-mod', div-lt_iff_lt-mul}
use native.Mathlib.Omega.{arith}
use lib.Arith.{digits_lt, digits_div, digits_mod}

-- the index of row p of a block, by the numbers that it goes by; `index` of a layout is this
abbrev pub index_by : ℕ → ℕ → ℕ → ℕ → ℕ
index_by rows s block p = block / s * rows * s + (p - 1) * s + block % s

-- the first row, and the others a stride apart
pub first_row : (rows s block : ℕ) → rows * (block - block % s) + block % s ≡ index_by rows s block 1
first_row rows s block =
    let e : block - block % s ≡ block / s * s = omega (arith, div-add-mod' block s) in
    omega (arith, mul_comm rows (block - block % s), ap (λ (n : ℕ). n * rows) e, mul_right_comm (block / s) s rows, zero-mul s)

-- without interleave
pub first_alone : (rows s block : ℕ) → s ≡ 1 → rows * block ≡ index_by rows s block 1
first_alone rows s block alone =
    rw alone
    (let e : block ≡ block - block % 1 = omega arith in
    omega (arith, ap (λ (n : ℕ). rows * n) e, first_row rows 1 block))

row_up : (k s : ℕ) → (suc k - 1) * s ≡ k * s
row_up k s = let e : suc k - 1 ≡ k = omega arith in ap (λ (n : ℕ). n * s) e

pub stride : (rows s block k : ℕ) → index_by rows s block (suc k) ≡ index_by rows s block 1 + k * s
stride rows s block k = omega (arith, zero-mul s, row_up k s)

module _ (rows s : ℕ) (first : 1 ≤ s) where
  -- an index as a number of three digits: the group, the row, the place
  digits : (block k : ℕ) → index_by rows s block (suc k) ≡ (block / s * rows + k) * s + block % s
  digits block k = omega (arith, add-mul (block / s * rows) k s, row_up k s)

  within_of : (block k : ℕ) → index_by rows s block (suc k) % s ≡ block % s
  within_of block k = rw (digits block k) (digits_mod (block / s * rows + k) (mod-lt block first))

  line_of : (block k : ℕ) → index_by rows s block (suc k) / s ≡ block / s * rows + k
  line_of block k = rw (digits block k) (digits_div (block / s * rows + k) (mod-lt block first))

  -- the block of an index, and the row
  block_of : (block k : ℕ) → k < rows → index_by rows s block (suc k) / s / rows * s + index_by rows s block (suc k) % s ≡ block
  block_of block k h = rw (line_of block k, within_of block k, digits_div (block / s) h) (div-add-mod' block s)

  pub row_of : (block k : ℕ) → k < rows → index_by rows s block (suc k) / s % rows ≡ k
  row_of block k h = rw (line_of block k) (digits_mod (block / s) h)

  pub one_to_one : (a p b q : ℕ) → 1 ≤ p → p ≤ rows → 1 ≤ q → q ≤ rows
      → index_by rows s a p ≡ index_by rows s b q → (a ≡ b) × (p ≡ q)
  one_to_one a zero b q l h m i e = absurd (omega arith)
  one_to_one a (suc j) b zero l h m i e = absurd (omega arith)
  one_to_one a (suc j) b (suc k) l h m i e = (
    sym (block_of a j h) ∙ ap (λ (x : ℕ). x / s / rows * s + x % s) e ∙ block_of b k i,
    ap suc (sym (row_of a j h) ∙ ap (λ (x : ℕ). x / s % rows) e ∙ row_of b k i),
  )

  pub in_range : (g block p : ℕ) → block < g * s → 1 ≤ p → p ≤ rows → index_by rows s block p < rows * (g * s)
  in_range g block zero inside l h = absurd (omega arith)
  in_range g block (suc k) inside l h =
      omega (
        arith,
        digits block k,
        digits_lt (digits_lt ((div-lt_iff_lt-mul first).1 inside) h) (mod-lt block first),
        mul_right_comm g rows s,
        mul_comm rows (g * s),
      )

  -- the words of a group, row by row
  pub row_in_group : (q j : ℕ) → j < rows * s → (q * (rows * s) + j) / s % rows ≡ j / s
  row_in_group q j h =
      let e : q * (rows * s) + j ≡ (q * rows + j / s) * s + j % s = omega (arith, add-mul (q * rows) (j / s) s, mul_assoc q rows s, div-add-mod' j s) in
      rw (e, digits_div (q * rows + j / s) (mod-lt j first), digits_mod q ((div-lt_iff_lt-mul first).1 h))
