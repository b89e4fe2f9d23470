-- Every index is that of one row of one block: which they are, from its digits. Assumes nothing.
use Prim.Native.Nat.{ℕ, suc, ◌+◌, ◌-◌, ◌*◌, ◌/◌, ◌%◌, ◌≤◌, ◌<◌}
use mathlib.Core.Path.{◌≡◌, sym, ap, ap₂, ◌∙◌}
use native.Mathlib.Nat.{add-mul, suc-mul, mul_comm, mul_right_comm, mul-le-mul_right, mod-lt, div-add-mod', div-lt_iff_lt-mul}
use native.Mathlib.Omega.{arith}
use lib.Arith.{digits_lt, digits_div, digits_mod}
use Rattle.layout.specs.declared.Layout.{Layout}
use Rattle.layout.specs.Layout.{rows_of, blocks, index}
use Rattle.layout.proofs.Index.{stride, one_to_one}

module _ (layout : Layout) where
  -- the block that an index lies in, and how many rows stand there before it
  abbrev pub block_at : ℕ → ℕ
  block_at at = at / layout.s / rows_of layout * layout.s + at % layout.s

  abbrev pub rows_past : ℕ → ℕ
  rows_past at = at / layout.s % rows_of layout

  pub row_below : (at : ℕ) → rows_past at < rows_of layout
  row_below at = mod-lt (at / layout.s) (omega arith)

  module _ (first : 1 ≤ layout.s) where
    -- the row of the block has that index
    pub index_at : (at : ℕ) → index layout (block_at at) (suc (rows_past at)) ≡ at
    index_at at =
        let s = layout.s in
        let rows = rows_of layout in
        let row : suc (rows_past at) - 1 ≡ rows_past at = omega arith in
        ap₂ (λ (group within : ℕ). group * rows * s + (suc (rows_past at) - 1) * s + within)
        (digits_div (at / s / rows) (mod-lt at first))
        (digits_mod (at / s / rows) (mod-lt at first))
        ∙ ap (λ (k : ℕ). at / s / rows * rows * s + k * s + at % s) row
        ∙ ap (λ (n : ℕ). n + at % s) (sym (add-mul (at / s / rows * rows) (at / s % rows) s) ∙ ap (λ (n : ℕ). n * s) (div-add-mod' (at / s) rows))
        ∙ div-add-mod' at s

    -- and no other
    pub only_at : (at block k : ℕ) → k < rows_of layout → index layout block (suc k) ≡ at → (block ≡ block_at at) × (k ≡ rows_past at)
    only_at at block k h e =
        let same =
        one_to_one (rows_of layout) layout.s first block (suc k) (block_at at) (suc (rows_past at)) (omega arith) h (omega arith) (row_below at)
        (e ∙ sym (index_at at)) in
        (same.0, omega (arith, same.1))

    -- its block is below N where the index is below rows·N
    pub block_inside : (at : ℕ) → at < rows_of layout * blocks layout → block_at at < blocks layout
    block_inside at h =
        let lines : at / layout.s < layout.g * rows_of layout =
        (div-lt_iff_lt-mul first).1 (omega (arith, mul_right_comm layout.g (rows_of layout) layout.s, mul_comm (rows_of layout) (blocks layout))) in
        digits_lt ((div-lt_iff_lt-mul (omega arith)).1 lines) (mod-lt at first)

  -- the rows of a block lie s apart
  pub rows_apart : (block j k : ℕ) → j < k → index layout block (suc j) + layout.s ≤ index layout block (suc k)
  rows_apart block j k l =
      omega (
        arith,
        stride (rows_of layout) layout.s block j,
        stride (rows_of layout) layout.s block k,
        suc-mul j layout.s,
        mul-le-mul_right {m = suc j} {n = k} layout.s l,
      )
