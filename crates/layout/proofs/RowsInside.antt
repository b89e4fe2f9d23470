-- The rows of a block lie in an image that its layout fits, and the word at the index of a row is that row's. Assumes nothing.
use Prim.Native.Nat.{ℕ, suc, ◌*◌, ◌≤◌, ◌<◌}
use mathlib.Core.Path.{◌≡◌, ap}
use Rattle.layout.specs.declared.Layout.{Layout}
use Rattle.layout.specs.Layout.{rows_of, blocks, index, row_at}
use Rattle.layout.specs.Refusal.{image_refusal}
use Rattle.layout.proofs.Index.{in_range, row_of}
use Rattle.layout.proofs.Ladder.{geometry, image_layout, image_exact}

module _ (layout : Layout) where
  module _ (first : 1 ≤ layout.s) (block : ℕ) where
    pub row_in_range : (p : ℕ) → block < blocks layout → 1 ≤ p → p ≤ rows_of layout → index layout block p < rows_of layout * blocks layout
    row_in_range p = in_range (rows_of layout) layout.s first layout.g block p

    pub row_at_index : (k : ℕ) → k < rows_of layout → row_at layout (index layout block (suc k)) ≡ suc k
    row_at_index k h = ap suc (row_of (rows_of layout) layout.s first block k h)

  module _ (len : ℕ) (passed : image_refusal len layout ≡ 0) where
    pub interleaved : 1 ≤ layout.s
    interleaved = (geometry layout (image_layout layout len passed)).s_first

    pub row_inside : (block p : ℕ) → block < blocks layout → 1 ≤ p → p ≤ rows_of layout → index layout block p < len
    row_inside block p there l h = rw (image_exact layout len passed) (row_in_range interleaved block p there l h)
