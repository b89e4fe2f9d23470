-- A block in an image: its rows gathered into 72 words, which are 0 past the last row, and its rows placed. An image holds stored words, a block
-- that is gathered or placed is the code's: rows 1 and 2 are complemented between the two. Assumes nothing.
use Rattle.std.specs.Prelude.{ℕ, suc, ◌≤◌, ◌≡◌, List, length, get_or}
use Rattle.ground.specs.Stores.{stores}
use Rattle.stored.specs.Stored.{complemented}
use Rattle.block.specs.Block.{blank}
use Rattle.layout.specs.declared.Layout.{Layout}
use Rattle.layout.specs.Layout.{rows_of, index}

-- the rows of a block as they are stored: word k holds row k + 1
unfoldable pub stored_rows : Layout → ℕ → List ℕ → List ℕ
stored_rows layout block image = stores blank (λ k. k) (λ k. get_or image (index layout block (suc k)) 0) (rows_of layout)

-- the image with the stored rows of a block made those given
unfoldable pub with_rows : Layout → ℕ → List ℕ → List ℕ → List ℕ
with_rows layout block given image = stores image (λ k. index layout block (suc k)) (λ k. get_or given k 0) (rows_of layout)

-- the block of the code that lies in the image, and the image with such a block made the one given
unfoldable pub gathered : Layout → ℕ → List ℕ → List ℕ
gathered layout block image = complemented (stored_rows layout block image)

unfoldable pub placed : Layout → ℕ → List ℕ → List ℕ → List ℕ
placed layout block given image = with_rows layout block (complemented given) image

-- nothing but the rows of one block has changed
pub record Untouched (layout : Layout) (block : ℕ) (image after : List ℕ) : Type 0 where
  pub size : length after ≡ length image
  pub elsewhere : (i : ℕ) → ((p : ℕ) → 1 ≤ p → p ≤ rows_of layout → i ≡ index layout block p → ⊥) → get_or after i 0 ≡ get_or image i 0
  pub others : (other : ℕ) → (other ≡ block → ⊥) → gathered layout other after ≡ gathered layout other image
