-- The words of rows 1 and 2 of every block are stored complemented, and all others as they are. Assumes nothing.
use Rattle.std.specs.Prelude.{ℕ, suc, cond, ◌≡◌, List, leb, length, get_or}
use Rattle.std.specs.Int.Bits.{bit_xor}
use Rattle.ground.specs.Choice.{if_zero}
use Rattle.ground.specs.Lists.{list_of}
use Rattle.layout.specs.declared.Layout.{Layout}
use Rattle.layout.specs.Layout.{row_at}
use Rattle.layout.specs.Refusal.{image_refusal}

-- a word of ones
abbrev pub ones : ℕ
ones = 0xFFFFFFFF

-- a word with every bit turned
abbrev pub flipped : ℕ → ℕ
flipped word = bit_xor word ones

-- the bits of row p that are stored complemented: all of them in rows 1 and 2, none in the rows after
abbrev pub mask : ℕ → ℕ
mask p = cond (leb p 2) ones 0

-- the stored word of row p, from the code's; and the code's, from the stored one
abbrev pub complemented_in : ℕ → ℕ → ℕ
complemented_in p word = bit_xor word (mask p)

-- words with those of rows 1 and 2 complemented, where each index is that of a row
abbrev pub complemented_by : (row_of : ℕ → ℕ) → List ℕ → List ℕ
complemented_by row_of words = list_of (length words) (λ at. complemented_in (row_of at) (get_or words at 0))

-- the block as it is stored, from the code's; and the code's, from the stored one: it is its own inverse
unfoldable pub complemented : List ℕ → List ℕ
complemented block = complemented_by suc block

-- the same of every block of an image
unfoldable pub complemented_image : Layout → List ℕ → List ℕ
complemented_image layout image = complemented_by (row_at layout) image

-- the promise of complement_block
abbrev pub ComplementsBlock : List ℕ → List ℕ → Type 0
ComplementsBlock block after = after ≡ complemented block

-- the promise of complement_image: an image that its layout does not fit stays
abbrev pub ComplementsImage : List ℕ → Layout → List ℕ → Type 0
ComplementsImage image layout after = after ≡ if_zero (image_refusal (length image) layout) (complemented_image layout image) image
