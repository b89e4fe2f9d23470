-- A block is valid if all 32 lanes are. For each choice of data there is exactly one valid block.
-- A block is mended lane by lane; if a lane is lost, not one word is altered, its good lanes included. Assumes nothing.
use Rattle.std.specs.Prelude.{ℕ, suc, ◌-◌, ◌^◌, ◌≤◌, ◌<◌, ◌≡◌, cond, List, ltb, length, get_or, replicate}
use Rattle.std.specs.Int.Bits.{bit_xor}
use Rattle.lane.specs.Bit.{pick}
use Rattle.lane.specs.Lane.{Valid, apart}
use Rattle.lane.specs.Decision.{Kind, decide, lost?, lost_as?, changes}
use Rattle.lane.specs.Encoded.{encoded}
use Rattle.ground.specs.Choice.{if_zero}
use Rattle.shape.specs.declared.Shape.{Shape}
use Rattle.shape.specs.Shape.{before, rows, digits, data_rows_of, words, most_rows}
use Rattle.ground.specs.Totals.{total}
use Rattle.ground.specs.Stores.{stores}
use Rattle.ground.specs.Lists.{list_of}
use Rattle.sums.specs.Words.{row, lane, word}

abbrev pub ValidBlock : Shape → List ℕ → Type 0
ValidBlock shape block = (i : ℕ) → i < 32 → Valid (before shape) (lane i block)

-- two blocks differ in at most one bit a lane
abbrev pub Near : Shape → List ℕ → List ℕ → Type 0
Near shape old new = (i : ℕ) → i < 32 → apart (before shape) (lane i old) (lane i new) ≤ 1

-- the rows of two blocks are the same
abbrev pub SameRows : Shape → List ℕ → List ℕ → Type 0
SameRows shape a b = (j : ℕ) → j < rows shape → get_or a j 0 ≡ get_or b j 0

-- every word fits in 32 bits
abbrev pub Fitting : List ℕ → Type 0
Fitting block = (j : ℕ) → get_or block j 0 < 2 ^ 32

-- ---- data

-- the words of a gathered block, all zero
abbrev pub blank : List ℕ
blank = replicate most_rows 0

-- the data words, in order, in the data rows; zero elsewhere
unfoldable pub data_block : Shape → List ℕ → List ℕ
data_block shape list =
    stores blank (λ k. get_or (data_rows_of shape) k 0 - 1) (λ k. get_or list k 0) (words shape)

-- the valid block for a list of data words
unfoldable pub valid_block : Shape → List ℕ → List ℕ
valid_block shape list =
    list_of most_rows
    (λ j. cond (ltb j (rows shape)) (word (λ i. encoded (digits shape) (before shape) (lane i (data_block shape list)) (suc j))) 0)

-- the data words of a block
unfoldable pub data_of : Shape → List ℕ → List ℕ
data_of shape block = list_of (words shape) (λ k. row (get_or (data_rows_of shape) k 0) block)

-- a buffer with the data words of a block copied to it
unfoldable pub data_into : Shape → List ℕ → List ℕ → List ℕ
data_into shape block buffer = stores buffer (λ k. k) (λ k. row (get_or (data_rows_of shape) k 0) block) (words shape)

-- the promise of encode
abbrev pub Encodes : Shape → List ℕ → List ℕ → Type 0
Encodes shape list block = block ≡ valid_block shape list

-- ---- mending

-- how many lanes are lost, and how many of them are of a kind
unfoldable pub lanes_lost : Shape → List ℕ → ℕ
lanes_lost shape block = total 32 (λ i. pick (lost? (decide (before shape) (lane i block))) 1)

unfoldable pub lanes_lost_as : Shape → List ℕ → Kind → ℕ
lanes_lost_as shape block kind = total 32 (λ i. pick (lost_as? kind (decide (before shape) (lane i block))) 1)

-- the block with the row that each lane's decision names changed in that lane
unfoldable pub mended_lanes : Shape → List ℕ → List ℕ
mended_lanes shape block =
    list_of (length block) (λ j. bit_xor (get_or block j 0) (word (λ i. changes (decide (before shape) (lane i block)) (suc j))))

-- what a visit leaves
unfoldable pub mended_block : Shape → List ℕ → List ℕ
mended_block shape block = if_zero (lanes_lost shape block) (mended_lanes shape block) block

-- how many bits differ between two blocks
unfoldable pub bits_changed : Shape → List ℕ → List ℕ → ℕ
bits_changed shape old new = total 32 (λ i. apart (before shape) (lane i old) (lane i new))
