-- A block is mended around the named rows lane by lane; if a lane is lost, not one word is altered. Assumes nothing.
use Rattle.std.specs.Prelude.{ℕ, suc, ◌<◌, List, length, get_or}
use Rattle.std.specs.Int.Bits.{bit_xor}
use Rattle.ground.specs.Choice.{if_zero}
use Rattle.ground.specs.Lists.{list_of}
use Rattle.ground.specs.Totals.{total}
use Rattle.lane.specs.Bit.{pick}
use Rattle.lane.specs.Lane.{count}
use Rattle.shape.specs.declared.Shape.{Shape}
use Rattle.shape.specs.Shape.{before, rows}
use Rattle.sums.specs.Words.{lane, word}
use Rattle.around.specs.Lane.{MeantLane, inside, outside, lane_lost?, lane_changes}

-- what a found block may have been meant to be: what each of its lanes may have been
abbrev pub MeantBlock : Shape → List ℕ → (found meant : List ℕ) → Type 0
MeantBlock shape named found meant = (i : ℕ) → i < 32 → MeantLane (before shape) named (lane i found) (lane i meant)

-- how many lanes are lost
unfoldable pub lanes_lost_around : Shape → List ℕ → List ℕ → ℕ
lanes_lost_around shape named block = total 32 (λ i. pick (lane_lost? (before shape) named (lane i block)) 1)

-- the block with the rows changed that each lane's decision names
unfoldable pub around_lanes : Shape → List ℕ → List ℕ → List ℕ
around_lanes shape named block =
    list_of (length block) (λ j. bit_xor (get_or block j 0) (word (λ i. lane_changes (before shape) named (lane i block) (suc j))))

-- what a visit around the named rows leaves
unfoldable pub around_block : Shape → List ℕ → List ℕ → List ℕ
around_block shape named block = if_zero (lanes_lost_around shape named block) (around_lanes shape named block) block

-- how many bits differ between two blocks, in the named rows and outside them
unfoldable pub bits_inside : Shape → List ℕ → (old new : List ℕ) → ℕ
bits_inside shape named old new = total 32 (λ i. count (rows shape) (inside named (lane i old) (lane i new)))

unfoldable pub bits_outside : Shape → List ℕ → (old new : List ℕ) → ℕ
bits_outside shape named old new = total 32 (λ i. count (rows shape) (outside named (lane i old) (lane i new)))
