-- `block::mending::mend` meets its contract: the row that is named is flipped in every lane that names one. Assumes nothing.
use Prim.Native.Nat.{ℕ, ◌-◌, ◌^◌, ◌<◌}
use mathlib.Core.Bool.{true}
use mathlib.Core.Path.{◌≡◌, ◌∙◌}
use mathlib.Core.List.{List}
use native.Mathlib.Omega.{arith}
use lib.Bits.{bit_and}
use lib.ListN.{get_or}
use Rattle.lane.specs.Bit.{bit}
use Rattle.shape.specs.declared.Shape.{Shape}
use Rattle.shape.specs.Shape.{before, rows}
use Rattle.shape.proofs.Sizes.{before_lt}
use Rattle.sums.specs.Sums.{sum_in}
use Rattle.block.specs.Sums.{MendsLanes}
use Rattle.block.specs.Inner.{above_of, flipped_in}
use Rattle.block.proofs.Judged.{named_low, mends_lanes}
use Rattle.block.proofs.mending.mend.Goals as goal

-- the words of the odd lanes and of those above the rows, as the code has them
module _ (shape : Shape) (sums : List ℕ) {parity over : ℕ}
    (parity-is : parity ≡ get_or sums 7 0) (over-is : over ≡ above_of (before shape) 7 sums) (over-lt : over < 2 ^ 32) where
  abbrev naming : ℕ
  naming = bit_and parity ((2 ^ 32 - 1) - over)

  -- the lanes that are odd and not above the rows are those whose sums name a row, and it is mended in them
  names_row : (i : ℕ) → i < 32 → bit i naming ≡ true → sum_in sums i < rows shape
  names_row = rw (parity-is, over-is) (named_low shape sums (omega arith))

  mends : (block : List ℕ) → MendsLanes shape block sums (flipped_in (rows shape) sums (λ i. bit i naming) block)
  mends = rw (parity-is, over-is) (mends_lanes shape sums (omega arith))

pub flip_named-requires : goal.flip_named-requires
flip_named-requires c =
    let named = names_row c.args.shape c.args.sums.now.words c.odd.ensures c.above.ensures (omega arith) in (
      omega (arith, c.rows.ensures),
      omega (arith, c.rows.ensures, before_lt c.args.shape),
      rw c.rows.ensures named,
    )

pub returns : goal.returns
returns c =
    let e = rw c.rows.ensures at c.flip_named.ensures in
    e ∙ mends c.args.shape c.args.sums.now.words c.odd.ensures c.above.ensures (omega arith) c.args.block.now
