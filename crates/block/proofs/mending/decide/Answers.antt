-- `block::mending::decide` meets its contract: the words decide as the definitions do. Assumes nothing.
use Prim.Native.Nat.{ℕ, ◌-◌, ◌^◌, ◌<◌}
use mathlib.Core.Path.{◌≡◌}
use mathlib.Core.List.{List}
use native.Mathlib.Omega.{arith}
use lib.Bits.{bit_and, bit_or}
use lib.Count.{ones}
use lib.ListN.{get_or}
use Rattle.shape.specs.declared.Shape.{Shape}
use Rattle.shape.specs.Shape.{before}
use Rattle.block.specs.declared.Verdict.TheVariants.{Clean, Mended, Lost}
use Rattle.sums.specs.Sums.{any_of}
use Rattle.block.specs.Sums.{Decides}
use Rattle.block.specs.Inner.{above_of}
use Rattle.block.proofs.Judged.{lost_decides, clean_decides, mended_decides}
use Rattle.block.proofs.mending.decide.Goals as goal

-- the words of the lanes with a sum, of the odd lanes, and of those above the rows, as the code has them
module _ (shape : Shape) (sums : List ℕ) {some parity over : ℕ}
    (some-is : some ≡ any_of 7 sums) (parity-is : parity ≡ get_or sums 7 0) (over-is : over ≡ above_of (before shape) 7 sums)
    (some-lt : some < 2 ^ 32) (parity-lt : parity < 2 ^ 32) where
  abbrev even_lost : ℕ
  even_lost = bit_and some ((2 ^ 32 - 1) - parity)

  abbrev beyond_lost : ℕ
  beyond_lost = bit_and parity over

  -- they decide the block as its sums do
  lost_told : (bit_or even_lost beyond_lost ≡ 0 → ⊥) → Decides shape sums (Lost (ones even_lost) (ones beyond_lost))
  lost_told = rw (some-is, parity-is, over-is) (lost_decides shape sums (omega arith) (omega arith))

  clean_told : bit_or even_lost beyond_lost ≡ 0 → parity ≡ 0 → Decides shape sums Clean
  clean_told = rw (some-is, parity-is, over-is) (clean_decides shape sums (omega arith) (omega arith))

  mended_told : bit_or even_lost beyond_lost ≡ 0 → (parity ≡ 0 → ⊥) → Decides shape sums (Mended (ones parity))
  mended_told = rw (some-is, parity-is, over-is) (mended_decides shape sums (omega arith) (omega arith))

pub returns-then-even-beyond-ne0 : goal.returns-then-even-beyond-ne0
returns-then-even-beyond-ne0 c =
    lost_told c.args.shape _ c.any.ensures c.odd-parity.ensures c.above.ensures (omega arith) (omega arith) (λ e. omega arith)

pub returns-then-parity-eq0 : goal.returns-then-parity-eq0
returns-then-parity-eq0 c =
    clean_told c.args.shape _ c.any.ensures c.odd-parity.ensures c.above.ensures (omega arith) (omega arith) (omega arith) (omega arith)

pub returns : goal.returns
returns c =
    mended_told c.args.shape _ c.any.ensures c.odd-parity.ensures c.above.ensures (omega arith) (omega arith) (omega arith) (λ e. omega arith)
