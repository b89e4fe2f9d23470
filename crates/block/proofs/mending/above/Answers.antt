-- `block::mending::above` meets its contract in either shape. Assumes nothing.
use Prim.Native.Nat.{ℕ}
use mathlib.Core.Path.{◌≡◌, sym, ap, ◌∙◌}
use mathlib.Core.List.{List}
use Rattle.shape.specs.declared.Shape.{Shape}
use Rattle.shape.specs.Shape.{before}
use Rattle.block.specs.Inner.{above_of}
use Rattle.block.proofs.Lanes.{above_one, above_two}
use Rattle.block.proofs.mending.above.Goals as goal

-- by the shape that was found
by_shape : {shape known : Shape} (sums : List ℕ) → shape ≡ known → above_of (before known) 7 sums ≡ above_of (before shape) 7 sums
by_shape sums e = ap (λ (s : Shape). above_of (before s) 7 sums) (sym e)

pub returns-in-One : goal.returns-in-One
returns-in-One c = sym (above_one _) ∙ by_shape _ c.in-One.is

pub returns-in-Two : goal.returns-in-Two
returns-in-Two c = sym (above_two _) ∙ by_shape _ c.in-Two.is
