-- The shape with a number, as its conversion tells it. Assumes nothing.
use Prim.Native.Nat.{ℕ}
use mathlib.Core.Path.{◌≡◌, refl, sym}
use native.Mathlib.Omega.{arith}
use borrow.Author.Tests.{eq-eqb, ne_eqb}
use Rattle.std.specs.Prelude.{Result, Ok, Err}
use Rattle.std.specs.Result.{result_unwrap_or}
use Rattle.refusal.specs.declared.Refusal.{Refusal}
use Rattle.shape.specs.declared.Shape.{Shape}
use Rattle.shape.specs.declared.Shape.TheVariants.{One, Two}
use Rattle.shape.specs.Shape.{shape_number, NumbersShape}
use Rattle.ground.specs.Ladder.{◌then◌}
use Rattle.layout.specs.declared.Layout.{Layout}
use Rattle.layout.specs.Layout.{shape_numbered}
use Rattle.layout.specs.Refusal.{interleave_rung, groups_rung, layout_refusal}

pub shape_one : (number : ℕ) → number ≡ 1 → shape_numbered number ≡ One
unfolding shape_numbered
shape_one number e = rw (eq-eqb number 1 e)

pub shape_two : (number : ℕ) → (number ≡ 1 → ⊥) → shape_numbered number ≡ Two
unfolding shape_numbered
shape_two number ne = rw (ne_eqb number 1 ne)

-- the shape that a number is converted to, or 2 where it is no shape's
pub shape_or_two : (number : ℕ) (answer : Result Shape Refusal) → NumbersShape number answer → result_unwrap_or answer Two ≡ shape_numbered number
shape_or_two number (Ok One) e = sym (shape_one number (sym e))
shape_or_two number (Ok Two) e = sym (shape_two number (λ one. omega (arith, e)))
shape_or_two number (Err refusal) e = sym (shape_two number e.1)

-- a layout of a shape is refused for its interleave or its groups
pub past_shape : (layout : Layout) (shape : Shape) → shape_number shape ≡ layout.shape
    → layout_refusal layout ≡ interleave_rung layout then groups_rung layout
unfolding layout_refusal
past_shape layout One e = rw (← e) refl
past_shape layout Two e = rw (← e) refl
