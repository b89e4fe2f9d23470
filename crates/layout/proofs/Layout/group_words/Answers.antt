-- `layout::Layout::group_words` meets its contract: the product of the rows and the interleave is small. Assumes nothing.
use Prim.Native.Nat.{ℕ, ◌*◌, ◌≤◌}
use mathlib.Core.Path.{◌≡◌, ap, ◌∙◌}
use native.Mathlib.Nat.{mul-le-mul_right}
use native.Mathlib.Omega.{arith}
use Rattle.shape.specs.Shape.{rows}
use Rattle.shape.proofs.Sizes.{rows_fit}
use Rattle.layout.specs.Layout.{shape_of, rows_of}
use Rattle.layout.proofs.Layout.group_words.Goals as goal

-- a shape's rows times any number of 32 bits is small
pub overflow_mul-result : goal.overflow_mul-result
overflow_mul-result c =
    let height : c.rows.result ≡ rows_of c.args.self = c.rows.ensures ∙ ap rows c.shape_of.ensures in
    let self = c.args.self in
    let times : (n : ℕ) → rows_of self * n ≤ 72 * n = λ n. mul-le-mul_right n (rows_fit (shape_of self)) in
    rw height (omega (arith, times self.s, times self.g))

pub returns : goal.returns
returns c =
    let height : c.rows.result ≡ rows_of c.args.self = c.rows.ensures ∙ ap rows c.shape_of.ensures in
    ap (λ (n : ℕ). n * c.args.self.s) height
