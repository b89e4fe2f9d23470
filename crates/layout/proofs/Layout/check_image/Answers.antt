-- `layout::Layout::check_image` meets its contract: past the layout the product of rows and blocks is small. Assumes nothing.
use Prim.Native.Nat.{ℕ, ◌*◌, ◌≤◌}
use mathlib.Core.Path.{◌≡◌, refl, sym}
use native.Mathlib.Nat.{mul-le-mul}
use native.Mathlib.Omega.{arith}
use mathlib.Core.Bool.{not}
use lib.Dec.{eqb}
use Rattle.ground.specs.Ladder.{◌when◌else◌}
use Rattle.shape.specs.declared.Shape.{Shape}
use Rattle.shape.specs.Shape.{rows}
use Rattle.shape.proofs.Sizes.{rows_fit}
use Rattle.ground.proofs.Tests.{tests}
use Rattle.ground.proofs.Ladder.{then_first}
use Rattle.refusal.proofs.Answered.{number_some, passed_on}
use Rattle.layout.specs.declared.Layout.{Layout}
use Rattle.layout.specs.Layout.{shape_of, blocks}
use Rattle.layout.specs.Refusal.{layout_refusal, image_refusal}
use Rattle.layout.proofs.Ladder.{geometry}
use Rattle.layout.proofs.Layout.check_image.Goals as goal

-- past the layout's ladder an image is refused for its length alone
by_length : (len : ℕ) (layout : Layout) {shape : Shape} {height n : ℕ} → layout_refusal layout ≡ 0 → shape ≡ shape_of layout → height ≡ rows shape
    → n ≡ blocks layout → image_refusal len layout ≡ (4 when not (eqb len (height * n)) else 0)
unfolding image_refusal
by_length len layout passed shape height n = rw (height, shape, n, passed)

pub returns-in_err-check : goal.returns-in_err-check
unfolding image_refusal
returns-in_err-check c =
    let e = c.in_err-check.ensures in
    rw (passed_on c.from_residual.ensures.1, ← e, then_first _ _ (number_some c.in_err-check.field-0.0)) refl

pub overflow_mul-rows : goal.overflow_mul-rows
overflow_mul-rows c =
    let ok = geometry c.args.self (sym c.in_ok-check.ensures) in
    let few : c.blocks-2.result ≤ 4096 = omega (arith, ok.n_last) in
    let tall : c.rows.result ≤ 72 = rw c.rows.ensures (rows_fit c.shape_of.result) in
    omega (arith, mul-le-mul tall few)

pub returns-then-len-rows : goal.returns-then-len-rows
returns-then-len-rows c =
    rw (by_length c.args.len c.args.self (sym c.in_ok-check.ensures) c.shape_of.ensures c.rows.ensures c.blocks-2.ensures) (search tests)

pub returns : goal.returns
returns c =
    rw (by_length c.args.len c.args.self (sym c.in_ok-check.ensures) c.shape_of.ensures c.rows.ensures c.blocks-2.ensures) (search tests)
