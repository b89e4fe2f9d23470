-- `layout::Layout::locate` meets its contract: the ladder, and where it is passed the index of the block's first row. Assumes nothing.
use Prim.Native.Nat.{ℕ, ◌*◌, ◌+◌, ◌-◌, ◌%◌, ◌≤◌, ◌<◌}
use mathlib.Core.Path.{◌≡◌, refl, sym, ◌∙◌}
use borrow.Author.Tests.{le-leb}
use native.Mathlib.Nat.{mod-le, mul-le-mul}
use native.Mathlib.Omega.{arith}
use Rattle.shape.specs.declared.Shape.{Shape}
use Rattle.shape.specs.Shape.{rows}
use Rattle.shape.proofs.Sizes.{rows_fit}
use Rattle.ground.proofs.Ladder.{then_first}
use Rattle.refusal.proofs.Answered.{number_some, passed_on}
use Rattle.layout.specs.declared.Layout.{Layout}
use Rattle.layout.specs.Layout.{blocks}
use Rattle.layout.specs.Refusal.{image_refusal, block_refusal}
use Rattle.layout.proofs.Ladder.{geometry, image_layout, block_accepted}
use Rattle.layout.proofs.Sites.{locates_ok, locates_err}
use Rattle.layout.proofs.Index.{first_row}
use Rattle.layout.proofs.Layout.locate.Goals as goal
use Rattle.layout.proofs.Layout.locate.Goals.{then-s-eq1, else-s-eq1}

-- the rows of the blocks of an image that is accepted are few words
few_words : (len : ℕ) (layout : Layout) (block within : ℕ) (shape : Shape) {height : ℕ} → image_refusal len layout ≡ 0 → block < blocks layout
    → height ≡ rows shape
    → height * (block - within) + block ≤ 73 * 4096
few_words len layout block within shape {height} passed inside same =
    let ok = geometry layout (image_layout layout len passed) in
    let tall : height ≤ 72 = rw same (rows_fit shape) in
    let few : block - within ≤ 4096 = omega (arith, ok.n_last) in
    omega (arith, mul-le-mul tall few, ok.n_last)

-- without interleave the place in the group is 0
alone : (s block : ℕ) → s ≡ 1 → 0 ≡ block % s
alone s block one = rw one (omega arith)

pub returns-in_err-check_image : goal.returns-in_err-check_image
unfolding block_refusal
returns-in_err-check_image c =
    let e = c.in_err-check_image.ensures in
    rw (passed_on c.from_residual.ensures.1)
    (locates_err _ _ _ _ (rw (← e, then_first _ _ (number_some c.in_err-check_image.field-0.0)) refl))

pub returns-then-blocks-block : goal.returns-then-blocks-block
unfolding block_refusal
returns-then-blocks-block c =
    locates_err _ _ _ _ (rw (← c.in_ok-check_image.ensures, le-leb (blocks c.args.self) c.args.block (omega arith)) refl)

pub overflow_mul-result : goal.overflow_mul-result
overflow_mul-result c =
    omega (arith, few_words _ _ c.args.block c.if-s-eq1.within c.shape_of-shape.result (sym c.in_ok-check_image.ensures) (omega arith) c.rows-height.ensures)

pub overflow_add-result : goal.overflow_add-result
overflow_add-result c =
    let within : c.if-s-eq1.within ≡ c.args.block % c.args.self.s =
    elim c.if-s-eq1.branch [ then-s-eq1 w ↦ w.within-is ∙ alone _ _ w.if-s-eq1.true | else-s-eq1 w ↦ w.within-is ] in
    grind (
      arith,
      few_words _ _ c.args.block c.if-s-eq1.within c.shape_of-shape.result (sym c.in_ok-check_image.ensures) (omega arith) c.rows-height.ensures,
      mod-le c.args.block c.args.self.s,
    )

pub returns : goal.returns
returns c =
    let within : c.if-s-eq1.within ≡ c.args.block % c.args.self.s =
    elim c.if-s-eq1.branch [ then-s-eq1 w ↦ w.within-is ∙ alone _ _ w.if-s-eq1.true | else-s-eq1 w ↦ w.within-is ] in
    let first = first_row (rows c.shape_of-shape.result) c.args.self.s c.args.block in
    locates_ok _ _ _ (record {
      passed = block_accepted _ _ _ (sym c.in_ok-check_image.ensures) (omega arith);
      same_shape = c.shape_of-shape.ensures;
      first = rw (sym c.shape_of-shape.ensures) (grind (arith, within, c.rows-height.ensures, first));
      step = refl;
    })
