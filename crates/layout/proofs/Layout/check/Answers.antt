-- `layout::Layout::check` meets its contract, rung by rung. Assumes nothing.
use mathlib.Core.Path.{◌≡◌}
use native.Mathlib.Omega.{arith}
use Rattle.std.proofs.lemmas.Grind.{common_steps}
use Rattle.refusal.proofs.Answered.{passed_on}
use Rattle.layout.specs.Refusal.{layout_refusal}
use Rattle.layout.proofs.Ladder.{no_blocks}
use Rattle.layout.proofs.Shapes.{past_shape}
use Rattle.layout.proofs.Layout.check.Goals as goal

pub returns-in_err-try_from : goal.returns-in_err-try_from
unfolding layout_refusal
returns-in_err-try_from c =
    let e = c.in_err-try_from.ensures in
    rw (passed_on c.from_residual.ensures.1, e.0) (grind (arith, common_steps))

pub returns-then-not-contains : goal.returns-then-not-contains
returns-then-not-contains c =
    let passed = past_shape c.args.self c.in_ok-try_from.field-0 (grind (arith, c.in_ok-try_from.ensures)) in
    rw passed (grind (arith, common_steps))

pub returns-then-not-contains-2 : goal.returns-then-not-contains-2
returns-then-not-contains-2 c =
    let some : c.args.self.s ≡ 0 → ⊥ = grind (arith, common_steps) in
    let passed = past_shape c.args.self c.in_ok-try_from.field-0 (grind (arith, c.in_ok-try_from.ensures)) in
    rw (passed, no_blocks c.args.self.s c.args.self.g some, ← c.blocks-2.ensures) (grind (arith, common_steps))

pub returns : goal.returns
returns c =
    let some : c.args.self.s ≡ 0 → ⊥ = grind (arith, common_steps) in
    let passed = past_shape c.args.self c.in_ok-try_from.field-0 (grind (arith, c.in_ok-try_from.ensures)) in
    rw (passed, no_blocks c.args.self.s c.args.self.g some, ← c.blocks-2.ensures) (grind (arith, common_steps))
