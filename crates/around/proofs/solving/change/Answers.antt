-- `around::solving::change` meets its contract, digit by digit. Assumes nothing.
use mathlib.Core.Path.{◌≡◌, refl, ap, ◌∙◌}
use native.Mathlib.Numerals.{add-one}
use native.Mathlib.Omega.{arith}
use Rattle.ground.specs.Stores.{stores}
use Rattle.sums.proofs.WordBits.{digit_one, digit_zero}
use Rattle.around.proofs.Digits.{changed_to, change_one, change_none, changed_all}
use Rattle.around.proofs.solving.change.Goals.{then-mark-k-eq1, else-mark-k-eq1}
use Rattle.around.proofs.solving.change.Goals as goal

pub loop-k-init : goal.loop-k-init
unfolding stores
loop-k-init c = refl

pub loop-k-preserved : goal.loop-k-preserved
loop-k-preserved c =
    let args = c.args in
    let loop = c.loop-k in
    rw add-one
    (elim c.if-mark-k-eq1.branch [
      | then-mark-k-eq1 w ↦ rw (w.word-items-is, loop.invariant)
          (change_one args.mark args.lanes args.sums.now.words loop.k (digit_one loop.k args.mark w.if-mark-k-eq1.true))
      | else-mark-k-eq1 w ↦ rw (w.word-items-is, loop.invariant)
          (change_none args.mark args.lanes args.sums.now.words loop.k (digit_zero loop.k args.mark w.if-mark-k-eq1.false))
    ])

pub returns : goal.returns
returns c =
    let args = c.args in
    let end : c.loop-k.k ≡ 8 = omega arith in
    c.loop-k.invariant ∙ ap (changed_to args.mark args.lanes args.sums.now.words) end
    ∙ changed_all args.mark args.lanes args.sums.now.words (omega arith)
