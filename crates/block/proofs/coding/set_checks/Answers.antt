-- `block::coding::set_checks` meets its contract. The loop's invariant: the check rows passed are set. Assumes nothing.
use Prim.Native.Nat.{◌<◌, ◌-◌, ◌^◌}
use mathlib.Core.Path.{◌≡◌, refl, ap, ◌∙◌}
use native.Mathlib.Numerals.{add-one}
use native.Mathlib.Omega.{arith}
use lib.ListN.{get_or}
use Rattle.std.proofs.lemmas.List.{length-take, get_or-take}
use Rattle.block.specs.Inner.{with_checks}
use Rattle.block.proofs.Weights.{weight}
use Rattle.ground.specs.Stores.{stores}
use Rattle.block.proofs.coding.set_checks.Goals as goal

pub loop-k-init : goal.loop-k-init
unfolding stores
loop-k-init c = refl

pub overflow_sub-block : goal.overflow_sub-block
overflow_sub-block c =
    omega (arith, weight c.loop-k.k (omega (arith, length-take 7 c.args.sums.now.words)))

pub bounds-block-k : goal.bounds-block-k
bounds-block-k c =
    omega (arith, weight c.loop-k.k (omega (arith, length-take 7 c.args.sums.now.words)))

pub loop-k-preserved : goal.loop-k-preserved
unfolding stores
loop-k-preserved c =
    let words = c.args.sums.now.words in
    let k = c.loop-k.k in
    let few : k < 7 = omega (arith, length-take 7 words) in
    rw (add-one, c.loop-k.invariant, (weight k few).0, get_or-take 7 words k 0 few)

pub returns : goal.returns
unfolding with_checks
returns c =
    let args = c.args in
    let end : c.loop-k.k ≡ 7 = omega (arith, length-take 7 args.sums.now.words) in
    c.loop-k.invariant ∙ ap (stores args.block.now (λ j. 2 ^ j - 1) (λ j. get_or args.sums.now.words j 0)) end
