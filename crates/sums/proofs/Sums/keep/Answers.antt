-- `sums::Sums::keep` meets its contract: the words are kept where a lane is in doubt. Assumes nothing.
use mathlib.Core.Path.{sym}
use native.Mathlib.Omega.{arith}
use mathlib.Core.Path.{◌≡◌, refl}
use Rattle.ground.proofs.Choices.{refused_kept}
use Rattle.sums.specs.Sums.{any_of}
use Rattle.sums.proofs.Sums.keep.Goals as goal

pub returns-then-lanes-eq0 : goal.returns-then-lanes-eq0
returns-then-lanes-eq0 c =
    let none : any_of 8 c.args.self.words ≡ 0 = omega (arith, c.lanes.ensures) in
    rw none (refl, refl)

pub returns : goal.returns
returns c =
    let some : any_of 8 c.args.self.words ≡ 0 → ⊥ = λ e. omega (arith, c.lanes.ensures) in
    (sym (refused_kept _ _ _ some), sym (refused_kept _ _ _ some))
