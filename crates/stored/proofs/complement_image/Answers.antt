-- `stored::complement_image` meets its contract. The loop's invariant: the groups before the place are done. Assumes nothing.
use Prim.Native.Nat.{ℕ, ◌+◌, ◌-◌}
use mathlib.Core.Path.{◌≡◌, sym, ◌∙◌}
use native.Mathlib.Omega.{arith}
use Rattle.std.specs.Prelude.{Result, Bool, false}
use Rattle.std.specs.Result.{is_err}
use Rattle.refusal.proofs.Answered.{is_err_some, is_ok_none}
use Rattle.refusal.specs.declared.Refusal.{Refusal}
use Rattle.layout.specs.declared.Layout.{Layout}
use Rattle.layout.specs.Layout.{group_words}
use Rattle.layout.specs.Refusal.{image_refusal, ChecksImage}
use Rattle.stored.proofs.Groups.{none_done, group_done, group_inside, image_done, image_stays}
use Rattle.stored.proofs.complement_image.Goals as goal

-- an image whose answer is no refusal fits its layout
accepted : (answer : Result (Unit {0}) Refusal) {refused : Bool} (len : ℕ) (layout : Layout) → ChecksImage len layout answer → refused ≡ is_err answer
    → refused ≡ false
    → image_refusal len layout ≡ 0
accepted answer len layout checked is none = sym checked ∙ is_ok_none answer (sym is ∙ none)

-- a part of n words
part : (at n : ℕ) → at + n - at ≡ n
part at n = omega arith

pub returns-then-is_err : goal.returns-then-is_err
returns-then-is_err c =
    image_stays _ _ _ c.check_image.ensures (is_err_some c.check_image.result (sym c.is_err.ensures.value ∙ c.if-is_err.true))

pub nonzero_div-group : goal.nonzero_div-group
nonzero_div-group c =
    let passed = accepted c.check_image.result _ _ c.check_image.ensures c.is_err.ensures.value c.if-is_err.false in
    rw c.group_words-group.ensures (none_done c.args.image.now c.args.layout passed).some

pub loop-at-init : goal.loop-at-init
loop-at-init c =
    let passed = accepted c.check_image.result _ _ c.check_image.ensures c.is_err.ensures.value c.if-is_err.false in
    rw c.group_words-group.ensures (none_done c.args.image.now c.args.layout passed)

pub slice_bounds-complement_words-end : goal.slice_bounds-complement_words-end
slice_bounds-complement_words-end c =
    omega (arith, group_inside _ _ _ c.loop-at.invariant c.loop-at-test.true, c.loop-at.invariant.fits, c.loop-at.auto.image)

pub loop-at-preserved : goal.loop-at-preserved
loop-at-preserved c =
    group_done _ _ _ c.loop-at.invariant c.loop-at-test.true (part _ _) c.complement_words.ensures

pub returns-else-is_err : goal.returns-else-is_err
returns-else-is_err c =
    let passed = accepted c.check_image.result _ _ c.check_image.ensures c.is_err.ensures.value c.if-is_err.false in
    image_done c.args.image.now c.args.layout passed {at = c.loop-at.at} (rw (← c.group_words-group.ensures) c.loop-at.invariant) c.loop-at-test.false

pub returns-else-is_err-2 : goal.returns-else-is_err-2
returns-else-is_err-2 c =
    let passed = accepted c.check_image.result _ _ c.check_image.ensures c.is_err.ensures.value c.if-is_err.false in
    let last = group_done _ _ _ c.loop-at.invariant c.loop-at-test.true (part _ _) c.complement_words.ensures in
    image_done c.args.image.now c.args.layout passed {at = c.loop-at.at + group_words c.args.layout} (rw (← c.group_words-group.ensures) last) (omega arith)
