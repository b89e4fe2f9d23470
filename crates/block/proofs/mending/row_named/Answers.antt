-- `block::mending::row_named` meets its contract. The loop's invariant: the sum is that of the digits passed. Assumes nothing.
use Prim.Native.Nat.{ℕ, ◌<◌}
use mathlib.Core.List.{List}
use mathlib.Core.Path.{◌≡◌, refl, ap, ◌∙◌}
use native.Mathlib.Numerals.{add-one}
use native.Mathlib.Omega.{arith}
use lib.ListN.{get_or}
use Rattle.lane.specs.Bit.{bit}
use borrow.Author.Tests.{eq-eqb, ne_eqb}
use Rattle.std.proofs.lemmas.List.{length-take, get_or-take}
use Rattle.sums.specs.Words.{number}
use Rattle.sums.specs.Sums.{sum_in}
use Rattle.sums.proofs.WordBits.{digit_one, digit_zero, number_lt}
use Rattle.block.proofs.Weights.{weight}
use Rattle.block.proofs.mending.row_named.Goals.{then-word-i-eq1, else-word-i-eq1}
use Rattle.block.proofs.mending.row_named.Goals as goal

-- the number that all seven digits make is the lane's sum
all_digits : (sums : List ℕ) (i : ℕ) {k sum : ℕ} → sum ≡ number k (λ j. bit i (get_or sums j 0)) → k ≡ 7 → sum ≡ sum_in sums i
all_digits sums i e h = e ∙ ap (λ (k : ℕ). number k (λ j. bit i (get_or sums j 0))) h

pub loop-k-init : goal.loop-k-init
unfolding number
loop-k-init c = refl

pub overflow_add-sum : goal.overflow_add-sum
overflow_add-sum c =
    let words = c.args.sums.now.words in
    let k = c.loop-k.k in
    let digit = weight k (omega (arith, length-take 7 words)) in
    omega (arith, digit, number_lt k (λ j. bit c.args.i (get_or words j 0)))

pub loop-k-preserved : goal.loop-k-preserved
unfolding number
loop-k-preserved c =
    let args = c.args in
    let words = args.sums.now.words in
    let k = c.loop-k.k in
    let few : k < 7 = omega (arith, length-take 7 words) in
    let word = get_or words k 0 in
    rw add-one
    (elim c.if-word-i-eq1.branch [
      | then-word-i-eq1 w ↦
          rw (w.sum-is, digit_one args.i word (rw (get_or-take 7 words k 0 few) at w.if-word-i-eq1.true), c.loop-k.invariant, (weight k few).0)
      | else-word-i-eq1 w ↦
          rw (w.sum-is, digit_zero args.i word (rw (get_or-take 7 words k 0 few) at w.if-word-i-eq1.false), c.loop-k.invariant) (omega arith)
    ])

pub returns-then-sum-eq0 : goal.returns-then-sum-eq0
returns-then-sum-eq0 c =
    let words = c.args.sums.now.words in
    let whole = all_digits words c.args.i c.loop-k.invariant (omega (arith, length-take 7 words)) in
    rw (eq-eqb (sum_in words c.args.i) 0 (omega arith))

pub returns-else-sum-eq0 : goal.returns-else-sum-eq0
returns-else-sum-eq0 c =
    let words = c.args.sums.now.words in
    let whole = all_digits words c.args.i c.loop-k.invariant (omega (arith, length-take 7 words)) in
    rw (ne_eqb (sum_in words c.args.i) 0 (λ e. omega arith)) whole
