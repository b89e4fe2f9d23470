-- `sums::sums_apart` meets its contract. The loop's invariant: the words are those of the rows passed. Assumes nothing.
use Prim.Native.Nat.{ℕ, ◌+◌, ◌*◌, ◌/◌, ◌≤◌, ◌<◌}
use mathlib.Core.Path.{◌≡◌, ap, ◌∙◌}
use native.Mathlib.Omega.{arith}
use Rattle.shape.specs.declared.Shape.{Shape}
use Rattle.shape.specs.Shape.{before, rows}
use Rattle.sums.proofs.StoredSums.{code_sums}
use Rattle.sums.proofs.Lying.{length_lying}
use Rattle.sums.proofs.Apart.{few_turns, none_turned, turn_more, apart_sums, within, before_few}
use Rattle.sums.proofs.Doubt.{looks, misses}
use Rattle.sums.proofs.sums_apart.Goals as goal

-- while a turn is left, its fourth row is no farther than the last row
turn_fits : (s q : ℕ) (shape : Shape) {first : ℕ} → first ≡ before shape → q < rows shape / 4 → 4 * q * s + 3 * s ≤ first * s
turn_fits s q shape e = rw e (within s q shape)

pub overflow_mul-rows_before : goal.overflow_mul-rows_before
overflow_mul-rows_before c = rw c.rows_before.ensures (omega (arith, before_few c.args.site.s 0 c.args.site.shape))

pub overflow_add-i : goal.overflow_add-i
overflow_add-i c = rw c.rows_before.ensures (omega (arith, before_few c.args.site.s 0 c.args.site.shape))

pub returns-then-words-i : goal.returns-then-words-i
returns-then-words-i c = misses _ _ _ _ _ (rw (← c.rows_before.ensures) (omega arith))

pub loop-q-init : goal.loop-q-init
loop-q-init c = (ap (λ (n : ℕ). n / 4) c.rows-turns.ensures, omega arith, none_turned)

pub offset_bounds-words-i : goal.offset_bounds-words-i
offset_bounds-words-i c = omega (arith, turn_fits c.args.site.s c.loop-q.q c.args.site.shape c.rows_before.ensures (omega arith))

pub bounds-words-i : goal.bounds-words-i
bounds-words-i c = omega (arith, turn_fits c.args.site.s c.loop-q.q c.args.site.shape c.rows_before.ensures (omega arith))

pub overflow_add-ending_10 : goal.overflow_add-ending_10
overflow_add-ending_10 c = omega (arith, turn_fits c.args.site.s c.loop-q.q c.args.site.shape c.rows_before.ensures (omega arith))

pub offset_bounds-words-i-in-loop-q : goal.offset_bounds-words-i-in-loop-q
offset_bounds-words-i-in-loop-q c = omega (arith, turn_fits c.args.site.s c.loop-q.q c.args.site.shape c.rows_before.ensures (omega arith))

pub bounds-words-i-in-loop-q : goal.bounds-words-i-in-loop-q
bounds-words-i-in-loop-q c = omega (arith, turn_fits c.args.site.s c.loop-q.q c.args.site.shape c.rows_before.ensures (omega arith))

pub overflow_add-ending_11 : goal.overflow_add-ending_11
overflow_add-ending_11 c = omega (arith, turn_fits c.args.site.s c.loop-q.q c.args.site.shape c.rows_before.ensures (omega arith))

pub offset_bounds-words-i-in-loop-q-2 : goal.offset_bounds-words-i-in-loop-q-2
offset_bounds-words-i-in-loop-q-2 c = omega (arith, turn_fits c.args.site.s c.loop-q.q c.args.site.shape c.rows_before.ensures (omega arith))

pub bounds-words-i-in-loop-q-2 : goal.bounds-words-i-in-loop-q-2
bounds-words-i-in-loop-q-2 c = omega (arith, turn_fits c.args.site.s c.loop-q.q c.args.site.shape c.rows_before.ensures (omega arith))

pub bounds-upto-q : goal.bounds-upto-q
bounds-upto-q c = omega (arith, few_turns c.args.site.shape)

pub overflow_add-ending_00 : goal.overflow_add-ending_00
overflow_add-ending_00 c = omega (arith, turn_fits c.args.site.s c.loop-q.q c.args.site.shape c.rows_before.ensures (omega arith))

pub offset_bounds-words-i-in-loop-q-3 : goal.offset_bounds-words-i-in-loop-q-3
offset_bounds-words-i-in-loop-q-3 c = omega (arith, turn_fits c.args.site.s c.loop-q.q c.args.site.shape c.rows_before.ensures (omega arith))

pub bounds-words-i-in-loop-q-3 : goal.bounds-words-i-in-loop-q-3
bounds-words-i-in-loop-q-3 c = omega (arith, turn_fits c.args.site.s c.loop-q.q c.args.site.shape c.rows_before.ensures (omega arith))

pub overflow_add-i-in-loop-q : goal.overflow_add-i-in-loop-q
overflow_add-i-in-loop-q c = omega (arith, turn_fits c.args.site.s c.loop-q.q c.args.site.shape c.rows_before.ensures (omega arith))

pub loop-q-preserved : goal.loop-q-preserved
loop-q-preserved c = let inv = c.loop-q.invariant in (inv.0, omega arith, turn_more inv.2)

pub returns : goal.returns
returns c =
    let args = c.args in
    let last : c.loop-q.q ≡ rows args.site.shape / 4 = omega arith in
    let are = apart_sums (λ k. omega (arith, c.type_inv.words k)) args.site.shape last c.loop-q.invariant.2
    c.high_digits.ensures in
    looks _ _ _ _ (rw (← c.rows_before.ensures) (omega arith))
    (c.eight.ensures ∙ code_sums args.site.shape _ (length_lying args.site.shape args.words.now args.site.at args.site.s) are) c.keep.ensures
