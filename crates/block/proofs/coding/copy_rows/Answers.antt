-- `block::coding::copy_rows` meets its contract. The loop's invariant: the words passed are copied; past the buffer's end nothing is stored. Assumes nothing.
use Prim.Native.Nat.{ℕ, zero, suc, ◌+◌, ◌*◌, ◌≤◌, ◌<◌, ◌-◌}
use mathlib.Core.List.{List}
use mathlib.Core.Path.{◌≡◌, refl, ap, ◌∙◌}
use native.Mathlib.Nat.{suc-mul}
use native.Mathlib.Numerals.{add-one}
use native.Mathlib.Omega.{arith}
use lib.ListN.{length, get_or, take}
use lib.Seq.{set_out}
use Rattle.std.proofs.lemmas.List.{length-take, get_or-take}
use Rattle.ground.proofs.Stores.{length_stores, stores_more}
use Rattle.ground.specs.Stores.{stores}
use Rattle.ground.proofs.Smaller.{least_of}
use Rattle.block.proofs.coding.copy_rows.Goals as goal

-- p steps are one step more than those before the last
step_more : (p s : ℕ) → 1 ≤ p → p * s ≡ (p - 1) * s + s
step_more zero s h = absurd (omega arith)
step_more (suc j) s h = suc-mul j s ∙ ap (λ (k : ℕ). k * s + s) (let e : j ≡ suc j - 1 = omega arith in e)

-- the word of a row that is listed: it is there, and the code's index is its
word_there : (rows words : List ℕ) (at s n k p : ℕ)
    → ((j : ℕ) → j < length rows → (1 ≤ get_or rows j 0) × (at + (get_or rows j 0 - 1) * s < length words))
    → k < length (take n rows) → p ≡ get_or (take n rows) k 0
    → (at + p * s - s ≡ at + (get_or rows k 0 - 1) * s) × (s ≤ at + p * s) × (at + (get_or rows k 0 - 1) * s < length words)
word_there rows words at s n k p inside h p-is =
    let there = inside k (omega (arith, length-take n rows)) in
    let named : p ≡ get_or rows k 0 = p-is ∙ get_or-take n rows k 0 (omega (arith, length-take n rows)) in
    let step = step_more (get_or rows k 0) s there.0 in
    rw named (omega (arith, step), omega (arith, step), there.1)

pub loop-k-init : goal.loop-k-init
unfolding stores
loop-k-init c = refl

pub bounds-words-at : goal.bounds-words-at
bounds-words-at c =
    let args = c.args in
    omega (arith, word_there _ args.words.now args.at args.s _ c.loop-k.k _ c.requires.2 c.loop-k-test.true c.from.ensures)

pub loop-k-preserved : goal.loop-k-preserved
unfolding stores
loop-k-preserved c =
    let args = c.args in
    rw (add-one, c.loop-k.invariant, (word_there _ args.words.now args.at args.s _ c.loop-k.k _ c.requires.2 c.loop-k-test.true c.from.ensures).0)

pub returns : goal.returns
returns c =
    let args = c.args in
    let buffer = args.buffer.now in
    let v : ℕ → ℕ = λ j. get_or args.words.now (args.at + (get_or args.rows.now j 0 - 1) * args.s) 0 in
    let l = least_of _ _ _ c.least-n.ensures in
    let e : c.loop-k.k ≡ c.least-n.result = omega (arith, length-take c.least-n.result args.rows.now, l.first) in
    c.loop-k.invariant
    ∙ ap (stores buffer (λ j. j) v) e
    ∙ stores_more buffer (λ j. j) v c.least-n.result (length args.rows.now) l.first
    (λ k h g. set_out (stores buffer (λ j. j) v k) k (v k) (rw length_stores (omega (arith, l.either (omega arith)))))
