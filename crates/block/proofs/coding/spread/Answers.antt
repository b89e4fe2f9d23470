-- `block::coding::spread` meets its contract. The loop's invariant: the words passed are in their rows, and zero stands elsewhere.
-- Assumes nothing.
use Prim.Native.Nat.{ℕ, ◌≤◌, ◌<◌, ◌-◌}
use mathlib.Core.List.{List}
use mathlib.Core.Path.{◌≡◌, sym, ap, ◌∙◌}
use native.Mathlib.Numerals.{add-one}
use native.Mathlib.Omega.{arith}
use lib.ListN.{length, get_or, set, get_or-eq_default}
use lib.Seq.{set-get_or}
use Rattle.ground.proofs.Stores.{stores_miss, stores_more}
use Rattle.ground.specs.Stores.{stores}
use Rattle.lane.specs.Rows.{Rising}
use Rattle.block.specs.Block.{blank}
use Rattle.block.specs.Inner.{Listed}
use Rattle.block.proofs.Data.{blank_zero}
use Rattle.block.proofs.Listed.{listed, rising}
use Rattle.ground.proofs.Smaller.{least_of}
use Rattle.std.proofs.lemmas.Slice.Zip.{zip_turn, zip_end}
use Rattle.std.proofs.Common.{rules}
use Rattle.std.proofs.lemmas.List.{length_push}
use Rattle.block.proofs.coding.spread.Goals as goal

-- words that are missing are zero, as their rows are already
missing : (rows list : List ℕ) (n : ℕ) → Listed 72 rows → Rising rows → n ≤ length rows → (n < length rows → n ≡ length list)
    → stores blank (λ j. get_or rows j 0 - 1) (λ j. get_or list j 0) n ≡ stores blank (λ j. get_or rows j 0 - 1) (λ j. get_or list j 0) (length rows)
missing rows list n rows_in rows-up fits all =
    stores_more blank (λ j. get_or rows j 0 - 1) (λ j. get_or list j 0) n (length rows) fits
    (λ k h g.
    let f : ℕ → ℕ = λ j. get_or rows j 0 - 1 in
    let v : ℕ → ℕ = λ j. get_or list j 0 in
    let none : v k ≡ 0 = get_or-eq_default list 0 {n = k} (omega (arith, all (omega arith))) in
    let free : get_or (stores blank f v k) (f k) 0 ≡ 0
    = stores_miss blank f v (f k) k (λ j l e. omega (arith, rows-up j k l g, (rows_in j (omega arith)).0)) ∙ blank_zero (f k) in
    ap (set (stores blank f v k) (f k)) (none ∙ sym free) ∙ set-get_or (stores blank f v k) (f k) 0)

pub loop-row-init : goal.loop-row-init
unfolding stores
loop-row-init c = c.requires.2

pub overflow_sub-block : goal.overflow_sub-block
overflow_sub-block c =
    let t = zip_turn c.args.rows.now c.args.list.now c.loop-row.yielded c.into_iter-row-iterator.result c.loop-row.row-iterator
    c.next.new.self c.next.result (search rules) (search rules) c.loop-row.yielded_by _ c.in-Some.is c.next.ensures.steps in
    omega (arith, listed 72 _ c.requires.0 (length c.loop-row.yielded) t.0, t.2 0)

pub bounds-block-from : goal.bounds-block-from
bounds-block-from c =
    let t = zip_turn c.args.rows.now c.args.list.now c.loop-row.yielded c.into_iter-row-iterator.result c.loop-row.row-iterator
    c.next.new.self c.next.result (search rules) (search rules) c.loop-row.yielded_by _ c.in-Some.is c.next.ensures.steps in
    omega (arith, listed 72 _ c.requires.0 (length c.loop-row.yielded) t.0, t.2 0)

pub loop-row-preserved : goal.loop-row-preserved
unfolding stores
loop-row-preserved c =
    let t = zip_turn c.args.rows.now c.args.list.now c.loop-row.yielded c.into_iter-row-iterator.result c.loop-row.row-iterator
    c.next.new.self c.next.result (search rules) (search rules) c.loop-row.yielded_by _ c.in-Some.is c.next.ensures.steps in
    rw (length_push, add-one, c.loop-row.invariant, c.from.ensures, t.2 0, t.3 0)

pub returns : goal.returns
returns c =
    let args = c.args in
    let pre = c.requires in
    let e = zip_end c.args.rows.now c.args.list.now c.loop-row.yielded c.into_iter-row-iterator.result c.loop-row.row-iterator
    c.next.new.self c.next.result (search rules) (search rules) c.loop-row.yielded_by c.in-None.is c.next.ensures.steps in
    let l = least_of _ _ _ e in
    c.loop-row.invariant ∙ missing args.rows.now args.list.now _ (listed 72 _ pre.0) (rising _ pre.1) l.first l.either
