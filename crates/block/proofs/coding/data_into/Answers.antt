-- `block::coding::data_into` meets its contract: the front of its table is that of the shape's data rows. Assumes nothing.
use Prim.Native.Nat.{ℕ, ◌+◌, ◌*◌, ◌≤◌, ◌<◌}
use mathlib.Core.Path.{◌≡◌, refl, ap}
use native.Mathlib.Omega.{arith}
use lib.ListN.{length, take}
use Rattle.shape.specs.declared.Shape.{Shape}
use Rattle.shape.specs.declared.Shape.TheVariants.{One, Two}
use Rattle.shape.specs.Shape.{before, words}
use Rattle.sums.proofs.Apart.{before_few}
use Rattle.block.proofs.DataTables.{data_two, data_front, table_there, table_copied}
use Rattle.block.proofs.coding.data_into.Goals as goal

few_words : (shape : Shape) → words shape ≤ 64
few_words One = omega arith
few_words Two = omega arith

front_long : (shape : Shape) → words shape ≡ length (take (words shape) data_two)
front_long One = refl
front_long Two = refl

pub overflow_mul-rows_before : goal.overflow_mul-rows_before
overflow_mul-rows_before c =
    let few : c.rows_before.result * c.args.site.s ≤ 72 * c.args.site.s = let args = c.args in
    let r = ap (λ (b : ℕ). b * args.site.s) c.rows_before.ensures in
    omega (arith, r, before_few args.site.s 0 args.site.shape) in
    omega (arith, few)

pub overflow_add-first : goal.overflow_add-first
overflow_add-first c =
    let few : c.rows_before.result * c.args.site.s ≤ 72 * c.args.site.s = let args = c.args in
    let r = ap (λ (b : ℕ). b * args.site.s) c.rows_before.ensures in
    omega (arith, r, before_few args.site.s 0 args.site.shape) in
    omega (arith, few)

pub returns-then-words-first : goal.returns-then-words-first
returns-then-words-first c =
    let r = ap (λ (b : ℕ). b * c.args.site.s) c.rows_before.ensures in
    record { there = λ h. absurd (omega (arith, r, c.if-words-first.true)); missing = λ no. refl }

pub slice_bounds-table-end : goal.slice_bounds-table-end
slice_bounds-table-end c = omega (arith, c.words.ensures, few_words c.args.site.shape)

pub slice_bounds-copy_rows-end : goal.slice_bounds-copy_rows-end
slice_bounds-copy_rows-end c = rw c.words.ensures (front_long c.args.site.shape)

pub copy_rows-requires : goal.copy_rows-requires
copy_rows-requires c =
    let front : take c.words.result data_two ≡ take (words c.args.site.shape) data_two = ap (λ (n : ℕ). take n data_two) c.words.ensures in
    let room : let args = c.args in args.site.at + before args.site.shape * args.site.s < length args.words.now = let args = c.args in
    let r = ap (λ (b : ℕ). b * args.site.s) c.rows_before.ensures in
    omega (arith, r, c.if-words-first.false) in
    let args = c.args in
    (omega arith, omega arith, table_there (data_front args.site.shape) args.words.now args.site.at args.site.s room _ front)

pub returns : goal.returns
returns c =
    let front : take c.words.result data_two ≡ take (words c.args.site.shape) data_two = ap (λ (n : ℕ). take n data_two) c.words.ensures in
    let room : let args = c.args in args.site.at + before args.site.shape * args.site.s < length args.words.now = let args = c.args in
    let r = ap (λ (b : ℕ). b * args.site.s) c.rows_before.ensures in
    omega (arith, r, c.if-words-first.false) in
    let args = c.args in
    table_copied (data_front args.site.shape) args.words.now args.site.at args.site.s room _ args.buffer.now
    c.copy_rows.ensures front
