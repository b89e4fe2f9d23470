-- `block::mending::flip_named` meets its contract. The loop's invariant: the lanes that are not left are flipped. Assumes nothing.
use Prim.Native.Nat.{ℕ, ◌≤◌, ◌<◌, ◌^◌}
use mathlib.Core.Bool.{true}
use mathlib.Core.List.{List}
use mathlib.Core.Path.{◌≡◌, ap, ◌∙◌}
use native.Mathlib.Nat.{le_refl}
use native.Mathlib.Omega.{arith}
use lib.Count.{count_trailing_zeros}
use Rattle.lane.specs.Bit.{bit}
use Rattle.sums.specs.Sums.{sum_in}
use Rattle.block.specs.Inner.{row_named}
use Rattle.block.proofs.Flips.{trailing_set, clear_less, one_lane, named_there, done_but, none_done, all_done, next_done, next_within}
use Rattle.block.proofs.mending.flip_named.Goals as goal

-- the lowest lane left is one of the 32, and is left
lowest_left : {left : ℕ} → left < 2 ^ 32 → (left ≡ 0 → ⊥) → (count_trailing_zeros 32 left < 32) × (bit (count_trailing_zeros 32 left) left ≡ true)
lowest_left {left} = trailing_set 32 left

-- and the row that its sum names is one of the block's
row_there : (last : ℕ) (digits : List ℕ) (lanes : ℕ) {left p : ℕ}
    → (1 ≤ last) × (last ≤ 72) × ((i : ℕ) → i < 32 → bit i lanes ≡ true → sum_in digits i < last)
    → ((i : ℕ) → bit i left ≡ true → bit i lanes ≡ true)
    → left < 2 ^ 32 → (left ≡ 0 → ⊥) → p ≡ row_named last (sum_in digits (count_trailing_zeros 32 left)) → (1 ≤ p) × (p ≤ 72)
row_there last digits lanes named within fits some p-is =
    let low = lowest_left fits some in
    rw p-is (named_there _ _ named.0 named.1 (named.2 _ low.0 (within _ low.1)))

pub loop-left-init : goal.loop-left-init
loop-left-init c = (none_done c.args.last c.args.sums.now.words c.args.block.now c.args.lanes, λ i e. e, le_refl _)

pub row_named-p-requires : goal.row_named-p-requires
row_named-p-requires c = (lowest_left {left = c.loop-left.left} (omega arith) (λ e. omega arith)).0

pub overflow_shl-lane : goal.overflow_shl-lane
overflow_shl-lane c = (lowest_left {left = c.loop-left.left} (omega arith) (λ e. omega arith)).0

pub overflow_sub-block : goal.overflow_sub-block
overflow_sub-block c =
    (row_there _ c.args.sums.now.words c.args.lanes c.requires c.loop-left.invariant.1 (omega arith) (λ e. omega arith)
    c.row_named-p.ensures).0

pub offset_bounds-block-p : goal.offset_bounds-block-p
offset_bounds-block-p c =
    omega (arith, row_there _ c.args.sums.now.words c.args.lanes c.requires c.loop-left.invariant.1 (omega arith) (λ e. omega arith) c.row_named-p.ensures)

pub bounds-block-p : goal.bounds-block-p
bounds-block-p c =
    omega (arith, row_there _ c.args.sums.now.words c.args.lanes c.requires c.loop-left.invariant.1 (omega arith) (λ e. omega arith) c.row_named-p.ensures)

pub bounds-block-p-in-loop-left : goal.bounds-block-p-in-loop-left
bounds-block-p-in-loop-left c =
    omega (arith, row_there _ c.args.sums.now.words c.args.lanes c.requires c.loop-left.invariant.1 (omega arith) (λ e. omega arith) c.row_named-p.ensures)

pub loop-left-smaller : goal.loop-left-smaller
loop-left-smaller c =
    let low = lowest_left {left = c.loop-left.left} (omega arith) (λ e. omega arith) in
    rw (one_lane _ low.0) (clear_less _ _ (omega arith) low.0 low.1)

pub loop-left-preserved : goal.loop-left-preserved
loop-left-preserved c =
    let args = c.args in
    let inv = c.loop-left.invariant in
    let low = lowest_left {left = c.loop-left.left} (omega arith) (λ e. omega arith) in
    let row = row_there _ c.args.sums.now.words c.args.lanes c.requires inv.1 (omega arith) (λ e. omega arith) c.row_named-p.ensures in
    rw (one_lane _ low.0, inv.0) (
      next_done args.last args.sums.now.words args.block.now args.lanes _ _ low.0 low.1 inv.1 _ c.row_named-p.ensures row.0,
      next_within args.last args.sums.now.words args.block.now args.lanes _ _ low.0 low.1 inv.1,
      omega (arith, inv.2, clear_less _ _ (omega arith) low.0 low.1),
    )

pub returns : goal.returns
returns c =
    let args = c.args in
    c.loop-left.invariant.0 ∙ ap (done_but args.last args.sums.now.words args.block.now args.lanes) (omega arith)
    ∙ all_done args.last args.sums.now.words args.block.now args.lanes
