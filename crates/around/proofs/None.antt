-- No row is named: what is lost, left and said is what an ordinary visit says. Assumes nothing.
use Prim.Native.Nat.{ℕ, zero, suc}
use mathlib.Core.Path.{◌≡◌, refl, ap₂, ◌∙◌}
use mathlib.Core.List.{List, []}
use Rattle.lane.specs.Decision.{Kind}
use Rattle.lane.proofs.Mended.{count_empty}
use Rattle.ground.specs.Choice.{if_zero}
use Rattle.ground.proofs.Totals.{total_same, total_zero}
use Rattle.shape.specs.declared.Shape.{Shape}
use Rattle.shape.specs.Shape.{rows}
use Rattle.block.specs.Block.{lanes_lost, lanes_lost_as, mended_lanes, mended_block, bits_changed}
use Rattle.block.specs.Verdict.{verdict, verdict_of}
use Rattle.around.specs.Named.{among?}
use Rattle.around.specs.Lane.{lost_around?, changes_around}
use Rattle.around.specs.Block.{lanes_lost_around, around_lanes, around_block, bits_inside, bits_outside}
use Rattle.around.specs.Answer.{unnamed}
use Rattle.around.specs.Inner.{around_by, around_of}

module _ (shape : Shape) (block : List ℕ) where
  none_lost : lanes_lost_around shape [] block ≡ lanes_lost shape block
  unfolding lanes_lost_around lanes_lost lost_around?
  none_lost = refl

  none_lanes : around_lanes shape [] block ≡ mended_lanes shape block
  unfolding around_lanes mended_lanes changes_around
  none_lanes = refl

  pub none_block : around_block shape [] block ≡ mended_block shape block
  unfolding around_block mended_block
  none_block = ap₂ (λ (n : ℕ) (mended : List ℕ). if_zero n mended block) none_lost none_lanes

  none_inside : (new : List ℕ) → bits_inside shape [] block new ≡ 0
  unfolding bits_inside among?
  none_inside new = total_same 32 _ (λ i. 0) (λ i h. count_empty (rows shape)) ∙ total_zero 32

  none_outside : (new : List ℕ) → bits_outside shape [] block new ≡ bits_changed shape block new
  unfolding bits_outside bits_changed among?
  none_outside new = refl

  by_verdict : (lost : ℕ) (kinds : Kind → ℕ) (changed : ℕ) → unnamed (verdict lost kinds changed) ≡ around_by [] lost kinds 0 changed
  by_verdict zero kinds zero = refl
  by_verdict zero kinds (suc changed) = refl
  by_verdict (suc lost) kinds changed = refl

  pub none_says : unnamed (verdict_of shape block) ≡ around_of shape [] block
  unfolding verdict_of around_of
  none_says =
      rw (none_lost, none_block, none_inside (mended_block shape block), none_outside (mended_block shape block))
      (by_verdict (lanes_lost shape block) (lanes_lost_as shape block) (bits_changed shape block (mended_block shape block)))
