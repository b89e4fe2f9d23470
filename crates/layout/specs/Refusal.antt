-- The refusals 1 to 4 and 6, each a rung that answers its number where it applies and else 0. The first that applies wins. Assumes nothing.
use Rattle.std.specs.Prelude.{ℕ, ◌*◌, not, ◌≡◌, ltb, leb, eqb, Result}
use Rattle.ground.specs.Ladder.{◌when◌else◌, ◌then◌}
use Rattle.refusal.specs.declared.Refusal.{Refusal}
use Rattle.refusal.specs.Refusal.{answer_number}
use Rattle.layout.specs.declared.Layout.{Layout}
use Rattle.layout.specs.Layout.{rows_of, blocks}

-- 1: shape is not 1 or 2
abbrev pub shape_rung : Layout → ℕ
shape_rung layout = 1 when eqb layout.shape 0 else 1 when ltb 2 layout.shape else 0

-- 2: s is 0 or above 16
abbrev pub interleave_rung : Layout → ℕ
interleave_rung layout = 2 when eqb layout.s 0 else 2 when ltb 16 layout.s else 0

-- 3: G is 0, or N is above 4,096
abbrev pub groups_rung : Layout → ℕ
groups_rung layout = 3 when eqb layout.g 0 else 3 when ltb 4096 (blocks layout) else 0

-- 4: image length is not rows·N words
abbrev pub length_rung : ℕ → Layout → ℕ
length_rung len layout = 4 when not (eqb len (rows_of layout * blocks layout)) else 0

-- 6: block number ≥ N
abbrev pub block_rung : Layout → ℕ → ℕ
block_rung layout block = 6 when leb (blocks layout) block else 0

-- 1, 2, 3: what every call asks of shape, s and G
unfoldable pub layout_refusal : Layout → ℕ
layout_refusal layout = shape_rung layout then interleave_rung layout then groups_rung layout

-- 1, 2, 3, 4: of an image of some length
unfoldable pub image_refusal : ℕ → Layout → ℕ
image_refusal len layout = layout_refusal layout then length_rung len layout

-- 1, 2, 3, 4, 6: of a block in it
unfoldable pub block_refusal : ℕ → Layout → ℕ → ℕ
block_refusal len layout block = image_refusal len layout then block_rung layout block

-- the promises of check and check_image: the refusal is the first that applies, and the call is accepted where none does
abbrev pub Checks : Layout → Result (Unit {0}) Refusal → Type 0
Checks layout answer = answer_number answer ≡ layout_refusal layout

abbrev pub ChecksImage : ℕ → Layout → Result (Unit {0}) Refusal → Type 0
ChecksImage len layout answer = answer_number answer ≡ image_refusal len layout
