-- The refusals of a layout, an image and a block in plain statements. Assumes nothing.
use Rattle.std.specs.Prelude.{ℕ, ◌*◌, ◌≤◌, ◌<◌, ◌≡◌, List, [], ◌∷◌, ◌++◌, ◌⊎◌}
use Rattle.ground.specs.Rules.{Rule}
use Rattle.layout.specs.declared.Layout.{Layout}
use Rattle.layout.specs.Layout.{rows_of, blocks}

-- shape is not 1 or 2
abbrev pub no_shape : Layout → Rule
no_shape layout = record { number = 1; reason = (layout.shape ≡ 1 → ⊥) × (layout.shape ≡ 2 → ⊥) }

-- s is 0 or above 16
abbrev pub bad_interleave : Layout → Rule
bad_interleave layout = record { number = 2; reason = (layout.s ≡ 0) ⊎ (16 < layout.s) }

-- G is 0, or N is above 4,096
abbrev pub bad_groups : Layout → Rule
bad_groups layout = record { number = 3; reason = (layout.g ≡ 0) ⊎ (4096 < blocks layout) }

-- image length is not rows·N words
abbrev pub bad_length : ℕ → Layout → Rule
bad_length len layout = record { number = 4; reason = len ≡ rows_of layout * blocks layout → ⊥ }

-- block number ≥ N
abbrev pub no_block : Layout → ℕ → Rule
no_block layout block = record { number = 6; reason = blocks layout ≤ block }

-- 1, 2, 3
abbrev pub layout_rules : Layout → List Rule
layout_rules layout = no_shape layout ∷ bad_interleave layout ∷ bad_groups layout ∷ []

-- Format: 1, 2, 3, 4
abbrev pub image_rules : ℕ → Layout → List Rule
image_rules len layout = layout_rules layout ++ bad_length len layout ∷ []

-- Visit: 1, 2, 3, 4, 6
abbrev pub block_rules : ℕ → Layout → ℕ → List Rule
block_rules len layout block = image_rules len layout ++ no_block layout block ∷ []
