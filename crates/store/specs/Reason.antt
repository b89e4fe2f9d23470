-- The refusals of write and read in plain statements; visit goes by the rules of the block. Assumes nothing.
use Rattle.std.specs.Prelude.{ℕ, ◌≡◌, List, [], ◌∷◌, ◌++◌}
use Rattle.ground.specs.Rules.{Rule}
use Rattle.layout.specs.declared.Layout.{Layout}
use Rattle.layout.specs.Layout.{words_of}
use Rattle.layout.specs.Reason.{block_rules}

-- data list or buffer is not of the exact length
abbrev pub bad_list : Layout → ℕ → Rule
bad_list layout list = record { number = 7; reason = list ≡ words_of layout → ⊥ }

-- Write and read: 1, 2, 3, 4, 6, 7
abbrev pub data_rules : ℕ → Layout → ℕ → ℕ → List Rule
data_rules len layout block list = block_rules len layout block ++ bad_list layout list ∷ []
