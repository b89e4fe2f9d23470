-- The refusals of a visit around named rows in plain statements. Assumes nothing.
use Rattle.std.specs.Prelude.{ℕ, ◌<◌, ◌≡◌, List, [], ◌∷◌, ◌++◌, ◌⊎◌, length, get_or}
use Rattle.ground.specs.Rules.{Rule}
use Rattle.layout.specs.declared.Layout.{Layout}
use Rattle.layout.specs.Layout.{rows_of}
use Rattle.layout.specs.Reason.{block_rules}

-- more than three rows are named
abbrev pub too_many : List ℕ → Rule
too_many named = record { number = 13; reason = 3 < length named }

-- a named row is 0 or above the rows of the shape
abbrev pub NoRow : ℕ → List ℕ → Type 0
NoRow last named = (k : ℕ) × (k < length named) × ((get_or named k 0 ≡ 0) ⊎ (last < get_or named k 0))

-- or a row is named twice
abbrev pub NamedTwice : List ℕ → Type 0
NamedTwice named = (j k : ℕ) × (j < k) × (k < length named) × (get_or named j 0 ≡ get_or named k 0)

abbrev pub bad_row : Layout → List ℕ → Rule
bad_row layout named = record { number = 14; reason = NoRow (rows_of layout) named ⊎ NamedTwice named }

-- Visit around named rows: 1, 2, 3, 4, 6, 13, 14
abbrev pub around_rules : ℕ → Layout → ℕ → List ℕ → List Rule
around_rules len layout block named = block_rules len layout block ++ too_many named ∷ bad_row layout named ∷ []
