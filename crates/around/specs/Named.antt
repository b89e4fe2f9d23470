-- Rows that are named, by their numbers, as those of a failed chip. Assumes nothing.
use Rattle.std.specs.Prelude.{ℕ, Bool, true, false, ◌||◌, List, [], ◌∷◌, eqb}

-- is a row one of the named
unfoldable pub among? : List ℕ → ℕ → Bool
among? [] p = false
among? (r ∷ named) p = eqb p r || among? named p

-- may one bit of each lane be wrong outside the named rows: where none or one is named
abbrev pub spare? : List ℕ → Bool
spare? [] = true
spare? (r ∷ []) = true
spare? (r ∷ q ∷ named) = false
