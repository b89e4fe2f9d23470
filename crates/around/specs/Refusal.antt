-- The refusals of a visit around named rows: those of the block, then 13 and 14 of the list. Assumes nothing.
use Rattle.std.specs.Prelude.{ℕ, Bool, false, ◌||◌, List, [], ◌∷◌, eqb, ltb, length}
use Rattle.ground.specs.Ladder.{◌when◌else◌, ◌then◌}
use Rattle.layout.specs.declared.Layout.{Layout}
use Rattle.layout.specs.Layout.{rows_of}
use Rattle.layout.specs.Refusal.{block_refusal}
use Rattle.around.specs.Named.{among?}

-- a named row is 0, above the last, or named again
unfoldable pub misnamed? : ℕ → List ℕ → Bool
misnamed? last [] = false
misnamed? last (r ∷ named) = (eqb r 0 || (ltb last r || among? named r)) || misnamed? last named

-- 13: more than three rows are named; 14: a row is 0, above the rows of the shape, or named twice
unfoldable pub named_refusal : ℕ → List ℕ → ℕ
named_refusal last named = 13 when ltb 3 (length named) else 14 when misnamed? last named else 0

-- Visit around named rows: 1, 2, 3, 4, 6, 13, 14
unfoldable pub around_refusal : ℕ → Layout → ℕ → List ℕ → ℕ
around_refusal len layout block named = block_refusal len layout block then named_refusal (rows_of layout) named
