-- An ask puts a block on the line and answers its place. A block that waits already answers the place that it has, and nothing
-- changes, even where the line is full. Refused are a block of n or above (6), and a block that does not wait where the line is
-- full of others (8), by its capacity. Assumes nothing.
use Rattle.std.specs.Prelude.{ℕ, zero, suc, not, ◌&&◌, List, [], ◌∷◌, ◌++◌, length, ltb, eqb}
use Rattle.ground.specs.Ladder.{◌when◌else◌}
use Rattle.rota.specs.Line.{place, full}
use Rattle.rota.specs.Plan.{Plan}

unfoldable pub ask_refusal : ℕ → ℕ → Plan → ℕ → ℕ
ask_refusal capacity n plan block =
    6 when not (ltb block n) else
    8 when eqb (place block plan.asks) 0 && full capacity plan.asks else
    0

-- by the place that the block has, or 0: the place that is answered, and the list after
abbrev pub given : ℕ → List ℕ → ℕ
given zero asks = suc (length asks)
given (suc place) asks = suc place

abbrev pub lengthened : ℕ → ℕ → List ℕ → List ℕ
lengthened zero block asks = asks ++ block ∷ []
lengthened (suc place) block asks = asks

-- what is answered, and what is left, where nothing is refused
abbrev pub ask_place : Plan → ℕ → ℕ
ask_place plan block = given (place block plan.asks) plan.asks

abbrev pub joined : Plan → ℕ → Plan
joined plan block = record { next = plan.next; asks = lengthened (place block plan.asks) block plan.asks }
