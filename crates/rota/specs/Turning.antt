-- A turn is for the block that is next, and then for the ask at place 1, if there is one. That ask leaves the list and the others
-- move up. Next moves on by one, and from n - 1 to 0. Assumes nothing.
use Rattle.std.specs.Prelude.{ℕ, suc, cond, List, drop, ltb}
use Rattle.rota.specs.Line.{first_of}
use Rattle.rota.specs.Plan.{Plan}
use Rattle.rota.specs.declared.Due.{Due}

-- the block after, round n blocks
abbrev pub onward : ℕ → ℕ → ℕ
onward n block = cond (ltb (suc block) n) (suc block) 0

abbrev pub due_of : ℕ → List ℕ → Due
due_of next asks = record { patrol = next; ask = first_of asks }

abbrev pub due : Plan → Due
due plan = due_of plan.next plan.asks

abbrev pub moved_on : ℕ → Plan → Plan
moved_on n plan = record { next = onward n plan.next; asks = drop 1 plan.asks }
