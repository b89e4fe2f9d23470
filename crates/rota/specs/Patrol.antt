-- The patrol over a memory: memory and record go from step to step as values, and a turn visits the blocks that are due.
-- Assumes nothing.
use Rattle.std.specs.Prelude.{ℕ, ◌≤◌, ◌≡◌, List, [], ◌∷◌, ◌++◌, Option, Some, None, Result, Ok, Err}
use Rattle.refusal.specs.declared.Refusal.{Refusal}
use Rattle.rota.specs.Record.{fresh, rota_turned}
use Rattle.rota.specs.Steps.{Step, ask, turn, other, turns, rota_step}
use Rattle.rota.specs.Touches.{Touch, write, read, visit, flip, nothing}
use Rattle.rota.specs.Memory.{Memory}
use Rattle.rota.specs.declared.Rota.{Rota}
use Rattle.rota.specs.declared.Due.{Due}

module _ {n : ℕ} (M : Memory n) where
  abbrev pub StepOf : Type 0
  StepOf = Step (Touch M.Data M.Flip)

  abbrev pub touched : Touch M.Data M.Flip → M.State → M.State
  touched (write block new) m = M.write block new m
  touched (read block) m = m
  touched (visit block) m = M.visit block m
  touched (flip bit) m = M.flip bit m
  touched nothing m = m

  -- the patrol's block first, then the ask's
  abbrev pub ask_visited : Option ℕ → M.State → M.State
  ask_visited None m = m
  ask_visited (Some block) m = M.visit block m

  abbrev pub visited : Result Due Refusal → M.State → M.State
  visited (Ok due) m = ask_visited due.ask (M.visit due.patrol m)
  visited (Err refusal) m = m

  -- the memory after a step, and after a list of steps
  abbrev pub memory_step : StepOf → Rota → M.State → M.State
  memory_step (ask block) rota m = m
  memory_step turn rota m = visited (rota_turned n rota).due m
  memory_step (other touch) rota m = touched touch m

  unfoldable pub memory_run : List StepOf → Rota → M.State → M.State
  memory_run [] rota m = m
  memory_run (step ∷ rest) rota m = memory_run rest (rota_step n step rota) (memory_step step rota m)

  -- the memory after the steps, where memory and record were fresh
  abbrev pub memory_at : List StepOf → M.State
  memory_at steps = memory_run steps fresh M.fresh

  -- at least n turns lie between any two flips in one lane
  abbrev pub Spaced : List StepOf → Type 0
  Spaced steps =
      (pre mid post : List StepOf) (f g : M.Flip) → steps ≡ pre ++ other (flip f) ∷ mid ++ other (flip g) ∷ post
      → M.lane f ≡ M.lane g → n ≤ turns mid
