-- A list of steps: asks, turns, and others, of which the record knows nothing. The record goes from step to step as a value.
-- Assumes nothing.
use Rattle.std.specs.Prelude.{ℕ, suc, List, [], ◌∷◌, Result}
use Rattle.refusal.specs.declared.Refusal.{Refusal}
use Rattle.rota.specs.Record.{fresh, rota_asked, rota_turned}
use Rattle.rota.specs.declared.Rota.{Rota}
use Rattle.rota.specs.declared.Due.{Due}

-- Other: what else may happen
pub data Step (Other : Type 0) : Type 0 where
  ask : ℕ → Step Other
  turn : Step Other
  other : Other → Step Other

module _ {Other : Type 0} where
  -- one more where the step is a turn
  abbrev pub tick : Step Other → ℕ → ℕ
  tick (ask block) count = count
  tick turn count = suc count
  tick (other step) count = count

  -- how many turns a list has
  unfoldable pub turns : List (Step Other) → ℕ
  turns [] = 0
  turns (step ∷ rest) = tick step (turns rest)

  module _ (n : ℕ) where
    -- the record after a step, and after a list of steps
    abbrev pub rota_step : Step Other → Rota → Rota
    rota_step (ask block) rota = (rota_asked n rota block).rota
    rota_step turn rota = (rota_turned n rota).rota
    rota_step (other step) rota = rota

    unfoldable pub rota_run : List (Step Other) → Rota → Rota
    rota_run [] rota = rota
    rota_run (step ∷ rest) rota = rota_run rest (rota_step step rota)

    -- the record after the steps, from the fresh one, and what a turn then answers
    abbrev pub rota_at : List (Step Other) → Rota
    rota_at steps = rota_run steps fresh

    abbrev pub due_at : List (Step Other) → Result Due Refusal
    due_at steps = (rota_turned n (rota_at steps)).due
