-- What a call leaves: its answer, and the record after it. Assumes nothing.
use Rattle.std.specs.Prelude.{ℕ, Result}
use Rattle.refusal.specs.declared.Refusal.{Refusal}
use Rattle.rota.specs.declared.Rota.{Rota}
use Rattle.rota.specs.declared.Due.{Due}

pub record RotaAsked : Type 0 where
  pub place : Result ℕ Refusal
  pub rota : Rota

pub record RotaTurned : Type 0 where
  pub due : Result Due Refusal
  pub rota : Rota
