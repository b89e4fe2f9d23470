-- A list of the rota's steps that is two lists joined runs as the first and then the second: the record, the memory, and the data that a
-- block is meant to hold. Assumes nothing.
use Prim.Native.Nat.{ℕ}
use mathlib.Core.Path.{◌≡◌, refl}
use mathlib.Core.List.{List, [], ◌∷◌, ◌++◌}
use Rattle.rota.specs.declared.Rota.{Rota}
use Rattle.rota.specs.Memory.{Memory}
use Rattle.rota.specs.Patrol.{StepOf, memory_step, memory_run}
use Rattle.rota.specs.Steps.{Step, rota_step, rota_run}
use Rattle.rota.specs.Touches.{Touch, meant, last_written}

pub rota_append : {Other : Type 0} (n : ℕ) (l k : List (Step Other)) (rota : Rota) → rota_run n (l ++ k) rota ≡ rota_run n k (rota_run n l rota)
unfolding rota_run
rota_append n [] k rota = refl
rota_append n (step ∷ l) k rota = rota_append n l k (rota_step n step rota)

pub memory_append : {n : ℕ} (M : Memory n) (l k : List (StepOf M)) (rota : Rota) (m : M.State)
    → memory_run M (l ++ k) rota m ≡ memory_run M k (rota_run n l rota) (memory_run M l rota m)
unfolding memory_run rota_run
memory_append M [] k rota m = refl
memory_append {n} M (step ∷ l) k rota m = memory_append M l k (rota_step n step rota) (memory_step M step rota m)

pub written_append : {Data Flip : Type 0} (block : ℕ) (old : Data) (l k : List (Step (Touch Data Flip)))
    → last_written block old (l ++ k) ≡ last_written block (last_written block old l) k
unfolding last_written
written_append block old [] k = refl
written_append block old (step ∷ l) k = written_append block (meant block old step) l k
