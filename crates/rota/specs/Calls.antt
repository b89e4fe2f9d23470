-- What the rota's calls promise, in the specification's numbers: a refusal's number, or 0; the place and the blocks, 0 where there is none;
-- and the rota after the call, which is as it was where the call is refused. Assumes nothing.
use Rattle.std.specs.Prelude.{ℕ, false, ◌≡◌, get_or, Result}
use Rattle.ground.specs.Choice.{if_zero}
use Rattle.refusal.specs.declared.Refusal.{Refusal}
use Rattle.rota.specs.Line.{some?, asks_of}
use Rattle.rota.specs.Asking.{ask_place, joined}
use Rattle.rota.specs.Turning.{moved_on}
use Rattle.rota.specs.Record.{plan_of, rota_of, fresh, ask_number, turn_number}
use Rattle.rota.specs.Numbers.{place_number, place_given, due_number, first_block, second_block, served}
use Rattle.rota.specs.declared.Rota.{Rota}
use Rattle.rota.specs.declared.Due.{Due}

-- the promise of fresh
abbrev pub IsFresh : Rota → Type 0
IsFresh rota = rota ≡ fresh

-- the promise of ask
pub record RotaAsks (n : ℕ) (rota : Rota) (block : ℕ) (answer : Result ℕ Refusal) (after : Rota) : Type 0 where
  pub number : place_number answer ≡ ask_number n rota block
  pub place : place_given answer ≡ if_zero (ask_number n rota block) (ask_place (plan_of rota) block) 0
  pub back : after ≡ if_zero (ask_number n rota block) (rota_of (joined (plan_of rota) block)) rota

-- the promise of turn
pub record RotaTurns (n : ℕ) (rota : Rota) (answer : Result Due Refusal) (after : Rota) : Type 0 where
  pub number : due_number answer ≡ turn_number n rota
  -- the block that is next, and the ask at place 1
  pub first : first_block answer ≡ if_zero (turn_number n rota) rota.next 0
  pub second : second_block answer ≡ if_zero (turn_number n rota) (get_or (asks_of rota.line) 0 0) 0
  pub asked : served answer ≡ if_zero (turn_number n rota) (some? (asks_of rota.line)) false
  pub back : after ≡ if_zero (turn_number n rota) (rota_of (moved_on n (plan_of rota))) rota
