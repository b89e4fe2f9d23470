-- The record keeps the block that is next, and the line of those that wait. It is broken where next is n or above, or its line is not
-- sound: then an ask and a turn are refused by 5. A refused call leaves the record as it was. Assumes nothing.
use Rattle.std.specs.Prelude.{ℕ, Bool, not, ◌&&◌, ltb}
use Rattle.ground.specs.Choice.{if_zero}
use Rattle.ground.specs.Ladder.{◌when◌else◌}
use Rattle.refusal.specs.Refusal.{answered}
use Rattle.rota.specs.Line.{places, asks_of, sound, line_of}
use Rattle.rota.specs.Plan.{Plan, start}
use Rattle.rota.specs.Asking.{ask_refusal, ask_place, joined}
use Rattle.rota.specs.Turning.{due, moved_on}
use Rattle.rota.specs.declared.Rota.{Rota}
use Rattle.rota.specs.Answer.{RotaAsked, RotaTurned}

unfoldable pub unbroken : ℕ → Rota → Bool
unbroken n rota = ltb rota.next n && sound places n rota.line

-- what a record says, and the record that says it
abbrev pub plan_of : Rota → Plan
plan_of rota = record { next = rota.next; asks = asks_of rota.line }

abbrev pub rota_of : Plan → Rota
rota_of plan = record { next = plan.next; line = line_of places plan.asks }

-- block 0 is next, and nothing waits
abbrev pub fresh : Rota
fresh = rota_of start

unfoldable pub ask_number : ℕ → Rota → ℕ → ℕ
ask_number n rota block = 5 when not (unbroken n rota) else ask_refusal places n (plan_of rota) block

unfoldable pub rota_asked : ℕ → Rota → ℕ → RotaAsked
rota_asked n rota block =
    record {
      place = answered (ask_number n rota block) (ask_place (plan_of rota) block);
      rota = if_zero (ask_number n rota block) (rota_of (joined (plan_of rota) block)) rota;
    }

unfoldable pub turn_number : ℕ → Rota → ℕ
turn_number n rota = 5 when not (unbroken n rota) else 0

unfoldable pub rota_turned : ℕ → Rota → RotaTurned
rota_turned n rota =
    record {
      due = answered (turn_number n rota) (due (plan_of rota));
      rota = if_zero (turn_number n rota) (rota_of (moved_on n (plan_of rota))) rota;
    }
