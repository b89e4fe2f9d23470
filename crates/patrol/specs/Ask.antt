-- Ask puts a block on the waiting list of the record. Refusals: 1, 2, 3 of the record's layout, then 5, 6, 8 of its rota.
-- A refused ask leaves the record as it was. Assumes nothing.
use Rattle.std.specs.Prelude.{ℕ, ◌≡◌, Err}
use Rattle.ground.specs.Choice.{if_zero}
use Rattle.ground.specs.Ladder.{◌then◌}
use Rattle.refusal.specs.Refusal.{numbered}
use Rattle.layout.specs.Layout.{blocks}
use Rattle.layout.specs.Refusal.{layout_refusal}
use Rattle.rota.specs.declared.Rota.{Rota}
use Rattle.rota.specs.Asking.{ask_place, joined}
use Rattle.rota.specs.Numbers.{place_number, place_given}
use Rattle.rota.specs.Record.{plan_of, rota_of, ask_number, rota_asked}
use Rattle.patrol.specs.declared.Record.{Record}
use Rattle.patrol.specs.declared.Asked.{Asked}

-- the record with another rota
abbrev pub with_rota : Record → Rota → Record
with_rota r rota = record { layout = r.layout; rota = rota }

-- the record after an ask that is accepted
abbrev pub with_ask : Record → ℕ → Record
with_ask r block = with_rota r (rota_of (joined (plan_of r.rota) block))

-- the first of 1, 2, 3, 5, 6, 8 that applies
abbrev pub ask_refused : Record → ℕ → ℕ
ask_refused r block = layout_refusal r.layout then ask_number (blocks r.layout) r.rota block

-- the promise of ask: the number of its refusal, or 0, the place, or 0, and the record after it
pub record Asks (r : Record) (block : ℕ) (answer : Asked) : Type 0 where
  pub number : place_number answer.place ≡ ask_refused r block
  pub place : place_given answer.place ≡ if_zero (ask_refused r block) (ask_place (plan_of r.rota) block) 0
  pub back : answer.back ≡ if_zero (ask_refused r block) (with_ask r block) r

-- ---- the answer itself, as callers use it

-- the rota's own answer to an ask
abbrev pub asked_now : Record → ℕ → Rattle.rota.specs.Answer.RotaAsked
asked_now r block = rota_asked (blocks r.layout) r.rota block

-- what ask answers, by the number of the layout's refusal
abbrev pub asked_by : Record → ℕ → ℕ → Asked
asked_by r block number =
    if_zero number (record { place = (asked_now r block).place; back = with_rota r (asked_now r block).rota })
    (record { place = Err (numbered number); back = r })

unfoldable pub asked : Record → ℕ → Asked
asked r block = asked_by r block (layout_refusal r.layout)
