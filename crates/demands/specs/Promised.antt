-- What the promise of each call allows it to leave, from the state before; a call leaves what it is not lent, and a flip is no call.
-- `demands/proofs/Promised` proves that this is the step's number and the state after it, and no other. Assumes nothing.
use Rattle.std.specs.Prelude.{ℕ, ◌≡◌, List}
use Rattle.ground.specs.Choice.{if_zero}
use Rattle.layout.specs.declared.Layout.{Layout}
use Rattle.store.specs.Answer.{Answer, Stored}
use Rattle.refusal.specs.Refusal.{answer_number}
use Rattle.store.specs.Write.{Writes}
use Rattle.store.specs.Read.{Reads}
use Rattle.store.specs.Visit.{Visits}
use Rattle.rota.specs.Numbers.{place_number}
use Rattle.patrol.specs.Numbers.{report_number}
use Rattle.patrol.specs.Handed.{Formatted}
use Rattle.patrol.specs.declared.Asked.{Asked}
use Rattle.patrol.specs.declared.Turned.{Turned}
use Rattle.patrol.specs.Format.{Formats}
use Rattle.patrol.specs.Ask.{Asks}
use Rattle.patrol.specs.Turn.{Turns}
use Rattle.demands.specs.Steps.{Step, format, write, read, visit, ask, turn, flip, State, flipped}

-- with the number that the call answers; a flip has 0
abbrev pub Allowed : Step → ℕ → State → State → Type 0
Allowed (format layout) number old new =
    (answer : Formatted) × Formats old.image layout answer new.image × (number ≡ answer.number)
    × (new.patrol ≡ if_zero number answer.back old.patrol)
Allowed (write layout block list) number old new =
    (answer : Stored) × Writes old.image layout block list answer new.image × (number ≡ answer_number answer) × (new.patrol ≡ old.patrol)
Allowed (read layout block buffer) number old new =
    (answer : Answer) × (left : List ℕ) × Reads old.image layout block buffer answer new.image left × (number ≡ answer_number answer)
    × (new.patrol ≡ old.patrol)
Allowed (visit layout block) number old new =
    (answer : Answer) × Visits old.image layout block answer new.image × (number ≡ answer_number answer) × (new.patrol ≡ old.patrol)
Allowed (ask block) number old new =
    (answer : Asked) × Asks old.patrol block answer × (number ≡ place_number answer.place) × (new.image ≡ old.image)
    × (new.patrol ≡ answer.back)
Allowed turn number old new =
    (answer : Turned) × Turns old.patrol old.image answer new.image × (number ≡ report_number answer.report)
    × (new.patrol ≡ answer.back)
Allowed (flip index bit) number old new = (number ≡ 0) × (new.image ≡ flipped index bit old.image) × (new.patrol ≡ old.patrol)

-- what the promise of the first format allows, which has no record before it
abbrev pub AllowedFresh : List ℕ → Layout → State → Type 0
AllowedFresh image layout new = (answer : Formatted) × Formats image layout answer new.image × (new.patrol ≡ answer.back)
