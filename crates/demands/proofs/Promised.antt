-- Each call leaves the one state that its promise allows, and so does format: the steps are no second definition. Assumes nothing.
use Prim.Native.Nat.{ℕ}
use mathlib.Core.Path.{◌≡◌, refl, ap, ◌∙◌}
use mathlib.Core.List.{List}
use Rattle.ground.specs.Choice.{if_zero}
use Rattle.layout.specs.declared.Layout.{Layout}
use Rattle.patrol.specs.Handed.{Formatted}
use Rattle.patrol.specs.declared.Asked.{Asked}
use Rattle.patrol.specs.declared.Turned.{Turned}
use Rattle.refusal.specs.Refusal.{answer_number}
use Rattle.store.proofs.Promises.{writes, writes_answer, reads, reads_answer, visits, visits_answer}
use Rattle.rota.specs.Numbers.{place_number}
use Rattle.patrol.specs.Numbers.{report_number}
use Rattle.patrol.proofs.Promises.{formats, formats_answer, asks, asks_answer, turns, turns_answer}
use Rattle.demands.specs.Steps.{Step, format, write, read, visit, ask, turn, flip, State, fresh, step_after, answers}
use Rattle.demands.specs.Promised.{Allowed, AllowedFresh}

-- two states are the same where image and record are
same_state : (old new : State) → old.image ≡ new.image → old.patrol ≡ new.patrol → old ≡ new
same_state old new e f = λ i. record { image = e i; patrol = f i }

-- no other number
pub only_number : (step : Step) (number : ℕ) (old new : State) → Allowed step number old new → number ≡ answers step old
only_number (format layout) number old new h = h.2 ∙ ap (λ (answer : Formatted). answer.number) (formats_answer _ _ h.1)
only_number (write layout block list) number old new h = h.2 ∙ ap answer_number (writes_answer _ _ _ _ h.1)
only_number (read layout block buffer) number old new h = h.3 ∙ ap answer_number (reads_answer _ _ _ _ h.2)
only_number (visit layout block) number old new h = h.2 ∙ ap answer_number (visits_answer _ _ _ h.1)
only_number (ask block) number old new h = h.2 ∙ ap (λ (answer : Asked). place_number answer.place) (asks_answer _ _ h.1)
only_number turn number old new h = h.2 ∙ ap (λ (answer : Turned). report_number answer.report) (turns_answer _ _ h.1).0
only_number (flip index bit) number old new h = h.0

-- no other state
pub only_allowed : (step : Step) (number : ℕ) (old new : State) → Allowed step number old new → new ≡ step_after step old
only_allowed (format layout) number old new h =
    same_state new (step_after (format layout) old) h.1.leaves
    (h.3
    ∙ ap (λ (n : ℕ). if_zero n h.0.back old.patrol) h.2
    ∙ ap (λ (answer : Formatted). if_zero answer.number answer.back old.patrol) (formats_answer _ _ h.1))
only_allowed (write layout block list) number old new h = same_state new (step_after (write layout block list) old) h.1.leaves h.3
only_allowed (read layout block buffer) number old new h = same_state new old h.2.keeps h.4
only_allowed (visit layout block) number old new h = same_state new (step_after (visit layout block) old) h.1.leaves h.3
only_allowed (ask block) number old new h =
    same_state new (step_after (ask block) old) h.3 (h.4 ∙ ap (λ (answer : Asked). answer.back) (asks_answer _ _ h.1))
only_allowed turn number old new h =
    let did = turns_answer _ _ h.1 in
    same_state new (step_after turn old) did.1 (h.3 ∙ ap (λ (answer : Turned). answer.back) did.0)
only_allowed (flip index bit) number old new h = same_state new (step_after (flip index bit) old) h.1 h.2

pub only_fresh : (image : List ℕ) (layout : Layout) (new : State) → AllowedFresh image layout new → new ≡ fresh image layout
only_fresh image layout new h =
    same_state new (fresh image layout) h.1.leaves (h.2 ∙ ap (λ (answer : Formatted). answer.back) (formats_answer _ _ h.1))

-- and these
pub is_allowed : (step : Step) (old : State) → Allowed step (answers step old) old (step_after step old)
is_allowed (format layout) old = (_, formats _ _ refl refl, refl, refl)
is_allowed (write layout block list) old = (_, writes _ _ _ _ refl refl, refl, refl)
is_allowed (read layout block buffer) old = (_, _, reads _ _ _ _ refl refl, refl, refl)
is_allowed (visit layout block) old = (_, visits _ _ _ refl refl, refl, refl)
is_allowed (ask block) old = (_, asks _ _ refl, refl, refl, refl)
is_allowed turn old = (_, turns _ _ refl refl, refl, refl)
is_allowed (flip index bit) old = (refl, refl, refl)

pub is_fresh : (image : List ℕ) (layout : Layout) → AllowedFresh image layout (fresh image layout)
is_fresh image layout = (_, formats _ _ refl refl, refl)
