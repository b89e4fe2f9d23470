-- What a caller keeps after a list of steps is the image and the record's words of the state after them. Assumes nothing.
use Prim.Native.Nat.{ℕ}
use mathlib.Core.Path.{◌≡◌, refl, sym, ap, ◌∙◌}
use mathlib.Core.List.{List, [], ◌∷◌}
use native.Mathlib.Omega.{arith}
use lib.ListN.{length}
use Rattle.ground.proofs.Choices.{choice_of}
use Rattle.layout.specs.declared.Layout.{Layout}
use Rattle.store.specs.Fresh.{fresh_after}
use Rattle.store.specs.Write.{write_answer, write_after}
use Rattle.store.specs.Visit.{visit_answer, visit_after}
use Rattle.refusal.specs.Refusal.{answer_number}
use Rattle.store.specs.Read.{read_answer}
use Rattle.rota.specs.Numbers.{place_number}
use Rattle.patrol.specs.declared.Record.{Record}
use Rattle.patrol.specs.Ask.{asked}
use Rattle.patrol.specs.Format.{formatted}
use Rattle.patrol.specs.Turn.{turned, turn_after}
use Rattle.patrol.proofs.Promises.{asks, turns}
use Rattle.words.specs.Records.{record_of, record_words, record_width}
use Rattle.words.proofs.RoundTrip.{same_record}
use Rattle.foldgrebe.specs.Calls.{FormatCall, AskCall, TurnCall}
use Rattle.demands.specs.Steps.{Step, format, write, read, visit, ask, turn, flip, State, flipped, step_after, after, answers}
use Rattle.demands.specs.Demand3.{store}
use Rattle.callers.specs.Handing.{Kept, Called, Ran, RanFrom}
use Rattle.callers.proofs.Answers.{write_said, read_said, visit_said, ask_said, turn_said}

-- what the caller keeps is a state's, as words
pub record Holds (kept : Kept) (state : State) : Type 0 where
  pub image : kept.image ≡ state.image
  pub words : kept.words ≡ record_words state.patrol

-- then the words hold the record
pub held : {kept : Kept} {state : State} → Holds kept state → record_of kept.words ≡ state.patrol
held {kept} {state} h =
    let size : length (record_words state.patrol) ≡ record_width = sym (ap length h.words) ∙ kept.size in
    ap record_of h.words ∙ same_record state.patrol (omega (arith, size))

-- what ask and turn leave, as words
ask_leaves : {lent words place : List ℕ} {block number : ℕ} → AskCall lent block number words place
    → words ≡ record_words (asked (record_of lent) block).back
ask_leaves {lent} {words} {place} {block} c = c.back ∙ ap record_words (sym (asks (record_of lent) block refl).back)

turn_leaves : {lent image words after report : List ℕ} {number : ℕ} → TurnCall lent image number words after report
    → (words ≡ record_words (turned (record_of lent) image).back) × (after ≡ turn_after (record_of lent) image)
turn_leaves {lent} {image} c =
    let said = turns (record_of lent) image refl refl in
    (c.back ∙ ap record_words (sym said.back), c.leaves ∙ sym said.leaves)

-- the words of the record that a format leaves to the caller
format_words : (image : List ℕ) (layout : Layout) {number : ℕ} {after other : List ℕ} → FormatCall image layout number after other
    → (number ≡ (formatted image layout).number) × (other ≡ record_words (formatted image layout).back)
unfolding formatted
format_words image layout c = (c.answers, c.back)

step_held : (step : Step) (number : ℕ) {old new : Kept} {state : State} → Holds old state → Called step number old new → Holds new (step_after step state)
step_held (format layout) number {old} {new} {state} h c =
    let said = format_words old.image layout c.1 in
    let made = formatted state.image layout in
    record {
      image = c.1.leaves ∙ ap (λ (l : List ℕ). fresh_after l layout) h.image;
      words = c.2 ∙ rw (said.0, said.1, h.image, h.words) (choice_of record_words made.number made.back state.patrol);
    }
step_held (write layout block list) number h c =
    record { image = c.0.leaves ∙ ap (λ (l : List ℕ). write_after l layout block list) h.image; words = c.1 ∙ h.words }
step_held (read layout block buffer) number h c = record { image = c.2.keeps ∙ h.image; words = c.3 ∙ h.words }
step_held (visit layout block) number h c =
    record { image = c.1.leaves ∙ ap (λ (l : List ℕ). visit_after l layout block) h.image; words = c.2 ∙ h.words }
step_held (ask block) number h c =
    record { image = c.2 ∙ h.image; words = ask_leaves c.1 ∙ ap (λ (r : Record). record_words (asked r block).back) (held h) }
step_held turn number h c =
    let left = turn_leaves c.1 in
    record {
      image = left.1 ∙ rw (held h, h.image);
      words = left.0 ∙ rw (held h, h.image);
    }
step_held (flip index bit) number h c = record { image = c.1 ∙ ap (flipped index bit) h.image; words = c.2 ∙ h.words }

-- the number that a call answers is the step's
pub step_number : (step : Step) {number : ℕ} {old : Kept} (new : Kept) {state : State} → Holds old state → Called step number old new
    → number ≡ answers step state
step_number (format layout) {number} {old} new h c =
    (format_words old.image layout c.1).0 ∙ ap (λ (l : List ℕ). (formatted l layout).number) h.image
step_number (write layout block list) new h c = write_said c.0 ∙ ap (λ (l : List ℕ). answer_number (write_answer l layout block list)) h.image
step_number (read layout block buffer) new h c = (read_said c.2).0 ∙ ap (λ (l : List ℕ). answer_number (read_answer l layout block buffer)) h.image
step_number (visit layout block) new h c = (visit_said c.1).0 ∙ ap (λ (l : List ℕ). answer_number (visit_answer l layout block)) h.image
step_number (ask block) new h c = (ask_said c.1).0 ∙ ap (λ (r : Record). place_number (asked r block).place) (held h)
step_number turn new h c = (turn_said c.1).0 ∙ rw (held h, h.image)
step_number (flip index bit) new h c = c.0

ran_held : (steps : List Step) {old new : Kept} {state : State} → Holds old state → Ran steps old new → Holds new (after steps state)
unfolding after
ran_held [] h c = record { image = c.0 ∙ h.image; words = c.1 ∙ h.words }
ran_held (step ∷ rest) h c = ran_held rest (step_held step c.0 h c.2) c.3

pub followed : (image : List ℕ) (layout : Layout) (steps : List Step) {now : Kept} → RanFrom image layout steps now → Holds now (store image layout steps)
followed image layout steps r =
    ran_held steps (record { image = r.2.leaves; words = (format_words image layout r.2).1 }) r.3
