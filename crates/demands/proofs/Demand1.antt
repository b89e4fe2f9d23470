-- Demand 1 holds of every call. Assumes nothing.
use Prim.Native.Nat.{ℕ, ◌≤◌}
use mathlib.Core.Path.{◌≡◌, refl, sym, subst, ◌∙◌}
use mathlib.Core.List.{List}
use lib.Dec.{T}
use lib.ListN.{length}
use Rattle.ground.specs.Choice.{if_zero}
use Rattle.ground.specs.Rules.{Rule, FirstOf}
use Rattle.ground.proofs.Choices.{refused_kept}
use Rattle.ground.proofs.Rules.{distinct?, ruled}
use Rattle.layout.specs.declared.Layout.{Layout}
use Rattle.layout.specs.Reason.{block_rules}
use Rattle.layout.proofs.Ladder.{block_first, block_known}
use Rattle.block.specs.Verdict.{Said, unsaid}
use Rattle.store.specs.Answer.{answer_said, stored_said}
use Rattle.refusal.specs.Refusal.{numbered, answer_number, answered}
use Rattle.store.specs.Reason.{data_rules}
use Rattle.store.specs.Write.{write_answer, write_after}
use Rattle.store.specs.Read.{read_answer, read_buffer}
use Rattle.store.specs.Visit.{visit_answer, visit_after}
use Rattle.refusal.proofs.Answered.{answered_number, answered_refused}
use Rattle.store.proofs.Ladder.{data_first, data_known}
use Rattle.store.proofs.Promises.{writes_answer, reads_answer, visits_answer}
use Rattle.store.specs.Fresh.{fresh_after}
use Rattle.patrol.specs.declared.Record.{Record}
use Rattle.patrol.specs.declared.Report.{Report}
use Rattle.refusal.specs.declared.Refusal.{Refusal}
use Rattle.std.specs.Prelude.{Result, Err}
use Rattle.patrol.specs.Numbers.{unseen, report_number, report_first, report_second}
use Rattle.patrol.specs.Format.{formatted}
use Rattle.patrol.specs.Ask.{asked}
use Rattle.patrol.specs.Turn.{turned, turn_after}
use Rattle.patrol.proofs.Promises.{formats_answer, asks_answer, turns_answer}
use Rattle.patrol.proofs.Numbers.{place_bare, report_bare}
use Rattle.patrol.proofs.Unchanged.{format_unchanged, ask_unchanged, turn_unchanged}
use Rattle.patrol.proofs.Reasons.{format_first, ask_first, turn_first}
use Rattle.demands.specs.Demand1.{Refusing, FormatRefusing, AskRefusing, Bare, TurnRefusing, Demand1}

-- a call that answers the first of its rules, and leaves what was lent where it refuses
module _ {A : Type 0} (number : ℕ) (value : A) (known : number ≤ 14) where
  counted : answer_number (answered number value) ≡ number
  counted = answered_number number value known

  refused : (answer_number (answered number value) ≡ 0 → ⊥) → number ≡ 0 → ⊥
  refused ne e = ne (counted ∙ e)

  pub refusing : (said_in : Result A Refusal → Said) → ((refusal : Refusal) → said_in (Err refusal) ≡ unsaid)
      → (rules : List Rule) → T (distinct? rules) → FirstOf rules number
      → (new lent : List ℕ)
      → Refusing said_in rules (answered number value) lent (if_zero number new lent)
  refusing said_in bare rules t first new lent =
      record {
        ruled = rw counted (ruled rules number t first);
        bare = λ ne. rw (answered_refused number value (refused ne), bare (numbered number)) (refl, refl, refl);
        unchanged = λ ne. refused_kept number new lent (refused ne);
      }

module _ (image : List ℕ) (layout : Layout) (block : ℕ) where
  pub write_refuses : (list : List ℕ)
      → Refusing stored_said (data_rules (length image) layout block (length list)) (write_answer image layout block list) image
      (write_after image layout block list)
  unfolding write_answer write_after
  write_refuses list =
      refusing _ _ (data_known (length image) layout block (length list)) stored_said (λ r. refl) _ tt
      (data_first (length image) layout block (length list)) _ image

  pub read_refuses : (buffer : List ℕ)
      → Refusing answer_said (data_rules (length image) layout block (length buffer)) (read_answer image layout block buffer) buffer
      (read_buffer image layout block buffer)
  unfolding read_answer read_buffer
  read_refuses buffer =
      refusing _ _ (data_known (length image) layout block (length buffer)) answer_said (λ r. refl) _ tt
      (data_first (length image) layout block (length buffer)) _ buffer

  pub visit_refuses : Refusing answer_said (block_rules (length image) layout block) (visit_answer image layout block) image (visit_after image layout block)
  unfolding visit_answer visit_after
  visit_refuses = refusing _ _ (block_known layout (length image) block) answer_said (λ r. refl) _ tt (block_first layout (length image) block) _ image

pub format_refuses : (image : List ℕ) (layout : Layout) → FormatRefusing image layout (formatted image layout) (fresh_after image layout)
format_refuses image layout =
    record { ruled = ruled _ _ tt (format_first image layout); unchanged = format_unchanged image layout }

pub ask_refuses : (r : Record) (block : ℕ) → AskRefusing r block (asked r block)
ask_refuses r block =
    record { ruled = ruled _ _ tt (ask_first r block); bare = place_bare (asked r block).place; unchanged = ask_unchanged r block }

turn_bare : (report : Result Report Refusal) → (report_number report ≡ 0 → ⊥) → Bare (report_first report) × Bare (report_second report)
turn_bare report ne =
    let none : Bare unseen = (refl, (refl, refl, refl)) in
    let bare = report_bare report ne in
    (subst Bare (sym bare.0) none, subst Bare (sym bare.1) none)

pub turn_refuses : (r : Record) (image : List ℕ) → TurnRefusing r image (turned r image) (turn_after r image)
turn_refuses r image =
    record { ruled = ruled _ _ tt (turn_first r image); bare = turn_bare (turned r image).report; unchanged = turn_unchanged r image }

-- what a promise allows is what the call answers and leaves
pub demand_1 : Demand1
demand_1 =
    record {
      write = λ image layout block list answer after p. rw (writes_answer image layout block list p, p.leaves) (write_refuses image layout block list);
      read = λ image layout block buffer answer kept after p. rw (reads_answer image layout block buffer p, p.leaves) (read_refuses image layout block buffer);
      visit = λ image layout block answer after p. rw (visits_answer image layout block p, p.leaves) (visit_refuses image layout block);
      format = λ image layout answer after p. rw (formats_answer image layout p, p.leaves) (format_refuses image layout);
      ask = λ r block answer p. rw (asks_answer r block p) (ask_refuses r block);
      turn = λ r image answer after p. let e = turns_answer r image p in rw (e.0, e.1) (turn_refuses r image);
    }
