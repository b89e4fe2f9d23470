-- What the exported calls answer is what the proved calls answer, as words. Assumes nothing.
use Prim.Native.Nat.{ℕ, suc}
use mathlib.Core.Path.{◌≡◌, refl, sym, ap, ap₂, ◌∙◌}
use mathlib.Core.List.{List, [], ◌∷◌, ◌++◌}
use lib.ListN.{get_or}
use Rattle.block.specs.Verdict.{said_words}
use Rattle.layout.specs.declared.Layout.{Layout}
use Rattle.store.specs.Answer.{answer_words}
use Rattle.refusal.specs.Refusal.{answer_number}
use Rattle.store.specs.Read.{read_answer}
use Rattle.store.specs.Visit.{visit_answer}
use Rattle.store.specs.Write.{write_answer}
use Rattle.store.proofs.Promises.{writes, reads, visits}
use Rattle.rota.specs.Numbers.{place_number, place_given}
use Rattle.patrol.specs.declared.Report.{Report}
use Rattle.refusal.specs.declared.Refusal.{Refusal}
use Rattle.std.specs.Prelude.{Result}
use Rattle.patrol.specs.Ask.{asked}
use Rattle.patrol.specs.Turn.{turned}
use Rattle.patrol.specs.Numbers.{Seen, report_number, report_words, seen_words}
use Rattle.patrol.proofs.Promises.{asks, turns}
use Rattle.words.specs.Answers.{visit_width}
use Rattle.words.specs.Records.{record_of}
use Rattle.foldgrebe.specs.Calls.{WriteCall, ReadCall, VisitCall, AskCall, TurnCall}
use Rattle.demands.specs.Demand3.{PatrolVisits, AskVisits}

pub write_said : {image list after : List ℕ} {layout : Layout} {block number : ℕ} → WriteCall image layout block list number after
    → number ≡ answer_number (write_answer image layout block list)
write_said {image} {list} {after} {layout} {block} c = c.answers ∙ sym (writes image layout block list refl refl).answers.number

pub read_said : {image buffer kept after verdict : List ℕ} {layout : Layout} {block number : ℕ}
    → ReadCall image layout block buffer number kept after verdict
    → (number ≡ answer_number (read_answer image layout block buffer)) × (verdict ≡ answer_words (read_answer image layout block buffer))
read_said {image} {buffer} {kept} {after} {verdict} {layout} {block} c =
    let said = (reads image layout block buffer refl refl).answers in
    (c.answers ∙ sym said.number, c.says ∙ ap said_words (sym said.says))

pub visit_said : {image after verdict : List ℕ} {layout : Layout} {block number : ℕ} → VisitCall image layout block number after verdict
    → (number ≡ answer_number (visit_answer image layout block)) × (verdict ≡ answer_words (visit_answer image layout block))
visit_said {image} {after} {verdict} {layout} {block} c =
    let said = (visits image layout block refl refl).answers in
    (c.answers ∙ sym said.number, c.says ∙ ap said_words (sym said.says))

pub ask_said : {lent words place : List ℕ} {block number : ℕ} → AskCall lent block number words place
    → (number ≡ place_number (asked (record_of lent) block).place) × (place ≡ place_given (asked (record_of lent) block).place ∷ [])
ask_said {lent} {words} {place} {block} c =
    let said = asks (record_of lent) block refl in
    (c.answers ∙ sym said.number, c.says ∙ ap (λ (k : ℕ). k ∷ []) (sym said.place))

pub turn_said : {lent image words after report : List ℕ} {number : ℕ} → TurnCall lent image number words after report
    → (number ≡ report_number (turned (record_of lent) image).report) × (report ≡ report_words (turned (record_of lent) image).report)
turn_said {lent} {image} c =
    let said = turns (record_of lent) image refl refl in (
      c.answers ∙ sym said.number,
      c.says ∙ ap₂ (λ (first second : Seen). seen_words first ++ seen_words second) (sym said.first) (sym said.second),
    )

-- ---- what the words of a report name

pub patrol_named : (block : ℕ) (report : Result Report Refusal) → PatrolVisits block report
    → (report_number report ≡ 0) × (get_or (report_words report) 0 0 ≡ block) × (get_or (report_words report) 1 0 ≡ 0 → ⊥)
patrol_named block report h = (h.0, h.1.0, h.1.1)

pub ask_named : (block : ℕ) (report : Result Report Refusal) → AskVisits block report
    → (report_number report ≡ 0) × (get_or (report_words report) visit_width 0 ≡ block) × (get_or (report_words report) (suc visit_width) 0 ≡ 0 → ⊥)
ask_named block report h = (h.0, h.1.0, h.1.1)
