-- Demand 1: a call is refused exactly for the stated reason, by the table's order, and a refused call changes nothing that was lent.
-- Assumes nothing.
use Rattle.std.specs.Prelude.{ℕ, ◌≡◌, List, length, Result}
use Rattle.ground.specs.Rules.{Rule, Ruled}
use Rattle.block.specs.Verdict.{Said}
use Rattle.layout.specs.declared.Layout.{Layout}
use Rattle.layout.specs.Reason.{image_rules, block_rules}
use Rattle.store.specs.Answer.{Answer, Stored, answer_said, stored_said}
use Rattle.refusal.specs.declared.Refusal.{Refusal}
use Rattle.refusal.specs.Refusal.{answer_number}
use Rattle.store.specs.Reason.{data_rules}
use Rattle.store.specs.Write.{Writes}
use Rattle.store.specs.Read.{Reads}
use Rattle.store.specs.Visit.{Visits}
use Rattle.rota.specs.Numbers.{place_number, place_given}
use Rattle.patrol.specs.declared.Record.{Record}
use Rattle.patrol.specs.Handed.{Formatted}
use Rattle.patrol.specs.declared.Asked.{Asked}
use Rattle.patrol.specs.declared.Turned.{Turned}
use Rattle.patrol.specs.Format.{no_record, Formats}
use Rattle.patrol.specs.Ask.{Asks}
use Rattle.patrol.specs.Turn.{Turns}
use Rattle.patrol.specs.Numbers.{Seen, report_number, report_first, report_second}
use Rattle.patrol.specs.Reason.{ask_rules, turn_rules}

-- nothing is said: verdict and both counts 0
abbrev pub Unsaid : Said → Type 0
Unsaid said = (said.verdict ≡ 0) × (said.count ≡ 0) × (said.beyond ≡ 0)

-- a call on an image that goes by a list of rules, with what was lent to it and what is left there
pub record Refusing {A : Type 0} (said_in : Result A Refusal → Said) (rules : List Rule) (answer : Result A Refusal) (lent left : List ℕ) : Type 1 where
  pub ruled : Ruled rules (answer_number answer)
  pub bare : (answer_number answer ≡ 0 → ⊥) → Unsaid (said_in answer)
  pub unchanged : (answer_number answer ≡ 0 → ⊥) → left ≡ lent

-- the patrol's calls: a refused one hands back the record that it got, or, if it got none, one of zeros
pub record FormatRefusing (image : List ℕ) (layout : Layout) (answer : Formatted) (after : List ℕ) : Type 1 where
  pub ruled : Ruled (image_rules (length image) layout) answer.number
  pub unchanged : (answer.number ≡ 0 → ⊥) → (answer.back ≡ no_record) × (after ≡ image)

pub record AskRefusing (r : Record) (block : ℕ) (answer : Asked) : Type 1 where
  pub ruled : Ruled (ask_rules r block) (place_number answer.place)
  pub bare : (place_number answer.place ≡ 0 → ⊥) → place_given answer.place ≡ 0
  pub unchanged : (place_number answer.place ≡ 0 → ⊥) → answer.back ≡ r

-- a visit with block, verdict and counts 0
abbrev pub Bare : Seen → Type 0
Bare seen = (seen.block ≡ 0) × Unsaid seen.said

pub record TurnRefusing (r : Record) (image : List ℕ) (answer : Turned) (after : List ℕ) : Type 1 where
  pub ruled : Ruled (turn_rules r (length image)) (report_number answer.report)
  pub bare : (report_number answer.report ≡ 0 → ⊥) → Bare (report_first answer.report) × Bare (report_second answer.report)
  pub unchanged : (report_number answer.report ≡ 0 → ⊥) → (answer.back ≡ r) × (after ≡ image)

-- the demand: of every call, whatever its arguments, and of all that its promise allows
pub record Demand1 : Type 1 where
  pub write : (image : List ℕ) (layout : Layout) (block : ℕ) (list : List ℕ) (answer : Stored) (after : List ℕ)
      → Writes image layout block list answer after
      → Refusing stored_said (data_rules (length image) layout block (length list)) answer image after
  pub read : (image : List ℕ) (layout : Layout) (block : ℕ) (buffer : List ℕ) (answer : Answer) (kept after : List ℕ)
      → Reads image layout block buffer answer kept after
      → Refusing answer_said (data_rules (length image) layout block (length buffer)) answer buffer after
  pub visit : (image : List ℕ) (layout : Layout) (block : ℕ) (answer : Answer) (after : List ℕ) → Visits image layout block answer after
      → Refusing answer_said (block_rules (length image) layout block) answer image after
  pub format : (image : List ℕ) (layout : Layout) (answer : Formatted) (after : List ℕ) → Formats image layout answer after
      → FormatRefusing image layout answer after
  pub ask : (r : Record) (block : ℕ) (answer : Asked) → Asks r block answer → AskRefusing r block answer
  pub turn : (r : Record) (image : List ℕ) (answer : Turned) (after : List ℕ) → Turns r image answer after → TurnRefusing r image answer after
