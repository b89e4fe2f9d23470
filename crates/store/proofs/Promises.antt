-- Each promise in numbers, and the answer itself: what equals the call's answer keeps the promise, and what keeps it equals that answer.
-- Assumes nothing.
use Prim.Native.Nat.{ℕ, zero, suc, ◌≤◌}
use mathlib.Core.Path.{◌≡◌, refl, sym, ap, subst, ◌∙◌}
use mathlib.Core.List.{List}
use lib.ListN.{length}
use Rattle.ground.specs.Choice.{if_zero}
use Rattle.block.specs.declared.Verdict.{Verdict}
use Rattle.block.specs.Verdict.{Said, unsaid, said_of, to_say, verdict_of}
use Rattle.block.proofs.Verdicts.{verdict_says, said_told}
use Rattle.layout.specs.declared.Layout.{Layout}
use Rattle.layout.specs.Layout.{shape_of}
use Rattle.layout.specs.Refusal.{block_refusal}
use Rattle.block.specs.declared.Verdict.TheVariants.{Clean}
use Rattle.refusal.specs.Refusal.{answered}
use Rattle.store.specs.Answer.{Answer, Stored, answer_said, stored_said, verdict_in, Answers}
use Rattle.store.specs.Image.{gathered}
use Rattle.store.specs.Refusal.{data_refusal}
use Rattle.store.specs.Write.{write_answer, write_after, Writes}
use Rattle.store.specs.Read.{read_answer, read_buffer, Reads}
use Rattle.store.specs.Visit.{visit_answer, visit_after, Visits, VisitsAccepted}
use Rattle.layout.proofs.Ladder.{block_known}
use Rattle.store.proofs.Ladder.{data_known}
use Rattle.store.proofs.Answers.{answers_one, stored_one, answers_by}

module _ (image : List ℕ) (layout : Layout) (block : ℕ) where
  abbrev seen : Verdict
  seen = verdict_of (shape_of layout) (gathered layout block image)

  -- what is found of the block, where a call has some refusal
  found : (refusal : ℕ) → refusal ≤ 14 → Answers answer_said refusal (to_say (shape_of layout) (gathered layout block image)) (answered refusal seen)
  found refusal known =
      subst (λ (said : Said). Answers answer_said refusal said (answered refusal seen)) (verdict_says (shape_of layout) (gathered layout block image))
      (answers_by (λ r. refl) refusal seen known)

  stored : (list : ℕ) → Answers stored_said (data_refusal (length image) layout block list) unsaid (answered (data_refusal (length image) layout block list) tt)
  stored list = answers_by (λ r. refl) _ tt (data_known (length image) layout block list)

  -- ---- write

  module _ (list : List ℕ) {answer : Stored} {after : List ℕ} where
    pub writes : answer ≡ write_answer image layout block list → after ≡ write_after image layout block list → Writes image layout block list answer after
    unfolding write_answer
    writes e f = record { answers = rw e (stored (length list)); leaves = f }

    pub writes_answer : Writes image layout block list answer after → answer ≡ write_answer image layout block list
    unfolding write_answer
    writes_answer w = stored_one answer _ w.answers (stored (length list))

  -- ---- read

  module _ (buffer : List ℕ) {answer : Answer} {after : List ℕ} where
    pub reads : answer ≡ read_answer image layout block buffer → after ≡ read_buffer image layout block buffer
        → Reads image layout block buffer answer image after
    unfolding read_answer
    reads e f = record { answers = rw e (found _ (data_known (length image) layout block (length buffer))); keeps = refl; leaves = f }

    pub reads_answer : {kept : List ℕ} → Reads image layout block buffer answer kept after → answer ≡ read_answer image layout block buffer
    unfolding read_answer
    reads_answer w = answers_one answer _ w.answers (found _ (data_known (length image) layout block (length buffer)))

  -- ---- visit

  module _ {answer : Answer} {after : List ℕ} where
    pub visits : answer ≡ visit_answer image layout block → after ≡ visit_after image layout block → Visits image layout block answer after
    unfolding visit_answer
    visits e f = record { answers = rw e (found _ (block_known layout (length image) block)); leaves = f }

    pub visits_answer : Visits image layout block answer after → answer ≡ visit_answer image layout block
    unfolding visit_answer
    visits_answer w = answers_one answer _ w.answers (found _ (block_known layout (length image) block))

  -- what a caller hears who wants the verdict alone
  heard : said_of (verdict_in (visit_answer image layout block))
      ≡ if_zero (block_refusal (length image) layout block) (to_say (shape_of layout) (gathered layout block image)) (said_of Clean)
  unfolding visit_answer
  heard = by (block_refusal (length image) layout block)
    where
      by : (n : ℕ) → said_of (verdict_in (answered n seen))
          ≡ if_zero n (to_say (shape_of layout) (gathered layout block image)) (said_of Clean)
      by zero = verdict_says (shape_of layout) (gathered layout block image)
      by (suc n) = refl

  module _ {v : Verdict} {after : List ℕ} where
    pub visits_accepted : v ≡ verdict_in (visit_answer image layout block) → after ≡ visit_after image layout block → VisitsAccepted image layout block v after
    visits_accepted e f = record { says = ap said_of e ∙ heard; leaves = f }

    pub accepted_verdict : VisitsAccepted image layout block v after → v ≡ verdict_in (visit_answer image layout block)
    accepted_verdict w = said_told v _ (w.says ∙ sym heard)
