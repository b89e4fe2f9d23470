-- Turn visits the next block, and then the ask at place 1 if there is one; the report names both blocks and their verdicts.
-- If both are the same block it is visited twice. Lost counts as visited. Refusals: 1 to 4 of the image, then 5 of the rota.
-- A refused turn leaves the record as it was and alters no word. Assumes nothing.
use Rattle.std.specs.Prelude.{ℕ, ◌≡◌, List, [], ◌∷◌, length, Option, Some, None, Result, Ok, Err}
use Rattle.refusal.specs.declared.Refusal.{Refusal}
use Rattle.refusal.specs.Refusal.{numbered}
use Rattle.block.specs.declared.Verdict.{Verdict}
use Rattle.block.specs.Verdict.{to_say, verdict_of}
use Rattle.ground.specs.Choice.{if_zero}
use Rattle.ground.specs.Ladder.{◌then◌}
use Rattle.layout.specs.declared.Layout.{Layout}
use Rattle.layout.specs.Layout.{shape_of, blocks}
use Rattle.layout.specs.Refusal.{image_refusal}
use Rattle.rota.specs.declared.Due.{Due}
use Rattle.rota.specs.Answer.{RotaTurned}
use Rattle.rota.specs.Line.{asks_of}
use Rattle.rota.specs.Turning.{moved_on}
use Rattle.rota.specs.Record.{plan_of, rota_of, turn_number, rota_turned}
use Rattle.store.specs.Image.{gathered}
use Rattle.store.specs.Visit.{visit_after}
use Rattle.patrol.specs.declared.Record.{Record}
use Rattle.patrol.specs.declared.Report.{Report}
use Rattle.patrol.specs.declared.Visit.{Visit}
use Rattle.patrol.specs.declared.Turned.{Turned}
use Rattle.patrol.specs.Ask.{with_rota}
use Rattle.patrol.specs.Numbers.{Seen, unseen, report_number, report_first, report_second}

-- the image that a visit leaves
abbrev pub visited : Layout → List ℕ → ℕ → List ℕ
visited layout image block = visit_after image layout block

-- ---- in numbers

-- the first of 1, 2, 3, 4, 5 that applies
abbrev pub turn_refused : Record → ℕ → ℕ
turn_refused r len = image_refusal len r.layout then turn_number (blocks r.layout) r.rota

-- the record after a turn that is accepted
abbrev pub with_turn : Record → Record
with_turn r = with_rota r (rota_of (moved_on (blocks r.layout) (plan_of r.rota)))

-- a block visited in an image
abbrev pub seen_in : Layout → List ℕ → ℕ → Seen
seen_in layout image block = record { block = block; said = to_say (shape_of layout) (gathered layout block image) }

-- the ask at place 1, visited after the block that is next; block, verdict and counts 0 where none waits
abbrev pub ask_seen : Layout → List ℕ → ℕ → List ℕ → Seen
ask_seen layout image next [] = unseen
ask_seen layout image next (first ∷ rest) = seen_in layout (visited layout image next) first

-- the image after both
abbrev pub ask_visited : Layout → List ℕ → ℕ → List ℕ → List ℕ
ask_visited layout image next [] = visited layout image next
ask_visited layout image next (first ∷ rest) = visited layout (visited layout image next) first

-- the promise of turn: the number of its refusal, or 0, both visits, the record after it, and the image that it leaves
pub record Turns (r : Record) (image : List ℕ) (answer : Turned) (after : List ℕ) : Type 0 where
  pub number : report_number answer.report ≡ turn_refused r (length image)
  pub first : report_first answer.report ≡ if_zero (turn_refused r (length image)) (seen_in r.layout image r.rota.next) unseen
  pub second : report_second answer.report
      ≡ if_zero (turn_refused r (length image)) (ask_seen r.layout image r.rota.next (asks_of r.rota.line)) unseen
  pub back : answer.back ≡ if_zero (turn_refused r (length image)) (with_turn r) r
  pub leaves : after ≡ if_zero (turn_refused r (length image)) (ask_visited r.layout image r.rota.next (asks_of r.rota.line)) image

-- ---- the answer itself, as callers use it

-- what a visit says of a block
abbrev pub seen : Layout → List ℕ → ℕ → Verdict
seen layout image block = verdict_of (shape_of layout) (gathered layout block image)

-- a block visited in an image, and the ask's block where one is served
abbrev pub visit_of : Layout → List ℕ → ℕ → Visit
visit_of layout image block = record { block = block; verdict = seen layout image block }

abbrev pub ask_visit : Layout → List ℕ → Option ℕ → Option Visit
ask_visit layout image None = None
ask_visit layout image (Some block) = Some (visit_of layout image block)

abbrev pub ask_patrolled : Layout → List ℕ → Option ℕ → List ℕ
ask_patrolled layout image None = image
ask_patrolled layout image (Some block) = visited layout image block

-- the report of the blocks that are due, and the image after their visits
abbrev pub reported : Layout → List ℕ → Due → Report
reported layout image due =
    record { patrol = visit_of layout image due.patrol; ask = ask_visit layout (visited layout image due.patrol) due.ask }

abbrev pub patrolled : Layout → List ℕ → Due → List ℕ
patrolled layout image due = ask_patrolled layout (visited layout image due.patrol) due.ask

-- the same of what the rota answers
abbrev pub report_by : Layout → List ℕ → Result Due Refusal → Result Report Refusal
report_by layout image (Ok due) = Ok (reported layout image due)
report_by layout image (Err refusal) = Err refusal

abbrev pub image_by : Layout → List ℕ → Result Due Refusal → List ℕ
image_by layout image (Ok due) = patrolled layout image due
image_by layout image (Err refusal) = image

-- the rota's own answer to a turn
abbrev pub turned_now : Record → RotaTurned
turned_now r = rota_turned (blocks r.layout) r.rota

-- what turn answers, by the number of the image's refusal
abbrev pub turned_by : Record → List ℕ → ℕ → Turned
turned_by r image number =
    if_zero number
    (record { report = report_by r.layout image (turned_now r).due; back = with_rota r (turned_now r).rota })
    (record { report = Err (numbered number); back = r })

unfoldable pub turned : Record → List ℕ → Turned
turned r image = turned_by r image (image_refusal (length image) r.layout)

-- the image that turn leaves
unfoldable pub turn_after : Record → List ℕ → List ℕ
turn_after r image = if_zero (image_refusal (length image) r.layout) (image_by r.layout image (turned_now r).due) image
