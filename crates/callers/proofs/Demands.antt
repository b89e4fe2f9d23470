-- The three demands hold of a caller in C. Assumes nothing.
use Prim.Native.Nat.{ℕ}
use mathlib.Core.Path.{◌≡◌, refl, sym, ap, ap₂, ◌∙◌}
use mathlib.Core.List.{List, [], ◌∷◌, ◌++◌}
use lib.ListN.{length, get_or, take, drop, replicate}
use Rattle.ground.specs.Choice.{if_zero}
use Rattle.ground.specs.Rules.{Ruled}
use Rattle.ground.proofs.Choices.{refused_kept}
use Rattle.block.specs.Block.{Fitting}
use Rattle.block.specs.Verdict.{Said, unsaid, said_words}
use Rattle.layout.specs.declared.Layout.{Layout}
use Rattle.layout.specs.Reason.{image_rules, block_rules}
use Rattle.store.specs.Reason.{data_rules}
use Rattle.store.specs.Read.{read_answer, read_buffer}
use Rattle.store.specs.Visit.{visit_answer, visit_after}
use Rattle.store.specs.Answer.{Answer}
use Rattle.store.specs.Answer.{answer_words}
use Rattle.store.proofs.Promises.{writes, reads, visits}
use Rattle.patrol.specs.declared.Record.{Record}
use Rattle.patrol.specs.Format.{formatted}
use Rattle.patrol.specs.Turn.{turned, turn_after, turn_refused, Turns}
use Rattle.patrol.specs.Numbers.{Seen, unseen, seen_words, report_number, report_words}
use Rattle.patrol.specs.Reason.{ask_rules, turn_rules}
use Rattle.patrol.proofs.Promises.{formats, asks, turns}
use Rattle.words.specs.Answers.{verdict_width, visit_width, report_width}
use Rattle.words.specs.Records.{record_width, record_of, record_words}
use Rattle.words.proofs.RoundTrip.{same_words, same_record}
use Rattle.foldgrebe.specs.Calls.{WriteCall, ReadCall, VisitCall, FormatCall, AskCall, TurnCall}
use Rattle.demands.specs.Steps.{Step, ask, report}
use Rattle.demands.specs.Demand2.{Visiting, Writing, Reading}
use Rattle.demands.specs.Demand3.{store}
use Rattle.demands.proofs.Demand1.{demand_1}
use Rattle.demands.proofs.Demand2.{demand_2}
use Rattle.demands.proofs.Demand3.{demand_3}
use Rattle.callers.specs.Handing.{Kept, RanFrom}
use Rattle.callers.specs.Demands.{RoundTrips, CallerRefusing, CallerDemand1, CallerTurning, CallerDemand2, CallerDemand3}
use Rattle.callers.specs.Demands.{CallerTurnsAccepted, CallerBlocksVisited, CallerAskServed, CallerReadsRight, CallerRuns}
use Rattle.callers.proofs.Answers.{write_said, read_said, visit_said, ask_said, turn_said, patrol_named, ask_named}
use Rattle.callers.proofs.Followed.{held, step_number, followed}
use Rattle.callers.proofs.Running.{runs}

pub round_trips : RoundTrips
round_trips = record { words = same_words; back = same_record }

-- ---- demand 1

-- a number that is told goes by the rules, and what it tells
pub refusing : {Goes : ℕ → Type 1} {number told : ℕ} {Else : Type 0} → number ≡ told → Goes told → ((told ≡ 0 → ⊥) → Else)
    → CallerRefusing Goes number Else
refusing e ruled else = record { ruled = rw e ruled; unchanged = λ ne. else (λ z. ne (e ∙ z)) }

-- what is said where a call is refused, as words
none_said : (number : ℕ) (said : Said) → (number ≡ 0 → ⊥) → said_words (if_zero number said unsaid) ≡ said_words unsaid
none_said number said ne = ap said_words (refused_kept number said unsaid ne)

none_seen : (number : ℕ) (seen : Seen) → (number ≡ 0 → ⊥) → seen_words (if_zero number seen unseen) ≡ seen_words unseen
none_seen number seen ne = ap seen_words (refused_kept number seen unseen ne)

-- the words of a record that a refused call hands back
lent_back : (lent : List ℕ) → length lent ≡ record_width → (number : ℕ) (moved : Record) → (number ≡ 0 → ⊥)
    → record_words (if_zero number moved (record_of lent)) ≡ lent
lent_back lent size number moved ne = ap record_words (refused_kept number moved (record_of lent) ne) ∙ same_words lent size

module _ {image : List ℕ} {layout : Layout} {block number : ℕ} where
  write_refuses : {list after : List ℕ} → WriteCall image layout block list number after
      → CallerRefusing (Ruled (data_rules (length image) layout block (length list))) number (after ≡ image)
  write_refuses {list} c =
      let d = demand_1.write image layout block list _ _ (writes image layout block list refl refl) in
      refusing (write_said c) d.ruled (λ ne. c.leaves ∙ d.unchanged ne)

  read_refuses : {buffer kept after verdict : List ℕ} → ReadCall image layout block buffer number kept after verdict
      → CallerRefusing (Ruled (data_rules (length image) layout block (length buffer))) number
      ((kept ≡ image) × (after ≡ buffer) × (verdict ≡ replicate verdict_width 0))
  read_refuses {buffer} c =
      let d = demand_1.read image layout block buffer _ _ _ (reads image layout block buffer refl refl) in
      let told = (read_said c).0 in
      refusing told d.ruled (λ ne. (c.keeps, c.leaves ∙ d.unchanged ne, c.says ∙ none_said _ _ (λ z. ne (sym told ∙ c.answers ∙ z))))

  visit_refuses : {after verdict : List ℕ} → VisitCall image layout block number after verdict
      → CallerRefusing (Ruled (block_rules (length image) layout block)) number ((after ≡ image) × (verdict ≡ replicate verdict_width 0))
  visit_refuses c =
      let d = demand_1.visit image layout block _ _ (visits image layout block refl refl) in
      let told = (visit_said c).0 in
      refusing told d.ruled (λ ne. (c.leaves ∙ d.unchanged ne, c.says ∙ none_said _ _ (λ z. ne (sym told ∙ c.answers ∙ z))))

format_refuses : {image after words : List ℕ} {layout : Layout} {number : ℕ} → FormatCall image layout number after words
    → CallerRefusing (Ruled (image_rules (length image) layout)) number ((after ≡ image) × (words ≡ replicate record_width 0))
unfolding formatted
format_refuses {image} {after} {words} {layout} c =
    let d = demand_1.format image layout _ _ (formats image layout refl refl) in
    refusing c.answers d.ruled (λ ne. let kept = d.unchanged ne in (c.leaves ∙ kept.1, c.back ∙ ap record_words kept.0))

ask_refuses : {lent words place : List ℕ} {block number : ℕ} → length lent ≡ record_width → AskCall lent block number words place
    → CallerRefusing (Ruled (ask_rules (record_of lent) block)) number ((words ≡ lent) × (place ≡ 0 ∷ []))
ask_refuses {lent} {words} {place} {block} size c =
    let d = demand_1.ask (record_of lent) block _ (asks (record_of lent) block refl) in
    let told = ask_said c in
    refusing told.0 d.ruled
    (λ ne. (
      c.back ∙ lent_back lent size _ _ (λ z. ne (sym told.0 ∙ c.answers ∙ z)),
      told.1 ∙ ap (λ (k : ℕ). k ∷ []) (d.bare ne),
    ))

turn_refuses : {lent image words after report : List ℕ} {number : ℕ} → length lent ≡ record_width → TurnCall lent image number words after report
    → CallerRefusing (Ruled (turn_rules (record_of lent) (length image))) number ((words ≡ lent) × (after ≡ image) × (report ≡ replicate report_width 0))
turn_refuses {lent} {image} size c =
    let d = demand_1.turn (record_of lent) image _ _ (turns (record_of lent) image refl refl) in
    let told = (turn_said c).0 in
    refusing told d.ruled
    (λ ne.
    let some : turn_refused (record_of lent) (length image) ≡ 0 → ⊥ = λ z. ne (sym told ∙ c.answers ∙ z) in (
      c.back ∙ lent_back lent size _ _ some,
      c.leaves ∙ refused_kept _ _ image some,
      c.says ∙ ap₂ (λ (a b : List ℕ). a ++ b) (none_seen _ _ some) (none_seen _ _ some),
    ))

pub caller_demand_1 : CallerDemand1
caller_demand_1 =
    record { write = write_refuses; read = read_refuses; visit = visit_refuses; format = format_refuses; ask = ask_refuses; turn = turn_refuses }

-- ---- demand 2

module _ {image : List ℕ} {layout : Layout} {block number : ℕ} where
  visit_mends : {after verdict : List ℕ} → Fitting image → VisitCall image layout block number after verdict → number ≡ 0
      → (answer : Answer) × Visiting image layout block answer after × (verdict ≡ answer_words answer)
  visit_mends fits c z =
      let told = visit_said c in
      let d = demand_2.visit image layout block _ _ fits (visits image layout block refl refl) (sym told.0 ∙ z) in
      (visit_answer image layout block, rw c.leaves d, told.1)

  write_stores : {list after : List ℕ} → Fitting list → WriteCall image layout block list number after → number ≡ 0
      → Writing image layout block list after
  write_stores {list} fits c z =
      rw c.leaves (demand_2.write image layout block list _ _ fits (writes image layout block list refl refl) (sym (write_said c) ∙ z))

  read_mends : {buffer kept after verdict : List ℕ} → Fitting image → ReadCall image layout block buffer number kept after verdict → number ≡ 0
      → (kept ≡ image)
      × (answer : Answer) × Reading layout block buffer answer after (visit_answer image layout block) (visit_after image layout block)
      × (verdict ≡ answer_words answer)
  read_mends {buffer} fits c z =
      let told = read_said c in
      let d = demand_2.read image layout block buffer _ _ _ fits (reads image layout block buffer refl refl) (sym told.0 ∙ z) _ _
      (visits image layout block refl refl) in
      (c.keeps, read_answer image layout block buffer, rw c.leaves d, told.1)

-- a block with the words of what is said of it
seen_words_lem : {seen : Seen} {block : ℕ} {said : Said} {verdict : List ℕ} → seen ≡ record { block = block; said = said } → verdict ≡ said_words said
    → seen_words seen ≡ block ∷ verdict
seen_words_lem {seen} {block} e w = ap seen_words e ∙ ap (λ (words : List ℕ). block ∷ words) (sym w)

turn_passes : {lent image words after report : List ℕ} {number : ℕ} → TurnCall lent image number words after report → number ≡ 0
    → {between verdict : List ℕ} {visited : ℕ} → VisitCall image (record_of lent).layout (record_of lent).rota.next visited between verdict
    → CallerTurning (record_of lent) report after visited between verdict
turn_passes {lent} {image} {words} {after} {report} c z {between} {verdict} v =
    let r = record_of lent in
    let told = turn_said c in
    let said = visit_said v in
    let p = turns r image refl refl in
    let d = demand_2.turn r image _ _ p (sym told.0 ∙ z) _ _ (visits image r.layout r.rota.next refl v.leaves) in
    let left = c.leaves ∙ sym p.leaves in
    record {
      accepted = said.0 ∙ d.accepted;
      first = ap (take visit_width) told.1 ∙ seen_words_lem d.first said.1;
      alone = λ e. let a = d.alone e in (ap (drop visit_width) told.1 ∙ ap seen_words a.0, left ∙ a.1);
      asked = λ block rest e {number} {last} {other} w.
          let tells = visit_said w in
          let a = d.asked block rest e _ _ (visits between r.layout block refl w.leaves) in
          (tells.0 ∙ a.0, ap (drop visit_width) told.1 ∙ seen_words_lem a.1 tells.1, left ∙ a.2);
    }

pub caller_demand_2 : CallerDemand2
caller_demand_2 = record { visit = visit_mends; write = write_stores; read = read_mends; turn = turn_passes }

-- ---- demand 3

pub caller_runs : CallerRuns
caller_runs =
    record { runs = runs; numbers = λ image layout before step old new number r c. step_number step new (followed image layout before r) c }

module _ (image : List ℕ) (layout : Layout) where
  -- the report of a turn is that of the state
  reported : (steps : List Step) (now : Kept) → RanFrom image layout steps now
      → (number : ℕ) (words after said : List ℕ) → TurnCall now.words now.image number words after said
      → (number ≡ report_number (report (store image layout steps))) × (said ≡ report_words (report (store image layout steps)))
  reported steps now r number words after said c =
      let h = followed image layout steps r in
      rw (← held h, ← h.image) (turn_said c)

  -- what a turn of the state answers
  turned_so : (steps : List Step) → let state = store image layout steps in
      Turns state.patrol state.image (turned state.patrol state.image) (turn_after state.patrol state.image)
  turned_so steps = turns (store image layout steps).patrol (store image layout steps).image refl refl

  turns_accepted : CallerTurnsAccepted image layout
  turns_accepted formatted steps none now r number words after said c =
      (reported steps now r number words after said c).0 ∙ demand_3.turns_accepted image layout formatted steps none _ _ (turned_so steps)

  every_block_visited : CallerBlocksVisited image layout
  every_block_visited formatted before during none enough block inside =
      let found = demand_3.every_block_visited image layout formatted before during none enough block inside in
      let named = patrol_named block (report (store image layout (before ++ found.0))) (found.3 _ _ (turned_so (before ++ found.0))) in (
        found.0,
        found.1,
        found.2,
        λ now r number words after said c.
            let told = reported (before ++ found.0) now r number words after said c in
            rw (told.0, told.1) named,
      )

  ask_served : CallerAskServed image layout
  ask_served before between block none earlier was number words place c z k now r answer handed after said d =
      let h = followed image layout before was in
      let heard = ask_said c in
      let asking = rw (held h) at heard in
      let kth = k ∙ ap (λ (l : List ℕ). get_or l 0 0) asking.1 in
      let serves = demand_3.ask_served image layout before between block none _ (asks (store image layout before).patrol block refl)
      (sym asking.0 ∙ z)
      kth
      _
      _
      (turned_so (before ++ ask block ∷ between)) in
      let named = ask_named block (report (store image layout (before ++ ask block ∷ between))) serves in
      let told = reported (before ++ ask block ∷ between) now r answer handed after said d in
      rw (told.0, told.1) named

  reads_right : CallerReadsRight image layout
  reads_right steps one words spaced none before rest named block buffer e now r number kept left verdict c z =
      let h = followed image layout before r in
      let said = read_said c in
      let told = rw h.image at said in
      let right = demand_3.reads_right image layout steps one words spaced none before rest named block buffer e _ _ _
      (reads (store image layout before).image named block buffer refl refl)
      (sym told.0 ∙ z) in (
        λ lost. right.0 (sym (ap (λ (l : List ℕ). get_or l 0 0) told.1) ∙ lost),
        c.leaves ∙ ap (λ (l : List ℕ). read_buffer l named block buffer) h.image ∙ right.1,
      )

pub caller_demand_3 : CallerDemand3
caller_demand_3 =
    record { turns_accepted = turns_accepted; every_block_visited = every_block_visited; ask_served = ask_served; reads_right = reads_right }
