-- Demand 3, a and b: the turns and the asks of the store are those of its rota. Assumes nothing.
use Prim.Native.Nat.{ℕ, ◌+◌, ◌≤◌, ◌<◌}
use mathlib.Core.Path.{◌≡◌, refl, sym, ap, ap₂, subst, ◌∙◌}
use native.Mathlib.Omega.{arith}
use mathlib.Core.List.{List, ◌∷◌, ◌++◌, append_assoc, append-nil}
use native.Mathlib.Nat.{one-le-mul}
use lib.ListN.{length}
use Rattle.block.proofs.Verdicts.{verdict_some}
use Rattle.layout.specs.declared.Layout.{Layout}
use Rattle.layout.specs.Layout.{blocks}
use Rattle.layout.specs.Refusal.{image_refusal}
use Rattle.layout.proofs.Ladder.{geometry, image_layout}
use Rattle.store.specs.Fresh.{fresh_after, fresh_image}
use Rattle.rota.specs.declared.Rota.{Rota}
use Rattle.rota.specs.declared.Due.{Due}
use Rattle.std.specs.Prelude.{Some, Result, Ok}
use Rattle.refusal.specs.declared.Refusal.{Refusal}
use Rattle.rota.specs.Numbers.{first_block, place_given}
use Rattle.rota.specs.Record.{fresh as freshRota, rota_asked, rota_turned}
use Rattle.rota.specs.Steps.{turn as rotaTurn, turns as rotaTurns, rota_run, rota_at, due_at}
use Rattle.rota.specs.Plan.{Plan}
use Rattle.rota.specs.Turning.{due_of, due}
use Rattle.rota.proofs.Numbers.{given}
use Rattle.rota.proofs.Runs.{plan_at, due_runs}
use Rattle.rota.proofs.Patrol.{round_complete, ask_served}
use Rattle.patrol.specs.declared.Record.{Record}
use Rattle.patrol.specs.declared.Asked.{Asked}
use Rattle.patrol.specs.declared.Turned.{Turned}
use Rattle.patrol.specs.Ask.{asked}
use Rattle.patrol.specs.Format.{formatted}
use Rattle.patrol.specs.Numbers.{report_number}
use Rattle.patrol.specs.Turn.{seen, visited as visitedIn, report_by, turned_now, turned}
use Rattle.patrol.proofs.Promises.{asks_answer, turns_answer}
use Rattle.demands.specs.Steps.{Step, ask, turn, fresh, after, step_after, report, turns}
use Rattle.demands.specs.Demand3.{PatrolVisits, AskVisits, store, NotFormatted, TurnsAccepted, EveryBlockVisited, AskServed}
use Rattle.demands.proofs.Lasting.{fresh_size, front_none}
use Rattle.demands.proofs.Refused.{given_formatted}
use Rattle.demands.proofs.Parts.{Part, all_parts, parts_append, parts_turns, part_of, turn_step}
use Rattle.demands.proofs.Simulated.{OfStore, run_stays, run_rota}

-- ---- what a turn reports of the blocks that are due

turn_reports : (r : Record) (image : List ℕ) → image_refusal (length image) r.layout ≡ 0
    → (turned r image).report ≡ report_by r.layout image (turned_now r).due
unfolding turned
turn_reports r image e = rw e

due_names : (layout : Layout) (image : List ℕ) (next : ℕ) (asks : List ℕ) (block : ℕ) → first_block (Ok (due_of next asks)) ≡ block
    → PatrolVisits block (report_by layout image (Ok (due_of next asks)))
due_names layout image next asks block e = (refl, (e, verdict_some (seen layout image next)))

ask_names : (layout : Layout) (image : List ℕ) (first second : ℕ)
    → AskVisits second (report_by layout image (Ok (record { patrol = first; ask = Some second })))
ask_names layout image first second = (refl, (refl, verdict_some (seen layout (visitedIn layout image first) second)))

-- the parts of a store's steps, the rota after them, what it says, and the blocks that are then due
module _ (image : List ℕ) (layout : Layout) where
  abbrev pub parts_of : List Step → List Part
  parts_of steps = all_parts steps (fresh image layout)

  abbrev rota_after : List Step → Rota
  rota_after steps = rota_at (blocks layout) (parts_of steps)

  abbrev plan_after : List Step → Plan
  plan_after steps = plan_at (blocks layout) (parts_of steps)

  abbrev due_after : List Step → Result Due Refusal
  due_after steps = due_at (blocks layout) (parts_of steps)

module _ (image : List ℕ) (layout : Layout) (fits : image_refusal (length image) layout ≡ 0) where
  -- ---- what an accepted format leaves

  pub fresh_image_lem : (fresh image layout).image ≡ fresh_image layout
  unfolding fresh_after
  fresh_image_lem = rw fits

  pub fresh_rota : (fresh image layout).patrol.rota ≡ freshRota
  unfolding formatted
  fresh_rota = rw fits

  pub fresh_stays : OfStore (length image) layout fits (fresh image layout)
  unfolding formatted
  fresh_stays = record { size = fresh_size image layout; names = rw fits }

  -- ---- the record after some steps

  stays : (steps : List Step) → NotFormatted image layout steps → OfStore (length image) layout fits (store image layout steps)
  stays steps none = run_stays (length image) layout fits steps (fresh image layout) none fresh_stays

  rota_after_lem : (steps : List Step) → NotFormatted image layout steps → (store image layout steps).patrol.rota ≡ rota_after image layout steps
  rota_after_lem steps none =
      run_rota (length image) layout fits steps (fresh image layout) none fresh_stays ∙ ap (rota_run (blocks layout) (parts_of image layout steps)) fresh_rota

  -- what a turn reports, and an ask answers, after them
  report_after : (steps : List Step) → NotFormatted image layout steps
      → report (store image layout steps) ≡ report_by layout (store image layout steps).image (due_after image layout steps)
  report_after steps none =
      let state = store image layout steps in
      turn_reports state.patrol state.image (rw ((stays steps none).names, (stays steps none).size) fits)
      ∙ ap₂ (λ (l : Layout) (rota : Rota). report_by l state.image (rota_turned (blocks l) rota).due) (stays steps none).names (rota_after_lem steps none)

  place_after : (steps : List Step) → NotFormatted image layout steps → (block : ℕ)
      → (asked (store image layout steps).patrol block).place ≡ (rota_asked (blocks layout) (rota_after image layout steps) block).place
  unfolding asked
  place_after steps none block = rw ((stays steps none).names, image_layout layout (length image) fits, rota_after_lem steps none)

  pub some_blocks : 1 ≤ blocks layout
  some_blocks = let g = geometry layout (image_layout layout (length image) fits) in one-le-mul g.g_first g.s_first

  due_after_lem : (steps : List Step) → due_after image layout steps ≡ Ok (due (plan_after image layout steps))
  due_after_lem steps = due_runs (blocks layout) some_blocks (parts_of image layout steps)

  -- ---- a

  accepted : (steps : List Step) → NotFormatted image layout steps → report_number (report (store image layout steps)) ≡ 0
  accepted steps none =
      rw (report_after steps none, due_after_lem steps) refl

  names : (steps : List Step) → NotFormatted image layout steps → (block : ℕ) → first_block (due_after image layout steps) ≡ block
      → PatrolVisits block (report (store image layout steps))
  names steps none block e =
      let plan = plan_after image layout steps in
      rw (report_after steps none, due_after_lem steps) (due_names _ _ plan.next plan.asks block (rw (due_after_lem steps) at e))

  visited : (before during : List Step) → NotFormatted image layout (before ++ during) → blocks layout ≤ turns during → (block : ℕ) → block < blocks layout
      → (first rest : List Step) × (during ≡ first ++ turn ∷ rest) × PatrolVisits block (report (store image layout (before ++ first)))
  visited before during none h block inside =
      let state = store image layout before in
      let long : blocks layout ≤ rotaTurns (all_parts during state) = rw (parts_turns during state) h in
      let found = round_complete (blocks layout) some_blocks (parts_of image layout before) (all_parts during state) long block inside in
      let at = part_of during state found.0 rotaTurn found.1 found.2 in
      let is = turn_step at.step (after at.front state) at.early at.late at.is_part in
      let passed : found.0 ≡ all_parts at.front state =
      at.front_is ∙ ap (λ (l : List Part). all_parts at.front state ++ l) is.1 ∙ append-nil (all_parts at.front state) in
      let refused : NotFormatted image layout (before ++ at.front) =
      front_none (fresh image layout) (before ++ at.front) (at.step ∷ at.tail) (rw (append_assoc, ← at.split) none) in (
        at.front,
        at.tail,
        at.split ∙ ap (λ (step : Step). at.front ++ step ∷ at.tail) is.0,
        names (before ++ at.front) refused block (rw (parts_append before at.front (fresh image layout), ← passed) found.3),
      )

  -- ---- b

  served : (before between : List Step) (block place : ℕ) → NotFormatted image layout (before ++ ask block ∷ between)
      → NotFormatted image layout before
      → (asked (store image layout before).patrol block).place ≡ Ok place
      → turns between + 1 ≡ place
      → AskVisits block (report (store image layout (before ++ ask block ∷ between)))
  unfolding all_parts
  served before between block place all none e t =
      let later = step_after (ask block) (store image layout before) in
      let got : (rota_asked (blocks layout) (rota_after image layout before) block).place ≡ Ok place = sym (place_after before none block) ∙ e in
      let turn_k : rotaTurns (all_parts between later) + 1 ≡ place = rw (parts_turns between later) t in
      let two = ask_served (blocks layout) some_blocks (parts_of image layout before) block place got (all_parts between later) turn_k in
      rw (report_after (before ++ ask block ∷ between) all, parts_append before (ask block ∷ between) (fresh image layout), two) (ask_names layout _ _ block)

-- ---- of all that the promises allow

pub turns_accepted : (image : List ℕ) (layout : Layout) → TurnsAccepted image layout
turns_accepted image layout formatted before none answer left p =
    ap (λ (a : Turned). report_number a.report) (turns_answer _ _ p).0 ∙ accepted image layout (omega (arith, formatted)) before none

pub every_block_visited : (image : List ℕ) (layout : Layout) → EveryBlockVisited image layout
unfolding turns
every_block_visited image layout formatted before during none enough block inside =
    let found = visited image layout (omega (arith, formatted)) before during none (omega (arith, enough)) block inside in (
      found.0,
      found.1,
      found.2,
      λ answer left p. subst (λ (a : Turned). PatrolVisits block a.report) (sym (turns_answer _ _ p).0) found.3,
    )

pub asks_served : (image : List ℕ) (layout : Layout) → AskServed image layout
asks_served image layout before between block all gives asks accepts turn_k answer left p =
    let none = front_none (fresh image layout) before (ask block ∷ between) all in
    let r = (store image layout before).patrol in
    let place = gives.place in
    let is : place ≡ (asked r block).place = ap (λ (a : Asked). a.place) (asks_answer r block asks) in
    let got : (asked r block).place ≡ Ok (place_given place) = sym is ∙ given place accepts in
    let fits = given_formatted image layout before none block (place_given place) got in
    let visits = served image layout fits before between block (place_given place) all none got (omega (arith, turn_k)) in
    subst (λ (a : Turned). AskVisits block a.report) (sym (turns_answer _ _ p).0) visits
