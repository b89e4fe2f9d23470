-- The turns of a store after a spark: each leaves the image near what it was, and the block that it visits as it was. Assumes nothing.
use Prim.Native.Nat.{ℕ, zero, suc, ◌≤◌, ◌<◌}
use mathlib.Core.Path.{◌≡◌, refl, sym, ap, subst, ◌∙◌}
use mathlib.Core.List.{List, [], ◌∷◌, ◌++◌, append_assoc}
use mathlib.Core.Logic.{⊎_elim}
use native.Mathlib.Omega.{arith}
use lib.ListN.{length}
use Rattle.ground.specs.Choice.{if_zero}
use Rattle.block.specs.Block.{data_of}
use Rattle.layout.specs.declared.Layout.{Layout}
use Rattle.layout.specs.Layout.{shape_of, blocks}
use Rattle.layout.specs.Refusal.{image_refusal}
use Rattle.store.specs.Answer.{Answer}
use Rattle.store.specs.Answer.{answer_said}
use Rattle.refusal.specs.Refusal.{answer_number}
use Rattle.store.specs.Image.{stored_rows}
use Rattle.store.specs.Read.{Reads}
use Rattle.store.specs.Visit.{Visits, visit_answer, visit_after}
use Rattle.store.proofs.Promises.{visits}
use Rattle.rota.specs.declared.Due.{Due}
use Rattle.std.specs.Prelude.{Option, Some, None, Result, Ok, Err}
use Rattle.refusal.specs.declared.Refusal.{Refusal}
use Rattle.rota.specs.Line.{asks_of}
use Rattle.patrol.specs.declared.Record.{Record}
use Rattle.patrol.specs.declared.Turned.{Turned}
use Rattle.patrol.specs.Format.{formatted}
use Rattle.patrol.specs.Numbers.{Seen, report_number, report_first, report_second}
use Rattle.patrol.specs.Turn.{ask_patrolled, image_by, turned_now, turned, turn_after, Turns}
use Rattle.patrol.proofs.Promises.{turns as turned-allowed}
use Rattle.demands.specs.Demand2.{Turning, SaysLost}
use Rattle.demands.specs.Demand3.{PatrolVisits, store, NotFormatted}
use Rattle.demands.specs.Steps.{Step, format, write, read, visit, ask, turn, flip, State, fresh, step_after, after, turns}
use Rattle.demands.specs.Burst.{AllValid, Reach, Burst, Each, FlipOf, Quiet, Sparked}
use Rattle.demands.proofs.Demand2.{demand_2}
use Rattle.demands.proofs.Demand3.{demand_3}
use Rattle.demands.proofs.Lasting.{NoneFormats, store_size, step_layout, after_layout}
use Rattle.demands.proofs.NearWas.{
  burst_flip,
  burst_none,
  NearWas,
  AsWas,
  burst_leaves,
  all_as_was,
  visit_kept,
  visit_restores,
  visit_leaves,
  visit_keeps,
  read_kept,
}
use Rattle.demands.proofs.Splits.{split_append}

-- where each is such, so is each after the first
each_rest : (Such : Step → Type 0) (step : Step) (rest : List Step) → Each Such (step ∷ rest) → Each Such rest
each_rest Such step rest each first later next e = each (step ∷ first) later next (ap (λ (l : List Step). step ∷ l) e)

-- where each step is such, so is each before one of them and each after it
each_split : (Such : Step → Type 0) (steps first rest : List Step) (step : Step) → Each Such steps → steps ≡ first ++ step ∷ rest
    → Each Such first × Each Such rest
each_split Such steps first rest step each e = (
  λ front more next f. each front (more ++ step ∷ rest) next (e ∙ ap (λ (l : List Step). l ++ step ∷ rest) f ∙ append_assoc front (next ∷ more) (step ∷ rest)),
  λ front more next f.
      each (first ++ step ∷ front) more next (e ∙ ap (λ (l : List Step). first ++ step ∷ l) f ∙ sym (append_assoc first (step ∷ front) (next ∷ more))),
)

-- flips leave a burst
flips_burst : (reach : Reach) (image : List ℕ) (spark : List Step) (state : State) → Each (FlipOf reach) spark → Burst reach image state.image
    → Burst reach image (after spark state).image
unfolding after
flips_burst reach image [] state each burst = burst
flips_burst reach image (step ∷ rest) state each burst =
    let first = each [] rest step refl in
    flips_burst reach image rest (step_after step state) (each_rest (FlipOf reach) step rest each)
    (subst (λ (s : Step). Burst reach image (step_after s state).image) (sym first.2)
    (burst_flip reach image state.image first.0 first.1 first.3 burst))

module _ (layout : Layout) (image : List ℕ) (all : AllValid layout image) where
  -- what is left is near what it was, and the blocks that are as they were stay so
  abbrev pub Leaves : List ℕ → List ℕ → Type 0
  Leaves now left =
      NearWas layout image all left × ((block : ℕ) → block < blocks layout → AsWas layout image all block now → AsWas layout image all block left)

  leaves_same : (now : List ℕ) → NearWas layout image all now → Leaves now now
  leaves_same now ok = (ok, λ block h same. same)

  visited : (now : List ℕ) (block : ℕ) → Visits now layout block (visit_answer now layout block) (visit_after now layout block)
  visited now block = visits now layout block refl refl

  leaves_visit : (now : List ℕ) (block : ℕ) → NearWas layout image all now → Leaves now (visit_after now layout block)
  leaves_visit now block ok = (
    visit_leaves layout image all now ok block (visit_answer now layout block) (visit_after now layout block) (visited now block),
    visit_keeps layout image all now ok block (visit_answer now layout block) (visit_after now layout block) (visited now block),
  )

  leaves_ask : (served : Option ℕ) (now : List ℕ) → NearWas layout image all now → Leaves now (ask_patrolled layout now served)
  leaves_ask None now ok = leaves_same now ok
  leaves_ask (Some block) now ok = leaves_visit now block ok

  leaves_due : (d : Result Due Refusal) (now : List ℕ) → NearWas layout image all now → Leaves now (image_by layout now d)
  leaves_due (Err refusal) now ok = leaves_same now ok
  leaves_due (Ok due) now ok =
      let one = leaves_visit now due.patrol ok in
      let two = leaves_ask due.ask (visit_after now layout due.patrol) one.0 in (two.0, λ block h same. two.1 block h (one.1 block h same))

  leaves_turn : (r : Record) (now : List ℕ) → r.layout ≡ layout → NearWas layout image all now → Leaves now (turn_after r now)
  unfolding turn_after
  leaves_turn r now names ok = go (image_refusal (length now) r.layout)
    where
      go : (number : ℕ) → Leaves now (if_zero number (image_by r.layout now (turned_now r).due) now)
      go zero = subst (λ (l : Layout). Leaves now (image_by l now (turned_now r).due)) (sym names) (leaves_due (turned_now r).due now ok)
      go (suc number) = leaves_same now ok

  -- ---- quiet steps

  leaves_step : (step : Step) (state : State) → Quiet layout step → state.patrol.layout ≡ layout → NearWas layout image all state.image
      → Leaves state.image (step_after step state).image
  leaves_step (format named) state quiet names ok = absurd quiet
  leaves_step (write named block list) state quiet names ok = absurd quiet
  leaves_step (read named block buffer) state quiet names ok = leaves_same state.image ok
  leaves_step (visit named block) state quiet names ok =
      subst (λ (l : Layout). Leaves state.image (visit_after state.image l block)) (sym quiet) (leaves_visit state.image block ok)
  leaves_step (ask block) state quiet names ok = leaves_same state.image ok
  leaves_step turn state quiet names ok = leaves_turn state.patrol state.image names ok
  leaves_step (flip at bit) state quiet names ok = absurd quiet

  leaves_quiet : (steps : List Step) (state : State) → Each (Quiet layout) steps → state.patrol.layout ≡ layout → NearWas layout image all state.image
      → ((after steps state).patrol.layout ≡ layout) × Leaves state.image (after steps state).image
  unfolding after
  leaves_quiet [] state each names ok = (names, leaves_same state.image ok)
  leaves_quiet (step ∷ rest) state each names ok =
      let quiet = each [] rest step refl in
      let one = leaves_step step state quiet names ok in
      let named = step_layout step state (λ other e z. subst (Quiet layout) e quiet) ∙ names in
      let later = leaves_quiet rest (step_after step state) (each_rest (Quiet layout) step rest each) named one.0 in (
        later.0,
        (later.1.0, λ block h same. later.1.1 block h (one.1 block h same)),
      )

  -- ---- a turn, by the visits that it passes on

  module _ (r : Record) (now : List ℕ) (names : r.layout ≡ layout) (ok : NearWas layout image all now) (answer : Turned) (left : List ℕ)
      (p : Turns r now answer left) (z : report_number answer.report ≡ 0) where
    abbrev next : ℕ
    next = r.rota.next

    abbrev between : List ℕ
    between = visit_after now layout next

    passes : Turning r answer left (visit_answer now layout next) between
    passes =
        demand_2.turn r now answer left p z (visit_answer now layout next) between
        (subst (λ (l : Layout). Visits now l next (visit_answer now layout next) between) (sym names) (visited now next))

    served : (block : ℕ) (rest : List ℕ) → asks_of r.rota.line ≡ block ∷ rest
        → (report_second answer.report ≡ record { block = block; said = answer_said (visit_answer between layout block) })
        × (left ≡ visit_after between layout block)
    served block rest e =
        let visit =
        subst (λ (l : Layout). Visits between l block (visit_answer between layout block) (visit_after between layout block)) (sym names)
        (visited between block) in
        let both = passes.asked block rest e (visit_answer between layout block) (visit_after between layout block) visit in (both.1, both.2)

    pub turn_restores : (block : ℕ) → block < blocks layout → (report_first answer.report).block ≡ block → AsWas layout image all block left
    turn_restores block h e = go (asks_of r.rota.line) refl
      where
        is : next ≡ block
        is = ap (λ (s : Seen). s.block) (sym passes.first) ∙ e

        mid : AsWas layout image all block between
        mid = subst (λ (b : ℕ). AsWas layout image all b between) is
            (visit_restores layout image all now ok next (visit_answer now layout next) between (visited now next) (rw is h))

        go : (l : List ℕ) → asks_of r.rota.line ≡ l → AsWas layout image all block left
        go [] q = subst (AsWas layout image all block) (sym (passes.alone q).1) mid
        go (other ∷ rest) q =
            subst (AsWas layout image all block) (sym (served other rest q).1) ((leaves_visit between other (leaves_visit now next ok).0).1 block h mid)

    pub turn_kept : ((report_first answer.report).said.verdict ≡ 3 → ⊥) × ((report_second answer.report).said.verdict ≡ 3 → ⊥)
    turn_kept = (
      λ says.
          visit_kept layout image all now ok next (visit_answer now layout next) between (visited now next)
          (ap (λ (s : Seen). s.said.verdict) (sym passes.first) ∙ says),
      second (asks_of r.rota.line) refl,
    )
      where
        second : (l : List ℕ) → asks_of r.rota.line ≡ l → (report_second answer.report).said.verdict ≡ 3 → ⊥
        second [] q says = let z = ap (λ (s : Seen). s.said.verdict) (passes.alone q).0 in omega arith
        second (other ∷ rest) q says =
            visit_kept layout image all between (leaves_visit now next ok).0 other (visit_answer between layout other) (visit_after between layout other)
            (visited between other)
            (ap (λ (s : Seen). s.said.verdict) (sym (served other rest q).0) ∙ says)

-- ---- the store

after_append : (steps more : List Step) (state : State) → after (steps ++ more) state ≡ after more (after steps state)
unfolding after
after_append [] more state = refl
after_append (step ∷ rest) more state = after_append rest more (step_after step state)

-- steps of which none is a format leave a list not formatted
none_added : (state : State) (before more : List Step) → NoneFormats state before → ((named : Layout) → Each (λ step. step ≡ format named → ⊥) more)
    → NoneFormats state (before ++ more)
none_added state before more none others front tail named e accepted =
    ⊎_elim
    (λ r. none front r.0 named r.1 accepted)
    (λ r. others named r.0 tail (format named) r.2 refl)
    (split_append before more front (format named) tail e)

flip_no_format : (reach : Reach) (step : Step) → FlipOf reach step → (named : Layout) → step ≡ format named → ⊥
flip_no_format reach step f named e = let same = sym f.2 ∙ e in let z : ◌≡◌ {A = ℕ} 0 1 = cc in omega arith

module _ (image : List ℕ) (layout : Layout) (before spark since : List Step) (sparked : Sparked image layout before spark since) where
  abbrev was : List ℕ
  was = (store image layout before).image

  abbrev struck : State
  struck = after spark (store image layout before)

  fits : image_refusal (length image) layout ≡ 0
  fits = ap (λ (n : ℕ). image_refusal n layout) (sym (store_size image layout before)) ∙ sparked.valid.fits

  struck_near : NearWas layout was sparked.valid struck.image
  struck_near =
      burst_leaves layout was sparked.valid sparked.reach struck.image sparked.short
      (flips_burst sparked.reach was spark (store image layout before) sparked.flips (burst_none sparked.reach was sparked.valid.words))

  struck_unformatted : NotFormatted image layout (before ++ spark)
  struck_unformatted =
      none_added (fresh image layout) before spark sparked.unformatted
      (λ named first rest step e. flip_no_format sparked.reach step (sparked.flips first rest step e) named)

  unformatted : NotFormatted image layout (before ++ spark ++ since)
  unformatted =
      none_added (fresh image layout) (before ++ spark) since struck_unformatted
      (λ named first rest step e q. subst (Quiet layout) q (sparked.quiet first rest step e))

  -- the store after the spark, and after steps since
  since_is : (steps : List Step) → store image layout (before ++ spark ++ steps) ≡ after steps struck
  since_is steps =
      after_append (before ++ spark) steps (fresh image layout) ∙ ap (after steps) (after_append before spark (fresh image layout))

  struck_names : struck.patrol.layout ≡ layout
  unfolding formatted
  struck_names =
      ap (λ (s : State). s.patrol.layout) (sym (after_append before spark (fresh image layout)))
      ∙ after_layout (before ++ spark) (fresh image layout) struck_unformatted
      ∙ rw fits

  -- what is left at the end
  left_since : ((after since struck).patrol.layout ≡ layout) × Leaves layout was sparked.valid struck.image (after since struck).image
  left_since = leaves_quiet layout was sparked.valid since struck sparked.quiet struck_names struck_near

  -- the block that a turn since then visits is as it was at the end
  visited_as_was : (first rest : List Step) → since ≡ first ++ turn ∷ rest → (block : ℕ) → block < blocks layout
      → ((answer : Turned) (left : List ℕ)
      → Turns (store image layout (before ++ spark ++ first)).patrol (store image layout (before ++ spark ++ first)).image answer left
      → PatrolVisits block answer.report)
      → AsWas layout was sparked.valid block (after since struck).image
  unfolding after
  visited_as_was first rest e block inside reports =
      let each = each_split (Quiet layout) since first rest turn sparked.quiet e in
      let now = after first struck in
      let early = leaves_quiet layout was sparked.valid first struck each.0 struck_names struck_near in
      let answer = turned now.patrol now.image in
      let left = turn_after now.patrol now.image in
      let p = turned-allowed now.patrol now.image {answer = answer} {after = left} refl refl in
      let seen = reports answer left (subst (λ (s : State). Turns s.patrol s.image answer left) (sym (since_is first)) p) in
      let same =
      turn_restores layout was sparked.valid now.patrol now.image early.0 early.1.0 answer left p seen.0 block inside seen.1.0 in
      let one = leaves_step layout was sparked.valid turn now tt early.0 early.1.0 in
      let named = step_layout turn now (λ other q z. let n : ◌≡◌ {A = ℕ} 0 1 = cc in omega arith) ∙ early.0 in
      let late = leaves_quiet layout was sparked.valid rest (step_after turn now) each.1 named one.0 in
      subst (λ (s : State). AsWas layout was sparked.valid block s.image)
      (sym (ap (λ (l : List Step). after l struck) e ∙ after_append first (turn ∷ rest) struck))
      (late.1.1 block inside same)

  pub round : blocks layout ≤ turns since → (store image layout (before ++ spark ++ since)).image ≡ was
  round enough =
      ap (λ (s : State). s.image) (since_is since)
      ∙ all_as_was layout was sparked.valid (after since struck).image left_since.1.0.size
      (λ block inside.
      let found = demand_3.every_block_visited image layout fits (before ++ spark) since unformatted enough block inside in
      visited_as_was found.0 found.1 found.2 block inside found.3)

  pub turns_kept : (answer : Turned) (left : List ℕ)
      → Turns (store image layout (before ++ spark ++ since)).patrol (store image layout (before ++ spark ++ since)).image answer left
      → ((report_first answer.report).said.verdict ≡ 3 → ⊥) × ((report_second answer.report).said.verdict ≡ 3 → ⊥)
  turns_kept answer left p =
      let now = after since struck in
      turn_kept layout was sparked.valid now.patrol now.image left_since.0 left_since.1.0 answer left
      (subst (λ (s : State). Turns s.patrol s.image answer left) (since_is since) p)
      (demand_3.turns_accepted image layout fits (before ++ spark ++ since) unformatted answer left p)

  pub round_read : (block : ℕ) (buffer : List ℕ) (answer : Answer) (kept filled : List ℕ)
      → Reads (store image layout (before ++ spark ++ since)).image layout block buffer answer kept filled
      → answer_number answer ≡ 0
      → (SaysLost answer → ⊥) × (filled ≡ data_of (shape_of layout) (stored_rows layout block was))
  round_read block buffer answer kept filled p =
      read_kept layout was sparked.valid (after since struck).image left_since.1.0 block buffer answer kept filled
      (subst (λ (s : State). Reads s.image layout block buffer answer kept filled) (since_is since) p)
