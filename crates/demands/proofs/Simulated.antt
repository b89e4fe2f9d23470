-- The store runs as its rota and its memory do, by the parts of its steps, where no format is accepted: its record as the rota, whatever the
-- calls name, and its image as the memory, where every accepted call names the store's layout. Assumes nothing.
use Prim.Native.Nat.{ℕ, zero, suc}
use mathlib.Core.Path.{◌≡◌, refl, sym, ap, ap₂, ◌∙◌}
use mathlib.Core.List.{List, [], ◌∷◌, ◌++◌, map}
use lib.ListN.{length}
use Rattle.ground.specs.Choice.{if_zero}
use Rattle.block.specs.Block.{valid_block}
use Rattle.layout.specs.declared.Layout.{Layout}
use Rattle.layout.specs.Layout.{shape_of, blocks}
use Rattle.layout.specs.Refusal.{image_refusal}
use Rattle.layout.proofs.Ladder.{image_layout}
use Rattle.store.specs.Image.{placed}
use Rattle.store.specs.Refusal.{data_refusal}
use Rattle.store.specs.Visit.{visit_after}
use Rattle.store.specs.Write.{write_after}
use Rattle.rota.specs.declared.Rota.{Rota}
use Rattle.rota.specs.declared.Due.{Due}
use Rattle.std.specs.Prelude.{Option, Some, None, Result, Ok, Err}
use Rattle.refusal.specs.declared.Refusal.{Refusal}
use Rattle.rota.specs.Memory.{Memory}
use Rattle.rota.specs.Patrol.{ask_visited, visited, memory_run}
use Rattle.rota.specs.Record.{rota_turned}
use Rattle.rota.specs.Steps.{other, rota_run}
use Rattle.rota.specs.Touches.{write as writes, read as reads, visit as visits}
use Rattle.patrol.specs.Ask.{asked}
use Rattle.patrol.specs.Turn.{ask_patrolled, image_by, turned, turn_after}
use Rattle.demands.specs.Steps.{Step, format, write, read, visit, ask, turn, flip, State, step_after, after, answers}
use Rattle.demands.specs.Demand3.{SameLayout}
use Rattle.demands.proofs.Numbers.{write_number, visit_number}
use Rattle.demands.proofs.Lasting.{NoFormat, NoneFormats, first_none, rest_none, format_left, step_size, after_size, step_layout, after_layout}
use Rattle.demands.proofs.ImageMemory.{image_memory}
use Rattle.demands.proofs.Appended.{rota_append, memory_append}
use Rattle.demands.proofs.Parts.{MemoryTouch, calls, parts, all_parts}

-- every accepted call from a state on names the layout
abbrev pub LayoutFrom : Layout → State → List Step → Type 0
LayoutFrom layout state steps =
    (before rest : List Step) (step : Step) → steps ≡ before ++ step ∷ rest → answers step (after before state) ≡ 0 → SameLayout layout step

pub first_named : (layout : Layout) (state : State) (step : Step) (rest : List Step) → LayoutFrom layout state (step ∷ rest)
    → answers step state ≡ 0 → SameLayout layout step
unfolding after
first_named layout state step rest one = one [] rest step refl

pub rest_named : (layout : Layout) (state : State) (step : Step) (rest : List Step) → LayoutFrom layout state (step ∷ rest)
    → LayoutFrom layout (step_after step state) rest
unfolding after
rest_named layout state step rest one before later next e = one (step ∷ before) later next (ap (λ (l : List Step). step ∷ l) e)

module _ (len : ℕ) (layout : Layout) (fits : image_refusal len layout ≡ 0) where
  abbrev pub memory : Memory (blocks layout)
  memory = image_memory len layout fits

  -- a state of the store: its image has the length, and its record names the layout
  pub record OfStore (state : State) : Type 0 where
    pub size : length state.image ≡ len
    pub names : state.patrol.layout ≡ layout

  pub step_stays : (step : Step) (state : State) → NoFormat step state → OfStore state → OfStore (step_after step state)
  step_stays step state none ok = record { size = step_size step state ∙ ok.size; names = step_layout step state none ∙ ok.names }

  pub run_stays : (steps : List Step) (state : State) → NoneFormats state steps → OfStore state → OfStore (after steps state)
  run_stays steps state none ok = record { size = after_size steps state ∙ ok.size; names = after_layout steps state none ∙ ok.names }

  -- ---- a step

  -- a call leaves the rota
  touch_rota : (touches : List MemoryTouch) (rota : Rota) → rota ≡ rota_run (blocks layout) (map other touches) rota
  unfolding rota_run
  touch_rota [] rota = refl
  touch_rota (touch ∷ rest) rota = touch_rota rest rota

  call_rota : (number : ℕ) (touches : List MemoryTouch) (rota : Rota) → rota ≡ rota_run (blocks layout) (calls number touches) rota
  unfolding rota_run
  call_rota zero touches rota = touch_rota touches rota
  call_rota (suc number) touches rota = refl

  pub step_rota : (step : Step) (state : State) → NoFormat step state → OfStore state
      → (step_after step state).patrol.rota ≡ rota_run (blocks layout) (parts step state) state.patrol.rota
  unfolding asked turned rota_run
  step_rota (format named) state none ok = ap (λ (new : State). new.patrol.rota) (format_left state named none)
  step_rota (write named block list) state none ok = call_rota (answers (write named block list) state) (writes block list ∷ []) state.patrol.rota
  step_rota (read named block buffer) state none ok = call_rota (answers (read named block buffer) state) (reads block ∷ []) state.patrol.rota
  step_rota (visit named block) state none ok = call_rota (answers (visit named block) state) (visits block ∷ []) state.patrol.rota
  step_rota (ask block) state none ok = rw (ok.names, image_layout layout len fits)
  step_rota turn state none ok = rw (ok.names, ok.size, fits)
  step_rota (flip at bit) state none ok = refl

  module _ (state : State) (ok : OfStore state) where
    write_parts : (named : Layout) (block : ℕ) (list : List ℕ)
        → (answers (write named block list) state ≡ 0 → named ≡ layout)
        → write_after state.image named block list ≡ memory_run memory (parts (write named block list) state) state.patrol.rota state.image
    unfolding write_after memory_run
    write_parts named block list same =
        let number = write_number state.image named block list in
        rw number (go (data_refusal (length state.image) named block (length list)) number)
      where
        go : (number : ℕ) → answers (write named block list) state ≡ number
            → if_zero number (placed named block (valid_block (shape_of named) list) state.image) state.image
            ≡ memory_run memory (calls number (writes block list ∷ [])) state.patrol.rota state.image
        go zero e = rw (same e)
        go (suc number) e = refl

    read_parts : (number block : ℕ)
        → state.image ≡ memory_run memory (calls number (reads block ∷ [])) state.patrol.rota state.image
    unfolding memory_run
    read_parts zero block = refl
    read_parts (suc number) block = refl

    visit_parts : (named : Layout) (block : ℕ)
        → (answers (visit named block) state ≡ 0 → named ≡ layout)
        → visit_after state.image named block ≡ memory_run memory (parts (visit named block) state) state.patrol.rota state.image
    unfolding memory_run
    visit_parts named block same = go (answers (visit named block) state) refl
      where
        go : (number : ℕ) → answers (visit named block) state ≡ number
            → visit_after state.image named block
            ≡ memory_run memory (calls number (visits block ∷ [])) state.patrol.rota state.image
        go zero e = rw (same e)
        go (suc number) e = unfold visit_after in rw (sym (visit_number state.image named block) ∙ e)

    ask_parts : (served : Option ℕ) (now : List ℕ) → ask_patrolled layout now served ≡ ask_visited memory served now
    ask_parts None now = refl
    ask_parts (Some block) now = refl

    due_parts : (d : Result Due Refusal) → image_by layout state.image d ≡ visited memory d state.image
    due_parts (Err refusal) = refl
    due_parts (Ok due) = ask_parts due.ask (visit_after state.image layout due.patrol)

    turn_parts : turn_after state.patrol state.image ≡ memory_run memory (parts turn state) state.patrol.rota state.image
    unfolding turn_after memory_run
    turn_parts = rw (ok.names, ok.size, fits) (due_parts (rota_turned (blocks layout) state.patrol.rota).due)

    pub step_image : (step : Step) → NoFormat step state → (answers step state ≡ 0 → SameLayout layout step)
        → (step_after step state).image ≡ memory_run memory (parts step state) state.patrol.rota state.image
    unfolding memory_run
    step_image (format named) none same = ap (λ (new : State). new.image) (format_left state named none)
    step_image (write named block list) none same = write_parts named block list same
    step_image (read named block buffer) none same = read_parts (answers (read named block buffer) state) block
    step_image (visit named block) none same = visit_parts named block same
    step_image (ask block) none same = refl
    step_image turn none same = turn_parts
    step_image (flip at bit) none same = refl

  -- ---- a list of steps

  pub run_rota : (steps : List Step) (state : State) → NoneFormats state steps → OfStore state
      → (after steps state).patrol.rota ≡ rota_run (blocks layout) (all_parts steps state) state.patrol.rota
  unfolding after all_parts rota_run
  run_rota [] state none ok = refl
  run_rota (step ∷ rest) state none ok =
      let first = first_none state step rest none in
      run_rota rest (step_after step state) (rest_none state step rest none) (step_stays step state first ok)
      ∙ ap (rota_run (blocks layout) (all_parts rest (step_after step state))) (step_rota step state first ok)
      ∙ sym (rota_append (blocks layout) (parts step state) (all_parts rest (step_after step state)) state.patrol.rota)

  pub run_image : (steps : List Step) (state : State) → NoneFormats state steps → OfStore state → LayoutFrom layout state steps
      → (after steps state).image ≡ memory_run memory (all_parts steps state) state.patrol.rota state.image
  unfolding after all_parts memory_run
  run_image [] state none ok one = refl
  run_image (step ∷ rest) state none ok one =
      let first = first_none state step rest none in
      run_image rest (step_after step state) (rest_none state step rest none) (step_stays step state first ok) (rest_named layout state step rest one)
      ∙ ap₂ (memory_run memory (all_parts rest (step_after step state)))
      (step_rota step state first ok)
      (step_image state ok step first (first_named layout state step rest one))
      ∙ sym (memory_append memory (parts step state) (all_parts rest (step_after step state)) state.patrol.rota state.image)
