-- What lasts through every step, from the format on: the length of the image, and the layout in the record where no format is accepted.
-- Assumes nothing.
use Prim.Native.Nat.{ℕ, zero, suc}
use mathlib.Core.Path.{◌≡◌, refl, sym, ap, ◌∙◌}
use mathlib.Core.List.{List, [], ◌∷◌, ◌++◌, append_assoc}
use lib.ListN.{length}
use Rattle.ground.specs.Choice.{if_zero}
use Rattle.ground.proofs.Choices.{refused_kept}
use Rattle.layout.specs.declared.Layout.{Layout}
use Rattle.layout.specs.Refusal.{layout_refusal, image_refusal}
use Rattle.layout.proofs.Ladder.{image_exact}
use Rattle.store.specs.Fresh.{fresh_image, fresh_after}
use Rattle.store.proofs.After.{visit_untouched, write_untouched}
use Rattle.store.proofs.FreshBlocks.{length_fresh}
use Rattle.rota.specs.declared.Due.{Due}
use Rattle.std.specs.Prelude.{Option, Some, None, Result, Ok, Err}
use Rattle.refusal.specs.declared.Refusal.{Refusal}
use Rattle.patrol.specs.declared.Record.{Record}
use Rattle.patrol.specs.Ask.{asked, asked_by}
use Rattle.patrol.specs.Format.{formatted}
use Rattle.patrol.specs.Turn.{visited, ask_patrolled, image_by, turned_now, turned, turn_after, turned_by}
use Rattle.patrol.proofs.Unchanged.{format_unchanged}
use Rattle.demands.specs.Steps.{Step, format, write, read, visit, ask, turn, flip, State, fresh, step_after, after, answers}
use Rattle.demands.specs.Demand3.{store}
use Rattle.demands.proofs.Flips.{length_flipped}

-- ---- the length

ask_size : (layout : Layout) (image : List ℕ) (served : Option ℕ) → length (ask_patrolled layout image served) ≡ length image
ask_size layout image None = refl
ask_size layout image (Some block) = (visit_untouched image layout block).size

due_size : (layout : Layout) (image : List ℕ) (d : Result Due Refusal) → length (image_by layout image d) ≡ length image
due_size layout image (Err refusal) = refl
due_size layout image (Ok due) = ask_size layout (visited layout image due.patrol) due.ask ∙ (visit_untouched image layout due.patrol).size

turn_size : (r : Record) (image : List ℕ) → length (turn_after r image) ≡ length image
unfolding turn_after
turn_size r image = go (image_refusal (length image) r.layout)
  where
    go : (number : ℕ) → length (if_zero number (image_by r.layout image (turned_now r).due) image) ≡ length image
    go zero = due_size r.layout image (turned_now r).due
    go (suc number) = refl

-- a format, refused or not
format_size : (image : List ℕ) (layout : Layout) → length (fresh_after image layout) ≡ length image
unfolding fresh_after
format_size image layout = go (image_refusal (length image) layout) refl
  where
    go : (number : ℕ) → image_refusal (length image) layout ≡ number → length (if_zero number (fresh_image layout) image) ≡ length image
    go zero e = length_fresh layout ∙ sym (image_exact layout (length image) e)
    go (suc number) e = refl

pub step_size : (step : Step) (state : State) → length (step_after step state).image ≡ length state.image
step_size (format layout) state = format_size state.image layout
step_size (write layout block list) state = (write_untouched state.image layout block list).size
step_size (read layout block buffer) state = refl
step_size (visit layout block) state = (visit_untouched state.image layout block).size
step_size (ask block) state = refl
step_size turn state = turn_size state.patrol state.image
step_size (flip at bit) state = length_flipped at bit state.image

pub after_size : (steps : List Step) (state : State) → length (after steps state).image ≡ length state.image
unfolding after
after_size [] state = refl
after_size (step ∷ rest) state = after_size rest (step_after step state) ∙ step_size step state

module _ (image : List ℕ) (layout : Layout) where
  pub fresh_size : length (fresh image layout).image ≡ length image
  fresh_size = format_size image layout

  pub store_size : (steps : List Step) → length (store image layout steps).image ≡ length image
  store_size steps = after_size steps (fresh image layout) ∙ fresh_size

-- ---- no format is accepted

-- the step is no format that is accepted
abbrev pub NoFormat : Step → State → Type 0
NoFormat step state = (named : Layout) → step ≡ format named → answers (format named) state ≡ 0 → ⊥

-- and none is from a state on
abbrev pub NoneFormats : State → List Step → Type 0
NoneFormats state steps =
    (before rest : List Step) (named : Layout) → steps ≡ before ++ format named ∷ rest → answers (format named) (after before state) ≡ 0 → ⊥

module _ (state : State) where
  pub first_none : (step : Step) (rest : List Step) → NoneFormats state (step ∷ rest) → NoFormat step state
  unfolding after
  first_none step rest none named e = none [] rest named (ap (λ (x : Step). x ∷ rest) e)

  pub rest_none : (step : Step) (rest : List Step) → NoneFormats state (step ∷ rest) → NoneFormats (step_after step state) rest
  unfolding after
  rest_none step rest none before later named e = none (step ∷ before) later named (ap (λ (l : List Step). step ∷ l) e)

  pub front_none : (front tail : List Step) → NoneFormats state (front ++ tail) → NoneFormats state front
  front_none front tail none before rest named e =
      none before (rest ++ tail) named (ap (λ (l : List Step). l ++ tail) e ∙ append_assoc before (format named ∷ rest) tail)

  -- a refused format leaves the state
  pub format_left : (named : Layout) → NoFormat (format named) state → step_after (format named) state ≡ state
  format_left named none =
      let kept = (format_unchanged state.image named (none named refl)).1 in
      let same = refused_kept (formatted state.image named).number (formatted state.image named).back state.patrol (none named refl) in
      λ i. record { image = kept i; patrol = same i }

-- ---- the layout

ask_layout : (r : Record) (block : ℕ) → (asked r block).back.layout ≡ r.layout
unfolding asked
ask_layout r block = go (layout_refusal r.layout)
  where
    go : (number : ℕ) → (asked_by r block number).back.layout ≡ r.layout
    go zero = refl
    go (suc number) = refl

turn_layout : (r : Record) (image : List ℕ) → (turned r image).back.layout ≡ r.layout
unfolding turned
turn_layout r image = go (image_refusal (length image) r.layout)
  where
    go : (number : ℕ) → (turned_by r image number).back.layout ≡ r.layout
    go zero = refl
    go (suc number) = refl

pub step_layout : (step : Step) (state : State) → NoFormat step state → (step_after step state).patrol.layout ≡ state.patrol.layout
step_layout (format layout) state none = ap (λ (new : State). new.patrol.layout) (format_left state layout none)
step_layout (write layout block list) state none = refl
step_layout (read layout block buffer) state none = refl
step_layout (visit layout block) state none = refl
step_layout (ask block) state none = ask_layout state.patrol block
step_layout turn state none = turn_layout state.patrol state.image
step_layout (flip at bit) state none = refl

pub after_layout : (steps : List Step) (state : State) → NoneFormats state steps → (after steps state).patrol.layout ≡ state.patrol.layout
unfolding after
after_layout [] state none = refl
after_layout (step ∷ rest) state none =
    after_layout rest (step_after step state) (rest_none state step rest none) ∙ step_layout step state (first_none state step rest none)
