-- A step of the store is a list of steps of its rota and its memory: its parts. A call that is refused has none, nor has a format. The parts of a
-- list of steps have as many turns as the list and write the same data, and each of them is a part of one step. Assumes nothing.
use Prim.Native.Nat.{ℕ, zero, suc, ◌+◌}
use mathlib.Core.Path.{◌≡◌, refl, sym, ap, ◌∙◌}
use mathlib.Core.List.{List, [], ◌∷◌, ◌++◌, map, append_assoc, append-nil}
use mathlib.Core.Logic.{⊎_elim}
use native.Mathlib.Omega.{arith}
use Rattle.ground.specs.Choice.{if_zero}
use Rattle.rota.specs.Steps.{Step as RotaStep, ask as asks, turn as rotaTurn, other, turns as rotaTurns}
use Rattle.rota.specs.Touches.{Touch, write as writes, read as reads, visit as visits, flip as flips, nothing, last_written as rotaWritten}
use Rattle.rota.proofs.Runs.{turns_append}
use Rattle.demands.specs.Steps.{Step, format, write, read, visit, ask, turn, flip, State, step_after, after, answers, tick, turns, meant, last_written}
use Rattle.demands.proofs.Appended.{written_append}
use Rattle.demands.proofs.Splits.{split_append, split_none, split_one}

-- a touch of the memory: data is a list of words, and a flip has an index and a bit
abbrev pub MemoryTouch : Type 0
MemoryTouch = Touch (List ℕ) (ℕ × ℕ)

abbrev pub Part : Type 0
Part = RotaStep MemoryTouch

-- a call that is accepted touches the memory; one that is refused does nothing
abbrev pub calls : ℕ → List MemoryTouch → List Part
calls number touches = if_zero number (map other touches) []

abbrev pub parts : Step → State → List Part
parts (format layout) state = []
parts (write layout block list) state = calls (answers (write layout block list) state) (writes block list ∷ [])
parts (read layout block buffer) state = calls (answers (read layout block buffer) state) (reads block ∷ [])
parts (visit layout block) state = calls (answers (visit layout block) state) (visits block ∷ [])
parts (ask block) state = asks block ∷ []
parts turn state = rotaTurn ∷ []
parts (flip at bit) state = other (flips (at, bit)) ∷ []

unfoldable pub all_parts : List Step → State → List Part
all_parts [] state = []
all_parts (step ∷ rest) state = parts step state ++ all_parts rest (step_after step state)

pub parts_append : (before rest : List Step) (state : State)
    → all_parts (before ++ rest) state ≡ all_parts before state ++ all_parts rest (after before state)
unfolding all_parts after
parts_append [] rest state = refl
parts_append (step ∷ before) rest state =
    ap (λ (l : List Part). parts step state ++ l) (parts_append before rest (step_after step state))
    ∙ sym (append_assoc (parts step state) (all_parts before (step_after step state)) (all_parts rest (after before (step_after step state))))

-- ---- turns

-- a call has no turn
touch_turns : (touches : List MemoryTouch) → rotaTurns (map other touches) ≡ 0
unfolding rotaTurns
touch_turns [] = refl
touch_turns (touch ∷ rest) = touch_turns rest

call_turns : (number : ℕ) (touches : List MemoryTouch) → rotaTurns (calls number touches) ≡ 0
unfolding rotaTurns
call_turns zero touches = touch_turns touches
call_turns (suc number) touches = refl

step_turns : (step : Step) (state : State) (count : ℕ) → rotaTurns (parts step state) + count ≡ tick step count
unfolding rotaTurns
step_turns (format layout) state count = omega arith
step_turns (write layout block list) state count = rw (call_turns (answers (write layout block list) state) (writes block list ∷ [])) (omega arith)
step_turns (read layout block buffer) state count = rw (call_turns (answers (read layout block buffer) state) (reads block ∷ [])) (omega arith)
step_turns (visit layout block) state count = rw (call_turns (answers (visit layout block) state) (visits block ∷ [])) (omega arith)
step_turns (ask block) state count = omega arith
step_turns turn state count = omega arith
step_turns (flip at bit) state count = omega arith

pub parts_turns : (steps : List Step) (state : State) → rotaTurns (all_parts steps state) ≡ turns steps
unfolding rotaTurns all_parts turns
parts_turns [] state = refl
parts_turns (step ∷ rest) state =
    turns_append (parts step state) (all_parts rest (step_after step state))
    ∙ ap (λ (count : ℕ). rotaTurns (parts step state) + count) (parts_turns rest (step_after step state))
    ∙ step_turns step state (turns rest)

-- ---- data

module _ (block : ℕ) where
  call_written : (number : ℕ) (touches : List MemoryTouch) (old : List ℕ)
      → rotaWritten block old (calls number touches) ≡ if_zero number (rotaWritten block old (map other touches)) old
  unfolding rotaWritten
  call_written zero touches old = refl
  call_written (suc number) touches old = refl

  -- a call that writes nothing
  call_unwritten : (number : ℕ) (touches : List MemoryTouch) (old : List ℕ) → rotaWritten block old (map other touches) ≡ old
      → rotaWritten block old (calls number touches) ≡ old
  unfolding rotaWritten
  call_unwritten zero touches old e = e
  call_unwritten (suc number) touches old e = refl

  step_written : (step : Step) (old : List ℕ) (state : State) → rotaWritten block old (parts step state) ≡ meant block old step state
  unfolding rotaWritten
  step_written (format layout) old state = refl
  step_written (write layout to list) old state = call_written (answers (write layout to list) state) (writes to list ∷ []) old
  step_written (read layout from buffer) old state = call_unwritten (answers (read layout from buffer) state) (reads from ∷ []) old refl
  step_written (visit layout at) old state = call_unwritten (answers (visit layout at) state) (visits at ∷ []) old refl
  step_written (ask wanted) old state = refl
  step_written turn old state = refl
  step_written (flip at bit) old state = refl

  pub parts_written : (steps : List Step) (old : List ℕ) (state : State) → rotaWritten block old (all_parts steps state) ≡ last_written block old steps state
  unfolding rotaWritten all_parts last_written
  parts_written [] old state = refl
  parts_written (step ∷ rest) old state =
      written_append block old (parts step state) (all_parts rest (step_after step state))
      ∙ ap (λ (new : List ℕ). rotaWritten block new (all_parts rest (step_after step state))) (step_written step old state)
      ∙ parts_written rest (meant block old step state) (step_after step state)

-- ---- the step that a part is of

-- a part with some parts before and after it: the step that it is of, the steps before and after, and the parts of that step
pub record PartOf (steps : List Step) (state : State) (before : List Part) (part : Part) (rest : List Part) : Type 0 where
  pub front : List Step
  pub step : Step
  pub tail : List Step
  pub early : List Part
  pub late : List Part
  pub split : steps ≡ front ++ step ∷ tail
  pub is_part : parts step (after front state) ≡ early ++ part ∷ late
  pub front_is : before ≡ all_parts front state ++ early
  pub tail_is : rest ≡ late ++ all_parts tail (step_after step (after front state))

pub part_of : (steps : List Step) (state : State) (before : List Part) (part : Part) (rest : List Part)
    → all_parts steps state ≡ before ++ part ∷ rest → PartOf steps state before part rest
unfolding all_parts after
part_of [] state before part rest e = absurd (split_none before part rest e)
part_of (step ∷ steps) state before part rest e =
    ⊎_elim
    (λ here.
    record {
      front = [];
      step = step;
      tail = steps;
      early = before;
      late = here.0;
      split = refl;
      is_part = here.1;
      front_is = refl;
      tail_is = here.2;
    })
    (λ there.
    let r = part_of steps (step_after step state) there.0 part rest there.2 in
    record {
      front = step ∷ r.front;
      step = r.step;
      tail = r.tail;
      early = r.early;
      late = r.late;
      split = ap (λ (l : List Step). step ∷ l) r.split;
      is_part = r.is_part;
      front_is =
          there.1 ∙ ap (λ (l : List Part). parts step state ++ l) r.front_is
          ∙ sym (append_assoc (parts step state) (all_parts r.front (step_after step state)) r.early);
      tail_is = r.tail_is;
    })
    (split_append (parts step state) (all_parts steps (step_after step state)) before part rest e)

-- ---- a part that is a turn

-- among others there is one at least
some_turns : (early late : List Part) → rotaTurns (early ++ rotaTurn ∷ late) ≡ rotaTurns early + suc (rotaTurns late)
unfolding rotaTurns
some_turns early late = turns_append early (rotaTurn ∷ late)

-- the step that has it is a turn, and nothing of that step comes before it
pub turn_step : (step : Step) (state : State) (early late : List Part) → parts step state ≡ early ++ rotaTurn ∷ late → (step ≡ turn) × (early ≡ [])
turn_step step state early late e = by step (step_turns step state 0) e
  where
    none : {A : Type 0} (turned : ℕ) → turned + 0 ≡ 0 → turned ≡ rotaTurns (early ++ rotaTurn ∷ late) → A
    none turned z e = absurd (omega (arith, some_turns early late))

    by : (step : Step) → rotaTurns (parts step state) + 0 ≡ tick step 0 → parts step state ≡ early ++ rotaTurn ∷ late → (step ≡ turn) × (early ≡ [])
    by (format layout) z e = none _ z (ap rotaTurns e)
    by (write layout block list) z e = none _ z (ap rotaTurns e)
    by (read layout block buffer) z e = none _ z (ap rotaTurns e)
    by (visit layout block) z e = none _ z (ap rotaTurns e)
    by (ask block) z e = none _ z (ap rotaTurns e)
    by turn z e = (refl, (split_one rotaTurn early rotaTurn late e).1)
    by (flip at bit) z e = none _ z (ap rotaTurns e)

-- ---- a part that makes a step by itself

-- the step that it makes, if it makes one; a turn may be one of several of a step
abbrev pub made_by : Part → List Step
made_by (asks block) = ask block ∷ []
made_by rotaTurn = []
made_by (other (writes block list)) = []
made_by (other (reads block)) = []
made_by (other (visits block)) = []
made_by (other (flips f)) = flip f.0 f.1 ∷ []
made_by (other nothing) = []

-- touches that make none
abbrev Quiet : List MemoryTouch → Type 0
Quiet [] = Unit {0}
Quiet (touch ∷ rest) = (made_by (other touch) ≡ []) × Quiet rest

touch_quiet : (touches : List MemoryTouch) → Quiet touches → (early : List Part) (part : Part) (late : List Part)
    → map other touches ≡ early ++ part ∷ late → made_by part ≡ []
touch_quiet [] quiet early part late e = absurd (split_none early part late e)
touch_quiet (touch ∷ rest) quiet [] part late e = let same : part ≡ other touch = cc in ap made_by same ∙ quiet.0
touch_quiet (touch ∷ rest) quiet (x ∷ early) part late e = touch_quiet rest quiet.1 early part late (cc)

call_quiet : (number : ℕ) (touches : List MemoryTouch) → Quiet touches → (early : List Part) (part : Part) (late : List Part)
    → calls number touches ≡ early ++ part ∷ late → made_by part ≡ []
call_quiet zero touches quiet early part late e = touch_quiet touches quiet early part late e
call_quiet (suc number) touches quiet early part late e = absurd (split_none early part late e)

-- no other step has it, and that step has no other
module _ (part : Part) (step : Step) (makes : made_by part ≡ step ∷ []) where
  abbrev Only : Step → List Part → List Part → Type 0
  Only also early late = (also ≡ step) × (early ≡ []) × (late ≡ [])

  not_quiet : {A : Type 0} → made_by part ≡ [] → A
  not_quiet e = absurd (split_none [] step [] (sym e ∙ makes))

  only_one : (x : Part) (also : Step) → made_by x ≡ also ∷ [] → (early late : List Part) → x ∷ [] ≡ early ++ part ∷ late → Only also early late
  only_one x also e early late f =
      let p = split_one x early part late f in
      ((split_one also [] step [] (sym e ∙ ap made_by p.0 ∙ makes)).0, p.1, p.2)

  alone : (also : Step) (state : State) (early late : List Part) → parts also state ≡ early ++ part ∷ late → Only also early late
  alone (format layout) state early late e = absurd (split_none early part late e)
  alone (write layout block list) state early late e =
      not_quiet (call_quiet (answers (write layout block list) state) (writes block list ∷ []) (refl, tt) early part late e)
  alone (read layout block buffer) state early late e =
      not_quiet (call_quiet (answers (read layout block buffer) state) (reads block ∷ []) (refl, tt) early part late e)
  alone (visit layout block) state early late e =
      not_quiet (call_quiet (answers (visit layout block) state) (visits block ∷ []) (refl, tt) early part late e)
  alone (ask block) state early late e = only_one (asks block) (ask block) refl early late e
  alone turn state early late e = not_quiet (sym (ap made_by (split_one rotaTurn early part late e).0))
  alone (flip at bit) state early late e = only_one (other (flips (at, bit))) (flip at bit) refl early late e

  -- so a list of steps is split at that step
  pub record Whole (steps : List Step) (state : State) (before rest : List Part) : Type 0 where
    pub front : List Step
    pub tail : List Step
    pub split : steps ≡ front ++ step ∷ tail
    pub front_is : all_parts front state ≡ before
    pub tail_is : all_parts tail (step_after step (after front state)) ≡ rest

  pub whole_step : (steps : List Step) (state : State) (before rest : List Part) → all_parts steps state ≡ before ++ part ∷ rest
      → Whole steps state before rest
  whole_step steps state before rest e =
      let p = part_of steps state before part rest e in
      let q = alone p.step (after p.front state) p.early p.late p.is_part in
      record {
        front = p.front;
        tail = p.tail;
        split = p.split ∙ ap (λ (x : Step). p.front ++ x ∷ p.tail) q.0;
        front_is = sym (p.front_is ∙ ap (λ (l : List Part). all_parts p.front state ++ l) q.1 ∙ append-nil (all_parts p.front state));
        tail_is =
            ap (λ (x : Step). all_parts p.tail (step_after x (after p.front state))) (sym q.0)
            ∙ sym (p.tail_is ∙ ap (λ (l : List Part). l ++ all_parts p.tail (step_after p.step (after p.front state))) q.2);
      }
