-- Demand 3 of one list of steps, in the store of `Needed`: two flips in lane 3 of block 1 with exactly two turns between them, flips in other
-- lanes, writes, an ask, reads, a visit, and between them a refused call of each kind but turn, which is never refused. The hypotheses are
-- computed, and what holds then is read off the theorem. Assumes nothing.
use Prim.Native.Nat.{ℕ, ◌<◌}
use mathlib.Core.Path.{◌≡◌, refl, ◌∙◌, subst}
use mathlib.Core.List.{List, [], ◌∷◌, ◌++◌}
use native.Mathlib.Omega.{arith}
use lib.ListN.{replicate}
use Rattle.block.proofs.ByWords.{fit?}
use Rattle.layout.specs.Layout.{layout_of, shape_numbered, words_of, blocks}
use Rattle.layout.specs.Refusal.{layout_refusal, image_refusal, block_refusal}
use Rattle.store.specs.Fresh.{fresh_image, fresh_after}
use Rattle.stored.specs.Stored.{complemented}
use Rattle.store.specs.Image.{stored_rows, with_rows, gathered, placed}
use Rattle.store.specs.Read.{read_answer, read_buffer}
use Rattle.store.specs.Refusal.{data_refusal}
use Rattle.store.specs.Visit.{visit_answer, visit_after}
use Rattle.store.specs.Write.{write_answer, write_after}
use Rattle.ground.specs.Lists.{list_of}
use Rattle.ground.specs.Stores.{stores}
use Rattle.store.proofs.Promises.{reads}
use Rattle.rota.specs.Numbers.{place_number, place_given}
use Rattle.rota.specs.Asking.{ask_refusal}
use Rattle.rota.specs.Line.{place, below, none_twice, zeros, sound}
use Rattle.rota.specs.Record.{unbroken, ask_number, rota_asked, turn_number, rota_turned}
use Rattle.patrol.specs.Ask.{asked}
use Rattle.patrol.specs.Format.{formatted}
use Rattle.patrol.specs.Numbers.{report_number}
use Rattle.patrol.specs.Turn.{turned, turn_after, Turns}
use Rattle.patrol.proofs.Promises.{asks, turns as turnsSo}
use Rattle.demands.specs.Steps.{Step, format, write, read, visit, ask, turn, flip}
use Rattle.demands.specs.Steps.{State, fresh, flipped, step_after, after, answers, report, turns, last_written}
use Rattle.demands.specs.Demand2.{SaysLost}
use Rattle.demands.specs.Demand3.{PatrolVisits, AskVisits, NotFormatted, FormatAccepted}
use Rattle.demands.proofs.Demand3.{demand_3}
use Rattle.demands.proofs.Lasting.{front_none}
use Rattle.demands.proofs.Needed.{ours, lent, small, sevens, one_first, all_ones, Keeps}
use Rattle.demands.proofs.Tests.{every?, every, meets}

-- block 1 is written, and bits flip in three lanes
abbrev pub start : List Step
start = write ours 1 all_ones ∷ flip 19 3 ∷ flip 20 4 ∷ flip 2 3 ∷ []

-- calls that are refused, the last two for another layout
abbrev pub refused : List Step
refused =
    write ours 0 [] ∷ read ours 2 sevens ∷ visit ours 2 ∷ ask 2 ∷ format (layout_of 1 1 3) ∷ write (layout_of 2 1 2) 0 (replicate 64 1)
    ∷ []

-- between the two flips in lane 3 of block 1: an ask, two turns, a write, a visit, and those
abbrev pub between : List Step
between = ask 1 ∷ turn ∷ write ours 1 one_first ∷ visit ours 0 ∷ refused ++ turn ∷ []

-- up to the second of these flips
abbrev pub begun : List Step
begun = start ++ between ++ flip 24 3 ∷ []

-- after block 1 is read: block 0, to which nothing was written, is read too
abbrev pub ended : List Step
ended = read ours 0 sevens ∷ visit ours 1 ∷ turn ∷ []

-- up to the second read
abbrev pub read_once : List Step
read_once = begun ++ read ours 1 sevens ∷ []

abbrev pub steps : List Step
steps = begun ++ read ours 1 sevens ∷ ended

-- the numbers that the steps answer, each where it stands
unfoldable pub numbers : List Step → State → List ℕ
numbers [] state = []
numbers (step ∷ rest) state = answers step state ∷ numbers rest (step_after step state)

-- ---- by computation

abbrev pub origin : State
origin = fresh lent ours

pub record Computed : Type 0 where
  -- every hypothesis of c holds of the steps
  pub hypotheses : Keeps every steps
  -- six of the calls are refused
  pub answered : numbers steps (small []) ≡ 0 ∷ 0 ∷ 0 ∷ 0 ∷ 0 ∷ 0 ∷ 0 ∷ 0 ∷ 7 ∷ 6 ∷ 6 ∷ 6 ∷ 4 ∷ 4 ∷ 0 ∷ 0 ∷ 0 ∷ 0 ∷ 0 ∷ 0 ∷ []
  pub first_read : answers (read ours 1 sevens) (small begun) ≡ 0
  pub second_read : answers (read ours 0 sevens) (small read_once) ≡ 0
  -- exactly N turns lie between the two flips in lane 3 of block 1
  pub spaced : turns between ≡ blocks ours
  -- the format is accepted, the ask is given place 1, and those two turns are all so far
  pub formatted_first : FormatAccepted lent ours
  pub given : place_number (asked (small start).patrol 1).place ≡ 0
  pub place_one : place_given (asked (small start).patrol 1).place ≡ 1
  pub two : turns begun ≡ 2
  pub alone : turns [] ≡ 0
  -- what was last written to block 1, and to block 0
  pub last_one : last_written 1 (replicate (words_of ours) 0) begun origin ≡ one_first
  pub last_zero : last_written 0 (replicate (words_of ours) 0) read_once origin ≡ replicate 11 0

pub computed : Computed
unfolding after flipped turns numbers last_written formatted fresh_after fresh_image turned turn_after rota_turned turn_number unbroken sound zeros below
    none_twice asked rota_asked ask_number ask_refusal place layout_refusal image_refusal block_refusal data_refusal shape_numbered
    write_answer write_after read_answer visit_answer visit_after complemented stored_rows with_rows gathered placed stores list_of every? fit?
computed =
    record {
      hypotheses = meets refl;
      answered = refl;
      first_read = refl;
      second_read = refl;
      spaced = refl;
      formatted_first = refl;
      given = refl;
      place_one = refl;
      two = refl;
      alone = refl;
      last_one = refl;
      last_zero = refl;
    }

-- ---- by the theorem

pub record Shown : Type 0 where
  -- a: every turn is accepted, and those up to the second flip in the lane visit both blocks
  pub accepted : (before rest : List Step) → steps ≡ before ++ turn ∷ rest → report_number (report (small before)) ≡ 0
  pub visits : (block : ℕ) → block < 2 → (first rest : List Step) × (begun ≡ first ++ turn ∷ rest) × PatrolVisits block (report (small first))
  -- b: the turn after the ask serves it
  pub served : AskVisits 1 (report (small (start ++ ask 1 ∷ [])))
  -- c: block 1 reads as it was last written, and block 0 as zeros; neither is lost
  pub written : read_buffer (small begun).image ours 1 sevens ≡ one_first
  pub written_kept : SaysLost (read_answer (small begun).image ours 1 sevens) → ⊥
  pub zero : read_buffer (small read_once).image ours 0 sevens ≡ replicate 11 0
  pub zero_kept : SaysLost (read_answer (small read_once).image ours 0 sevens) → ⊥

none : NotFormatted lent ours steps
none = computed.hypotheses.all.1.1.1.0

none_begun : NotFormatted lent ours begun
none_begun = front_none origin begun (read ours 1 sevens ∷ ended) none

-- a read that is accepted gives what was last written
read_right : (before rest : List Step) (block : ℕ) → steps ≡ before ++ read ours block sevens ∷ rest → answers (read ours block sevens) (small before) ≡ 0
    → (SaysLost (read_answer (small before).image ours block sevens) → ⊥)
    × (read_buffer (small before).image ours block sevens ≡ last_written block (replicate (words_of ours) 0) before origin)
read_right before rest block e a =
    let h = computed.hypotheses.all in
    demand_3.reads_right lent ours steps h.0 h.1.0 h.1.1.0 none before rest ours block sevens e
    (read_answer (small before).image ours block sevens)
    (small before).image
    (read_buffer (small before).image ours block sevens)
    (reads (small before).image ours block sevens refl refl)
    a

-- what a turn answers keeps its promise
turned_so : (state : State) → Turns state.patrol state.image (turned state.patrol state.image) (turn_after state.patrol state.image)
turned_so state = turnsSo state.patrol state.image refl refl

pub shown : Shown
shown =
    let one = read_right begun ended 1 refl computed.first_read in
    let other = read_right read_once (visit ours 1 ∷ turn ∷ []) 0 refl computed.second_read in
    record {
      accepted = λ before rest e.
          demand_3.turns_accepted lent ours computed.formatted_first before
          (front_none origin before (turn ∷ rest) (subst (NotFormatted lent ours) e none))
          _
          _
          (turned_so (small before));
      visits = λ block l.
          let found =
          demand_3.every_block_visited lent ours computed.formatted_first [] begun none_begun (rw computed.two (omega arith)) block l in
          (found.0, found.1, found.2, found.3 _ _ (turned_so (small found.0)));
      served = demand_3.ask_served lent ours start [] 1
          (front_none origin (start ++ ask 1 ∷ [])
          (turn ∷ write ours 1 one_first ∷ visit ours 0 ∷ refused ++ turn ∷ flip 24 3 ∷ read ours 1 sevens ∷ ended)
          none)
          _
          (asks (small start).patrol 1 refl)
          computed.given
          (omega (arith, computed.alone, computed.place_one))
          _
          _
          (turned_so (small (start ++ ask 1 ∷ [])));
      written = one.1 ∙ computed.last_one;
      written_kept = one.0;
      zero = other.1 ∙ computed.last_zero;
      zero_kept = other.0;
    }
