-- A list of steps: each is one of the six calls with its arguments, whatever they are, or one flip named by index and bit. Image and record
-- go from step to step as values, and each call leaves what its promise says: `demands/proofs/Promised` proves it.
-- A refused format leaves the record: the one of zeros that it gives is another, since it was handed none. Assumes nothing.
use Rattle.std.specs.Prelude.{Result, ℕ, suc, ◌^◌, cond, List, [], ◌∷◌, eqb, ltb, get_or, set}
use Rattle.std.specs.Int.Bits.{bit_xor}
use Rattle.ground.specs.Choice.{if_zero}
use Rattle.refusal.specs.declared.Refusal.{Refusal}
use Rattle.layout.specs.declared.Layout.{Layout}
use Rattle.refusal.specs.Refusal.{answer_number}
use Rattle.store.specs.Fresh.{fresh_after}
use Rattle.store.specs.Write.{write_answer, write_after}
use Rattle.store.specs.Read.{read_answer}
use Rattle.store.specs.Visit.{visit_answer, visit_after}
use Rattle.rota.specs.Numbers.{place_number}
use Rattle.patrol.specs.declared.Record.{Record}
use Rattle.patrol.specs.declared.Report.{Report}
use Rattle.patrol.specs.Numbers.{report_number}
use Rattle.patrol.specs.Format.{formatted}
use Rattle.patrol.specs.Ask.{asked}
use Rattle.patrol.specs.Turn.{turned, turn_after}

pub data Step : Type 0 where
  format : Layout → Step
  write : Layout → ℕ → List ℕ → Step
  read : Layout → ℕ → List ℕ → Step
  visit : Layout → ℕ → Step
  ask : ℕ → Step
  turn : Step
  flip : (index bit : ℕ) → Step

-- the image, and the record of its patrol
pub record State : Type 0 where
  pub image : List ℕ
  pub patrol : Record

-- what the first format leaves
abbrev pub fresh : List ℕ → Layout → State
fresh image layout = record { image = fresh_after image layout; patrol = (formatted image layout).back }

-- the image with one bit of one word changed; past its end, and above bit 31, there is none to change
unfoldable pub flipped : ℕ → ℕ → List ℕ → List ℕ
flipped index bit image = cond (ltb bit 32) (set image index (bit_xor (get_or image index 0) (2 ^ bit))) image

-- the state after a step, and after a list of steps
abbrev pub step_after : Step → State → State
step_after (format layout) state =
    record {
      image = fresh_after state.image layout;
      patrol = if_zero (formatted state.image layout).number (formatted state.image layout).back state.patrol;
    }
step_after (write layout block list) state =
    record { image = write_after state.image layout block list; patrol = state.patrol }
step_after (read layout block buffer) state = state
step_after (visit layout block) state = record { image = visit_after state.image layout block; patrol = state.patrol }
step_after (ask block) state = record { image = state.image; patrol = (asked state.patrol block).back }
step_after turn state =
    record { image = turn_after state.patrol state.image; patrol = (turned state.patrol state.image).back }
step_after (flip index bit) state = record { image = flipped index bit state.image; patrol = state.patrol }

unfoldable pub after : List Step → State → State
after [] state = state
after (step ∷ rest) state = after rest (step_after step state)

-- the report of a turn
abbrev pub report : State → Result Report Refusal
report state = (turned state.patrol state.image).report

-- the number that a call answers, which is 0 where it is accepted; a flip is no call
abbrev pub answers : Step → State → ℕ
answers (format layout) state = (formatted state.image layout).number
answers (write layout block list) state = answer_number (write_answer state.image layout block list)
answers (read layout block buffer) state = answer_number (read_answer state.image layout block buffer)
answers (visit layout block) state = answer_number (visit_answer state.image layout block)
answers (ask block) state = place_number (asked state.patrol block).place
answers turn state = report_number (report state)
answers (flip index bit) state = 0

-- how many turns a list has
abbrev pub tick : Step → ℕ → ℕ
tick (format layout) count = count
tick (write layout block list) count = count
tick (read layout block buffer) count = count
tick (visit layout block) count = count
tick (ask block) count = count
tick turn count = suc count
tick (flip index bit) count = count

unfoldable pub turns : List Step → ℕ
turns [] = 0
turns (step ∷ rest) = tick step (turns rest)

-- the data that a block is meant to hold after a step: an accepted write to the block changes it, and nothing else does; a format that is
-- accepted does not come
abbrev pub meant : ℕ → List ℕ → Step → State → List ℕ
meant block old (format layout) state = old
meant block old (write layout to list) state =
    if_zero (answers (write layout to list) state) (cond (eqb to block) list old) old
meant block old (read layout from buffer) state = old
meant block old (visit layout at) state = old
meant block old (ask wanted) state = old
meant block old turn state = old
meant block old (flip index bit) state = old

-- the data last written to a block in a list of steps, and the old data where none was
unfoldable pub last_written : ℕ → List ℕ → List Step → State → List ℕ
last_written block old [] state = old
last_written block old (step ∷ rest) state = last_written block (meant block old step state) rest (step_after step state)
