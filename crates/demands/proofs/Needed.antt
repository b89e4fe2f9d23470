-- What goes wrong in a store of two blocks of 16 words, block 1 from word 16 on, where one hypothesis of demand 3 fails and the others hold.
-- Both are computed, the others by their tests. Assumes nothing.
use Prim.Native.Nat.{ℕ, ◌+◌, ◌^◌}
use mathlib.Core.Path.{◌≡◌, refl}
use mathlib.Core.List.{List, [], ◌∷◌, ◌++◌}
use native.Mathlib.Omega.{arith}
use lib.ListN.{get_or, replicate}
use Rattle.ground.specs.Totals.{total}
use Rattle.ground.specs.Stores.{stores}
use Rattle.ground.specs.Lists.{list_of}
use Rattle.lane.specs.Bit.{bit}
use Rattle.lane.specs.Lane.{sum, count}
use Rattle.lane.specs.Decision.{decision}
use Rattle.lane.specs.Encoded.{named}
use Rattle.lane.specs.Rows.{power?, rows_where}
use Rattle.sums.specs.Words.{number}
use Rattle.block.specs.Block.{data_block, valid_block, data_of, lanes_lost, mended_lanes, mended_block, bits_changed}
use Rattle.block.specs.Verdict.{verdict_of}
use Rattle.block.proofs.ByWords.{fit?}
use Rattle.layout.specs.declared.Layout.{Layout}
use Rattle.layout.specs.Layout.{layout_of, shape_numbered, blocks}
use Rattle.layout.specs.Refusal.{layout_refusal, image_refusal, block_refusal}
use Rattle.store.specs.Answer.{answer_said}
use Rattle.refusal.specs.Refusal.{answer_number}
use Rattle.store.specs.Fresh.{fresh_image, fresh_after}
use Rattle.stored.specs.Stored.{complemented}
use Rattle.store.specs.Image.{stored_rows, with_rows, gathered, placed}
use Rattle.store.specs.Read.{read_answer, read_buffer, mended_data}
use Rattle.store.specs.Refusal.{data_refusal}
use Rattle.store.specs.Visit.{visit_answer, visit_after}
use Rattle.store.specs.Write.{write_answer, write_after}
use Rattle.rota.specs.Numbers.{place_number, place_given}
use Rattle.rota.specs.Line.{place, below, none_twice, zeros, sound}
use Rattle.rota.specs.Asking.{ask_refusal}
use Rattle.rota.specs.Record.{unbroken, ask_number, rota_asked, turn_number, rota_turned}
use Rattle.patrol.specs.Ask.{asked}
use Rattle.patrol.specs.Format.{formatted}
use Rattle.patrol.specs.Numbers.{report_number}
use Rattle.patrol.specs.Turn.{turned, turn_after}
use Rattle.demands.specs.Steps.{Step, format, write, read, visit, ask, turn, flip, State, fresh, flipped, after, report, turns, last_written}
use Rattle.demands.specs.Demand2.{SaysLost}
use Rattle.demands.specs.Demand3.{PatrolVisits, AskVisits, FormatAccepted, store}
use Rattle.demands.proofs.Tests.{made, every?, Hypothesis, layouts, words, spacing, formats, every, others, Meets, meets}

-- shape 1, interleave 1, two groups; and a layout of the same length, interleave 2, one group
abbrev pub ours : Layout
ours = layout_of 1 1 2

abbrev pub other : Layout
other = layout_of 1 2 1

-- the image that format is lent
abbrev pub lent : List ℕ
lent = replicate 32 0

abbrev pub small : List Step → State
small steps = store lent ours steps

abbrev pub sevens : List ℕ
sevens = replicate 11 7

-- what a read of a block with the layout says, and the first word that it leaves in a buffer of sevens
abbrev pub says : ℕ → List Step → ℕ
says block steps = (answer_said (read_answer (small steps).image ours block sevens)).verdict

abbrev pub gives : ℕ → List Step → ℕ
gives block steps = get_or (read_buffer (small steps).image ours block sevens) 0 0

-- some of the hypotheses hold of a list of steps, and of the steps with that read after them
abbrev pub Keeps : List Hypothesis → List Step → Type 0
Keeps some steps = Meets lent ours some steps

abbrev pub KeepsRead : List Hypothesis → ℕ → List Step → Type 0
KeepsRead some block steps = Keeps some (steps ++ read ours block sevens ∷ [])

-- the first word of the data last written
abbrev pub wrote : ℕ → List Step → ℕ
wrote block steps = get_or (last_written block (replicate 11 0) steps (fresh lent ours)) 0 0

-- data whose first word is 1, and data of ones
abbrev pub one_first : List ℕ
one_first = 1 ∷ replicate 10 0

abbrev pub all_ones : List ℕ
all_ones = replicate 11 0xFFFFFFFF

-- two flips in lane 3 of block 1, with one turn between them, and with two
abbrev pub near : List Step
near = flip 19 3 ∷ turn ∷ flip 24 3 ∷ []

abbrev pub far : List Step
far = flip 19 3 ∷ turn ∷ turn ∷ flip 24 3 ∷ []

-- a write with the other layout
abbrev pub stray_write : List Step
stray_write = write other 0 all_ones ∷ []

-- data for block 0 that make a valid block of the other layout too, but for lane 0
abbrev pub twofold : List ℕ
twofold = 0 ∷ 0xFFFFFFFF ∷ replicate 8 0 ++ 0xFFFFFFFE ∷ []

-- one flip in each block, with a visit between them
abbrev pub visited : Layout → List Step
visited layout = write ours 0 twofold ∷ flip 4 0 ∷ visit layout 0 ∷ flip 20 0 ∷ []

-- a data word of 33 bits
abbrev pub long_word : List Step
long_word = write ours 1 (replicate 11 (2 ^ 32)) ∷ []

-- a second format that is accepted
abbrev pub again : List Step
again = write ours 0 one_first ∷ format ours ∷ []

pub record Needed : Type 0 where
  -- two flips in lane 3 of block 1: one turn between is too few, and two are enough
  pub too_few : says 1 near ≡ 3
  pub too_few_else : KeepsRead (others spacing) 1 near
  pub enough : says 1 far ≡ 2
  pub enough_meets : KeepsRead every 1 far
  -- a write with the other layout is accepted and changes both blocks: block 1, to which nothing was written, reads as mended, to ones
  pub other_write : says 1 stray_write ≡ 2
  pub other_write_gives : gives 1 stray_write ≡ 0xFFFFFFFF
  pub other_write_wrote : wrote 1 stray_write ≡ 0
  pub other_write_else : KeepsRead (others layouts) 1 stray_write
  -- a visit with that layout, after one flip in block 0, damages block 1, and one flip there is then too much
  pub other_visit_changes : get_or (small (write ours 0 twofold ∷ flip 4 0 ∷ visit other 0 ∷ [])).image 18 0 ≡ 1
  pub other_visit : says 1 (visited other) ≡ 3
  pub other_visit_else : KeepsRead (others layouts) 1 (visited other)
  pub same_visit : says 1 (visited ours) ≡ 2
  pub same_visit_meets : KeepsRead every 1 (visited ours)
  -- a read with that layout is accepted and says lost, with no flip at all
  pub other_read : answer_number (read_answer (small (write ours 0 all_ones ∷ [])).image other 1 sevens) ≡ 0
  pub other_read_says : SaysLost (read_answer (small (write ours 0 all_ones ∷ [])).image other 1 sevens)
  pub other_read_else : Keeps (others layouts) (write ours 0 all_ones ∷ read other 1 sevens ∷ [])
  -- a data word of 33 bits is cut
  pub cut_gives : gives 1 long_word ≡ 0
  pub cut_wrote : wrote 1 long_word ≡ 2 ^ 32
  pub cut_else : KeepsRead (others words) 1 long_word
  -- after a second format that is accepted, what was written before reads as zeros
  pub again_gives : gives 0 again ≡ 0
  pub again_wrote : wrote 0 again ≡ 1
  pub again_else : KeepsRead (others formats) 0 again
  -- an ask that was given place 1 loses it
  pub again_given : place_number (asked (small []).patrol 1).place ≡ 0
  pub again_place : turns (format ours ∷ []) + 1 ≡ place_given (asked (small []).patrol 1).place
  pub again_unserved : AskVisits 1 (report (small (ask 1 ∷ format ours ∷ []))) → ⊥
  -- and of two turns running with such a format between them neither visits block 1
  pub again_formatted : FormatAccepted lent ours
  pub again_enough : turns (turn ∷ format ours ∷ turn ∷ []) ≡ blocks ours
  pub again_first : PatrolVisits 1 (report (small [])) → ⊥
  pub again_second : PatrolVisits 1 (report (small (turn ∷ format ours ∷ []))) → ⊥
  -- a refused read leaves the buffer as it was
  pub refused_gives : gives 2 [] ≡ 7
  pub refused_wrote : wrote 2 [] ≡ 0
  pub refused_meets : KeepsRead every 2 []
  -- where the format was refused, so is the turn, though none comes later
  pub unformatted_refused : image_refusal 0 ours ≡ 4
  pub unformatted_else : Meets [] ours (formats ∷ []) []
  pub unformatted : report_number (report (store [] ours [])) ≡ 1

pub needed : Needed
unfolding after flipped turns last_written formatted fresh_after fresh_image turned turn_after rota_turned turn_number unbroken sound zeros below none_twice
    asked rota_asked ask_number ask_refusal place
    layout_refusal image_refusal block_refusal data_refusal shape_numbered write_answer write_after read_answer read_buffer mended_data visit_answer visit_after
    complemented stored_rows with_rows gathered placed
    data_block valid_block data_of lanes_lost mended_lanes mended_block bits_changed verdict_of stores number list_of total
    bit sum count decision named power? rows_where made every? fit?
needed =
    record {
      too_few = refl;
      too_few_else = meets refl;
      enough = refl;
      enough_meets = meets refl;
      other_write = refl;
      other_write_gives = refl;
      other_write_wrote = refl;
      other_write_else = meets refl;
      other_visit_changes = refl;
      other_visit = refl;
      other_visit_else = meets refl;
      same_visit = refl;
      same_visit_meets = meets refl;
      other_read = refl;
      other_read_says = refl;
      other_read_else = meets refl;
      cut_gives = refl;
      cut_wrote = refl;
      cut_else = meets refl;
      again_gives = refl;
      again_wrote = refl;
      again_else = meets refl;
      again_given = refl;
      again_place = refl;
      again_unserved = λ served. omega (arith, served.1.0);
      again_formatted = refl;
      again_enough = refl;
      again_first = λ visits. omega (arith, visits.1.0);
      again_second = λ visits. omega (arith, visits.1.0);
      refused_gives = refl;
      refused_wrote = refl;
      refused_meets = meets refl;
      unformatted_refused = refl;
      unformatted_else = meets refl;
      unformatted = refl;
    }
