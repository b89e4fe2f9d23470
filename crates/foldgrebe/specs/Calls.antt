-- What each exported call answers, and every lent word that it leaves: those of the proved calls, in the specification's numbers as words.
-- Assumes nothing.
use Rattle.std.specs.Prelude.{ℕ, List, [], ◌∷◌, ◌++◌, ◌≡◌, length}
use Rattle.ground.specs.Choice.{if_zero}
use Rattle.block.specs.Verdict.{unsaid, to_say, said_words}
use Rattle.layout.specs.declared.Layout.{Layout}
use Rattle.layout.specs.Layout.{shape_of}
use Rattle.layout.specs.Refusal.{image_refusal, block_refusal}
use Rattle.store.specs.Image.{gathered}
use Rattle.store.specs.Refusal.{data_refusal}
use Rattle.store.specs.Fresh.{fresh_after}
use Rattle.store.specs.Write.{write_after}
use Rattle.store.specs.Read.{read_buffer}
use Rattle.store.specs.Visit.{visit_after}
use Rattle.rota.specs.Line.{asks_of}
use Rattle.rota.specs.Asking.{ask_place}
use Rattle.rota.specs.Record.{plan_of}
use Rattle.patrol.specs.Format.{fresh_record, no_record}
use Rattle.patrol.specs.Ask.{with_ask, ask_refused}
use Rattle.patrol.specs.Turn.{with_turn, seen_in, ask_seen, ask_visited, turn_refused}
use Rattle.patrol.specs.Numbers.{unseen, seen_words}
use Rattle.words.specs.Records.{record_of, record_words}

-- write
pub record WriteCall (image : List ℕ) (layout : Layout) (block : ℕ) (list : List ℕ) (number : ℕ) (after : List ℕ) : Type 0 where
  pub answers : number ≡ data_refusal (length image) layout block (length list)
  pub leaves : after ≡ write_after image layout block list

-- read: the image stays
pub record ReadCall (image : List ℕ) (layout : Layout) (block : ℕ) (buffer : List ℕ) (number : ℕ) (kept after verdict : List ℕ) : Type 0 where
  pub answers : number ≡ data_refusal (length image) layout block (length buffer)
  pub keeps : kept ≡ image
  pub leaves : after ≡ read_buffer image layout block buffer
  pub says : verdict
      ≡ said_words (if_zero (data_refusal (length image) layout block (length buffer)) (to_say (shape_of layout) (gathered layout block image)) unsaid)

-- visit
pub record VisitCall (image : List ℕ) (layout : Layout) (block number : ℕ) (after verdict : List ℕ) : Type 0 where
  pub answers : number ≡ block_refusal (length image) layout block
  pub leaves : after ≡ visit_after image layout block
  pub says : verdict ≡ said_words (if_zero (block_refusal (length image) layout block) (to_say (shape_of layout) (gathered layout block image)) unsaid)

-- format
pub record FormatCall (image : List ℕ) (layout : Layout) (number : ℕ) (after words : List ℕ) : Type 0 where
  pub answers : number ≡ image_refusal (length image) layout
  pub leaves : after ≡ fresh_after image layout
  pub back : words ≡ record_words (if_zero (image_refusal (length image) layout) (fresh_record layout) no_record)

-- ask: the record that was lent, and what it becomes; refused, it is the same
pub record AskCall (lent : List ℕ) (block number : ℕ) (words place : List ℕ) : Type 0 where
  pub answers : number ≡ ask_refused (record_of lent) block
  pub back : words ≡ record_words (if_zero (ask_refused (record_of lent) block) (with_ask (record_of lent) block) (record_of lent))
  pub says : place ≡ if_zero (ask_refused (record_of lent) block) (ask_place (plan_of (record_of lent).rota) block) 0 ∷ []

-- turn: likewise; and the image
pub record TurnCall (lent image : List ℕ) (number : ℕ) (words after report : List ℕ) : Type 0 where
  pub answers : number ≡ turn_refused (record_of lent) (length image)
  pub leaves : after
      ≡ if_zero (turn_refused (record_of lent) (length image))
      (ask_visited (record_of lent).layout image (record_of lent).rota.next (asks_of (record_of lent).rota.line))
      image
  pub back : words ≡ record_words (if_zero (turn_refused (record_of lent) (length image)) (with_turn (record_of lent)) (record_of lent))
  pub says : report
      ≡ seen_words (if_zero (turn_refused (record_of lent) (length image)) (seen_in (record_of lent).layout image (record_of lent).rota.next) unseen)
      ++ seen_words
      (if_zero (turn_refused (record_of lent) (length image))
      (ask_seen (record_of lent).layout image (record_of lent).rota.next (asks_of (record_of lent).rota.line))
      unseen)
