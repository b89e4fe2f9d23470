-- Format makes the image fresh and gives a record: the layout, next block 0, no asks waiting.
-- A refused format, which was handed no record, gives one of zeros. Assumes nothing.
use Rattle.std.specs.Prelude.{ℕ, ◌≡◌, List, length}
use Rattle.ground.specs.Choice.{if_zero}
use Rattle.refusal.specs.Refusal.{answer_number}
use Rattle.layout.specs.declared.Layout.{Layout}
use Rattle.layout.specs.Layout.{layout_of}
use Rattle.layout.specs.Refusal.{image_refusal}
use Rattle.rota.specs.Record.{fresh}
use Rattle.store.specs.Fresh.{fresh_after}
use Rattle.patrol.specs.declared.Record.{Record}
use Rattle.patrol.specs.declared.Formatted.{Formatted as Answer}
use Rattle.patrol.specs.Handed.{Formatted}

-- the record of a fresh store
abbrev pub fresh_record : Layout → Record
fresh_record layout = record { layout = layout; rota = fresh }

-- the record of zeros
abbrev pub no_record : Record
no_record = fresh_record (layout_of 0 0 0)

-- an answer in numbers
abbrev pub formatted_as : Answer → Formatted
formatted_as answer = record { number = answer_number answer.done; back = answer.back }

-- the promise of format: the number of its refusal, or 0, the record, and the image that it leaves
pub record Formats (image : List ℕ) (layout : Layout) (answer : Formatted) (after : List ℕ) : Type 0 where
  pub number : answer.number ≡ image_refusal (length image) layout
  pub back : answer.back ≡ if_zero (image_refusal (length image) layout) (fresh_record layout) no_record
  pub leaves : after ≡ fresh_after image layout

-- the answer itself, as callers use it
unfoldable pub formatted : List ℕ → Layout → Formatted
formatted image layout =
    record {
      number = image_refusal (length image) layout;
      back = if_zero (image_refusal (length image) layout) (fresh_record layout) no_record;
    }
