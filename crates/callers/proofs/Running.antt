-- Every list of steps has a run: each call leaves something, and the record that it leaves has 21 words again. Assumes nothing.
use Prim.Native.Nat.{ℕ, zero, suc}
use mathlib.Core.Path.{◌≡◌, refl, subst, ◌∙◌}
use mathlib.Core.List.{List, [], ◌∷◌}
use native.Mathlib.Omega.{arith}
use lib.ListN.{length, drop, length-drop, length-append}
use lib.Seq.{length-take-le}
use Rattle.ground.specs.Choice.{if_zero}
use Rattle.layout.specs.declared.Layout.{Layout}
use Rattle.layout.specs.Layout.{blocks}
use Rattle.layout.specs.Refusal.{layout_refusal, image_refusal}
use Rattle.rota.specs.Line.{places, asks_of}
use Rattle.rota.proofs.Ranges.{ask_long, turn_long}
use Rattle.store.specs.Fresh.{fresh_after}
use Rattle.store.specs.Write.{write_after}
use Rattle.store.specs.Visit.{visit_after}
use Rattle.patrol.specs.declared.Record.{Record}
use Rattle.patrol.specs.Ask.{asked, asked_by, with_ask, ask_refused}
use Rattle.patrol.specs.Format.{fresh_record, no_record}
use Rattle.patrol.specs.Turn.{ask_visited, turned, turned_by, with_turn, turn_refused}
use Rattle.patrol.proofs.Promises.{asks, turns}
use Rattle.words.specs.Records.{front_words, front_width, record_of, record_words, record_width}
use Rattle.demands.specs.Steps.{Step, format, write, read, visit, ask, turn, flip, flipped}
use Rattle.callers.specs.Handing.{Kept, Called, Ran, RanFrom}

-- a record whose line has all its places
abbrev Long : Record → Type 0
Long r = length r.rota.line.asks ≡ places

-- its words are those of an array
long_size : (r : Record) → Long r → length (record_words r) ≡ record_width
long_size r long = length-append (front_words r) r.rota.line.asks ∙ omega (arith, long)

-- the record that an array holds
held_long : (kept : Kept) → Long (record_of kept.words)
held_long kept =
    length-take-le places (drop front_width kept.words) (omega (arith, length-drop front_width kept.words, kept.size))

module _ (r : Record) (long : Long r) where
  asked_long : (block : ℕ) → Long (asked r block).back
  unfolding asked
  asked_long block = go (layout_refusal r.layout)
    where
      go : (number : ℕ) → Long (asked_by r block number).back
      go zero = ask_long (blocks r.layout) r.rota long block
      go (suc number) = long

  turned_long : (image : List ℕ) → Long (turned r image).back
  unfolding turned
  turned_long image = go (image_refusal (length image) r.layout)
    where
      go : (number : ℕ) → Long (turned_by r image number).back
      go zero = turn_long (blocks r.layout) r.rota long
      go (suc number) = long

-- the record of a format
abbrev format_record : ℕ → Layout → Record
format_record number layout = if_zero number (fresh_record layout) no_record

format_long : (number : ℕ) (layout : Layout) → Long (format_record number layout)
format_long zero layout = refl
format_long (suc number) layout = refl

-- the words that a caller keeps after a later format
later_size : (number : ℕ) (new : Record) (old : List ℕ) → Long new → length old ≡ record_width
    → length (if_zero number (record_words new) old) ≡ record_width
later_size zero new old long size = long_size new long
later_size (suc number) new old long size = size

abbrev keep : (image words : List ℕ) → length words ≡ record_width → Kept
keep image words size = record { image = image; words = words; size = size }

made : (step : Step) (old : Kept) → (number : ℕ) × (new : Kept) × Called step number old new
made (format layout) old =
    let number = image_refusal (length old.image) layout in (
      number,
      keep (fresh_after old.image layout) (if_zero number (record_words (format_record number layout)) old.words)
          (later_size number (format_record number layout) old.words (format_long number layout) old.size),
      (record_words (format_record number layout), record { answers = refl; leaves = refl; back = refl }, refl),
    )
made (write layout block list) old =
    (_, keep (write_after old.image layout block list) old.words old.size, (record { answers = refl; leaves = refl }, refl))
made (read layout block buffer) old =
    (_, old, (_, _, record { answers = refl; keeps = refl; leaves = refl; says = refl }, refl))
made (visit layout block) old =
    (_, keep (visit_after old.image layout block) old.words old.size, (_, record { answers = refl; leaves = refl; says = refl }, refl))
made (ask block) old =
    let r = record_of old.words in
    let moved = if_zero (ask_refused r block) (with_ask r block) r in
    let long : Long moved = subst Long (asks r block refl).back (asked_long r (held_long old) block) in (
      _,
      keep old.image (record_words moved) (long_size moved long),
      (_, record { answers = refl; back = refl; says = refl }, refl),
    )
made turn old =
    let r = record_of old.words in
    let moved = if_zero (turn_refused r (length old.image)) (with_turn r) r in
    let long : Long moved = subst Long (turns r old.image refl refl).back (turned_long r (held_long old) old.image) in
    let left = if_zero (turn_refused r (length old.image)) (ask_visited r.layout old.image r.rota.next (asks_of r.rota.line)) old.image in (
      _,
      keep left (record_words moved) (long_size moved long),
      (_, record { answers = refl; leaves = refl; back = refl; says = refl }),
    )
made (flip index bit) old = (0, keep (flipped index bit old.image) old.words old.size, (refl, refl, refl))

ran : (steps : List Step) (old : Kept) → (new : Kept) × Ran steps old new
ran [] old = (old, (refl, refl))
ran (step ∷ rest) old =
    let here = made step old in
    let later = ran rest here.1 in
    (later.0, (here.0, here.1, here.2, later.1))

pub runs : (image : List ℕ) (layout : Layout) (steps : List Step) → (now : Kept) × RanFrom image layout steps now
runs image layout steps =
    let number = image_refusal (length image) layout in
    let words = record_words (format_record number layout) in
    let first = keep (fresh_after image layout) words (long_size (format_record number layout) (format_long number layout)) in
    let later = ran steps first in
    (later.0, (number, first, record { answers = refl; leaves = refl; back = refl }, later.1))
