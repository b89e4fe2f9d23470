-- A record as words: shape, s, G, next, how many wait, and then the places of its line. Assumes nothing.
use Rattle.std.specs.Prelude.{ℕ, ◌+◌, ◌≡◌, List, [], ◌∷◌, ◌++◌, get_or, take, drop}
use Rattle.rota.specs.Line.{places}
use Rattle.patrol.specs.declared.Record.{Record}
use Rattle.words.specs.Layouts.{layout_held, layout_words}

-- the words in front of the places, and all words of a record
abbrev pub front_width : ℕ
front_width = 5

abbrev pub record_width : ℕ
record_width = front_width + places

-- the record that words hold
abbrev pub record_of : List ℕ → Record
record_of words =
    record {
      layout = layout_held words;
      rota = record { next = get_or words 3 0; line = record { waiting = get_or words 4 0; asks = take places (drop front_width words) } };
    }

-- the words of a record: those in front, and the places
abbrev pub front_words : Record → List ℕ
front_words r = layout_words r.layout ++ r.rota.next ∷ r.rota.line.waiting ∷ []

abbrev pub record_words : Record → List ℕ
record_words r = front_words r ++ r.rota.line.asks

-- the promises of record_of and record_words
abbrev pub HoldsRecord : List ℕ → Record → Type 0
HoldsRecord words r = r ≡ record_of words

abbrev pub SpellsRecord : Record → List ℕ → Type 0
SpellsRecord r words = words ≡ record_words r
