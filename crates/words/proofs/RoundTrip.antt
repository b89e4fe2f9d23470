-- Words to a record and back are the same words, and a record to words and back is the same record. Assumes nothing.
use Prim.Native.Nat.{ℕ}
use mathlib.Core.Path.{◌≡◌, ap}
use mathlib.Core.List.{List, [], ◌∷◌}
use native.Mathlib.Omega.{arith}
use lib.ListN.{length}
use lib.Seq.{take_all}
use Rattle.rota.specs.Line.{places}
use Rattle.patrol.specs.declared.Record.{Record}
use Rattle.words.specs.Records.{record_width, record_of, record_words}

pub same_words : (words : List ℕ) → length words ≡ record_width → record_words (record_of words) ≡ words
same_words [] size = absurd (omega arith)
same_words (shape ∷ []) size = absurd (omega arith)
same_words (shape ∷ s ∷ []) size = absurd (omega arith)
same_words (shape ∷ s ∷ g ∷ []) size = absurd (omega arith)
same_words (shape ∷ s ∷ g ∷ next ∷ []) size = absurd (omega arith)
same_words (shape ∷ s ∷ g ∷ next ∷ waiting ∷ asks) size =
    ap (λ (l : List ℕ). shape ∷ s ∷ g ∷ next ∷ waiting ∷ l) (take_all places asks (omega arith))

pub same_record : (r : Record) → length r.rota.line.asks ≡ places → record_of (record_words r) ≡ r
same_record r size =
    ap
    (λ (l : List ℕ). record {
      layout = r.layout;
      rota = record { next = r.rota.next; line = record { waiting = r.rota.line.waiting; asks = l } };
    })
    (take_all places r.rota.line.asks (omega arith))
