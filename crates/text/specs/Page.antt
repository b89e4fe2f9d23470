-- A lent buffer and the place of the next byte. A text is written there whole, or not at all where it does not fit. Assumes nothing.
use Rattle.std.specs.Prelude.{ℕ, ◌+◌, cond, List, [], ◌∷◌, ◌++◌, leb, length, take, drop}

pub record Page : Type 0 where
  pub bytes : List ℕ
  pub next : ℕ

abbrev pub page : List ℕ → ℕ → Page
page bytes next = record { bytes = bytes; next = next }

-- bytes with a text put at a place
abbrev pub over : List ℕ → ℕ → List ℕ → List ℕ
over bytes at text = take at bytes ++ text ++ drop (at + length text) bytes

unfoldable pub written : List ℕ → Page → Page
written text p =
    cond (leb (p.next + length text) (length p.bytes)) (page (over p.bytes p.next text) (p.next + length text)) p

-- lines, one after the other
unfoldable pub written_all : List (List ℕ) → Page → Page
written_all [] p = p
written_all (line ∷ lines) p = written_all lines (written line p)

-- the lines as one text
unfoldable pub end_to_end : List (List ℕ) → List ℕ
end_to_end [] = []
end_to_end (line ∷ lines) = line ++ end_to_end lines
