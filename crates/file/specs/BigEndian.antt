-- Numbers in a file are stored big-endian: the most significant byte first. Assumes nothing.
use Rattle.std.specs.Prelude.{ℕ, ◌+◌, ◌*◌, ◌/◌, ◌%◌, List, [], ◌∷◌, get_or}

-- the number that two bytes hold, and the two bytes of a number
abbrev pub pair_of : ℕ → ℕ → ℕ
pair_of a b = a * 256 + b

abbrev pub pair_bytes : ℕ → List ℕ
pair_bytes n = n / 256 ∷ n % 256 ∷ []

-- the word that four bytes hold, and the four bytes of a word
abbrev pub word_of : ℕ → ℕ → ℕ → ℕ → ℕ
word_of a b c d = pair_of a b * 65536 + pair_of c d

abbrev pub word_bytes : ℕ → List ℕ
word_bytes n = n / 16777216 ∷ n / 65536 % 256 ∷ n / 256 % 256 ∷ n % 256 ∷ []

-- what the bytes from a place on hold
abbrev pub pair_at : List ℕ → ℕ → ℕ
pair_at bytes at = pair_of (get_or bytes at 0) (get_or bytes (at + 1) 0)

abbrev pub word_at : List ℕ → ℕ → ℕ
word_at bytes at = word_of (get_or bytes at 0) (get_or bytes (at + 1) 0) (get_or bytes (at + 2) 0) (get_or bytes (at + 3) 0)
