-- A text is a list of ASCII bytes. A number is written in decimal, with no zeros in front. Assumes nothing.
use Rattle.std.specs.Prelude.{ℕ, zero, suc, ◌+◌, ◌/◌, ◌%◌, cond, List, [], ◌∷◌, ◌++◌, ltb}
use Prim.Native.Char.{code}
use Prim.Native.String.{String, [] as emptyText, ◌∷◌ as ◌before◌}

-- the bytes of a text
abbrev pub ascii : String → List ℕ
ascii emptyText = []
ascii (c before text) = code c ∷ ascii text

-- the byte of a digit
abbrev pub digit : ℕ → ℕ
digit d = 48 + d

-- the digits of n, the most significant first, in as many steps as are given
unfoldable pub spelled : ℕ → ℕ → List ℕ
spelled zero n = digit n ∷ []
spelled (suc steps) n = cond (ltb n 10) (digit n ∷ []) (spelled steps (n / 10) ++ digit (n % 10) ∷ [])

-- n takes no more than n steps
unfoldable pub decimal : ℕ → List ℕ
decimal n = spelled n n

-- a text, and a number after it
abbrev pub named : String → ℕ → List ℕ
named text n = ascii text ++ decimal n

abbrev pub line_end : List ℕ
line_end = ascii "\n"
