-- A line holds the blocks that are asked for, the next one first, in an array of some places: its capacity. Places are counted from 1;
-- 0 stands for no place. A line is sound for n where no more wait than it has places, every block that waits is below n, none waits
-- twice, and the unused places hold 0. Assumes nothing.
use Rattle.std.specs.Prelude.{ℕ, zero, suc, ◌-◌, Bool, true, false, cond, ◌&&◌, ◌≡◌, ltb, leb, eqb, Option, Some, None}
use Rattle.std.specs.Prelude.{List, [], ◌∷◌, ◌++◌, length, take, drop, replicate}
use Rattle.rota.specs.declared.line.Line.{Line}

-- the capacity of the rota's line
abbrev pub places : ℕ
places = 16

-- ---- a list of asks

-- a place, where one more block stands in front
abbrev pub further : ℕ → ℕ
further zero = zero
further (suc place) = suc (suc place)

-- the place of a block
unfoldable pub place : ℕ → List ℕ → ℕ
place block [] = zero
place block (first ∷ rest) = cond (eqb first block) 1 (further (place block rest))

-- the same, where there is one
abbrev pub some_place : ℕ → Option ℕ
some_place zero = None
some_place (suc place) = Some (suc place)

abbrev pub place_of : ℕ → List ℕ → Option ℕ
place_of block asks = some_place (place block asks)

-- the block at place 1
abbrev pub first_of : List ℕ → Option ℕ
first_of [] = None
first_of (first ∷ rest) = Some first

-- does any block wait
abbrev pub some? : List ℕ → Bool
some? [] = false
some? (first ∷ rest) = true

-- every block that waits is below n
unfoldable pub below : ℕ → List ℕ → Bool
below n [] = true
below n (first ∷ rest) = ltb first n && below n rest

-- no block waits twice
unfoldable pub none_twice : List ℕ → Bool
none_twice [] = true
none_twice (first ∷ rest) = eqb (place first rest) 0 && none_twice rest

-- every number is 0
unfoldable pub zeros : List ℕ → Bool
zeros [] = true
zeros (first ∷ rest) = eqb first 0 && zeros rest

-- ---- a line

-- the list that a line says, and the places behind it
abbrev pub asks_of : Line → List ℕ
asks_of line = take line.waiting line.asks

abbrev pub unused_of : Line → List ℕ
unused_of line = drop line.waiting line.asks

module _ (capacity : ℕ) where
  -- every place is in use
  abbrev pub full : List ℕ → Bool
  full asks = leb capacity (length asks)

  unfoldable pub sound : ℕ → Line → Bool
  sound n line = leb line.waiting capacity && ((below n (asks_of line) && none_twice (asks_of line)) && zeros (unused_of line))

  -- the line that says a list
  abbrev pub line_of : List ℕ → Line
  line_of asks = record { waiting = length asks; asks = asks ++ replicate (capacity - length asks) 0 }

  -- with one block more behind the others, and with the first taken away
  abbrev pub longer : Line → ℕ → Line
  longer line block = line_of (asks_of line ++ block ∷ [])

  abbrev pub shorter : Line → Line
  shorter line = line_of (drop 1 (asks_of line))

  -- the line holds no more than what it says
  abbrev pub Tidy : Line → Type 0
  Tidy line = line_of (asks_of line) ≡ line
