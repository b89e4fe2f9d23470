-- Two shapes exist: shape 1 has 16 rows and 11 data words, shape 2 has 72 rows and 64 data words. Assumes nothing.
use Rattle.std.specs.Prelude.{ℕ, suc, List, ◌≡◌, Result, MatchResult}
use Rattle.lane.specs.Rows.{data_rows}
use Rattle.refusal.specs.declared.Refusal.{Refusal}
use Rattle.refusal.specs.declared.Refusal.TheVariants.{NoShape}
use Rattle.shape.specs.declared.Shape.{Shape}
use Rattle.shape.specs.declared.Shape.TheVariants.{One, Two}

-- the shapes are numbered 1 and 2
abbrev pub shape_number : Shape → ℕ
shape_number One = 1
shape_number Two = 2

-- the promise of try_from: the shape with a number, and no shape where none has it
abbrev pub NumbersShape : ℕ → Result Shape Refusal → Type 0
NumbersShape number answer =
    MatchResult answer (λ shape. shape_number shape ≡ number) (λ refusal. (refusal ≡ NoShape) × (number ≡ 1 → ⊥) × (number ≡ 2 → ⊥))

-- how many rows stand before the last
abbrev pub before : Shape → ℕ
before One = 15
before Two = 71

abbrev pub rows : Shape → ℕ
rows shape = suc (before shape)

-- the words of a gathered block: room for the rows of either shape
abbrev pub most_rows : ℕ
most_rows = rows Two

-- how many binary digits the number of a row before the last has
abbrev pub digits : Shape → ℕ
digits One = 4
digits Two = 7

-- the data rows, lowest first
abbrev pub data_rows_of : Shape → List ℕ
data_rows_of shape = data_rows (digits shape) (before shape)

-- how many data words a block holds
abbrev pub words : Shape → ℕ
words One = 11
words Two = 64

-- the promises of rows_before, rows and words
abbrev pub CountsBefore : Shape → ℕ → Type 0
CountsBefore shape count = count ≡ before shape

abbrev pub CountsRows : Shape → ℕ → Type 0
CountsRows shape count = count ≡ rows shape

abbrev pub CountsWords : Shape → ℕ → Type 0
CountsWords shape count = count ≡ words shape
