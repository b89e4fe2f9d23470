-- What the code computes on its way to the sums, 32 lanes at once. Assumes nothing.
use Rattle.std.specs.Prelude.{◌≡◌, ℕ, zero, suc, ◌+◌, ◌*◌, ◌-◌, Bool, List, [], ◌∷◌, get_or, set}
use Rattle.std.specs.Int.Bits.{bit_xor}
use Rattle.lane.specs.Bit.{pick}
use Rattle.shape.specs.declared.Shape.{Shape}
use Rattle.shape.specs.declared.Shape.TheVariants.{One, Two}
use Rattle.ground.specs.Choice.{if_zero}
use Rattle.stored.specs.Stored.{ones}
use Rattle.sums.specs.Sums.{any_of}
use Rattle.sums.specs.declared.Finding.{Finding}
use Rattle.sums.specs.declared.Finding.TheVariants.{Clean, Doubt}
use Rattle.sums.specs.declared.Running.{Running}
use Rattle.sums.specs.declared.Column.{Column}
use Rattle.sums.specs.declared.Endings.{Endings}

-- the exclusive or of the words of those of the rows 1 to n that pass a test
unfoldable pub xor_rows : (ℕ → Bool) → ℕ → (ℕ → ℕ) → ℕ
xor_rows test zero rowWord = zero
xor_rows test (suc n) rowWord = bit_xor (xor_rows test n rowWord) (pick (test (suc n)) (rowWord (suc n)))

-- what is found of a block by its eight words: clean where no lane has a one in any, and else in doubt, and the words are kept
abbrev pub Kept : (sums : List ℕ) (found : Finding) (lent after : List ℕ) → Type 0
Kept sums found lent after = (found ≡ if_zero (any_of 8 sums) Clean Doubt) × (after ≡ if_zero (any_of 8 sums) lent sums)

-- ---- the rows in groups of four

-- the eight words of the code's block, from stored rows by how they end, digit 2, and digits 3 to 6: complementing rows 1 and 2 changes every lane's
-- sum by 3 and no parity
abbrev pub eight_of : Endings → ℕ → List ℕ → List ℕ
eight_of ends d2 high =
    let d0 : ℕ = bit_xor ends.e01 ends.e11 in
    bit_xor d0 ones ∷ bit_xor (bit_xor ends.e10 ends.e11) ones ∷ d2 ∷ get_or high 0 0 ∷ get_or high 1 0 ∷ get_or high 2 0 ∷ get_or high 3 0
    ∷ bit_xor (bit_xor d0 ends.e00) ends.e10 ∷ []

-- digits 3 to 6 of the sums, from the words of rows 1 to 4 q + 3 for each q: shape 1 has no row with one of the last three
abbrev pub high_digits : Shape → List ℕ → List ℕ
high_digits One upto = bit_xor (get_or upto 1 0) (get_or upto 3 0) ∷ 0 ∷ 0 ∷ 0 ∷ []
high_digits Two upto =
    let to : ℕ → ℕ = λ q. get_or upto q 0 in
    let d5 : ℕ = bit_xor (to 7) (to 15) in
    let d4 : ℕ = bit_xor (bit_xor (to 3) (to 11)) d5 in
    bit_xor (bit_xor (bit_xor (bit_xor (to 1) (to 5)) (to 9)) (to 13)) d4 ∷ d4 ∷ d5 ∷ bit_xor (to 15) (to 17) ∷ []

-- ---- a column of 17 words, one a group

-- groups 4 m + 1 to 4 m + 3: those whose number ends in 1, those whose number ends in 10 or 11, and all
abbrev pub three_of : (x1 x2 x3 : ℕ) → Running
three_of x1 x2 x3 = record { low = bit_xor x1 x3; high = bit_xor x2 x3; all = bit_xor x1 (bit_xor x2 x3) }

-- group 4 m with them
abbrev pub four_of : (x0 : ℕ) → Running → Running
four_of x0 rest = record { low = rest.low; high = rest.high; all = bit_xor x0 rest.all }

-- what a column gives, from groups 1 to 3, 4 to 7, 8 to 11, 12 to 15, 16 and 17
abbrev pub column_from : (from1 from4 from8 from12 : Running) (x16 x17 : ℕ) → Column
column_from from1 from4 from8 from12 x16 x17 =
    let d4 : ℕ = bit_xor from4.all from12.all in
    let d6 : ℕ = bit_xor x16 x17 in
    record {
      d2 = bit_xor (bit_xor (bit_xor (bit_xor from1.low from4.low) from8.low) from12.low) x17;
      d3 = bit_xor (bit_xor (bit_xor from1.high from4.high) from8.high) from12.high;
      d4 = d4;
      d5 = bit_xor from8.all from12.all;
      d6 = d6;
      all = bit_xor (bit_xor (bit_xor from1.all from8.all) d4) d6;
    }

-- what the words of a column give, group by group
abbrev pub column_of : (ℕ → ℕ) → Column
column_of x =
    let from : ℕ → Running = λ q. four_of (x q) (three_of (x (q + 1)) (x (q + 2)) (x (q + 3))) in
    column_from (three_of (x 1) (x 2) (x 3)) (from 4) (from 8) (from 12) (x 16) (x 17)

-- the word of column c in group q, of rows that are neighbours
abbrev pub in_column : List ℕ → (at c q : ℕ) → ℕ
in_column words at c q = get_or words (at + (4 * q - 1) + c) 0

-- digits 2 to 5 of column c in a table, four words a column; and of n columns
abbrev pub laid : List ℕ → ℕ → Column → List ℕ
laid table c column = set (set (set (set table (4 * c) column.d2) (4 * c + 1) column.d3) (4 * c + 2) column.d4) (4 * c + 3) column.d5

unfoldable pub tabled : List ℕ → (ℕ → Column) → ℕ → List ℕ
tabled table f zero = table
tabled table f (suc c) = laid (tabled table f c) c (f c)

-- rows 1 to 3 and the last, each with the column that ends as it does
abbrev pub endings_of : (words : List ℕ) (at : ℕ) (all : List ℕ) → Endings
endings_of words at all =
    record {
      e00 = bit_xor (get_or all 0 0) (get_or words (at + 71) 0);
      e01 = bit_xor (get_or all 1 0) (get_or words at 0);
      e10 = bit_xor (get_or all 2 0) (get_or words (at + 1) 0);
      e11 = bit_xor (get_or all 3 0) (get_or words (at + 2) 0);
    }

-- what the four columns have at k, together
abbrev pub across_of : List ℕ → ℕ → ℕ
across_of table k = bit_xor (bit_xor (bit_xor (get_or table k 0) (get_or table (k + 4) 0)) (get_or table (k + 8) 0)) (get_or table (k + 12) 0)
