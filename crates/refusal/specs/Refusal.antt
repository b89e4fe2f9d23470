-- A call answers its value or the refusal that applies first. Refusals have the specification's numbers, from 1 on; 0 is no refusal. Assumes nothing.
use Rattle.std.specs.Prelude.{ℕ, cond, eqb, Result, Ok, Err}
use Rattle.ground.specs.Choice.{if_zero}
use Rattle.refusal.specs.declared.Refusal.{Refusal}
use Rattle.refusal.specs.declared.Refusal.TheVariants.{NoShape, BadInterleave, BadGroups, BadLength, BrokenRecord, NoBlock, BadList, LineFull}
use Rattle.refusal.specs.declared.Refusal.TheVariants.{BadVersion, BadSize, TooLong, NoRoom, TooManyRows, BadRow}

abbrev pub number : Refusal → ℕ
number NoShape = 1
number BadInterleave = 2
number BadGroups = 3
number BadLength = 4
number BrokenRecord = 5
number NoBlock = 6
number BadList = 7
number LineFull = 8
number BadVersion = 9
number BadSize = 10
number TooLong = 11
number NoRoom = 12
number TooManyRows = 13
number BadRow = 14

-- the refusal with a number; a number that is no refusal's is asked of nowhere
abbrev pub numbered : ℕ → Refusal
numbered n =
    cond (eqb n 1) NoShape
    (cond (eqb n 2) BadInterleave
    (cond (eqb n 3) BadGroups
    (cond (eqb n 4) BadLength
    (cond (eqb n 5) BrokenRecord
    (cond (eqb n 6) NoBlock
    (cond (eqb n 7) BadList
    (cond (eqb n 8) LineFull
    (cond (eqb n 9) BadVersion
    (cond (eqb n 10) BadSize
    (cond (eqb n 11) TooLong
    (cond (eqb n 12) NoRoom
    (cond (eqb n 13) TooManyRows BadRow))))))))))))

-- the number of an answer: 0 where the call is accepted
abbrev pub answer_number : {A : Type 0} → Result A Refusal → ℕ
answer_number (Ok value) = 0
answer_number (Err refusal) = number refusal

-- the answer, by the number of the refusal and the value where nothing is refused
abbrev pub answered : {A : Type 0} → ℕ → A → Result A Refusal
answered n value = if_zero n (Ok value) (Err (numbered n))
