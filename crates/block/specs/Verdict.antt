-- Clean 0: block valid, nothing changed. Mended m: no lane lost, m bits changed. Lost e b: e lanes are lost with even parity, and b with an odd
-- sum beyond the rows. The verdicts are numbered 1 clean, 2 mended, 3 lost. Assumes nothing.
use Rattle.std.specs.Prelude.{ℕ, zero, suc, List, [], ◌∷◌}
use Rattle.lane.specs.Decision.{Kind, even, beyond}
use Rattle.shape.specs.declared.Shape.{Shape}
use Rattle.block.specs.declared.Verdict.{Verdict}
use Rattle.block.specs.declared.Verdict.TheVariants.{Clean, Mended, Lost}
use Rattle.block.specs.Block.{lanes_lost, lanes_lost_as, bits_changed, mended_block}

abbrev pub verdict_number : Verdict → ℕ
verdict_number Clean = 1
verdict_number (Mended m) = 2
verdict_number (Lost e b) = 3

-- the bits changed, or the lanes lost with even parity
abbrev pub verdict_count : Verdict → ℕ
verdict_count Clean = 0
verdict_count (Mended m) = m
verdict_count (Lost e b) = e

-- the lanes lost with an odd sum beyond the rows
abbrev pub verdict_beyond : Verdict → ℕ
verdict_beyond Clean = 0
verdict_beyond (Mended m) = 0
verdict_beyond (Lost e b) = b

-- ---- what is said of a block, in numbers

pub record Said : Type 0 where
  pub verdict : ℕ
  pub count : ℕ
  pub beyond : ℕ

abbrev pub said_of : Verdict → Said
said_of found = record { verdict = verdict_number found; count = verdict_count found; beyond = verdict_beyond found }

-- no verdict: 0, and no counts
abbrev pub unsaid : Said
unsaid = record { verdict = 0; count = 0; beyond = 0 }

-- by the lanes lost, how many are of each kind, and the bits changed
abbrev pub said_by : ℕ → (Kind → ℕ) → ℕ → Said
said_by zero kinds zero = record { verdict = 1; count = 0; beyond = 0 }
said_by zero kinds (suc m) = record { verdict = 2; count = suc m; beyond = 0 }
said_by (suc l) kinds m = record { verdict = 3; count = kinds even; beyond = kinds beyond }

-- what is to be said of a block
unfoldable pub to_say : Shape → List ℕ → Said
to_say shape block = said_by (lanes_lost shape block) (lanes_lost_as shape block) (bits_changed shape block (mended_block shape block))

-- as words
abbrev pub said_words : Said → List ℕ
said_words said = said.verdict ∷ said.count ∷ said.beyond ∷ []

abbrev pub verdict_words : Verdict → List ℕ
verdict_words found = said_words (said_of found)

abbrev pub no_verdict : List ℕ
no_verdict = said_words unsaid

-- ---- the verdict itself, as callers use it

-- by the lanes lost, how many are of each kind, and the bits changed
abbrev pub verdict : ℕ → (Kind → ℕ) → ℕ → Verdict
verdict zero kinds zero = Clean
verdict zero kinds (suc m) = Mended (suc m)
verdict (suc l) kinds m = Lost (kinds even) (kinds beyond)

unfoldable pub verdict_of : Shape → List ℕ → Verdict
verdict_of shape block = verdict (lanes_lost shape block) (lanes_lost_as shape block) (bits_changed shape block (mended_block shape block))
