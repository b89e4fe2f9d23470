-- What a visit around named rows answers, in the specification's numbers: the refusal, or 0; the verdict, numbered 1 clean, 2 mended, 3 lost; and the
-- counts that it carries. Mended carries the bits changed inside the named rows and outside; lost the lanes of each kind where no row is named, and
-- one count, of all lost lanes, where rows are. Assumes nothing.
use Rattle.std.specs.Prelude.{ℕ, zero, suc, ◌≡◌, List, [], ◌∷◌, get_or, Result, Ok, Err}
use Rattle.lane.specs.Decision.{Kind, even, beyond}
use Rattle.ground.specs.Choice.{if_zero}
use Rattle.refusal.specs.declared.Refusal.{Refusal}
use Rattle.refusal.specs.Refusal.{answer_number}
use Rattle.shape.specs.declared.Shape.{Shape}
use Rattle.block.specs.declared.Verdict.{Verdict}
use Rattle.block.specs.declared.Verdict.TheVariants as verdicts
use Rattle.block.specs.Block.{lanes_lost_as}
use Rattle.around.specs.declared.Around.{Around}
use Rattle.around.specs.declared.Around.TheVariants.{Clean, Mended, Lost, LostAround}
use Rattle.around.specs.Block.{lanes_lost_around, around_block, bits_inside, bits_outside}

abbrev pub around_verdict : Around → ℕ
around_verdict Clean = 1
around_verdict (Mended i o) = 2
around_verdict (Lost e b) = 3
around_verdict (LostAround n) = 3

abbrev pub around_counts : Around → List ℕ
around_counts Clean = []
around_counts (Mended i o) = i ∷ o ∷ []
around_counts (Lost e b) = e ∷ b ∷ []
around_counts (LostAround n) = n ∷ []

-- what an ordinary visit finds, as a visit around no row
abbrev pub unnamed : Verdict → Around
unnamed verdicts.Clean = Clean
unnamed (verdicts.Mended m) = Mended 0 m
unnamed (verdicts.Lost e b) = Lost e b

-- ---- what is said of a block

pub record SaidAround : Type 0 where
  pub verdict : ℕ
  pub counts : List ℕ

abbrev pub said_of_around : Around → SaidAround
said_of_around found = record { verdict = around_verdict found; counts = around_counts found }

-- no verdict: 0, and no counts
abbrev pub unsaid_around : SaidAround
unsaid_around = record { verdict = 0; counts = [] }

-- what an answer says
abbrev pub around_said : Result Around Refusal → SaidAround
around_said (Ok found) = said_of_around found
around_said (Err refusal) = unsaid_around

-- by the named rows, the lanes lost, how many are of each kind where none is named, and the bits changed inside and outside
abbrev pub said_around_by : List ℕ → ℕ → (Kind → ℕ) → (i o : ℕ) → SaidAround
said_around_by named zero kinds zero zero = record { verdict = 1; counts = [] }
said_around_by named zero kinds zero (suc o) = record { verdict = 2; counts = 0 ∷ suc o ∷ [] }
said_around_by named zero kinds (suc i) o = record { verdict = 2; counts = suc i ∷ o ∷ [] }
said_around_by [] (suc l) kinds i o = record { verdict = 3; counts = kinds even ∷ kinds beyond ∷ [] }
said_around_by (r ∷ named) (suc l) kinds i o = record { verdict = 3; counts = suc l ∷ [] }

-- what is to be said of a block
unfoldable pub to_say_around : Shape → List ℕ → List ℕ → SaidAround
to_say_around shape named block =
    said_around_by named (lanes_lost_around shape named block) (lanes_lost_as shape block) (bits_inside shape named block (around_block shape named block))
    (bits_outside shape named block (around_block shape named block))

-- as words: the verdict, and two counts, 0 where it carries none
abbrev pub said_around_words : SaidAround → List ℕ
said_around_words said = said.verdict ∷ get_or said.counts 0 0 ∷ get_or said.counts 1 0 ∷ []

abbrev pub around_words : Result Around Refusal → List ℕ
around_words answer = said_around_words (around_said answer)

-- an answer in numbers, by its call's refusal and what it says where there is none
pub record AnswersAround (refusal : ℕ) (said : SaidAround) (answer : Result Around Refusal) : Type 0 where
  pub number : answer_number answer ≡ refusal
  pub says : around_said answer ≡ if_zero refusal said unsaid_around
