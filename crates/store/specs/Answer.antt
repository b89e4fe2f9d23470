-- What a call answers, in the specification's numbers. A refusal answers its number, with verdict and counts 0. An accepted call answers number 0;
-- write then answers no verdict and no counts, read and visit those of the block. Assumes nothing.
use Rattle.std.specs.Prelude.{ℕ, List, ◌≡◌, Result, Ok, Err}
use Rattle.std.specs.Result.{result_unwrap_or}
use Rattle.ground.specs.Choice.{if_zero}
use Rattle.refusal.specs.declared.Refusal.{Refusal}
use Rattle.refusal.specs.Refusal.{answer_number}
use Rattle.block.specs.declared.Verdict.{Verdict}
use Rattle.block.specs.declared.Verdict.TheVariants.{Clean}
use Rattle.block.specs.Verdict.{Said, said_of, unsaid, said_words}

-- what read and visit answer, and what write does
abbrev pub Answer : Type 0
Answer = Result Verdict Refusal

abbrev pub Stored : Type 0
Stored = Result (Unit {0}) Refusal

-- what is said of the block
abbrev pub answer_said : Answer → Said
answer_said (Ok verdict) = said_of verdict
answer_said (Err refusal) = unsaid

abbrev pub stored_said : Stored → Said
stored_said (Ok done) = unsaid
stored_said (Err refusal) = unsaid

-- verdict and counts as words
abbrev pub answer_words : Answer → List ℕ
answer_words answer = said_words (answer_said answer)

abbrev pub stored_words : Stored → List ℕ
stored_words answer = said_words (stored_said answer)

-- an answer in numbers, by its call's refusal and what it says where there is none
pub record Answers {A : Type 0} (said_in : Result A Refusal → Said) (refusal : ℕ) (said : Said) (answer : Result A Refusal) : Type 0 where
  pub number : answer_number answer ≡ refusal
  pub says : said_in answer ≡ if_zero refusal said unsaid

-- ---- the answer itself, as callers use it

-- the verdict of an answer, and clean where it has none
abbrev pub verdict_in : Answer → Verdict
verdict_in answer = result_unwrap_or answer Clean
