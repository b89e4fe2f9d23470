-- An accepted call answers number 0. A refusal answers its number, and then the place and the blocks are 0; so is the second block
-- where no ask is served. Assumes nothing.
use Rattle.std.specs.Prelude.{ℕ, Bool, false, List, [], ◌∷◌, Result, Ok, Err, is_some, unwrap_or}
use Rattle.refusal.specs.declared.Refusal.{Refusal}
use Rattle.refusal.specs.Refusal.{answer_number}
use Rattle.rota.specs.declared.Due.{Due}

abbrev pub place_number : Result ℕ Refusal → ℕ
place_number place = answer_number place

abbrev pub place_given : Result ℕ Refusal → ℕ
place_given (Ok place) = place
place_given (Err refusal) = 0

-- the place that an ask got as words, and 0 where it got none
abbrev pub place_words : Result ℕ Refusal → List ℕ
place_words place = place_given place ∷ []

abbrev pub due_number : Result Due Refusal → ℕ
due_number due = answer_number due

abbrev pub first_block : Result Due Refusal → ℕ
first_block (Ok due) = due.patrol
first_block (Err refusal) = 0

abbrev pub second_block : Result Due Refusal → ℕ
second_block (Ok due) = unwrap_or due.ask 0
second_block (Err refusal) = 0

-- whether an ask is served
abbrev pub served : Result Due Refusal → Bool
served (Ok due) = is_some due.ask
served (Err refusal) = false
