-- The specification's number and what is said tell the answers apart, so an answer that keeps a promise is the call's. Assumes nothing.
use Prim.Native.Nat.{ℕ, zero, suc, ◌≤◌}
use mathlib.Core.Path.{◌≡◌, refl, sym, ap, ◌∙◌}
use Rattle.std.specs.Prelude.{Result, Ok, Err}
use Rattle.refusal.specs.declared.Refusal.{Refusal}
use Rattle.refusal.specs.Refusal.{number, numbered, answer_number, answered}
use Rattle.refusal.proofs.Answered.{number_some, refusal_told, numbered_number, answered_number, answered_refused}
use Rattle.block.specs.Verdict.{Said, unsaid}
use Rattle.block.proofs.Verdicts.{said_told}
use Rattle.store.specs.Answer.{Answer, Stored, answer_said, stored_said, Answers}

module _ {A : Type 0} {said_in : Result A Refusal → Said} where
  -- one answer has the numbers, where values are told apart by what they say
  one_by : ((u v : A) → said_in (Ok u) ≡ said_in (Ok v) → u ≡ v) → {refusal : ℕ} {said : Said} (a b : Result A Refusal)
      → Answers said_in refusal said a → Answers said_in refusal said b → a ≡ b
  one_by tells (Ok u) (Ok v) p q = ap Ok (tells u v (p.says ∙ sym q.says))
  one_by tells (Ok u) (Err s) p q = absurd (number_some s (q.number ∙ sym p.number))
  one_by tells (Err r) (Ok v) p q = absurd (number_some r (p.number ∙ sym q.number))
  one_by tells (Err r) (Err s) p q = ap Err (refusal_told r s (p.number ∙ sym q.number))

  -- the answer by the number of its refusal has them, where refusals say nothing
  pub answers_by : ((refusal : Refusal) → said_in (Err refusal) ≡ unsaid) → (n : ℕ) (value : A) → n ≤ 14
      → Answers said_in n (said_in (Ok value)) (answered n value)
  answers_by silent zero value known = record { number = refl; says = refl }
  answers_by silent (suc n) value known = record { number = answered_number (suc n) value known; says = silent (numbered (suc n)) }

pub answers_told : (a b : Answer) → answer_number a ≡ answer_number b → answer_said a ≡ answer_said b → a ≡ b
answers_told (Ok u) (Ok v) e w = ap Ok (said_told u v w)
answers_told (Ok u) (Err s) e w = absurd (number_some s (sym e))
answers_told (Err r) (Ok v) e w = absurd (number_some r e)
answers_told (Err r) (Err s) e w = ap Err (refusal_told r s e)

pub answers_one : {refusal : ℕ} {said : Said} (a b : Answer) → Answers answer_said refusal said a → Answers answer_said refusal said b → a ≡ b
answers_one = one_by said_told

pub stored_one : {refusal : ℕ} {said : Said} (a b : Stored) → Answers stored_said refusal said a → Answers stored_said refusal said b → a ≡ b
stored_one = one_by (λ u v e. refl)

-- a refusal is the answer with its number
pub refused_answer : {A : Type 0} (refusal : Refusal) (value : A) → Err refusal ≡ answered (number refusal) value
refused_answer refusal value = sym (answered_refused (number refusal) value (number_some refusal) ∙ ap Err (numbered_number refusal))
