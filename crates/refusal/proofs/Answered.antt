-- An answer is told by its number and its value, and every number of the table is a refusal's. Assumes nothing.
use Rattle.std.specs.Prelude.{ℕ, zero, suc, Bool, true, false, ◌≤◌, ◌≡◌, Result, Ok, Err}
use Rattle.std.specs.Result.{IsErrAnd, is_err}
use Rattle.std.proofs.lemmas.Result.{err_from_is_err_and}
use mathlib.Core.Path.{refl, sym, ap, ◌∙◌}
use native.Mathlib.Omega.{arith}
use Rattle.ground.specs.Ladder.{◌when◌else◌, ◌then◌}
use Rattle.refusal.specs.declared.Refusal.{Refusal}
use Rattle.refusal.specs.declared.Refusal.TheVariants.{NoShape, BadInterleave, BadGroups, BadLength, BrokenRecord, NoBlock, BadList, LineFull}
use Rattle.refusal.specs.declared.Refusal.TheVariants.{BadVersion, BadSize, TooLong, NoRoom, TooManyRows, BadRow}
use Rattle.refusal.specs.Refusal.{number, numbered, answer_number, answered}

-- a refusal is the one with its number, and its number is not 0
pub numbered_number : (refusal : Refusal) → numbered (number refusal) ≡ refusal
numbered_number = elim [
  | NoShape ↦ refl
  | BadInterleave ↦ refl
  | BadGroups ↦ refl
  | BadLength ↦ refl
  | BrokenRecord ↦ refl
  | NoBlock ↦ refl
  | BadList ↦ refl
  | LineFull ↦ refl
  | BadVersion ↦ refl
  | BadSize ↦ refl
  | TooLong ↦ refl
  | NoRoom ↦ refl
  | TooManyRows ↦ refl
  | BadRow ↦ refl
]

-- a refusal is told by its number
pub refusal_told : (a b : Refusal) → number a ≡ number b → a ≡ b
refusal_told a b e = sym (numbered_number a) ∙ ap numbered e ∙ numbered_number b

pub number_some : (refusal : Refusal) → number refusal ≡ 0 → ⊥
number_some = elim [
  | NoShape ↦ λ e. omega arith
  | BadInterleave ↦ λ e. omega arith
  | BadGroups ↦ λ e. omega arith
  | BadLength ↦ λ e. omega arith
  | BrokenRecord ↦ λ e. omega arith
  | NoBlock ↦ λ e. omega arith
  | BadList ↦ λ e. omega arith
  | LineFull ↦ λ e. omega arith
  | BadVersion ↦ λ e. omega arith
  | BadSize ↦ λ e. omega arith
  | TooLong ↦ λ e. omega arith
  | NoRoom ↦ λ e. omega arith
  | TooManyRows ↦ λ e. omega arith
  | BadRow ↦ λ e. omega arith
]

-- the number of a refusal that has one
pub number_of_numbered : (n : ℕ) → n ≤ 14 → (n ≡ 0 → ⊥) → number (numbered n) ≡ n
number_of_numbered zero small some = absurd (some refl)
number_of_numbered (suc zero) small some = refl
number_of_numbered (suc (suc zero)) small some = refl
number_of_numbered (suc (suc (suc zero))) small some = refl
number_of_numbered (suc (suc (suc (suc zero)))) small some = refl
number_of_numbered (suc (suc (suc (suc (suc zero))))) small some = refl
number_of_numbered (suc (suc (suc (suc (suc (suc zero)))))) small some = refl
number_of_numbered (suc (suc (suc (suc (suc (suc (suc zero))))))) small some = refl
number_of_numbered (suc (suc (suc (suc (suc (suc (suc (suc zero)))))))) small some = refl
number_of_numbered (suc (suc (suc (suc (suc (suc (suc (suc (suc zero))))))))) small some = refl
number_of_numbered (suc (suc (suc (suc (suc (suc (suc (suc (suc (suc zero)))))))))) small some = refl
number_of_numbered (suc (suc (suc (suc (suc (suc (suc (suc (suc (suc (suc zero))))))))))) small some = refl
number_of_numbered (suc (suc (suc (suc (suc (suc (suc (suc (suc (suc (suc (suc zero)))))))))))) small some = refl
number_of_numbered (suc (suc (suc (suc (suc (suc (suc (suc (suc (suc (suc (suc (suc zero))))))))))))) small some = refl
number_of_numbered (suc (suc (suc (suc (suc (suc (suc (suc (suc (suc (suc (suc (suc (suc zero)))))))))))))) small some = refl
number_of_numbered (suc (suc (suc (suc (suc (suc (suc (suc (suc (suc (suc (suc (suc (suc (suc n))))))))))))))) small some = absurd (omega arith)

-- ---- ladders have numbers of the table

pub rung_known : (n : ℕ) (test : Bool) (other : ℕ) → n ≤ 14 → other ≤ 14 → (n when test else other) ≤ 14
rung_known n true other first rest = first
rung_known n false other first rest = rest

pub then_known : (first rest : ℕ) → first ≤ 14 → rest ≤ 14 → (first then rest) ≤ 14
then_known zero rest a b = b
then_known (suc n) rest a b = a

-- ---- an answer, by its number

pub answered_accepted : {A : Type 0} (n : ℕ) (value : A) → n ≡ 0 → answered n value ≡ Ok value
answered_accepted zero value none = refl
answered_accepted (suc n) value none = absurd (omega arith)

pub answered_refused : {A : Type 0} (n : ℕ) (value : A) → (n ≡ 0 → ⊥) → answered n value ≡ Err (numbered n)
answered_refused zero value some = absurd (some refl)
answered_refused (suc n) value some = refl

-- the number of such an answer is the refusal's
pub answered_number : {A : Type 0} (n : ℕ) (value : A) → n ≤ 14 → answer_number (answered n value) ≡ n
answered_number zero value small = refl
answered_number (suc n) value small = number_of_numbered (suc n) small (λ e. omega arith)

-- an answer with this number, and this value where it is accepted, is that one
pub is_answered : {A : Type 0} (n : ℕ) (value : A) (answer : Result A Refusal) → answer_number answer ≡ n
    → ((given : A) → answer ≡ Ok given → given ≡ value)
    → answer ≡ answered n value
is_answered zero value (Ok given) e same = ap Ok (same given refl)
is_answered (suc n) value (Ok given) e same = absurd (omega arith)
is_answered zero value (Err refusal) e same = absurd (number_some refusal e)
is_answered (suc n) value (Err refusal) e same = ap Err (sym (numbered_number refusal) ∙ ap numbered e)

-- ---- what a `?` passes on is the refusal that it was given

pub passed_on : {A : Type 0} {answer : Result A Refusal} {refusal : Refusal} → IsErrAnd answer (λ given. given ≡ refusal) → answer ≡ Err refusal
passed_on {answer} given = let p = err_from_is_err_and answer given in p.1 ∙ ap Err p.2

-- ---- what the test of an answer tells of its number

pub is_err_some : {A : Type 0} (answer : Result A Refusal) → is_err answer ≡ true → answer_number answer ≡ 0 → ⊥
is_err_some (Ok value) e z = cc
is_err_some (Err refusal) e z = number_some refusal z

pub is_ok_none : {A : Type 0} (answer : Result A Refusal) → is_err answer ≡ false → answer_number answer ≡ 0
is_ok_none (Ok value) e = refl
is_ok_none (Err refusal) e = absurd cc

-- two answers with one number, and one value where they are accepted, are the same
pub answers_same : {A : Type 0} (value_of : Result A Refusal → A) → ((value : A) → value_of (Ok value) ≡ value) → (a b : Result A Refusal)
    → answer_number a ≡ answer_number b → value_of a ≡ value_of b
    → a ≡ b
answers_same value_of is (Ok u) (Ok v) e w = ap Ok (sym (is u) ∙ w ∙ is v)
answers_same value_of is (Ok u) (Err s) e w = absurd (number_some s (sym e))
answers_same value_of is (Err r) (Ok v) e w = absurd (number_some r e)
answers_same value_of is (Err r) (Err s) e w = ap Err (refusal_told r s e)
