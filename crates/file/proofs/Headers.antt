-- An answer's number and value tell answers apart, so that the promises of read_header and read_file leave one answer. Assumes nothing.
use Prim.Native.Nat.{ℕ, zero, suc, ◌≤◌}
use mathlib.Core.Path.{◌≡◌, refl, sym, ap, ◌∙◌}
use mathlib.Core.List.{List}
use Rattle.std.specs.Prelude.{Result, Ok, Err}
use Rattle.ground.specs.Choice.{if_zero}
use Rattle.ground.proofs.Choices.{refused_kept}
use Rattle.refusal.specs.declared.Refusal.{Refusal}
use Rattle.refusal.specs.Refusal.{number, answer_number, answered}
use Rattle.refusal.proofs.Answered.{number_some, is_answered, answered_number}
use Rattle.layout.specs.declared.Layout.{Layout}
use Rattle.layout.specs.Layout.{layout_of}
use Rattle.refusal.specs.Refusal.{answer_number}
use Rattle.refusal.proofs.Answered.{answers_same}
use Rattle.file.specs.Header.{Header}
use Rattle.file.specs.Bytes.{layout_in}
use Rattle.file.specs.Refusal.{file_refusal}
use Rattle.file.specs.Header.{header_layout, header_of, HeaderTells, HeaderRead}
use Rattle.file.proofs.Ladder.{file_known}

-- an answer by its number, and by the value that it has where it is accepted
pub told : {A : Type 0} (value_of : Result A Refusal → A) (n : ℕ) (value other : A) (answer : Result A Refusal)
    → ((given : A) → value_of (Ok given) ≡ given)
    → answer_number answer ≡ n
    → value_of answer ≡ if_zero n value other
    → answer ≡ answered n value
told {A} value_of n value other answer is e v =
    is_answered n value answer e
    (λ given q.
    sym (is given) ∙ sym (ap value_of q) ∙ v ∙ ap (λ (n : ℕ). if_zero n value other) (sym e ∙ ap answer_number q))

-- ---- the header by its definition meets the promise, and is what it leaves

pub tells_refused : (named : Layout) {n : ℕ} (refusal : Refusal) → number refusal ≡ n → HeaderTells n named (Err refusal)
tells_refused named refusal e =
    record { number = e; layout = sym (refused_kept _ named (layout_of 0 0 0) (λ z. number_some refusal (e ∙ z))) }

pub tells_accepted : (named : Layout) {n : ℕ} → n ≡ 0 → HeaderTells n named (Ok named)
tells_accepted named e = record { number = sym e; layout = rw e }

pub tells_if : (refusal : ℕ) (named : Layout) → refusal ≤ 14 → HeaderTells refusal named (answered refusal named)
tells_if zero named small = tells_accepted named refl
tells_if (suc n) named small = tells_refused named _ (answered_number (suc n) named small)

pub tells_is : (refusal : ℕ) (named : Layout) (answer : Result Layout Refusal) → HeaderTells refusal named answer → answer ≡ answered refusal named
tells_is refusal named answer r = told header_layout refusal named (layout_of 0 0 0) answer (λ given. refl) r.number r.layout

module _ (bytes : List ℕ) where
  pub header_is : (answer : Result Layout Refusal) → HeaderRead bytes answer → answer ≡ header_of bytes
  unfolding header_of
  header_is answer = tells_is (file_refusal bytes) (layout_in bytes) answer

  pub header_read : (answer : Result Layout Refusal) → answer ≡ header_of bytes → HeaderRead bytes answer
  unfolding header_of
  header_read answer e = rw e (tells_if (file_refusal bytes) (layout_in bytes) (file_known bytes))

  -- a header that is accepted: nothing is refused, and the layout is the one in the bytes
  pub header_layout_lem : {layout : Layout} → HeaderRead bytes (Ok layout) → (file_refusal bytes ≡ 0) × (layout ≡ layout_in bytes)
  header_layout_lem r = (sym r.number, r.layout ∙ ap (λ (n : ℕ). if_zero n (layout_in bytes) (layout_of 0 0 0)) (sym r.number))

-- headers are told apart by number and layout
pub headers_told : (a b : Header) → answer_number a ≡ answer_number b → header_layout a ≡ header_layout b → a ≡ b
headers_told = answers_same header_layout (λ layout. refl)
