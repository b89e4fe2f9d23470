-- The outcomes that keep the promise of write_file, which leaves one; its refusals by their rules. Assumes nothing.
use Prim.Native.Nat.{ℕ, zero, suc, ◌≤◌}
use mathlib.Core.Path.{◌≡◌, refl, sym, ◌∙◌}
use mathlib.Core.List.{List, [], ◌∷◌}
use native.Mathlib.Omega.{arith}
use lib.ListN.{length}
use Rattle.ground.specs.Choice.{if_zero}
use Rattle.ground.specs.Rules.{FirstOf}
use Rattle.ground.proofs.Ladder.{Rung, rung_below, first_then, first_front}
use Rattle.layout.specs.declared.Layout.{Layout}
use Rattle.layout.specs.Reason.{image_rules}
use Rattle.layout.proofs.Ladder.{image_first}
use Rattle.std.specs.Prelude.{Result, Ok, Err}
use Rattle.ground.proofs.Choices.{refused_kept}
use Rattle.refusal.specs.declared.Refusal.{Refusal}
use Rattle.refusal.specs.Refusal.{number, numbered, answered}
use Rattle.refusal.proofs.Answered.{number_some, answered_number}
use Rattle.refusal.specs.Refusal.{answer_number}
use Rattle.refusal.proofs.Answered.{answers_same}
use Rattle.file.specs.Written.{Written}
use Rattle.file.proofs.Headers.{told}
use Rattle.file.proofs.Ladder.{write_known}
use Rattle.file.specs.Bytes.{file_of, file_length, file_into}
use Rattle.file.specs.Refusal.{long_rung, room_rung, write_refusal}
use Rattle.file.specs.Reason.{too_long, no_room, write_rules}
use Rattle.file.specs.Written.{written_bytes, WritesFile, write_answer}
use Rattle.file.proofs.RoundTrip.{length_file}

module _ (image : List ℕ) (layout : Layout) (buffer : List ℕ) where
  abbrev refusal : ℕ
  refusal = write_refusal (length image) layout (length buffer)

  abbrev after : ℕ → List ℕ
  after number = if_zero number (file_into layout image buffer) buffer

  pub writes_refused : (reason : Refusal) → number reason ≡ refusal → WritesFile image layout buffer (Err reason) image buffer
  writes_refused reason e =
      let some : refusal ≡ 0 → ⊥ = λ z. number_some reason (e ∙ z) in
      record {
        number = e;
        bytes = sym (refused_kept refusal (length (file_of layout image)) 0 some);
        keeps = refl;
        leaves = sym (refused_kept refusal (file_into layout image buffer) buffer some);
      }

  pub writes_bytes : (count : ℕ) (left : List ℕ) → refusal ≡ 0 → count ≡ length (file_of layout image) → left ≡ file_into layout image buffer
      → WritesFile image layout buffer (Ok count) image left
  writes_bytes count left e n l = record { number = sym e; bytes = n ∙ rw e; keeps = refl; leaves = l ∙ rw e }

  -- the answer by its definition, and what is left, meet the promise, and are what it leaves
  pub file_written : WritesFile image layout buffer (write_answer image layout buffer) image (after refusal)
  unfolding write_answer
  file_written = by refusal refl
    where
      by : (n : ℕ) → n ≡ refusal → WritesFile image layout buffer (answered n (length (file_of layout image))) image (after n)
      by zero e = writes_bytes _ _ (sym e) refl refl
      by (suc n) e =
          let small : suc n ≤ 14 = rw e (write_known (length image) layout (length buffer)) in
          writes_refused (numbered (suc n)) (answered_number (suc n) (length (file_of layout image)) small ∙ e)

  pub file_answer : {answer : Result ℕ Refusal} {kept left : List ℕ} → WritesFile image layout buffer answer kept left
      → answer ≡ write_answer image layout buffer
  unfolding write_answer
  file_answer {answer} w = told written_bytes refusal (length (file_of layout image)) 0 answer (λ given. refl) w.number w.bytes

  -- ---- the ladder is the first of its rules

  long_rung_lem : Rung (too_long (file_of layout image)) (long_rung (file_length (length image)))
  long_rung_lem = rw (← length_file layout image) (rung_below (too_long (file_of layout image)) _ _ (λ l. l) (λ l. l))

  room_rung_lem : Rung (no_room (file_of layout image) buffer) (room_rung (file_length (length image)) (length buffer))
  room_rung_lem = rw (← length_file layout image) (rung_below (no_room (file_of layout image) buffer) _ _ (λ l. l) (λ l. l))

  pub write_first : FirstOf (write_rules image layout buffer) refusal
  unfolding write_refusal
  write_first =
      first_then (image_rules (length image) layout) (too_long (file_of layout image) ∷ no_room (file_of layout image) buffer ∷ []) _ _ tt
      (image_first layout (length image))
      (first_front (too_long (file_of layout image)) (no_room (file_of layout image) buffer ∷ []) _ _ (λ z. omega arith) long_rung_lem room_rung_lem)

-- what the writer answers is told apart by number and bytes
pub written_told : (a b : Written) → answer_number a ≡ answer_number b → written_bytes a ≡ written_bytes b → a ≡ b
written_told = answers_same written_bytes (λ count. refl)
