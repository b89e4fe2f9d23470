-- What the writer answers: the refusal, or how many bytes the file has. Assumes nothing.
use Rattle.std.specs.Prelude.{ℕ, ◌≡◌, List, length, Result, Ok, Err}
use Rattle.ground.specs.Choice.{if_zero}
use Rattle.refusal.specs.declared.Refusal.{Refusal}
use Rattle.refusal.specs.Refusal.{answer_number, answered}
use Rattle.layout.specs.declared.Layout.{Layout}
use Rattle.file.specs.Bytes.{file_of, file_into}
use Rattle.file.specs.Refusal.{write_refusal}

-- what the writer answers
abbrev pub Written : Type 0
Written = Result ℕ Refusal

-- how many bytes are answered, 0 where the image is refused
abbrev pub written_bytes : Written → ℕ
written_bytes (Ok count) = count
written_bytes (Err refusal) = 0

-- the promise of write_file: number and bytes; the buffer, and the image, which stays
pub record WritesFile (image : List ℕ) (layout : Layout) (buffer : List ℕ) (answer : Written) (kept after : List ℕ) : Type 0 where
  pub number : answer_number answer ≡ write_refusal (length image) layout (length buffer)
  pub bytes : written_bytes answer ≡ if_zero (write_refusal (length image) layout (length buffer)) (length (file_of layout image)) 0
  pub keeps : kept ≡ image
  pub leaves : after ≡ if_zero (write_refusal (length image) layout (length buffer)) (file_into layout image buffer) buffer

-- the answer itself, as callers use it
unfoldable pub write_answer : List ℕ → Layout → List ℕ → Written
write_answer image layout buffer = answered (write_refusal (length image) layout (length buffer)) (length (file_of layout image))
