-- What each exported call on a file answers, and every lent word and byte that it leaves. Assumes nothing.
use Rattle.std.specs.Prelude.{ℕ, List, [], ◌∷◌, ◌≡◌, length}
use Rattle.ground.specs.Choice.{if_zero}
use Rattle.layout.specs.declared.Layout.{Layout}
use Rattle.layout.specs.Layout.{layout_of}
use Rattle.file.specs.Bytes.{file_of, file_into, layout_in, image_in}
use Rattle.file.specs.Refusal.{file_refusal, read_refusal, write_refusal}
use Rattle.words.specs.Layouts.{layout_words}

-- file_write: the image stays
pub record FileWriteCall (image : List ℕ) (layout : Layout) (buffer : List ℕ) (number : ℕ) (kept after written : List ℕ) : Type 0 where
  pub answers : number ≡ write_refusal (length image) layout (length buffer)
  pub keeps : kept ≡ image
  pub leaves : after ≡ if_zero (write_refusal (length image) layout (length buffer)) (file_into layout image buffer) buffer
  pub says : written ≡ if_zero (write_refusal (length image) layout (length buffer)) (length (file_of layout image)) 0 ∷ []

-- file_layout: the file stays
pub record FileLayoutCall (bytes : List ℕ) (number : ℕ) (kept layout : List ℕ) : Type 0 where
  pub answers : number ≡ file_refusal bytes
  pub keeps : kept ≡ bytes
  pub says : layout ≡ layout_words (if_zero (file_refusal bytes) (layout_in bytes) (layout_of 0 0 0))

-- file_read: the file stays
pub record FileReadCall (bytes image : List ℕ) (number : ℕ) (kept after layout : List ℕ) : Type 0 where
  pub answers : number ≡ read_refusal bytes (length image)
  pub keeps : kept ≡ bytes
  pub leaves : after ≡ if_zero (read_refusal bytes (length image)) (image_in bytes) image
  pub says : layout ≡ layout_words (if_zero (read_refusal bytes (length image)) (layout_in bytes) (layout_of 0 0 0))
