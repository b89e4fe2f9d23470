-- A header is answered by the file's refusal, or by the layout that it names: shape, s and G. Reading a file answers this too. Assumes nothing.
use Rattle.std.specs.Prelude.{ℕ, ◌≡◌, List, length, Result, Ok, Err}
use Rattle.ground.specs.Choice.{if_zero}
use Rattle.refusal.specs.declared.Refusal.{Refusal}
use Rattle.refusal.specs.Refusal.{answer_number, answered}
use Rattle.layout.specs.declared.Layout.{Layout}
use Rattle.layout.specs.Layout.{layout_of}
use Rattle.file.specs.Bytes.{layout_in, image_in}
use Rattle.file.specs.Refusal.{file_refusal, read_refusal}

-- what a read of a header, or of a file, answers
abbrev pub Header : Type 0
Header = Result Layout Refusal

-- the layout that is answered, of zeros where the file is refused
abbrev pub header_layout : Header → Layout
header_layout (Ok layout) = layout
header_layout (Err refusal) = layout_of 0 0 0

-- the answer itself
unfoldable pub header_of : List ℕ → Header
header_of bytes = answered (file_refusal bytes) (layout_in bytes)

-- in the specification's values: this refusal, or, where it is 0, this layout
pub record HeaderTells (refusal : ℕ) (named : Layout) (answer : Header) : Type 0 where
  pub number : answer_number answer ≡ refusal
  pub layout : header_layout answer ≡ if_zero refusal named (layout_of 0 0 0)

-- the promise of read_header
abbrev pub HeaderRead : List ℕ → Header → Type 0
HeaderRead bytes answer = HeaderTells (file_refusal bytes) (layout_in bytes) answer

-- the promise of read_file: the header; the image is the one that the file holds, or as it was where anything is refused; the file stays
pub record ReadsFile (bytes image : List ℕ) (answer : Header) (kept after : List ℕ) : Type 0 where
  pub answers : HeaderTells (read_refusal bytes (length image)) (layout_in bytes) answer
  pub keeps : kept ≡ bytes
  pub leaves : after ≡ if_zero (read_refusal bytes (length image)) (image_in bytes) image
