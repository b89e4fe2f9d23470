-- Through a file and back. What is read of the file that was written of an image is that image; the file that is written of what was read from one
-- of version 2 is that file, byte for byte, and from one of version 1 the file of version 2 with the same header but the version; the inspecting
-- program prints the same of both. All of it is said of what the promises allow. Assumes nothing.
use Rattle.std.specs.Prelude.{ℕ, suc, ◌+◌, ◌≤◌, ◌<◌, ◌≡◌, List, [], ◌∷◌, ◌++◌, ◌↔◌, length, take, drop, replicate}
use Rattle.ground.specs.Rules.{NoneOf}
use Rattle.layout.specs.declared.Layout.{Layout}
use Rattle.layout.specs.Layout.{layout_of, rows_of, blocks}
use Rattle.layout.specs.Reason.{image_rules}
use Rattle.stored.specs.Stored.{complemented_image}
use Rattle.refusal.specs.Refusal.{answer_number}
use Rattle.file.specs.Header.{Header}
use Rattle.file.specs.Written.{Written}
use Rattle.file.specs.Bytes.{FittingBytes, bytes_of, version_in, layout_in, words_in}
use Rattle.file.specs.Header.{header_layout, HeaderRead, ReadsFile}
use Rattle.file.specs.Written.{written_bytes, WritesFile}
use Rattle.text.specs.Page.{end_to_end}
use Rattle.report.specs.Report.{image_report, Inspects}
use Rattle.demands.specs.Examples.{old_sample, new_sample}

-- what reading a file may give, where it is accepted: a layout and an image
pub data Read (bytes : List ℕ) : Layout → List ℕ → Type 0 where
  whole : (header : Header) (lent kept image : List ℕ) → ReadsFile bytes lent header kept image → answer_number header ≡ 0
      → Read bytes (header_layout header) image

-- the writer wrote this file of an image, and may have been lent more bytes
pub record Wrote (image : List ℕ) (layout : Layout) (file : List ℕ) : Type 0 where
  pub buffer : List ℕ
  pub answer : Written
  pub kept : List ℕ
  pub after : List ℕ
  pub promised : WritesFile image layout buffer answer kept after
  pub accepted : answer_number answer ≡ 0
  pub file_is : file ≡ take (written_bytes answer) after

-- from an image to its file and back: reading is accepted, and gives that shape, s and G, and the same image, word for word
pub record Back (image : List ℕ) (layout : Layout) (file : List ℕ) : Type 0 where
  pub header : (header : Header) → HeaderRead file header → (answer_number header ≡ 0) × (header_layout header ≡ layout)
  pub whole : (header : Header) (lent kept after : List ℕ) → length lent ≡ length image → ReadsFile file lent header kept after → answer_number header ≡ 0
  pub same : (named : Layout) (words : List ℕ) → Read file named words → (named ≡ layout) × (words ≡ image)

-- what was read from a file is written, where there is room: accepted, a file of as many bytes, and the bytes past it stay
pub record Rewritten (bytes buffer file : List ℕ) (answer : Written) (after : List ℕ) : Type 0 where
  pub accepted : answer_number answer ≡ 0
  pub count : written_bytes answer ≡ length bytes
  pub is : take (length bytes) after ≡ file
  pub past : drop (length bytes) after ≡ drop (length bytes) buffer

-- from a file of version 2 to its image and back: the same bytes, all of them
abbrev pub Again : List ℕ → List ℕ → Written → List ℕ → Type 0
Again bytes buffer answer after = Rewritten bytes buffer bytes answer after

-- the file of version 2 that a file of version 1 becomes: the header is the same but for the version, and in the words rows 1 and 2 of each block are
-- complemented
abbrev pub renewed : List ℕ → List ℕ
renewed bytes = 2 ∷ take 8 (drop 1 bytes) ++ bytes_of (complemented_image (layout_in bytes) (words_in bytes))

-- from a file of version 1 to its image and to that file, of which the same is printed
pub record Renewed (bytes buffer : List ℕ) (answer : Written) (after : List ℕ) : Type 0 where
  pub written : Rewritten bytes buffer (renewed bytes) answer after
  pub printed : (out : List ℕ) (end : ℕ) (left : List ℕ) (end' : ℕ) (left' : List ℕ) → Inspects bytes out end left
      → Inspects (renewed bytes) out end' left'
      → (end ≡ end') × (left ≡ left')

-- the inspecting program prints of the file that was written the report of the image, and so what it prints of any file with that layout and that image
pub record Printed (image : List ℕ) (layout : Layout) (file : List ℕ) : Type 0 where
  pub report : (out : List ℕ) (end : ℕ) (left : List ℕ) → Inspects file out end left → take end left ≡ end_to_end (image_report image layout)
  pub same : (bytes out : List ℕ) (end : ℕ) (left : List ℕ) (end' : ℕ) (left' : List ℕ) → Read bytes layout image
      → Inspects bytes out end left
      → Inspects file out end' left'
      → (end ≡ end') × (left ≡ left')

-- ---- the edges

-- the largest file of a shape without interleave: a buffer of exactly its length will do, a shorter one is refused, and so is one block more
pub record Edge (shape most words bytes : ℕ) : Type 0 where
  pub exactly : (image buffer : List ℕ) (answer : Written) (kept after : List ℕ) → length image ≡ words → length buffer ≡ bytes
      → WritesFile image (layout_of shape 1 most) buffer answer kept after
      → (answer_number answer ≡ 0) × (written_bytes answer ≡ bytes)
  pub shorter : (image buffer : List ℕ) (answer : Written) (kept after : List ℕ) → length image ≡ words → length buffer < bytes
      → WritesFile image (layout_of shape 1 most) buffer answer kept after
      → answer_number answer ≡ 12
  pub larger : (image buffer : List ℕ) (answer : Written) (kept after : List ℕ) → length image ≡ words + rows_of (layout_of shape 1 most)
      → WritesFile image (layout_of shape 1 (suc most)) buffer answer kept after
      → answer_number answer ≡ 11

-- so many blocks of a shape go into a file, whatever s: above them, and only then, it is refused for its length
abbrev pub Most : ℕ → ℕ → Type 0
Most shape most =
    (image : List ℕ) (layout : Layout) (buffer : List ℕ) (answer : Written) (kept after : List ℕ) → layout.shape ≡ shape
    → NoneOf (image_rules (length image) layout)
    → WritesFile image layout buffer answer kept after
    → (answer_number answer ≡ 11) ↔ (most < blocks layout)

-- ---- worked files

-- the specification's own, of version 1, and what it is in version 2: new_sample; both hold one image, row 3 is 1 and the data are else zero
abbrev pub sample_image : List ℕ
sample_image = 0xFFFFFFFF ∷ 0xFFFFFFFF ∷ 1 ∷ replicate 13 0

-- an image whose first word is 01020304 hex, four bytes that differ: in the file the highest stands first
abbrev pub worded_image : List ℕ
worded_image = 16909060 ∷ replicate 15 0

-- a header with two bytes of G, and one where shape, s and G differ; the length field has two bytes in both
abbrev pub Headed : ℕ → Layout → List ℕ → Type 0
Headed words layout head = (image file : List ℕ) → length image ≡ words → Wrote image layout file → take 9 file ≡ head

-- ---- all together

abbrev pub ReadsBack : Type 0
ReadsBack = (image : List ℕ) (layout : Layout) (file : List ℕ) → Wrote image layout file → Back image layout file

-- of a file with this version, what holds where what was read from it is written
abbrev pub WritesRead : (version : ℕ) → (List ℕ → List ℕ → Written → List ℕ → Type 0) → Type 0
WritesRead version Holds =
    (bytes : List ℕ) (layout : Layout) (image : List ℕ) → FittingBytes bytes → version_in bytes ≡ version → Read bytes layout image
    → (buffer : List ℕ) (answer : Written) (kept after : List ℕ) → length bytes ≤ length buffer
    → WritesFile image layout buffer answer kept after
    → Holds bytes buffer answer after

abbrev pub PrintsSame : Type 0
PrintsSame = (image : List ℕ) (layout : Layout) (file : List ℕ) → Wrote image layout file → Printed image layout file

pub record FileRoundTrip : Type 0 where
  pub back : ReadsBack
  pub again : WritesRead 2 Again
  pub new : WritesRead 1 Renewed
  pub printed : PrintsSame
  pub sample : (file : List ℕ) → Wrote sample_image (layout_of 1 1 1) file → file ≡ new_sample
  pub old_sample_read : (layout : Layout) (image : List ℕ) → Read old_sample layout image → (layout ≡ layout_of 1 1 1) × (image ≡ sample_image)
  pub worded : (file : List ℕ) → Wrote worded_image (layout_of 1 1 1) file → take 4 (drop 9 file) ≡ 1 ∷ 2 ∷ 3 ∷ 4 ∷ []
  pub headed_one : Headed 4800 (layout_of 1 1 300) (2 ∷ 0 ∷ 0 ∷ 75 ∷ 4 ∷ 1 ∷ 1 ∷ 1 ∷ 44 ∷ [])
  pub headed_two : Headed 1080 (layout_of 2 3 5) (2 ∷ 0 ∷ 0 ∷ 16 ∷ 228 ∷ 2 ∷ 3 ∷ 0 ∷ 5 ∷ [])
  pub largest_one : Edge 1 511 8176 32713
  pub largest_two : Edge 2 113 8136 32553
  pub most_one : Most 1 511
  pub most_two : Most 2 113
  -- 4 comes before 11: an image that is too long, and of another length than its layout says
  pub length_first : (image buffer : List ℕ) (answer : Written) (kept after : List ℕ) → length image ≡ 8193
      → WritesFile image (layout_of 1 1 512) buffer answer kept after
      → answer_number answer ≡ 4
