-- The demands on files of a caller in C, who lends words and bytes: refused exactly for the stated reason; what is written is the image's file;
-- and through it and back, from a file of version 1 to one of version 2. Assumes nothing.
use Rattle.std.specs.Prelude.{ℕ, ◌+◌, ◌*◌, ◌≤◌, ◌≡◌, List, [], ◌∷◌, length, take, drop}
use Rattle.ground.specs.Rules.{Ruled, InOrder}
use Rattle.layout.specs.declared.Layout.{Layout}
use Rattle.file.specs.Bytes.{FittingBytes, file_of, version_in, layout_in, image_in}
use Rattle.file.specs.Reason.{file_rules, read_rules, write_rules}
use Rattle.words.specs.Layouts.{layout_held, layout_words}
use Rattle.foldgrebe.specs.FileCalls.{FileWriteCall, FileLayoutCall, FileReadCall}
use Rattle.demands.specs.RoundTrip.{renewed}
use Rattle.callers.specs.Demands.{CallerRefusing}

-- an accepted write: as many bytes as are told are the image's file, and those past them stay, and so does the image
pub record CallerWrote (image : List ℕ) (layout : Layout) (buffer kept after written : List ℕ) : Type 0 where
  pub keeps : kept ≡ image
  pub count : written ≡ (9 + 4 * length image) ∷ []
  pub file : take (9 + 4 * length image) after ≡ file_of layout image
  pub past : drop (9 + 4 * length image) after ≡ drop (9 + 4 * length image) buffer

-- of what was read from a file: accepted, a file of as many bytes is written, and the bytes past it stay
pub record CallerWritten (bytes buffer file : List ℕ) (number : ℕ) (after written : List ℕ) : Type 0 where
  pub accepted : number ≡ 0
  pub count : written ≡ length bytes ∷ []
  pub is : take (length bytes) after ≡ file
  pub past : drop (length bytes) after ≡ drop (length bytes) buffer

-- a file of an image and its layout: what the file says of its image, and the words that are read from it
pub record CallerBack (image : List ℕ) (layout : Layout) (file : List ℕ) : Type 0 where
  pub told : {number : ℕ} {kept words : List ℕ} → FileLayoutCall file number kept words → (number ≡ 0) × (words ≡ layout_words layout)
  pub read : {number : ℕ} {lent kept after words : List ℕ} → length lent ≡ length image → FileReadCall file lent number kept after words
      → (number ≡ 0) × (words ≡ layout_words layout) × (after ≡ image)

pub record CallerFiles : Type 1 where
  -- refusals: every lent word and byte stays or, where it holds an answer, is 0
  pub write : {image buffer kept after written : List ℕ} {layout : Layout} {number : ℕ} → FileWriteCall image layout buffer number kept after written
      → CallerRefusing (Ruled (write_rules image layout buffer)) number ((kept ≡ image) × (after ≡ buffer) × (written ≡ 0 ∷ []))
  pub layout : {bytes kept words : List ℕ} {number : ℕ} → FileLayoutCall bytes number kept words
      → CallerRefusing (InOrder (file_rules bytes)) number ((kept ≡ bytes) × (words ≡ 0 ∷ 0 ∷ 0 ∷ []))
  pub read : {bytes image kept after words : List ℕ} {number : ℕ} → FileReadCall bytes image number kept after words
      → CallerRefusing (InOrder (read_rules bytes (length image))) number ((kept ≡ bytes) × (after ≡ image) × (words ≡ 0 ∷ 0 ∷ 0 ∷ []))
  -- accepted, what is written is the image's file, what is told stands in the bytes, which stay, and what is read is the image that they hold
  pub wrote : {image buffer kept after written : List ℕ} {layout : Layout} {number : ℕ} → FileWriteCall image layout buffer number kept after written
      → number ≡ 0
      → CallerWrote image layout buffer kept after written
  pub told : {bytes kept words : List ℕ} {number : ℕ} → FileLayoutCall bytes number kept words → number ≡ 0
      → (kept ≡ bytes) × (words ≡ layout_words (layout_in bytes))
  pub copied : {bytes image kept after words : List ℕ} {number : ℕ} → FileReadCall bytes image number kept after words → number ≡ 0
      → (kept ≡ bytes) × (words ≡ layout_words (layout_in bytes)) × (after ≡ image_in bytes)
  -- so what was written is read back
  pub back : {image buffer kept after written : List ℕ} {layout : Layout} {number : ℕ} → FileWriteCall image layout buffer number kept after written
      → number ≡ 0
      → CallerBack image layout (take (9 + 4 * length image) after)
  -- and what was read is written again, byte for byte; from version 1 with version 2 and rows 1 and 2 of each block complemented
  pub again : {bytes lent kept image words : List ℕ} {number : ℕ} → FittingBytes bytes → version_in bytes ≡ 2
      → FileReadCall bytes lent number kept image words
      → number ≡ 0
      → {buffer kept' after written : List ℕ} {number' : ℕ} → length bytes ≤ length buffer
      → FileWriteCall image (layout_held words) buffer number' kept' after written
      → CallerWritten bytes buffer bytes number' after written
  pub new : {bytes lent kept image words : List ℕ} {number : ℕ} → FittingBytes bytes → version_in bytes ≡ 1
      → FileReadCall bytes lent number kept image words
      → number ≡ 0
      → {buffer kept' after written : List ℕ} {number' : ℕ} → length bytes ≤ length buffer
      → FileWriteCall image (layout_held words) buffer number' kept' after written
      → CallerWritten bytes buffer (renewed bytes) number' after written
