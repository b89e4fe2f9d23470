-- Byte 0 of an image file is the version, 2; files from before have 1. Bytes 1 to 4 hold, big-endian, the number of bytes after byte 4. Then
-- stand the shape, one byte, s, one byte, G, two bytes, big-endian, and then the words of the image, big-endian. In a file of version 1 the words of
-- rows 1 and 2 of each block are not complemented. Assumes nothing.
use Rattle.std.specs.Prelude.{ℕ, ◌+◌, ◌-◌, ◌*◌, ◌/◌, ◌<◌, cond, ◌≡◌, List, [], ◌∷◌, ◌++◌, eqb, length, get_or, drop}
use Rattle.ground.specs.Lists.{list_of}
use Rattle.layout.specs.declared.Layout.{Layout}
use Rattle.layout.specs.Layout.{layout_of}
use Rattle.stored.specs.Stored.{complemented_image}
use Rattle.file.specs.BigEndian.{pair_bytes, word_bytes, pair_at, word_at}

-- every byte is below 256
abbrev pub FittingBytes : List ℕ → Type 0
FittingBytes bytes = (i : ℕ) → get_or bytes i 0 < 256

-- ---- from an image to its file

unfoldable pub bytes_of : List ℕ → List ℕ
bytes_of [] = []
bytes_of (word ∷ words) = word_bytes word ++ bytes_of words

-- the nine bytes before the words, of which there are so many
abbrev pub head_of : Layout → ℕ → List ℕ
head_of layout count = 2 ∷ word_bytes (4 + 4 * count) ++ layout.shape ∷ layout.s ∷ pair_bytes layout.g

unfoldable pub file_of : Layout → List ℕ → List ℕ
file_of layout words = head_of layout (length words) ++ bytes_of words

-- how many bytes the file of so many words has
abbrev pub file_length : ℕ → ℕ
file_length count = 9 + 4 * count

-- a lent buffer with the file written to it from byte 0 on; the bytes past the file are as they were
abbrev pub file_into : Layout → List ℕ → List ℕ → List ℕ
file_into layout words buffer = file_of layout words ++ drop (length (file_of layout words)) buffer

-- ---- from a file to its image: what the bytes say

abbrev pub version_in : List ℕ → ℕ
version_in bytes = get_or bytes 0 0

abbrev pub field_in : List ℕ → ℕ
field_in bytes = word_at bytes 1

abbrev pub layout_in : List ℕ → Layout
layout_in bytes = layout_of (get_or bytes 5 0) (get_or bytes 6 0) (pair_at bytes 7)

-- how many whole words stand after the header of a file of some length, and what word k is
abbrev pub word_count : ℕ → ℕ
word_count len = (len - 9) / 4

abbrev pub word_in : List ℕ → ℕ → ℕ
word_in bytes k = word_at bytes (9 + 4 * k)

unfoldable pub words_in : List ℕ → List ℕ
words_in bytes = list_of (word_count (length bytes)) (word_in bytes)

-- the image that a file holds: its words as they stand; in a file of version 1 with rows 1 and 2 of each block complemented
abbrev pub image_by : (version : ℕ) → Layout → List ℕ → List ℕ
image_by version layout words = cond (eqb version 1) (complemented_image layout words) words

abbrev pub image_in : List ℕ → List ℕ
image_in bytes = image_by (version_in bytes) (layout_in bytes) (words_in bytes)

-- the promise of word_count
abbrev pub CountsFileWords : ℕ → ℕ → Type 0
CountsFileWords len count = count ≡ word_count len
