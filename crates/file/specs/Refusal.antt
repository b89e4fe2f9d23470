-- A file is checked for 11, 10 (below 9 bytes), 9, 10 (length field), 1, 2, 3 and 4, and the first that applies wins.
-- Here 4 compares the bytes after the header with 4·rows·N. To be read into an image, it is then checked for 4 once more, the image's length.
-- An image that is to be written is checked for 1, 2, 3, 4, 11 and 12. Assumes nothing.
use Rattle.std.specs.Prelude.{ℕ, ◌-◌, ◌*◌, not, List, ltb, eqb, length}
use Rattle.layout.specs.declared.Layout.{Layout}
use Rattle.layout.specs.Layout.{rows_of, blocks}
use Rattle.ground.specs.Ladder.{◌when◌else◌, ◌then◌}
use Rattle.layout.specs.Refusal.{length_rung, layout_refusal, image_refusal}
use Rattle.file.specs.Bytes.{file_length, version_in, field_in, layout_in}

-- 11: file above 32,768 bytes
abbrev pub long_rung : ℕ → ℕ
long_rung len = 11 when ltb 32768 len else 0

-- 10: file below 9 bytes
abbrev pub short_rung : ℕ → ℕ
short_rung len = 10 when ltb len 9 else 0

-- 9: file version is neither 1 nor 2
abbrev pub version_rung : ℕ → ℕ
version_rung version = 9 when eqb version 0 else 9 when ltb 2 version else 0

-- 10: the length field is not the number of bytes after byte 4
abbrev pub field_rung : ℕ → ℕ → ℕ
field_rung field len = 10 when not (eqb field (len - 5)) else 0

-- 4: the bytes after the header are not 4·rows·N
abbrev pub body_rung : ℕ → Layout → ℕ
body_rung body layout = 4 when not (eqb body (4 * (rows_of layout * blocks layout))) else 0

-- 12: the buffer is shorter than the file
abbrev pub room_rung : ℕ → ℕ → ℕ
room_rung len room = 12 when ltb room len else 0

-- 11, 10, 9, 10: what makes it an image file
unfoldable pub frame_refusal : List ℕ → ℕ
frame_refusal bytes =
    long_rung (length bytes) then short_rung (length bytes) then version_rung (version_in bytes) then field_rung (field_in bytes) (length bytes)

-- 1, 2, 3, 4: what the header says of the image, and the bytes after it
unfoldable pub body_refusal : ℕ → Layout → ℕ
body_refusal body layout = layout_refusal layout then body_rung body layout

unfoldable pub file_refusal : List ℕ → ℕ
file_refusal bytes = frame_refusal bytes then body_refusal (length bytes - 9) (layout_in bytes)

-- 11, 10, 9, 10, 1, 2, 3, 4, and 4: of a file and the length of an image for its words
unfoldable pub read_refusal : List ℕ → ℕ → ℕ
read_refusal bytes len = file_refusal bytes then length_rung len (layout_in bytes)

-- 1, 2, 3, 4, 11, 12: of an image of some length and the room for its file
unfoldable pub write_refusal : ℕ → Layout → ℕ → ℕ
write_refusal len layout room = image_refusal len layout then long_rung (file_length len) then room_rung (file_length len) room
