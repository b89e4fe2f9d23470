-- The refusals of a file, and of an image that is to be written as one, in plain statements, in the order in which they are checked.
-- Assumes nothing.
use Rattle.std.specs.Prelude.{ℕ, ◌*◌, ◌<◌, ◌≡◌, List, [], ◌∷◌, ◌++◌, length, drop}
use Rattle.layout.specs.Layout.{rows_of, blocks}
use Rattle.ground.specs.Rules.{Rule}
use Rattle.layout.specs.declared.Layout.{Layout}
use Rattle.layout.specs.Reason.{bad_length, layout_rules, image_rules}
use Rattle.file.specs.Bytes.{file_of, version_in, field_in, layout_in}

-- file above 32,768 bytes
abbrev pub too_long : List ℕ → Rule
too_long bytes = record { number = 11; reason = 32768 < length bytes }

-- file below 9 bytes
abbrev pub too_short : List ℕ → Rule
too_short bytes = record { number = 10; reason = length bytes < 9 }

-- file version is neither 1 nor 2
abbrev pub bad_version : List ℕ → Rule
bad_version bytes = record { number = 9; reason = (version_in bytes ≡ 1 → ⊥) × (version_in bytes ≡ 2 → ⊥) }

-- its length field is wrong: it is not the number of bytes after byte 4
abbrev pub bad_field : List ℕ → Rule
bad_field bytes = record { number = 10; reason = field_in bytes ≡ length (drop 5 bytes) → ⊥ }

-- the bytes after the header are not 4·rows·N
abbrev pub bad_body : List ℕ → Rule
bad_body bytes =
    record { number = 4; reason = length (drop 9 bytes) ≡ 4 * (rows_of (layout_in bytes) * blocks (layout_in bytes)) → ⊥ }

-- 11, 10, 9, 10, 1, 2, 3, 4
abbrev pub file_rules : List ℕ → List Rule
file_rules bytes =
    too_long bytes
    ∷ too_short bytes
    ∷ bad_version bytes
    ∷ bad_field bytes
    ∷ layout_rules (layout_in bytes)
    ++ bad_body bytes
    ∷ []

-- to be read into an image of some length: those, and then 4 where it is not rows·N words
abbrev pub read_rules : List ℕ → ℕ → List Rule
read_rules bytes len = file_rules bytes ++ bad_length len (layout_in bytes) ∷ []

-- ---- an image that is to be written as a file

-- the buffer is shorter than the file
abbrev pub no_room : List ℕ → List ℕ → Rule
no_room file buffer = record { number = 12; reason = length buffer < length file }

-- 1, 2, 3, 4, 11, 12
abbrev pub write_rules : List ℕ → Layout → List ℕ → List Rule
write_rules image layout buffer =
    image_rules (length image) layout ++ too_long (file_of layout image) ∷ no_room (file_of layout image) buffer ∷ []
