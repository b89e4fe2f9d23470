-- An image has a shape, an interleave s, a group count G and N = G·s blocks. The shapes are numbered 1 and 2.
-- Block b lies in group b div s at place b mod s. Its row p, counted from 1, is the word at index group·rows·s + (p − 1)·s + place.
-- Assumes nothing.
use Rattle.std.specs.Prelude.{ℕ, suc, ◌+◌, ◌-◌, ◌*◌, ◌/◌, ◌%◌, cond, ◌≡◌, eqb}
use Rattle.shape.specs.declared.Shape.{Shape}
use Rattle.shape.specs.declared.Shape.TheVariants.{One, Two}
pub use Rattle.shape.specs.Shape.{shape_number}
use Rattle.shape.specs.Shape.{rows, words}
use Rattle.layout.specs.declared.Layout.{Layout}

-- the layout of three numbers
abbrev pub layout_of : ℕ → ℕ → ℕ → Layout
layout_of shape s g = record { shape = shape; s = s; g = g }

-- the shape with a number; a number that is no shape's is refused before anything asks for its shape
unfoldable pub shape_numbered : ℕ → Shape
shape_numbered number = cond (eqb number 1) One Two

abbrev pub shape_of : Layout → Shape
shape_of layout = shape_numbered layout.shape

-- how many rows, and how many data words, a block has
abbrev pub rows_of : Layout → ℕ
rows_of layout = rows (shape_of layout)

abbrev pub words_of : Layout → ℕ
words_of layout = words (shape_of layout)

-- N, how many blocks the groups hold
abbrev pub blocks : Layout → ℕ
blocks layout = layout.g * layout.s

-- the promise of blocks
abbrev pub CountsBlocks : Layout → ℕ → Type 0
CountsBlocks layout count = count ≡ blocks layout

-- the group of a block, and its place there
abbrev pub group : Layout → ℕ → ℕ
group layout block = block / layout.s

abbrev pub place_in_group : Layout → ℕ → ℕ
place_in_group layout block = block % layout.s

-- the index of a row of a block
abbrev pub index : Layout → ℕ → ℕ → ℕ
index layout block p = group layout block * rows_of layout * layout.s + (p - 1) * layout.s + place_in_group layout block

-- the row, counted from 1, that the word at an index is of its block
abbrev pub row_at : Layout → ℕ → ℕ
row_at layout at = suc (at / layout.s % rows_of layout)

-- how many words a group has
abbrev pub group_words : Layout → ℕ
group_words layout = rows_of layout * layout.s

-- the promise of group_words
abbrev pub CountsGroupWords : Layout → ℕ → Type 0
CountsGroupWords layout count = count ≡ group_words layout
