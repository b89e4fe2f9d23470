-- The worked examples 1 to 12, as one list, with what a fresh and a dead memory are: what the definitions give, and what they must give.
-- An image has one block unless said, and its words are as they are stored. Shape 1 unless said; rows not named are as format leaves them: rows 1
-- and 2 are FFFFFFFF hex, the others zero. Verdict 2 is mended, 3 lost. Assumes nothing.
use Rattle.std.specs.Prelude.{ℕ, ◌-◌, List, [], ◌∷◌, ◌++◌, set, replicate}
use Prim.Native.String.{String}
use Rattle.block.specs.Verdict.{said_words}
use Rattle.layout.specs.declared.Layout.{Layout}
use Rattle.layout.specs.Layout.{layout_of, index}
use Rattle.store.specs.Answer.{answer_said}
use Rattle.store.specs.Fresh.{fresh_image}
use Rattle.store.specs.Write.{write_after}
use Rattle.store.specs.Visit.{visit_answer, visit_after}
use Rattle.text.specs.Text.{ascii}
use Rattle.text.specs.Page.{end_to_end}
use Rattle.report.specs.Report.{image_report, report_of}

pub record Example : Type 0 where
  pub gives : List ℕ
  pub must : List ℕ

-- a block with the given words in the given rows
infixl 5 ◌with◌in_rows◌
abbrev pub ◌with◌in_rows◌ : List ℕ → ℕ → List ℕ → List ℕ
block with word in_rows [] = block
block with word in_rows (p ∷ more) = set block (p - 1) word with word in_rows more

-- the layout of an image of one block
abbrev pub alone : ℕ → Layout
alone shape = layout_of shape 1 1

-- data that is zero but for word k, counted from 1
abbrev pub data_word : ℕ → ℕ → ℕ → List ℕ
data_word words k word = set (replicate words 0) (k - 1) word

-- writing: the words that a fresh image has after
abbrev pub writes : ℕ → List ℕ → List ℕ → Example
writes shape list after = record { gives = write_after (fresh_image (alone shape)) (alone shape) 0 list; must = after }

-- visiting: the verdict's number and its two counts, and the words after
abbrev pub visits : ℕ → List ℕ → ℕ → ℕ → ℕ → List ℕ → Example
visits shape found verdict count beyond after =
    record {
      gives = said_words (answer_said (visit_answer found (alone shape) 0)) ++ visit_after found (alone shape) 0;
      must = verdict ∷ count ∷ beyond ∷ after;
    }

-- mended, with the bits changed; lost, with the lanes of each kind, and as it was found
abbrev pub mends : ℕ → List ℕ → ℕ → List ℕ → Example
mends shape found bits after = visits shape found 2 bits 0 after

abbrev pub loses : ℕ → List ℕ → ℕ → ℕ → Example
loses shape found even beyond = visits shape found 3 even beyond found

-- inspecting: all that is printed of an image, and of a file
abbrev pub prints : Layout → List ℕ → String → Example
prints layout image text = record { gives = end_to_end (image_report image layout); must = ascii text }

abbrev pub inspects : List ℕ → String → Example
inspects file text = record { gives = end_to_end (report_of file); must = ascii text }

abbrev pub ones : ℕ
ones = 0xFFFFFFFF

-- a block of n rows as format leaves it, all zero data
abbrev pub fresh : ℕ → List ℕ
fresh n = replicate n 0 with ones in_rows (1 ∷ 2 ∷ [])

-- 1, complemented
abbrev pub not_one : ℕ
not_one = 0xFFFFFFFE

-- what is found in examples 5 to 11, by their numbers
abbrev pub found5 : List ℕ
found5 = fresh 16 with 1 in_rows (5 ∷ [])

abbrev pub found6 : List ℕ
found6 = fresh 16 with ones in_rows (16 ∷ [])

abbrev pub found7 : List ℕ
found7 = fresh 16 with 1 in_rows (3 ∷ 5 ∷ [])

abbrev pub found8 : List ℕ
found8 = fresh 16 with 1 in_rows (3 ∷ []) with 2 in_rows (5 ∷ [])

abbrev pub found9 : List ℕ
found9 = found7 with 2 in_rows (9 ∷ [])

abbrev pub found10 : List ℕ
found10 = fresh 16 with not_one in_rows (1 ∷ 2 ∷ []) with 1 in_rows (4 ∷ [])

abbrev pub found11 : List ℕ
found11 = fresh 72 with not_one in_rows (1 ∷ []) with 1 in_rows (9 ∷ 64 ∷ [])

-- two blocks, interleaved: row 5 of block 0 is 1, and rows 3 and 5 of block 1
abbrev pub found_two : List ℕ
found_two = replicate 4 ones ++ 0 ∷ 1 ∷ 0 ∷ 0 ∷ 1 ∷ 1 ∷ replicate 22 0

-- the specification's file, which is of version 1: 73 bytes, of sixteen words row 3 is 1 and the others are zero
abbrev pub sample_head : ℕ → List ℕ
sample_head version = version ∷ 0 ∷ 0 ∷ 0 ∷ 0x44 ∷ 1 ∷ 1 ∷ 0 ∷ 1 ∷ []

abbrev pub old_sample : List ℕ
old_sample = sample_head 1 ++ replicate 11 0 ++ 1 ∷ replicate 52 0

-- and what it is in version 2
abbrev pub new_sample : List ℕ
new_sample = sample_head 2 ++ replicate 8 0xFF ++ 0 ∷ 0 ∷ 0 ∷ 1 ∷ replicate 52 0

-- such a file with all words zero, as a dead logger's
abbrev pub dead_sample : ℕ → List ℕ
dead_sample version = sample_head version ++ replicate 64 0

unfoldable pub examples : List Example
examples =
    -- 1: data word 1 = 1: rows 1, 2, 3 and 16 become 1, the first two complemented
    writes 1 (data_word 11 1 1) (fresh 16 with not_one in_rows (1 ∷ 2 ∷ []) with 1 in_rows (3 ∷ 16 ∷ []))
    -- 2: data word 11 = 80000000 hex: rows 1, 2, 4, 8, 15 and 16 become that, the first two complemented
    ∷ writes 1 (data_word 11 11 0x80000000) (fresh 16 with 0x7FFFFFFF in_rows (1 ∷ 2 ∷ []) with 0x80000000 in_rows (4 ∷ 8 ∷ 15 ∷ 16 ∷ []))
    -- 3: all data FFFFFFFF hex: every row becomes that, in both shapes, but for rows 1 and 2, which become zero
    ∷ writes 1 (replicate 11 ones) (replicate 16 ones with 0 in_rows (1 ∷ 2 ∷ []))
    ∷ writes 2 (replicate 64 ones) (replicate 72 ones with 0 in_rows (1 ∷ 2 ∷ []))
    -- 4: shape 2, data word 64 = 1: rows 1, 2, 4, 64, 71 and 72 become 1, the first two complemented
    ∷ writes 2 (data_word 64 64 1) (fresh 72 with not_one in_rows (1 ∷ 2 ∷ []) with 1 in_rows (4 ∷ 64 ∷ 71 ∷ 72 ∷ []))
    -- 5: row 5 = 1: mended 1, fresh after
    ∷ mends 1 found5 1 (fresh 16)
    -- 6: row 16 = FFFFFFFF hex: mended 32, fresh after
    ∷ mends 1 found6 32 (fresh 16)
    -- 7: rows 3 and 5 = 1: lost 1 0, unchanged
    ∷ loses 1 found7 1 0
    ∷ prints (alone 1) found7 "image shape 1 interleave 1 groups 1 blocks 1\nblock 0 lost 1 0\ntotal clean 0 mended 0 lost 1 bits 0\n"
    -- 8: row 3 = 1, row 5 = 2: mended 2
    ∷ mends 1 found8 2 (fresh 16)
    -- 9: rows 3 and 5 = 1, row 9 = 2: lost 1 0; row 9 stays 2
    ∷ loses 1 found9 1 0
    -- 10: rows 1, 2 and 4 = 1, the first two complemented: mended 1; row 7 becomes 1 too
    ∷ mends 1 found10 1 (found10 with 1 in_rows (7 ∷ []))
    -- 11: shape 2, rows 1, 9 and 64 = 1, the first complemented: sum 72, odd: lost 0 1
    ∷ loses 2 found11 0 1
    ∷ prints (alone 2) found11 "image shape 2 interleave 1 groups 1 blocks 1\nblock 0 lost 0 1\ntotal clean 0 mended 0 lost 1 bits 0\n"
    -- 12: shape 2, s = 6, block 7: row 1 at index 433, row 72 at 859
    ∷ record { gives = index (layout_of 2 6 2) 7 1 ∷ index (layout_of 2 6 2) 7 72 ∷ []; must = 433 ∷ 859 ∷ [] }
    -- one whole run: the specification's file, and what it is in version 2
    ∷ inspects old_sample "image shape 1 interleave 1 groups 1 blocks 1\nblock 0 mended 1\ntotal clean 0 mended 1 lost 0 bits 1\n"
    ∷ inspects new_sample "image shape 1 interleave 1 groups 1 blocks 1\nblock 0 mended 1\ntotal clean 0 mended 1 lost 0 bits 1\n"
    -- and two blocks
    ∷ prints (layout_of 1 2 1) found_two
    "image shape 1 interleave 2 groups 1 blocks 2\nblock 0 mended 1\nblock 1 lost 1 0\ntotal clean 0 mended 1 lost 1 bits 1\n"
    -- format with s = 2 and G = 2: in each group the first four words are rows 1 and 2 of its two blocks
    ∷ record { gives = fresh_image (layout_of 1 2 2); must = replicate 4 ones ++ replicate 28 0 ++ replicate 4 ones ++ replicate 28 0 }
    -- a dead chip, all zeros or all ones, in both shapes: lost 32 0
    ∷ loses 1 (replicate 16 0) 32 0
    ∷ loses 1 (replicate 16 ones) 32 0
    ∷ loses 2 (replicate 72 0) 32 0
    ∷ loses 2 (replicate 72 ones) 32 0
    ∷ prints (alone 2) (replicate 72 ones)
    "image shape 2 interleave 1 groups 1 blocks 1\nblock 0 lost 32 0\ntotal clean 0 mended 0 lost 1 bits 0\n"
    -- a dead logger's file, and one from before, which prints what it printed
    ∷ inspects (dead_sample 2) "image shape 1 interleave 1 groups 1 blocks 1\nblock 0 lost 32 0\ntotal clean 0 mended 0 lost 1 bits 0\n"
    ∷ inspects (dead_sample 1) "image shape 1 interleave 1 groups 1 blocks 1\nblock 0 clean 0\ntotal clean 1 mended 0 lost 0 bits 0\n"
    ∷ []
