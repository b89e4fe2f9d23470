-- Every worked example holds of the definitions: the laws turn each into words, and the words are computed. Assumes nothing.
use Prim.Native.Nat.{ℕ, zero, suc, ◌<◌}
use mathlib.Core.Bool.{true}
use mathlib.Core.Path.{◌≡◌, refl, ap, ap₂, ◌∙◌}
use mathlib.Core.List.{List, [], ◌∷◌, ◌++◌, map}
use native.Mathlib.Omega.{arith}
use lib.Bits.{bit_xor, bit_or}
use lib.ListN.{length, get_or, set, replicate}
use Rattle.ground.specs.Totals.{total}
use Rattle.ground.specs.Stores.{stores}
use Rattle.ground.specs.Lists.{list_of}
use Rattle.lane.specs.Bit.{bit}
use Rattle.lane.specs.Decision.{Kind, even, beyond}
use Rattle.lane.specs.Rows.{power?, rows_where}
use Rattle.shape.specs.Shape.{before, rows}
use Rattle.block.specs.declared.Verdict.{Verdict}
use Rattle.block.specs.declared.Verdict.TheVariants.{Clean, Mended, Lost}
use Rattle.sums.specs.Words.{number}
use Rattle.block.specs.Block.{data_block, mended_block}
use Rattle.block.specs.Verdict.{said_words, verdict_of, verdict_words}
use Rattle.sums.specs.Sums.{any_of}
use Rattle.sums.specs.Inner.{xor_rows}
use Rattle.block.specs.Inner.{above_of, lost_lanes, naming_lanes, flipped_in, xor_all, with_checks}
use Rattle.block.proofs.ByWords.{fit?, bits, row_sums, written, lost_by_words, mended_by_words, clean_by_words}
use Rattle.layout.specs.declared.Layout.{Layout}
use Rattle.layout.specs.Layout.{layout_of, shape_numbered, shape_of, blocks}
use Rattle.layout.specs.Refusal.{layout_refusal, image_refusal, block_refusal}
use Rattle.stored.specs.Stored.{complemented, complemented_image}
use Rattle.store.specs.Answer.{answer_said}
use Rattle.store.specs.Image.{stored_rows, with_rows, gathered, placed}
use Rattle.store.specs.Fresh.{fresh_image}
use Rattle.store.specs.Refusal.{data_refusal}
use Rattle.store.specs.Write.{write_after}
use Rattle.store.specs.Visit.{visit_answer, visit_after}
use Rattle.store.proofs.Image.{placed_gathered}
use Rattle.file.specs.Bytes.{words_in}
use Rattle.file.specs.Refusal.{frame_refusal, body_refusal, file_refusal}
use Rattle.file.specs.Header.{header_of}
use Rattle.text.specs.Text.{decimal, spelled}
use Rattle.text.specs.Page.{end_to_end}
use Rattle.report.specs.Lines.{image_line, block_line, total_line}
use Rattle.report.specs.Report.{verdict_at, block_lines, tally_below, lines_by, image_report, report_of}
use Rattle.report.proofs.Visited.{verdict_read}
use Rattle.report.proofs.SameLines.{lines_same}
use Rattle.demands.specs.Examples.{Example, examples, alone, ones, fresh, found_two, ◌with◌in_rows◌}
use Rattle.demands.specs.Examples.{found5, found6, found7, found8, found9, found10, found11}

module _ (layout : Layout) where
  -- what is written, by the words of its data
  wrote : (image list after : List ℕ) → data_refusal (length image) layout 0 (length list) ≡ 0 → fit? list ≡ true
      → let sums = row_sums (shape_of layout) (data_block (shape_of layout) list) in
      placed layout 0 (set (with_checks sums (data_block (shape_of layout) list)) (before (shape_of layout)) (bit_xor (get_or sums 7 0) (xor_all 7 sums))) image
      ≡ after
      → write_after image layout 0 list ≡ after
  unfolding write_after
  wrote image list after passed fit e = rw passed (ap (λ (block : List ℕ). placed layout 0 block image) (written (shape_of layout) list fit) ∙ e)

  module _ (image : List ℕ) where
    -- a block of an image, by the words of its lanes
    module _ (n : ℕ) where
      abbrev block : List ℕ
      block = gathered layout n image

      abbrev sums : List ℕ
      sums = row_sums (shape_of layout) block

      abbrev lanes : Kind → ℕ
      lanes = lost_lanes (before (shape_of layout)) (get_or sums 7 0) sums

      abbrev FoundAs : Verdict → List ℕ → Type 0
      FoundAs v after = (verdict_of (shape_of layout) block ≡ v) × (mended_block (shape_of layout) block ≡ after)

      module _ (fit : fit? block ≡ true) (long : length block ≡ 72) where
        as_lost : (w e b : ℕ) → bit_or (lanes even) (lanes beyond) ≡ suc w → bits (lanes even) ≡ e → bits (lanes beyond) ≡ b → FoundAs (Lost e b) block
        as_lost w e b some c d =
            let by = lost_by_words (shape_of layout) block fit long (λ z. omega (arith, some)) in (by.0 ∙ ap₂ Lost c d, by.1)

        as_mended : (m w : ℕ) → bit_or (lanes even) (lanes beyond) ≡ 0 → get_or sums 7 0 ≡ suc w → bits (get_or sums 7 0) ≡ m
            → FoundAs (Mended m)
            (flipped_in (rows (shape_of layout)) sums (λ i. bit i (naming_lanes (before (shape_of layout)) (get_or sums 7 0) sums)) block)
        as_mended m w z some c =
            let by = mended_by_words (shape_of layout) block fit long z (λ q. omega (arith, some)) in (by.0 ∙ ap Mended c, by.1)

        as_clean : bit_or (lanes even) (lanes beyond) ≡ 0 → get_or sums 7 0 ≡ 0 → verdict_of (shape_of layout) block ≡ Clean
        as_clean = clean_by_words (shape_of layout) block fit long

    -- what a visit of block 0 says and leaves
    abbrev visit : List ℕ
    visit = said_words (answer_said (visit_answer image layout 0)) ++ visit_after image layout 0

    visited : block_refusal (length image) layout 0 ≡ 0 → (v : Verdict) (after : List ℕ) → FoundAs 0 v after
        → visit ≡ verdict_words v ++ placed layout 0 after image
    unfolding visit_answer visit_after
    visited passed v after e = rw (passed, e.0, e.1)

    was_lost : block_refusal (length image) layout 0 ≡ 0 → (e b : ℕ) → FoundAs 0 (Lost e b) (block 0)
        → visit ≡ verdict_words (Lost e b) ++ image
    was_lost passed e b found = visited passed _ _ found ∙ ap (λ (l : List ℕ). verdict_words (Lost e b) ++ l) (placed_gathered layout 0 image)

    was_mended : block_refusal (length image) layout 0 ≡ 0 → (m : ℕ) (mended after : List ℕ) → FoundAs 0 (Mended m) mended
        → placed layout 0 mended image ≡ after
        → visit ≡ verdict_words (Mended m) ++ after
    was_mended passed m mended after found e = visited passed _ _ found ∙ ap (λ (l : List ℕ). verdict_words (Mended m) ++ l) e

    -- what is printed, by the verdict on each block
    was_printed : (verdicts : ℕ → Verdict) (text : List ℕ)
        → ((n : ℕ) → n < blocks layout → verdict_of (shape_of layout) (gathered layout n image) ≡ verdicts n)
        → end_to_end (lines_by layout verdicts) ≡ text
        → end_to_end (image_report image layout) ≡ text
    unfolding image_report
    was_printed verdicts text each e =
        ap end_to_end (lines_same (verdict_at image layout) verdicts layout (λ n h. verdict_read image layout n ∙ each n h)) ∙ e

-- where there is one block, and where there are two
one_block : (P : ℕ → Type 0) → P 0 → (n : ℕ) → n < 1 → P n
one_block P p zero h = p
one_block P p (suc n) h = absurd (omega arith)

two_blocks : (P : ℕ → Type 0) → P 0 → P 1 → (n : ℕ) → n < 2 → P n
two_blocks P p q zero h = p
two_blocks P p q (suc zero) h = q
two_blocks P p q (suc (suc n)) h = absurd (omega arith)

-- the image that the specification's file holds
abbrev mendable : List ℕ
mendable = fresh 16 with 1 in_rows (3 ∷ [])

-- the verdict on block 0, and on those after
abbrev mended_then_lost : ℕ → Verdict
mended_then_lost zero = Mended 1
mended_then_lost (suc n) = Lost 1 0

module _ (shape : ℕ) (image : List ℕ) where
  printed_alone : (v : Verdict) (text : List ℕ) → blocks (alone shape) ≡ 1 → verdict_of (shape_of (alone shape)) (gathered (alone shape) 0 image) ≡ v
      → end_to_end (lines_by (alone shape) (λ n. v)) ≡ text
      → end_to_end (image_report image (alone shape)) ≡ text
  printed_alone v text one found e =
      was_printed (alone shape) image (λ n. v) text
      (λ n h. one_block (λ n. verdict_of (shape_of (alone shape)) (gathered (alone shape) n image) ≡ v) found n (rw (← one) h))
      e

pub all_hold : map (λ (e : Example). e.gives) examples ≡ map (λ (e : Example). e.must) examples
unfolding examples data_block stores list_of number total xor_rows any_of above_of flipped_in xor_all with_checks power? rows_where bit fit? shape_numbered
    complemented complemented_image stored_rows with_rows gathered placed fresh_image image_line block_line total_line end_to_end decimal spelled
    block_lines tally_below report_of header_of file_refusal frame_refusal body_refusal layout_refusal image_refusal block_refusal data_refusal words_in
all_hold =
    ap₂ ◌∷◌ (wrote (alone 1) _ _ _ refl refl refl)
    (ap₂ ◌∷◌ (wrote (alone 1) _ _ _ refl refl refl)
    (ap₂ ◌∷◌ (wrote (alone 1) _ _ _ refl refl refl)
    (ap₂ ◌∷◌ (wrote (alone 2) _ _ _ refl refl refl)
    (ap₂ ◌∷◌ (wrote (alone 2) _ _ _ refl refl refl)
    (ap₂ ◌∷◌ (was_mended (alone 1) found5 refl 1 _ _ (as_mended (alone 1) found5 0 refl refl 1 _ refl refl refl) refl)
    (ap₂ ◌∷◌ (was_mended (alone 1) found6 refl 32 _ _ (as_mended (alone 1) found6 0 refl refl 32 _ refl refl refl) refl)
    (ap₂ ◌∷◌ (was_lost (alone 1) found7 refl 1 0 (as_lost (alone 1) found7 0 refl refl _ 1 0 refl refl refl))
    (ap₂ ◌∷◌ (printed_alone 1 found7 _ _ refl (as_lost (alone 1) found7 0 refl refl _ 1 0 refl refl refl).0 refl)
    (ap₂ ◌∷◌ (was_mended (alone 1) found8 refl 2 _ _ (as_mended (alone 1) found8 0 refl refl 2 _ refl refl refl) refl)
    (ap₂ ◌∷◌ (was_lost (alone 1) found9 refl 1 0 (as_lost (alone 1) found9 0 refl refl _ 1 0 refl refl refl))
    (ap₂ ◌∷◌ (was_mended (alone 1) found10 refl 1 _ _ (as_mended (alone 1) found10 0 refl refl 1 _ refl refl refl) refl)
    (ap₂ ◌∷◌ (was_lost (alone 2) found11 refl 0 1 (as_lost (alone 2) found11 0 refl refl _ 0 1 refl refl refl))
    (ap₂ ◌∷◌ (printed_alone 2 found11 _ _ refl (as_lost (alone 2) found11 0 refl refl _ 0 1 refl refl refl).0 refl)
    (ap₂ ◌∷◌ refl
    (ap₂ ◌∷◌ (printed_alone 1 mendable _ _ refl (as_mended (alone 1) mendable 0 refl refl 1 _ refl refl refl).0 refl)
    (ap₂ ◌∷◌ (printed_alone 1 mendable _ _ refl (as_mended (alone 1) mendable 0 refl refl 1 _ refl refl refl).0 refl)
    (ap₂ ◌∷◌ (was_printed (layout_of 1 2 1) found_two mended_then_lost _
    (two_blocks (λ n. verdict_of (shape_of (layout_of 1 2 1)) (gathered (layout_of 1 2 1) n found_two) ≡ mended_then_lost n)
    (as_mended (layout_of 1 2 1) found_two 0 refl refl 1 _ refl refl refl).0
    (as_lost (layout_of 1 2 1) found_two 1 refl refl _ 1 0 refl refl refl).0)
    refl)
    (ap₂ ◌∷◌ refl
    (ap₂ ◌∷◌ (was_lost (alone 1) (replicate 16 0) refl 32 0 (as_lost (alone 1) (replicate 16 0) 0 refl refl _ 32 0 refl refl refl))
    (ap₂ ◌∷◌ (was_lost (alone 1) (replicate 16 ones) refl 32 0 (as_lost (alone 1) (replicate 16 ones) 0 refl refl _ 32 0 refl refl refl))
    (ap₂ ◌∷◌ (was_lost (alone 2) (replicate 72 0) refl 32 0 (as_lost (alone 2) (replicate 72 0) 0 refl refl _ 32 0 refl refl refl))
    (ap₂ ◌∷◌ (was_lost (alone 2) (replicate 72 ones) refl 32 0 (as_lost (alone 2) (replicate 72 ones) 0 refl refl _ 32 0 refl refl refl))
    (ap₂ ◌∷◌ (printed_alone 2 (replicate 72 ones) _ _ refl (as_lost (alone 2) (replicate 72 ones) 0 refl refl _ 32 0 refl refl refl).0 refl)
    (ap₂ ◌∷◌ (printed_alone 1 (replicate 16 0) _ _ refl (as_lost (alone 1) (replicate 16 0) 0 refl refl _ 32 0 refl refl refl).0 refl)
    (ap₂ ◌∷◌ (printed_alone 1 (fresh 16) _ _ refl (as_clean (alone 1) (fresh 16) 0 refl refl refl refl) refl)
    refl)))))))))))))))))))))))))
