-- The report of a file of version 1 is that of its own words by the old rule. Assumes nothing.
use Prim.Native.Nat.{ℕ, zero, suc, ◌≤◌, ◌<◌}
use mathlib.Core.Path.{◌≡◌, refl, sym, ap, ◌∙◌}
use mathlib.Core.List.{List}
use mathlib.Core.Logic.{inl, inr, ⊎_elim}
use native.Mathlib.Omega.{arith}
use lib.ListN.{length}
use Rattle.shape.proofs.Sizes.{rows_fit}
use Rattle.layout.specs.declared.Layout.{Layout}
use Rattle.layout.specs.Layout.{shape_of, blocks}
use Rattle.layout.specs.Refusal.{image_refusal}
use Rattle.layout.proofs.RowsInside.{interleaved, row_inside}
use Rattle.layout.proofs.Ladder.{block_accepted}
use Rattle.stored.specs.Stored.{complemented_image}
use Rattle.stored.proofs.Forms.{length_image}
use Rattle.block.specs.Block.{mended_block}
use Rattle.block.specs.Verdict.{verdict_of}
use Rattle.block.proofs.Blocks.{length_mended}
use Rattle.store.specs.Image.{stored_rows, gathered}
use Rattle.store.specs.Visit.{visit_after}
use Rattle.store.proofs.Image.{length_rows}
use Rattle.store.proofs.StoredImages.{gathered_complemented, placed_complemented}
use Rattle.ground.specs.Rules.{NoneOf, FirstGiven}
use Rattle.file.specs.Bytes.{version_in, layout_in, words_in, image_in}
use Rattle.file.specs.Reason.{bad_version, file_rules}
use Rattle.file.proofs.Layouts.{words_held}
use Rattle.text.specs.Page.{end_to_end}
use Rattle.report.specs.Report.{visited_below, verdict_at, image_report}
use Rattle.report.proofs.Visited.{length_visited}
use Rattle.report.proofs.SameLines.{lines_same}
use Rattle.demands.specs.OldFiles.{old_visit, old_visited, old_verdict, old_report, old_rules, OldPrinted}
use Rattle.demands.proofs.Files.{file_in_order, file_reported}

module _ (words : List ℕ) (layout : Layout) (passed : image_refusal (length words) layout ≡ 0) where
  abbrev image : List ℕ
  image = complemented_image layout words

  image_passed : image_refusal (length image) layout ≡ 0
  image_passed = rw (length_image layout words) passed

  abbrev old : ℕ → List ℕ
  old = old_visited words layout

  -- its length, where what is visited is these words as they are stored now
  length_old : (n : ℕ) → visited_below image layout n ≡ complemented_image layout (old n) → length (old n) ≡ length words
  length_old n same = sym (length_image layout (old n)) ∙ sym (ap length same) ∙ length_visited image layout n ∙ length_image layout words

  -- the rows that the code finds are those of the old words
  found : (n : ℕ) → n < blocks layout → length (old n) ≡ length words
      → gathered layout n (complemented_image layout (old n)) ≡ stored_rows layout n (old n)
  found n h size =
      gathered_complemented layout (interleaved layout (length words) passed) n (old n)
      (λ k l. rw size (row_inside layout (length words) passed n (suc k) h (omega arith) l))

  -- one visit more
  visit_as : (n : ℕ) → n < blocks layout → length (old n) ≡ length words
      → visit_after (complemented_image layout (old n)) layout n ≡ complemented_image layout (old_visit (old n) layout n)
  unfolding visit_after old_visit
  visit_as n h size =
      let long : length (mended_block (shape_of layout) (stored_rows layout n (old n))) ≡ 72 =
      length_mended (shape_of layout) (stored_rows layout n (old n)) ∙ length_rows layout n (old n) in
      rw (length_image layout (old n), size, block_accepted layout (length words) n passed h, found n h size)
      (placed_complemented layout (interleaved layout (length words) passed) n _ (old n) (omega (arith, long, rows_fit (shape_of layout))))

  -- what is visited is the old words, as they are stored now
  visited_as : (n : ℕ) → n ≤ blocks layout → visited_below image layout n ≡ complemented_image layout (old n)
  unfolding visited_below old_visited
  visited_as zero h = refl
  visited_as (suc n) h =
      let same = visited_as n (omega arith) in
      ap (λ (l : List ℕ). visit_after l layout n) same ∙ visit_as n (omega arith) (length_old n same)

  verdict_as : (n : ℕ) → n < blocks layout → verdict_at image layout n ≡ old_verdict words layout n
  unfolding verdict_at
  verdict_as n h =
      let same = visited_as n (omega arith) in
      ap (verdict_of (shape_of layout)) (ap (gathered layout n) same ∙ found n h (length_old n same))

  report_as : image_report image layout ≡ old_report words layout
  unfolding image_report
  report_as = lines_same (verdict_at image layout) (old_verdict words layout) layout verdict_as

-- with version 1 the rules are those of now
module _ (bytes : List ℕ) (version : version_in bytes ≡ 1) where
  known : (bad_version bytes).reason → ⊥
  known r = r.0 version

  none_now : NoneOf (old_rules bytes) → NoneOf (file_rules bytes)
  none_now none = (none.0, (none.1.0, (known, none.1.1.1)))

  given_now : (number : ℕ) → FirstGiven number (old_rules bytes) → FirstGiven number (file_rules bytes)
  given_now number =
      ⊎_elim inl
      (λ short. inr (
        short.0,
        ⊎_elim inl
            (λ framed. inr (framed.0, ⊎_elim (λ no. absurd (no.0 version)) (λ rest. inr (known, rest.1)) framed.1))
            short.1,
      ))

pub old_printed : OldPrinted
old_printed bytes out end left version i =
    let report = file_reported bytes out end left i in
    record {
      refused = λ number given. report.refused number (given_now bytes version number given);
      accepted = λ none.
          let accepted = (file_in_order bytes).accepted.1 (none_now bytes version none) in
          let held : image_in bytes ≡ complemented_image (layout_in bytes) (words_in bytes) = rw version in
          report.accepted (none_now bytes version none)
          ∙ ap (λ (image : List ℕ). end_to_end (image_report image (layout_in bytes))) held
          ∙ ap end_to_end (report_as (words_in bytes) (layout_in bytes) (words_held bytes accepted));
    }
