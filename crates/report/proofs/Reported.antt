-- What a report prints, from what its steps gave. Assumes nothing.
use Prim.Native.Nat.{ℕ, zero, suc, ◌≤◌}
use mathlib.Core.Path.{◌≡◌, refl, sym, ap, ◌∙◌}
use mathlib.Core.List.{List}
use native.Mathlib.Omega.{arith}
use lib.ListN.{length, take, length-take}
use Rattle.ground.proofs.Ladder.{then_zero}
use Rattle.layout.specs.declared.Layout.{Layout}
use Rattle.layout.specs.Refusal.{layout_refusal, image_refusal}
use Rattle.layout.proofs.Ladder.{image_layout}
use Rattle.std.specs.Prelude.{Result, Ok, Err}
use Rattle.refusal.specs.declared.Refusal.{Refusal}
use Rattle.refusal.specs.Refusal.{number, answered}
use Rattle.file.specs.Bytes.{layout_in, word_count, image_in}
use Rattle.file.specs.Refusal.{file_refusal, read_refusal}
use Rattle.file.specs.Header.{ReadsFile}
use Rattle.file.proofs.Headers.{tells_is}
use Rattle.file.proofs.Layouts.{words_layout}
use Rattle.text.specs.Page.{written_all}
use Rattle.text.specs.declared.Page.{Page as Lent}
use Rattle.text.specs.Puts.{PutsText, PutsAll, OnPage}
use Rattle.report.specs.Lines.{refusal_line}
use Rattle.report.specs.Report.{image_report, Inspects}
use Rattle.report.specs.Inner.{header_for, lines_for}

-- ---- the two ways of a report

module _ (bytes image : List ℕ) {header : Result Layout Refusal} {kept after : List ℕ} (r : ReadsFile bytes image header kept after) where
  header_is : header ≡ header_for bytes (length image)
  header_is = tells_is (read_refusal bytes (length image)) (layout_in bytes) header r.answers

  pub report_refused : {before last : Lent} (refusal : Refusal) {n : ℕ} → header ≡ Err refusal → n ≡ number refusal
      → OnPage (PutsText (refusal_line n)) before last
      → OnPage (PutsAll (lines_for bytes (length image))) before last
  unfolding written_all
  report_refused refusal e told w = record { puts = rw (← header_is, e, ← told) w.puts; same_buffer = w.same_buffer }

  module _ (layout : Layout) (e : header ≡ Ok layout) where
    -- nothing is refused, and the layout is the file's
    read : (read_refusal bytes (length image) ≡ 0) × (layout ≡ layout_in bytes)
    read = by (read_refusal bytes (length image)) refl (sym header_is ∙ e)
      where
        by : (n : ℕ) → read_refusal bytes (length image) ≡ n → answered n (layout_in bytes) ≡ Ok layout
            → (read_refusal bytes (length image) ≡ 0) × (layout ≡ layout_in bytes)
        by zero p q = (p, cc)
        by (suc n) p q = let z : ◌≡◌ {A = ℕ} 0 1 = cc in absurd (omega arith)

    after_is : after ≡ image_in bytes
    after_is = r.leaves ∙ rw read.0

    -- the image that is visited is of its layout
    pub read_fits : length after ≡ length image → image_refusal (length after) layout ≡ 0
    unfolding read_refusal image_refusal
    read_fits size =
        let parts = then_zero (file_refusal bytes) _ read.0 in
        let first : layout_refusal (layout_in bytes) ≡ 0 = image_layout (layout_in bytes) (word_count (length bytes)) (words_layout bytes parts.0) in
        rw (size, read.1, first) parts.1

    pub report_visited : {before last : Lent} → OnPage (PutsAll (image_report after layout)) before last
        → OnPage (PutsAll (lines_for bytes (length image))) before last
    report_visited w = record { puts = rw (← header_is, e, ← after_is) w.puts; same_buffer = w.same_buffer }

-- ---- where a report ends

module _ {bytes out left : List ℕ} {end : ℕ} (r : Inspects bytes out end left) where
  pub report_count : end ≡ length (take end left)
  report_count = r.ends ∙ ap length (sym r.whole)

  pub report_inside : end ≤ length left
  report_inside = omega (arith, report_count, length-take end left)
