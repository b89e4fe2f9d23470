-- `report::reporting::report_file` meets its contract: the image that is lent on has the words that are counted. Assumes nothing.
use Prim.Native.Nat.{ℕ, min}
use mathlib.Core.Path.{◌≡◌, sym, ap, ◌∙◌}
use mathlib.Core.List.{List}
use native.Mathlib.Nat.{min-le_right}
use native.Mathlib.Omega.{arith}
use borrow.Author.Rules.{rules}
use lib.ListN.{length, take}
use lib.Seq.{length-take-le}
use Rattle.text.specs.Page.{Page, page}
use Rattle.report.proofs.reporting.report_file.Goals as goal

-- the image has the words that are lent on, as no more are counted than it has
length_lent : {count : ℕ} (most : ℕ) (image : List ℕ) → count ≡ min most (length image) → length (take count image) ≡ count
length_lent {count} most image counted =
    length-take-le count image (omega (arith, counted, min-le_right most (length image)))

-- the bytes that were lent are those of the page
lent_back : {printed left : List ℕ} {next : ℕ} {p : Page} → page left next ≡ p → printed ≡ left → page printed next ≡ p
lent_back {next = next} put same = ap (λ (left : List ℕ). page left next) same ∙ put

pub slice_bounds-report_read-end-2 : goal.slice_bounds-report_read-end-2
slice_bounds-report_read-end-2 c = sym (length_lent _ c.args.image.now c.least-count.ensures)

pub returns : goal.returns
returns c =
    lent_back
    (rw (length_lent _ c.args.image.now c.least-count.ensures, c.least-count.ensures, c.word_count.ensures) at c.report_read.ensures.puts)
    (search rules)
