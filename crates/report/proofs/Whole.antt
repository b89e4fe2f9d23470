-- A file has at most 8,176 words and a report at most 10,204 bytes, so that buffers of those sizes hold them whole. Assumes nothing.
use Prim.Native.Nat.{ℕ, zero, suc, ◌+◌, ◌-◌, ◌*◌, ◌≤◌, ◌<◌, min}
use mathlib.Core.Bool.{Bool, true, not, ◌&&◌}
use mathlib.Core.Path.{◌≡◌, refl, sym, ap, ◌∙◌}
use mathlib.Core.List.{List, [], ◌∷◌, ◌++◌}
use mathlib.Core.Logic.{⊎_elim}
use native.Mathlib.Decide.{dec_lt}
use native.Mathlib.Nat.{zero-add, mul-le-mul_left, min-eq_left}
use native.Mathlib.Omega.{arith}
use borrow.Author.Tests.{eq-eqb}
use lib.Dec.{T, leb, leb→le}
use lib.ListN.{length, take, drop, length-append}
use lib.Seq.{take_at, drop_at}
use Rattle.shape.specs.declared.Shape.{Shape}
use Rattle.shape.specs.declared.Shape.TheVariants.{One, Two}
use Rattle.shape.specs.Shape.{rows}
use Rattle.block.specs.declared.Verdict.{Verdict}
use Rattle.block.specs.declared.Verdict.TheVariants.{Clean, Mended, Lost}
use Rattle.block.specs.Verdict.{verdict_count, verdict_beyond, verdict_of}
use Rattle.block.proofs.Told.{beyond_one}
use Rattle.layout.specs.declared.Layout.{Layout}
use Rattle.layout.specs.Layout.{shape_of, blocks}
use Rattle.store.specs.Image.{gathered}
use Rattle.ground.specs.Ladder.{◌when◌else◌, ◌then◌}
use Rattle.ground.specs.Rules.{Rule, FirstOf}
use Rattle.layout.proofs.Ladder.{Geometry}
use Rattle.layout.proofs.Shapes.{shape_one, shape_two}
use Rattle.std.specs.Prelude.{Result}
use Rattle.refusal.specs.declared.Refusal.{Refusal}
use Rattle.refusal.specs.Refusal.{answered}
use Rattle.refusal.proofs.Answered.{number_of_numbered}
use Rattle.file.specs.Bytes.{layout_in, word_count, image_in}
use Rattle.layout.specs.Refusal.{length_rung}
use Rattle.file.specs.Refusal.{file_refusal, read_refusal}
use Rattle.file.specs.Reason.{file_rules}
use Rattle.file.specs.Header.{header_of}
use Rattle.file.proofs.Ladder.{Accepted, accepted, file_first}
use Rattle.file.proofs.FileReads.{words_exact}
use Rattle.report.specs.declared.Tally.{Tally}
use Rattle.ground.proofs.Bools.{left_part, right_part}
use Rattle.text.specs.Text.{decimal}
use Rattle.text.specs.Page.{Page, page, written_all, end_to_end}
use Rattle.report.specs.Lines.{refusal_line, image_line, verdict_parts, block_line, total_line, counted}
use Rattle.report.specs.Report.{visited_below, block_lines, tally_below, verdict_at, image_report, report_for, report_of, Inspects}
use Rattle.report.specs.Inner.{header_for, Reports}
use Rattle.report.proofs.Short.{Short, ◌and◌, named_short, any_length, loosely, one_end, nothing, and_then, one_text, one_number}
use Rattle.report.proofs.Counts.{Within, verdict_most, tally_within}
use Rattle.text.proofs.Decimal.{decimal_short}
use Rattle.text.proofs.Pages.{length_last, all_fit}

-- ---- the lines

-- a number has one digit, one more from 10 on, and one more from 100 on
digits : (n : ℕ) → n < 1000 → length (decimal n) + (n - 10) + (n - 100) ≤ 1 + (suc n - 10) + (suc n - 100)
digits n h = elim (dec_lt n 10) [
  | yes l ↦ omega (arith, decimal_short 0 n l)
  | no l ↦ elim (dec_lt n 100) [
    | yes k ↦ omega (arith, decimal_short 1 n k)
    | no k ↦ omega (arith, decimal_short 2 n h)
  ]
]

few_digits : (n : ℕ) → n < 1000 → length (decimal n) ≤ 1 + 2 * n
few_digits n h = omega (arith, digits n h)

refusal_short : (number : ℕ) → number < 100 → Short (refusal_line number) 11
unfolding refusal_line
refusal_short number h = named_short "refused " number 2 (decimal_short 1 number h) and one_end

-- s and G have at most four digits together
factors_short : (s g : ℕ) → 1 ≤ s → s ≤ 16 → g * s ≤ 511 → length (decimal s) + length (decimal g) ≤ 4
factors_short s g first last few = elim (dec_lt s 10) [
  | yes l ↦
      let groups = mul-le-mul_left g first in
      omega (arith, decimal_short 0 s l, decimal_short 2 g (omega arith))
  | no l ↦
      let ten : 10 ≤ s = omega arith in
      let groups = mul-le-mul_left g ten in
      omega (arith, decimal_short 1 s (omega arith), decimal_short 1 g (omega arith))
]

image_short : (layout : Layout) → Geometry layout → blocks layout ≤ 511 → Short (image_line layout (blocks layout)) 49
unfolding image_line
image_short layout ok few =
    let known : layout.shape ≤ 2 = ⊎_elim (λ e. omega arith) (λ e. omega arith) ok.shape_known in
    let factors = factors_short layout.s layout.g ok.s_first ok.s_last few in
    loosely
    (named_short "image shape " layout.shape 1 (decimal_short 0 layout.shape (omega arith))
    and named_short " interleave " layout.s (length (decimal layout.s)) (omega arith)
    and named_short " groups " layout.g (length (decimal layout.g)) (omega arith)
    and named_short " blocks " (blocks layout) 3 (decimal_short 2 (blocks layout) (omega arith))
    and one_end)
    (omega arith)

-- the most blocks of a shape that a file has room for
abbrev pub most : Shape → ℕ
most One = 511
most Two = 113

few_blocks : (shape : Shape) → most shape ≤ 511
few_blocks One = omega arith
few_blocks Two = omega arith

-- a second count of lanes lost has one digit, or in shape 2 one more; so many bytes more have n lines
abbrev besides : Shape → ℕ → ℕ
besides One n = 0
besides Two n = n

one_besides : (shape : Shape) (n : ℕ) → besides shape (suc n) ≡ besides shape n + besides shape 1
one_besides One n = refl
one_besides Two n = omega arith

second_digits : (shape : Shape) (block : List ℕ) → verdict_beyond (verdict_of shape block) ≤ 32
    → length (decimal (verdict_beyond (verdict_of shape block))) ≤ 1 + besides shape 1
second_digits One block h = rw (beyond_one block) (decimal_short 0 0 (omega arith))
second_digits Two block h = decimal_short 1 (verdict_beyond (verdict_of Two block)) (omega arith)

-- the line of a clean block is two bytes shorter
verdict_short : (v : Verdict) (tally : Tally) (more : ℕ) → verdict_count v ≤ 32 → length (decimal (verdict_beyond v)) ≤ 1 + more
    → length (end_to_end (verdict_parts v)) + 2 * (counted v tally).clean ≤ 10 + more + 2 * tally.clean
verdict_short Clean tally more h k =
    let short = and_then (one_text " clean ") (and_then (one_number 0 0 (omega arith)) nothing) in
    omega (arith, short.few)
verdict_short (Mended m) tally more h k =
    let short = and_then (one_text " mended ") (and_then (one_number m 1 (omega arith)) nothing) in
    omega (arith, short.few)
verdict_short (Lost e b) tally more h k =
    let last = and_then (one_text " ") (and_then (any_length (decimal b)) nothing) in
    let short = and_then (one_text " lost ") (and_then (one_number e 1 (omega arith)) last) in
    omega (arith, short.few)

block_short : (block : ℕ) (v : Verdict) (tally : Tally) (more : ℕ) → verdict_count v ≤ 32 → length (decimal (verdict_beyond v)) ≤ 1 + more
    → length (block_line block v) + 2 * (counted v tally).clean ≤ 17 + more + length (decimal block) + 2 * tally.clean
unfolding block_line
block_short block v tally more c d =
    let line = named_short "block " block (length (decimal block)) (omega arith) and any_length (end_to_end (verdict_parts v)) and one_end in
    omega (arith, line.few, verdict_short v tally more c d)

-- the digits of the clean are paid for by those two bytes
total_short : (n : ℕ) (tally : Tally) → n ≤ 511 → Within n tally → Short (total_line tally) (45 + 2 * tally.clean)
unfolding total_line
total_short n tally h w =
    loosely
    (named_short "total clean " tally.clean (1 + 2 * tally.clean) (few_digits tally.clean (omega (arith, w.clean)))
    and named_short " mended " tally.mended 3 (decimal_short 2 tally.mended (omega (arith, w.mended)))
    and named_short " lost " tally.lost 3 (decimal_short 2 tally.lost (omega (arith, w.lost)))
    and named_short " bits " tally.bits 5 (decimal_short 4 tally.bits (omega (arith, w.bits)))
    and one_end)
    (omega arith)

-- ---- the report of an image

blocks_short : (image : List ℕ) (layout : Layout) (n : ℕ) → n ≤ 511
    → length (end_to_end (block_lines (verdict_at image layout) n)) + 2 * (tally_below (verdict_at image layout) n).clean
    ≤ 18 * n + besides (shape_of layout) n + (n - 10) + (n - 100)
unfolding block_lines tally_below end_to_end verdict_at
blocks_short image layout zero h = omega arith
blocks_short image layout (suc n) h =
    let v = verdict_at image layout n in
    let small = verdict_most image layout n in
    let second = second_digits (shape_of layout) (gathered layout n (visited_below image layout n)) (omega arith) in
    omega (
      arith,
      length_last (block_lines (verdict_at image layout) n) (block_line n v),
      block_short n v (tally_below (verdict_at image layout) n) (besides (shape_of layout) 1) (omega arith) second,
      one_besides (shape_of layout) n,
      digits n (omega arith),
      blocks_short image layout n (omega arith),
    )

-- 511 lines of shape 1 are longer than 113 of shape 2
lines_most : (shape : Shape) (n : ℕ) → n ≤ most shape → 18 * n + besides shape n + (n - 10) + (n - 100) ≤ 10110
lines_most One n h = omega arith
lines_most Two n h = omega arith

report_short : (image : List ℕ) (layout : Layout) → Geometry layout → blocks layout ≤ most (shape_of layout)
    → length (end_to_end (image_report image layout)) ≤ 10204
unfolding image_report end_to_end
report_short image layout ok h =
    let n = blocks layout in
    let few : n ≤ 511 = omega (arith, few_blocks (shape_of layout)) in
    let total = total_line (tally_below (verdict_at image layout) n) in
    let first = image_line layout n in
    let rest = block_lines (verdict_at image layout) n ++ total ∷ [] in
    omega (
      arith,
      length-append first (end_to_end rest),
      (image_short layout ok few).few,
      length_last (block_lines (verdict_at image layout) n) total,
      blocks_short image layout n few,
      lines_most (shape_of layout) n h,
      (total_short n (tally_below (verdict_at image layout) n) few (tally_within image layout n)).few,
    )

-- ---- the report of a file

-- a file has room for no more blocks than these, and for 8,176 words
pub file_most : (bytes : List ℕ) → Accepted bytes → (blocks (layout_in bytes) ≤ most (shape_of (layout_in bytes))) × (word_count (length bytes) ≤ 8176)
file_most bytes ok =
    let size : Shape → ℕ = λ (shape : Shape). 4 * (rows shape * blocks (layout_in bytes)) in
    let longest = ok.frame.most in
    ⊎_elim
    (λ e.
    let one = shape_one (layout_in bytes).shape e in
    let body = ok.body ∙ ap size one in
    (rw one (omega arith), omega arith))
    (λ (e : (layout_in bytes).shape ≡ 2).
    let not_one_lem : (layout_in bytes).shape ≡ 1 → ⊥ = λ q. omega (arith, e) in
    let two = shape_two (layout_in bytes).shape not_one_lem in
    let body = ok.body ∙ ap size two in
    (rw two (omega arith), omega arith))
    ok.geometry.shape_known

-- no rule has a number above 11
abbrev low? : List Rule → Bool
low? [] = true
low? (rule ∷ rules) = leb rule.number 11 && low? rules

first_low : (rules : List Rule) (given : ℕ) → T (low? rules) → FirstOf rules given → given ≤ 11
first_low [] given t e = omega arith
first_low (rule ∷ rules) given t first =
    let low = leb rule.number 11 in
    ⊎_elim
    (λ r. omega (arith, r.1, leb→le rule.number 11 (left_part low (low? rules) t)))
    (λ r. first_low rules given (right_part low (low? rules) t) r.1)
    first

number_most : (bytes : List ℕ) → file_refusal bytes ≤ 11
number_most bytes = first_low (file_rules bytes) (file_refusal bytes) tt (file_first bytes)

module _ (bytes : List ℕ) where
  abbrev found : Layout
  found = layout_in bytes

  pub file_short : length (end_to_end (report_of bytes)) ≤ 10204
  unfolding report_of header_of end_to_end
  file_short = by (file_refusal bytes) refl
    where
      by : (n : ℕ) → file_refusal bytes ≡ n → length (end_to_end (report_for (answered n found) (image_in bytes))) ≤ 10204
      by zero e =
          let ok = accepted bytes e in
          report_short (image_in bytes) (layout_in bytes) ok.geometry (file_most bytes ok).0
      by (suc n) e =
          let most = number_most bytes in
          let short = (refusal_short (suc n) (omega arith)).few in
          rw (number_of_numbered (suc n) (omega arith) (λ z. omega arith)) (omega (arith, length-append (refusal_line (suc n)) []))

  -- an image of 8,176 words has room, so that none is refused for its length
  file_room : (room : ℕ) → 8176 ≤ room → header_for bytes (min (word_count (length bytes)) room) ≡ header_of bytes
  unfolding header_of read_refusal
  file_room room h = by (file_refusal bytes) refl
    where
      count : ℕ
      count = min (word_count (length bytes)) room

      by : (n : ℕ) → file_refusal bytes ≡ n → answered (n then length_rung count (layout_in bytes)) found ≡ answered n found
      by zero e =
          let few = (file_most bytes (accepted bytes e)).1 in
          let all : count ≡ word_count (length bytes) = min-eq_left (omega arith) in
          let fits = eq-eqb count _ (all ∙ words_exact bytes e) in
          ap (λ (t : Bool). answered (4 when not t else 0) found) fits
      by (suc n) e = refl

-- with 8,176 words and 10,204 bytes lent, the report is there whole, from byte 0 on, and the bytes past it are as they were
pub report_whole : {bytes out printed : List ℕ} {room next : ℕ} → Reports bytes (min (word_count (length bytes)) room) out next printed
    → 8176 ≤ room
    → 10204 ≤ length out
    → Inspects bytes out next printed
unfolding report_of
report_whole {bytes} {out} {printed} {room} {next} r h k =
    let text = end_to_end (report_of bytes) in
    let short = file_short bytes in
    let there : page printed next ≡ page (text ++ drop (length text) out) (length text) =
    r
    ∙ ap (λ (header : Result Layout Refusal). written_all (report_for header (image_in bytes)) (page out 0)) (file_room bytes room h)
    ∙ all_fit (report_of bytes) out 0 (omega arith)
    ∙ ap (λ (n : ℕ). page (text ++ drop n out) n) (zero-add (length text)) in
    record {
      ends = ap (λ (p : Page). p.next) there;
      whole = ap (λ (p : Page). take p.next p.bytes) there ∙ take_at text (drop (length text) out) (length text) refl;
      past = ap (λ (p : Page). drop p.next p.bytes) there
          ∙ drop_at text (drop (length text) out) (length text) refl
          ∙ ap (λ (p : Page). drop p.next out) (sym there);
    }
