-- A line that is put together of names and numbers, in a buffer with room for them all, is one text. Assumes nothing.
use Prim.Native.Nat.{ℕ, ◌+◌, ◌*◌, ◌≤◌, ◌<◌, ◌^◌}
use Prim.Native.String.{String}
use mathlib.Core.Path.{◌≡◌, refl, sym, ap, subst, ◌∙◌}
use mathlib.Core.List.{List, [], ◌∷◌, ◌++◌, append_assoc}
use native.Mathlib.Omega.{arith}
use native.Mathlib.Nat.{zero-add}
use native.Mathlib.Numerals.{add-one}
use denote.Bor.{Bor}
use lib.ListN.{length, take, drop, replicate, get_or, length-append, length-replicate}
use lib.Seq.{drop-cons, take_at}
use Rattle.std.proofs.lemmas.List.{drop_all}
use Rattle.block.specs.declared.Verdict.{Verdict}
use Rattle.block.specs.declared.Verdict.TheVariants.{Clean, Mended, Lost}
use Rattle.layout.specs.declared.Layout.{Layout}
use Rattle.text.specs.Text.{ascii, decimal, named, line_end}
use Rattle.text.specs.Page.{Page, page, written, written_all, end_to_end}
use Rattle.text.specs.declared.Page.{Page as Lent}
use Rattle.text.specs.Puts.{PutsText, OnPage}
use Rattle.text.proofs.Decimal.{decimal_short}
use Rattle.text.proofs.Pages.{written_last, end_to_end_last, length_last, all_fit}
use Rattle.report.specs.declared.Tally.{Tally}
use Rattle.report.specs.Lines.{refusal_line, image_line, block_line, total_line}
use Rattle.report.specs.Inner.{named_all, line_of, names}

abbrev Part : Type 0
Part = Bor (List ℕ) × ℕ

-- so many parts are put on the page, and with the rest it has the line that all of them make
pub record Putting (parts rest : List Part) (count : ℕ) (p : Page) : Type 0 where
  pub same : written_all (named_all rest) p ≡ written_all (named_all parts) (page (replicate 96 0) 0)
  pub few : length (end_to_end (named_all parts)) + names rest ≤ names parts + 10 * count + length (end_to_end (named_all rest))

pub none_put : (parts : List Part) → Putting parts parts 0 (page (replicate 96 0) 0)
none_put parts = record { same = refl; few = omega arith }

one_put : {parts rest : List Part} {count : ℕ} {p q : Page} (part : Part) → Putting parts (part ∷ rest) count p → part.1 < 2 ^ 32
    → q ≡ written (decimal part.1) (written part.0.now p)
    → Putting parts rest (count + 1) q
unfolding written_all end_to_end
one_put {parts} {rest} {count} part put small e =
    let text = decimal part.1 ++ end_to_end (named_all rest) in
    record {
      same = ap (written_all (named_all rest)) e ∙ put.same;
      few = omega (
        arith,
        put.few,
        length-append part.0.now text,
        length-append (decimal part.1) (end_to_end (named_all rest)),
        decimal_short 9 part.1 (omega arith),
      );
    }

-- the part at a place more
pub next_put : (parts : List Part) (k : ℕ) (d : Part) {p q : Page} → k < length parts → Putting parts (drop k parts) k p → (get_or parts k d).1 < 2 ^ 32
    → q ≡ written (decimal (get_or parts k d).1) (written (get_or parts k d).0.now p)
    → Putting parts (drop (k + 1) parts) (k + 1) q
next_put parts k d {p} h put small e =
    let split : drop k parts ≡ get_or parts k d ∷ drop (k + 1) parts = rw add-one (drop-cons parts k d h) in
    one_put (get_or parts k d) (subst (λ (rest : List Part). Putting parts rest k p) split put) small e

-- the bytes of a buffer up to the next place are a text
pub record Holds (text bytes : List ℕ) (next : ℕ) : Type 0 where
  pub front : take next bytes ≡ text
  pub place : next ≡ length (take next bytes)

-- the line's end after all parts
pub all_put : (parts : List Part) (k : ℕ) {p : Page} (bytes : List ℕ) (next : ℕ) → Putting parts (drop k parts) k p → length parts ≤ k → k ≤ length parts
    → names parts + 10 * length parts < 96
    → page bytes next ≡ written line_end p
    → Holds (line_of parts) bytes next
unfolding written_all end_to_end
all_put parts k {p} bytes next put all few room ended =
    let rest : drop k parts ≡ [] = drop_all k parts all in
    let last : Putting parts [] k p = subst (λ (rest : List Part). Putting parts rest k p) rest put in
    let lines : List (List ℕ) = named_all parts ++ line_end ∷ [] in
    let text : List ℕ = end_to_end lines in
    let size = length_last (named_all parts) line_end in
    let whole : page bytes next ≡ page (text ++ drop (length text) (replicate 96 0)) (length text) =
    ended
    ∙ ap (written line_end) last.same
    ∙ sym (written_last (named_all parts) line_end _)
    ∙ all_fit lines (replicate 96 0) 0 (omega (arith, last.few, length-replicate {A = ℕ}))
    ∙ ap (λ (n : ℕ). page (text ++ drop n (replicate 96 0)) n) (zero-add (length text)) in
    let front = ap (λ (p : Page). take p.next p.bytes) whole ∙ take_at text _ (length text) refl in
    record { front = front; place = ap (λ (p : Page). p.next) whole ∙ ap length (sym front) }

-- ---- the lines of a report, part by part

abbrev part : String → ℕ → Part
part name number = (record { ref_ptr = (0, 0); now = ascii name }, number)

-- parts, each put after what stands before it
abbrev chained : List Part → List ℕ → List ℕ
chained [] front = front
chained (part ∷ parts) front = chained parts (front ++ (part.0.now ++ decimal part.1))

in_order : (parts : List Part) (front : List ℕ) → front ++ line_of parts ≡ chained parts front ++ line_end
unfolding end_to_end
in_order [] front = refl
in_order (part ∷ parts) front =
    ap (λ (text : List ℕ). front ++ text) (sym (append_assoc part.0.now (decimal part.1) (line_of parts)))
    ∙ sym (append_assoc front (part.0.now ++ decimal part.1) (line_of parts))
    ∙ in_order parts (front ++ (part.0.now ++ decimal part.1))

pub refusal_parts : (number : ℕ) → line_of (part "refused " number ∷ []) ≡ refusal_line number
unfolding refusal_line
refusal_parts number = in_order (part "refused " number ∷ []) []

pub image_parts : (layout : Layout) (blocks : ℕ)
    → line_of (part "image shape " layout.shape ∷ part " interleave " layout.s ∷ part " groups " layout.g ∷ part " blocks " blocks ∷ [])
    ≡ image_line layout blocks
unfolding image_line
image_parts layout blocks =
    in_order (part "image shape " layout.shape ∷ part " interleave " layout.s ∷ part " groups " layout.g ∷ part " blocks " blocks ∷ []) []

pub total_parts : (tally : Tally)
    → line_of (part "total clean " tally.clean ∷ part " mended " tally.mended ∷ part " lost " tally.lost ∷ part " bits " tally.bits ∷ [])
    ≡ total_line tally
unfolding total_line
total_parts tally =
    in_order (part "total clean " tally.clean ∷ part " mended " tally.mended ∷ part " lost " tally.lost ∷ part " bits " tally.bits ∷ []) []

abbrev told : Verdict → List Part
told Clean = part " clean " 0 ∷ []
told (Mended bits) = part " mended " bits ∷ []
told (Lost even beyond) = part " lost " even ∷ part " " beyond ∷ []

-- the block's number, and then more
numbered : (block : ℕ) (parts : List Part) → line_of (part "block " block ∷ parts) ≡ named "block " block ++ end_to_end (named_all parts) ++ line_end
unfolding end_to_end
numbered block parts =
    let number = decimal block in
    ap (λ (text : List ℕ). ascii "block " ++ (number ++ text)) (end_to_end_last (named_all parts) line_end)
    ∙ ap (λ (text : List ℕ). ascii "block " ++ text) (sym (append_assoc number (end_to_end (named_all parts)) line_end))

pub block_parts : (block : ℕ) (verdict : Verdict) → line_of (part "block " block ∷ told verdict) ≡ block_line block verdict
unfolding block_line
block_parts block Clean = numbered block (told Clean)
block_parts block (Mended bits) = numbered block (told (Mended bits))
block_parts block (Lost even beyond) = numbered block (told (Lost even beyond))

-- what is put of the parts is put of the line
pub said : {before after : Lent} (a : List ℕ) {b : List ℕ} → OnPage (PutsText a) before after → a ≡ b → OnPage (PutsText b) before after
said {before} a put e = record {
  puts = put.puts ∙ ap (λ (text : List ℕ). written text (page before.bytes.now before.next)) e;
  same_buffer = put.same_buffer;
}
