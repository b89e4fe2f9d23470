-- The outcomes that keep the promise of read_file: refused as a file, refused for the image's length, or read; its refusals by their rules.
-- Assumes nothing.
use Prim.Native.Nat.{ℕ, ◌*◌}
use mathlib.Core.Path.{◌≡◌, refl, sym, ◌∙◌}
use mathlib.Core.List.{List}
use native.Mathlib.Omega.{arith}
use borrow.Author.Tests.{eq-eqb, ne_eqb}
use lib.ListN.{length}
use Rattle.ground.specs.Rules.{FirstOf}
use Rattle.ground.proofs.Ladder.{then_first, first_more}
use Rattle.layout.specs.declared.Layout.{Layout}
use Rattle.layout.specs.Layout.{rows_of, blocks}
use Rattle.layout.specs.Reason.{bad_length}
use Rattle.layout.proofs.Ladder.{length_rung_lem}
use Rattle.std.specs.Prelude.{Ok, Err}
use Rattle.refusal.specs.declared.Refusal.{Refusal}
use Rattle.refusal.specs.declared.Refusal.TheVariants.{BadLength}
use Rattle.refusal.specs.Refusal.{number}
use Rattle.refusal.proofs.Answered.{number_some}
use Rattle.ground.proofs.Choices.{refused_kept}
use Rattle.file.specs.Bytes.{version_in, layout_in, word_count, words_in, image_in}
use Rattle.file.specs.Refusal.{file_refusal, read_refusal}
use Rattle.file.specs.Reason.{file_rules, read_rules}
use Rattle.file.specs.Header.{HeaderRead, ReadsFile}
use Rattle.file.proofs.Ladder.{accepted, file_first}
use Rattle.stored.specs.Stored.{ComplementsImage}
use Rattle.file.proofs.Layouts.{words_held}
use Rattle.file.proofs.Headers.{tells_refused, tells_accepted, header_layout_lem}

-- a file that is accepted has the words of its layout
pub words_exact : (bytes : List ℕ) → file_refusal bytes ≡ 0 → word_count (length bytes) ≡ rows_of (layout_in bytes) * blocks (layout_in bytes)
words_exact bytes e = let body = (accepted bytes e).body in omega arith

module _ (bytes image : List ℕ) where
  refused_by : (refusal : Refusal) → number refusal ≡ read_refusal bytes (length image) → ReadsFile bytes image (Err refusal) bytes image
  refused_by refusal e =
      record {
        answers = tells_refused (layout_in bytes) refusal e;
        keeps = refl;
        leaves = sym (refused_kept _ (image_in bytes) image (λ z. number_some refusal (e ∙ z)));
      }

  -- the header is refused
  pub reads_refused : (refusal : Refusal) → HeaderRead bytes (Err refusal) → ReadsFile bytes image (Err refusal) bytes image
  unfolding read_refusal
  reads_refused refusal r = refused_by refusal (rw (← r.number) (sym (then_first (number refusal) _ (number_some refusal))))

  module _ {layout : Layout} (r : HeaderRead bytes (Ok layout)) where
    abbrev passed : file_refusal bytes ≡ 0
    passed = sym r.number

    -- the image has not as many words as the file
    pub reads_other : (length image ≡ word_count (length bytes) → ⊥) → ReadsFile bytes image (Err BadLength) bytes image
    unfolding read_refusal
    reads_other ne =
        let words = rows_of (layout_in bytes) * blocks (layout_in bytes) in
        refused_by BadLength (rw (passed, ne_eqb (length image) words (λ e. ne (e ∙ sym (words_exact bytes passed)))))

    module _ (e : length image ≡ word_count (length bytes)) {words : List ℕ} (l : words ≡ words_in bytes) where
      reads_image : (left : List ℕ) → left ≡ image_in bytes → ReadsFile bytes image (Ok layout) bytes left
      unfolding read_refusal
      reads_image left is =
          let fits = eq-eqb (length image) (rows_of (layout_in bytes) * blocks (layout_in bytes)) (e ∙ words_exact bytes passed) in
          record {
            answers = rw ((header_layout_lem bytes r).1, passed, fits) (tells_accepted (layout_in bytes) refl);
            keeps = refl;
            leaves = rw (passed, fits) is;
          }

      -- as they stand
      pub reads_words : (version_in bytes ≡ 1 → ⊥) → ReadsFile bytes image (Ok layout) bytes words
      reads_words other = reads_image words (l ∙ rw (ne_eqb (version_in bytes) 1 other))

      -- version 1
      pub reads_old : version_in bytes ≡ 1 → {left : List ℕ} → ComplementsImage words layout left → ReadsFile bytes image (Ok layout) bytes left
      reads_old old {left} complements =
          let named = (header_layout_lem bytes r).1 in
          reads_image left
          (complements
          ∙ rw (l, named, words_held bytes passed, old))

-- ---- the ladder is the first of its rules

pub read_first : (bytes : List ℕ) (len : ℕ) → FirstOf (read_rules bytes len) (read_refusal bytes len)
unfolding read_refusal
read_first bytes len = first_more (file_rules bytes) (bad_length len (layout_in bytes)) _ _ tt (file_first bytes) (length_rung_lem (layout_in bytes) len)
