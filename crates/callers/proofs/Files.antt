-- The demands on files hold of a caller in C. Assumes nothing.
use Prim.Native.Nat.{ℕ, ◌+◌, ◌*◌, ◌≤◌}
use mathlib.Core.Path.{◌≡◌, refl, sym, ap, ◌∙◌}
use mathlib.Core.List.{List, [], ◌∷◌}
use lib.ListN.{length, take}
use Rattle.ground.specs.Choice.{if_zero}
use Rattle.ground.specs.Rules.{Ruled, InOrder}
use Rattle.layout.specs.declared.Layout.{Layout}
use Rattle.layout.specs.Layout.{layout_of}
use Rattle.refusal.specs.Refusal.{answer_number, answered}
use Rattle.file.specs.Header.{Header}
use Rattle.file.specs.Bytes.{FittingBytes, version_in, layout_in, image_in}
use Rattle.file.specs.Refusal.{read_refusal}
use Rattle.file.specs.Reason.{file_rules, read_rules, write_rules}
use Rattle.file.specs.Header.{header_layout, header_of, HeaderTells, HeaderRead, ReadsFile}
use Rattle.file.specs.Written.{written_bytes, WritesFile, write_answer}
use Rattle.file.proofs.Headers.{tells_if, header_read}
use Rattle.file.proofs.FileWrites.{file_written}
use Rattle.file.proofs.Ladder.{read_known}
use Rattle.words.specs.Layouts.{layout_held, layout_words}
use Rattle.foldgrebe.specs.FileCalls.{FileWriteCall, FileLayoutCall, FileReadCall}
use Rattle.demands.specs.RoundTrip.{Read, whole, Rewritten, renewed}
use Rattle.demands.proofs.Files.{file_demand}
use Rattle.demands.proofs.RoundTrip.{file_round_trip}
use Rattle.callers.specs.Demands.{CallerRefusing}
use Rattle.callers.specs.Files.{CallerWrote, CallerWritten, CallerBack, CallerFiles}
use Rattle.callers.proofs.Demands.{refusing}

-- ---- what a call tells is the answer of the code that it calls

module _ {image buffer : List ℕ} {layout : Layout} {number : ℕ} {kept after written : List ℕ}
    (c : FileWriteCall image layout buffer number kept after written) where
  wrote : WritesFile image layout buffer (write_answer image layout buffer) kept after
  wrote =
      let w = file_written image layout buffer in
      record { number = w.number; bytes = w.bytes; keeps = c.keeps; leaves = c.leaves }

  wrote_number : number ≡ answer_number (write_answer image layout buffer)
  wrote_number = c.answers ∙ sym wrote.number

  wrote_bytes : written ≡ written_bytes (write_answer image layout buffer) ∷ []
  wrote_bytes = c.says ∙ ap (λ (count : ℕ). count ∷ []) (sym wrote.bytes)

-- a header's number and words
tells : {refusal number : ℕ} {named : Layout} {words : List ℕ} (header : Header) → HeaderTells refusal named header → number ≡ refusal
    → words ≡ layout_words (if_zero refusal named (layout_of 0 0 0))
    → (number ≡ answer_number header) × (words ≡ layout_words (header_layout header))
tells header t n w = (n ∙ sym t.number, w ∙ ap layout_words (sym t.layout))

told : (bytes : List ℕ) → HeaderRead bytes (header_of bytes)
told bytes = header_read bytes (header_of bytes) refl

module _ {bytes : List ℕ} {number : ℕ} {kept words : List ℕ} (c : FileLayoutCall bytes number kept words) where
  told_so : (number ≡ answer_number (header_of bytes)) × (words ≡ layout_words (header_layout (header_of bytes)))
  told_so = tells (header_of bytes) (told bytes) c.answers c.says

-- what reading a file to an image answers
abbrev read_of : List ℕ → List ℕ → Header
read_of bytes image = answered (read_refusal bytes (length image)) (layout_in bytes)

module _ {bytes image : List ℕ} {number : ℕ} {kept after words : List ℕ} (c : FileReadCall bytes image number kept after words) where
  read : ReadsFile bytes image (read_of bytes image) kept after
  read =
      record {
        answers = tells_if (read_refusal bytes (length image)) (layout_in bytes) (read_known bytes (length image));
        keeps = c.keeps;
        leaves = c.leaves;
      }

  read_so : (number ≡ answer_number (read_of bytes image)) × (words ≡ layout_words (header_layout (read_of bytes image)))
  read_so = tells (read_of bytes image) read.answers c.answers c.says

-- ---- refusals

write_refuses : {image buffer kept after written : List ℕ} {layout : Layout} {number : ℕ} → FileWriteCall image layout buffer number kept after written
    → CallerRefusing (Ruled (write_rules image layout buffer)) number ((kept ≡ image) × (after ≡ buffer) × (written ≡ 0 ∷ []))
write_refuses {image} {buffer} {kept} {after} {written} {layout} c =
    let d = file_demand.write image layout buffer _ _ _ (wrote c) in
    refusing (wrote_number c) d.ruled
    (λ ne. let bare = d.unchanged ne in (c.keeps, bare.1, wrote_bytes c ∙ ap (λ (count : ℕ). count ∷ []) bare.0))

layout_refuses : {bytes kept words : List ℕ} {number : ℕ} → FileLayoutCall bytes number kept words
    → CallerRefusing (InOrder (file_rules bytes)) number ((kept ≡ bytes) × (words ≡ 0 ∷ 0 ∷ 0 ∷ []))
layout_refuses {bytes} c =
    let d = file_demand.header bytes _ (told bytes) in
    refusing (told_so c).0 d.ruled (λ ne. (c.keeps, (told_so c).1 ∙ ap layout_words (d.bare ne)))

read_refuses : {bytes image kept after words : List ℕ} {number : ℕ} → FileReadCall bytes image number kept after words
    → CallerRefusing (InOrder (read_rules bytes (length image))) number ((kept ≡ bytes) × (after ≡ image) × (words ≡ 0 ∷ 0 ∷ 0 ∷ []))
read_refuses {bytes} {image} c =
    let d = file_demand.read bytes image _ _ _ (read c) in
    refusing (read_so c).0 d.ruled (λ ne. let bare = d.unchanged ne in (c.keeps, bare.1, (read_so c).1 ∙ ap layout_words bare.0))

-- ---- accepted

layout_told : {bytes kept words : List ℕ} {number : ℕ} → FileLayoutCall bytes number kept words → number ≡ 0
    → (kept ≡ bytes) × (words ≡ layout_words (layout_in bytes))
layout_told c z = (c.keeps, c.says ∙ rw (sym c.answers ∙ z))

words_copied : {bytes image kept after words : List ℕ} {number : ℕ} → FileReadCall bytes image number kept after words → number ≡ 0
    → (kept ≡ bytes) × (words ≡ layout_words (layout_in bytes)) × (after ≡ image_in bytes)
words_copied c z = let none = sym c.answers ∙ z in (c.keeps, c.says ∙ rw none, c.leaves ∙ rw none)

module _ {image buffer kept after written : List ℕ} {layout : Layout} {number : ℕ}
    (c : FileWriteCall image layout buffer number kept after written) (z : number ≡ 0) where
  -- how many bytes are told
  counted : written_bytes (write_answer image layout buffer) ≡ 9 + 4 * length image
  counted =
      let d = file_demand.write image layout buffer _ _ _ (wrote c) in
      d.count (d.ruled.accepted.0 (sym (wrote_number c) ∙ z))

  file_wrote : CallerWrote image layout buffer kept after written
  file_wrote =
      let d = file_demand.write image layout buffer _ _ _ (wrote c) in
      record {
        keeps = c.keeps;
        count = wrote_bytes c ∙ ap (λ (count : ℕ). count ∷ []) counted;
        file = rw (← counted) (d.file (d.ruled.accepted.0 (sym (wrote_number c) ∙ z)));
        past = rw (← counted) d.past;
      }

  file_back : CallerBack image layout (take (9 + 4 * length image) after)
  file_back =
      let b = file_round_trip.back image layout (take (9 + 4 * length image) after)
      (record {
        buffer = buffer;
        answer = write_answer image layout buffer;
        kept = kept;
        after = after;
        promised = wrote c;
        accepted = sym (wrote_number c) ∙ z;
        file_is = ap (λ (n : ℕ). take n after) (sym counted);
      }) in
      record {
        told = λ t. let h = b.header _ (told _) in ((told_so t).0 ∙ h.0, (told_so t).1 ∙ ap layout_words h.1);
        read = λ e r.
            let passed = b.whole _ _ _ _ e (read r) in
            let same = b.same _ _ (whole _ _ _ _ (read r) passed) in
            ((read_so r).0 ∙ passed, (read_so r).1 ∙ ap layout_words same.0, same.1);
      }

-- what was read from a file, and a call that writes it
caller_written : {bytes image buffer kept after written file : List ℕ} {layout : Layout} {number : ℕ}
    (w : FileWriteCall image layout buffer number kept after written)
    → Rewritten bytes buffer file (write_answer image layout buffer) after
    → CallerWritten bytes buffer file number after written
caller_written w a =
    record {
      accepted = wrote_number w ∙ a.accepted;
      count = wrote_bytes w ∙ ap (λ (count : ℕ). count ∷ []) a.count;
      is = a.is;
      past = a.past;
    }

module _ {bytes lent kept image words : List ℕ} {number : ℕ} (fits : FittingBytes bytes) where
  -- what was read is what a demand on reading speaks of
  was_read : FileReadCall bytes lent number kept image words → number ≡ 0 → Read bytes (layout_held words) image
  was_read c z =
      let named : layout_held words ≡ header_layout (read_of bytes lent) = ap layout_held (read_so c).1 in
      rw named (whole _ lent kept image (read c) (sym (read_so c).0 ∙ z))

  file_again : version_in bytes ≡ 2 → FileReadCall bytes lent number kept image words → number ≡ 0
      → {buffer kept' after written : List ℕ} {number' : ℕ} → length bytes ≤ length buffer
      → FileWriteCall image (layout_held words) buffer number' kept' after written
      → CallerWritten bytes buffer bytes number' after written
  file_again version c z {buffer} l w =
      caller_written w
      (file_round_trip.again bytes (layout_held words) image fits version (was_read c z) buffer _ _ _ l (wrote w))

  file_new : version_in bytes ≡ 1 → FileReadCall bytes lent number kept image words → number ≡ 0
      → {buffer kept' after written : List ℕ} {number' : ℕ} → length bytes ≤ length buffer
      → FileWriteCall image (layout_held words) buffer number' kept' after written
      → CallerWritten bytes buffer (renewed bytes) number' after written
  file_new version c z {buffer} l w =
      caller_written w
      (file_round_trip.new bytes (layout_held words) image fits version (was_read c z) buffer _ _ _ l (wrote w)).written

pub caller_files : CallerFiles
caller_files =
    record {
      write = write_refuses;
      layout = layout_refuses;
      read = read_refuses;
      wrote = file_wrote;
      told = layout_told;
      copied = words_copied;
      back = file_back;
      again = file_again;
      new = file_new;
    }
