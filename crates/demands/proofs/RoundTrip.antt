-- Through a file and back: of all that the promises of the writer and the reader allow. Assumes nothing.
use Prim.Native.Nat.{ℕ, suc, ◌+◌, ◌*◌, ◌≤◌, ◌<◌}
use mathlib.Core.Path.{◌≡◌, refl, sym, ap, ◌∙◌}
use mathlib.Core.List.{List, [], ◌∷◌, ◌++◌}
use native.Mathlib.Omega.{arith}
use borrow.Author.Tests.{lt-ltb, le-ltb}
use lib.ListN.{length, get_or, take, drop}
use Rattle.shape.specs.Shape.{rows}
use Rattle.ground.specs.Lists.{list_of}
use Rattle.ground.proofs.Rules.{ruled}
use Rattle.ground.proofs.Ladder.{then_zero}
use Rattle.layout.specs.declared.Layout.{Layout}
use Rattle.layout.specs.Layout.{shape_numbered, layout_of, rows_of, blocks}
use Rattle.layout.specs.Refusal.{length_rung, layout_refusal, image_refusal}
use Rattle.layout.specs.Reason.{image_rules}
use Rattle.layout.proofs.Ladder.{image_exact, image_first}
use Rattle.layout.proofs.Shapes.{shape_one, shape_two}
use Rattle.stored.specs.Stored.{complemented_image}
use Rattle.stored.proofs.Forms.{length_image}
use Rattle.file.specs.Written.{Written}
use Rattle.file.specs.Bytes.{bytes_of, head_of, file_of, file_length, layout_in, word_count, words_in, image_in}
use Rattle.file.specs.Written.{written_bytes, WritesFile}
use Rattle.file.specs.Refusal.{long_rung, frame_refusal, body_refusal, file_refusal, read_refusal, write_refusal}
use Rattle.file.specs.Reason.{too_long, no_room}
use Rattle.file.proofs.Ladder.{accepted}
use Rattle.file.proofs.Layouts.{length_words, words_layout}
use Rattle.file.proofs.RoundTrip.{length_file, layout_back, image_back, refusal_back, file_renewed, file_back}
use Rattle.text.specs.Page.{end_to_end}
use Rattle.report.specs.Report.{image_report, report_of}
use Rattle.report.proofs.OneResult.{one_report}
use Rattle.demands.specs.RoundTrip.{Read, whole, Wrote, Edge, Most, sample_image, worded_image, Headed, renewed}
use Rattle.demands.specs.RoundTrip.{Rewritten, Again, Renewed, ReadsBack, WritesRead, PrintsSame, FileRoundTrip}
use Rattle.demands.specs.Examples.{old_sample, new_sample}
use Rattle.demands.proofs.Files.{accepted_lines, written_file, file_writes}

-- ---- what reading gives is what stands in the bytes

-- a file that is accepted, its layout and its image
record Stands (bytes : List ℕ) (layout : Layout) (image : List ℕ) : Type 0 where
  passed : file_refusal bytes ≡ 0
  named : layout ≡ layout_in bytes
  words : image ≡ image_in bytes

stands : (bytes : List ℕ) (layout : Layout) (image : List ℕ) → Read bytes layout image → Stands bytes layout image
unfolding read_refusal
stands bytes _ _ (whole header lent kept image r z) =
    let none : read_refusal bytes (length lent) ≡ 0 = sym r.answers.number ∙ z in
    record { passed = (then_zero (file_refusal bytes) _ none).0; named = r.answers.layout ∙ rw none; words = r.leaves ∙ rw none }

-- ---- the file that was written

record Filed (image : List ℕ) (layout : Layout) (file : List ℕ) : Type 0 where
  file_of_lem : file ≡ file_of layout image
  image_passed : image_refusal (length image) layout ≡ 0
  file_passed : file_refusal (file_of layout image) ≡ 0

filed : (image : List ℕ) (layout : Layout) (file : List ℕ) → Wrote image layout file → Filed image layout file
unfolding write_refusal
filed image layout file w =
    let none = sym w.promised.number ∙ w.accepted in
    let parts = then_zero (image_refusal (length image) layout) _ none in
    let long = then_zero (long_rung (file_length (length image))) _ parts.1 in
    record {
      file_of_lem = w.file_is ∙ (written_file image layout w.buffer w.promised none).1;
      image_passed = parts.0;
      file_passed = refusal_back layout image ∙ rw (long.0, parts.0);
    }

back : ReadsBack
unfolding read_refusal image_refusal
back image layout file w =
    let f = filed image layout file w in
    let fits : length_rung (length image) layout ≡ 0 = (then_zero (layout_refusal layout) _ f.image_passed).1 in
    rw f.file_of_lem
    (record {
      header = λ header h. (h.number ∙ f.file_passed, h.layout ∙ rw f.file_passed (layout_back layout image));
      whole = λ header lent kept after e r. r.answers.number ∙ rw f.file_passed (ap (length_rung (length lent)) (layout_back layout image) ∙ rw e fits);
      same = λ named words r.
          let s = stands (file_of layout image) named words r in
          (s.named ∙ layout_back layout image, s.words ∙ image_back layout image);
    })

-- ---- the file of what was read

write_passed : (bytes image : List ℕ) (room : ℕ) → file_refusal bytes ≡ 0 → length image ≡ word_count (length bytes) → length bytes ≤ room
    → write_refusal (length image) (layout_in bytes) room ≡ 0
unfolding write_refusal
write_passed bytes image room e many l =
    let ok = accepted bytes e in
    let size : file_length (length image) ≡ length bytes = omega (arith, many, ok.body, ok.frame.least) in
    let fits : image_refusal (length image) (layout_in bytes) ≡ 0 = rw many (words_layout bytes e) in
    rw (fits, size, le-ltb 32768 (length bytes) ok.frame.most, le-ltb room (length bytes) l)

-- what is written of what was read: the file of that image, and as long as the file that was read
rewritten : (bytes image buffer file : List ℕ) → file_refusal bytes ≡ 0 → length image ≡ word_count (length bytes) → file_of (layout_in bytes) image ≡ file
    → length bytes ≤ length buffer
    → {answer : Written} {kept after : List ℕ} → WritesFile image (layout_in bytes) buffer answer kept after
    → Rewritten bytes buffer file answer after
rewritten bytes image buffer file e many is l {answer} {kept} {after} w =
    let none = write_passed bytes image (length buffer) e many l in
    let wrote = written_file image (layout_in bytes) buffer w none in
    let count : written_bytes answer ≡ length bytes =
    wrote.0 ∙ length_file (layout_in bytes) image ∙ omega (arith, many, (accepted bytes e).body, (accepted bytes e).frame.least) in
    let all : take (length bytes) after ≡ file_of (layout_in bytes) image = rw (← count) wrote.1 in
    record { accepted = w.number ∙ none; count = count; is = all ∙ is; past = rw (← count) wrote.2 }

again : WritesRead 2 Again
again bytes layout image fits version r buffer answer kept after l w =
    let s = stands bytes layout image r in
    let is : image ≡ words_in bytes = s.words ∙ rw version in
    rewritten bytes image buffer bytes s.passed (ap length is ∙ length_words bytes)
    (ap (file_of (layout_in bytes)) is ∙ file_back bytes fits s.passed version)
    l
    (rw s.named at w)

-- ---- what is printed

report_as : (bytes : List ℕ) (layout : Layout) (image : List ℕ) → Stands bytes layout image → report_of bytes ≡ image_report image layout
report_as bytes layout image s = rw (s.named, s.words) (accepted_lines bytes s.passed)

printed : PrintsSame
printed image layout file w =
    let f = filed image layout file w in
    let own : report_of file ≡ image_report image layout = report_as file layout image (rw f.file_of_lem
    (record { passed = f.file_passed; named = sym (layout_back layout image); words = sym (image_back layout image) })) in
    record {
      report = λ out end left i. i.whole ∙ ap end_to_end own;
      same = λ bytes out end left end' left' r i j.
          let e : report_of bytes ≡ report_of file = report_as bytes layout image (stands bytes layout image r) ∙ sym own in
          one_report file out
          (record { ends = i.ends ∙ ap (λ (lines : List (List ℕ)). length (end_to_end lines)) e; whole = i.whole ∙ ap end_to_end e; past = i.past })
          j;
    }

-- ---- version 1

new : WritesRead 1 Renewed
new bytes layout image fits version r buffer answer kept after l w =
    let s = stands bytes layout image r in
    let code = complemented_image (layout_in bytes) (words_in bytes) in
    let is : image ≡ code = s.words ∙ rw version in
    let many : length image ≡ word_count (length bytes) = ap length is ∙ length_image (layout_in bytes) (words_in bytes) ∙ length_words bytes in
    let renews : file_of (layout_in bytes) image ≡ renewed bytes =
    file_renewed bytes fits s.passed image many ∙ ap (λ (words : List ℕ). 2 ∷ take 8 (drop 1 bytes) ++ bytes_of words) is in
    let written = rewritten bytes image buffer (renewed bytes) s.passed many renews l (rw s.named at w) in
    let filed : Wrote image layout (renewed bytes) =
    record {
      buffer = buffer;
      answer = answer;
      kept = kept;
      after = after;
      promised = w;
      accepted = written.accepted;
      file_is = sym written.is ∙ ap (λ (n : ℕ). take n after) (sym written.count);
    } in
    record {
      written = written;
      printed = λ out end left end' left' i j. (printed image layout (renewed bytes) filed).same bytes out end left end' left' r i j;
    }

-- ---- the specification's own file

sample : (file : List ℕ) → Wrote sample_image (layout_of 1 1 1) file → file ≡ new_sample
unfolding file_of bytes_of
sample file w = (filed sample_image (layout_of 1 1 1) file w).file_of_lem

old_sample_read : (layout : Layout) (image : List ℕ) → Read old_sample layout image → (layout ≡ layout_of 1 1 1) × (image ≡ sample_image)
unfolding words_in complemented_image list_of shape_numbered
old_sample_read layout image r = let s = stands old_sample layout image r in (s.named, s.words)

worded : (file : List ℕ) → Wrote worded_image (layout_of 1 1 1) file → take 4 (drop 9 file) ≡ 1 ∷ 2 ∷ 3 ∷ 4 ∷ []
unfolding file_of bytes_of
worded file w = rw (filed worded_image (layout_of 1 1 1) file w).file_of_lem

headed : (words : ℕ) (layout : Layout) → Headed words layout (head_of layout words)
unfolding file_of
headed words layout image file e w = rw ((filed image layout file w).file_of_lem, ← e)

-- ---- the edges

edge : (shape most words bytes : ℕ)
    → write_refusal words (layout_of shape 1 most) bytes ≡ 0
    → file_length words ≡ bytes
    → ((room : ℕ) → room < bytes → write_refusal words (layout_of shape 1 most) room ≡ 12)
    → ((room : ℕ) → write_refusal (words + rows_of (layout_of shape 1 most)) (layout_of shape 1 (suc most)) room ≡ 11)
    → Edge shape most words bytes
edge shape most words bytes none size twelve eleven =
    record {
      exactly = λ image buffer answer kept after e l w.
          let passed : write_refusal (length image) (layout_of shape 1 most) (length buffer) ≡ 0 = rw (e, l) none in
          (w.number ∙ passed, (written_file image (layout_of shape 1 most) buffer w passed).0 ∙ length_file (layout_of shape 1 most) image ∙ rw e size);
      shorter = λ image buffer answer kept after e l w. w.number ∙ rw e (twelve (length buffer) l);
      larger = λ image buffer answer kept after e w. w.number ∙ rw e (eleven (length buffer));
    }

-- a length refused for the file's own is refused by 11 exactly
most_by : (shape rows most : ℕ) → ((layout : Layout) → layout.shape ≡ shape → rows_of layout ≡ rows)
    → ((n : ℕ) → 32768 < 9 + 4 * (rows * n) → most < n)
    → ((n : ℕ) → most < n → 32768 < 9 + 4 * (rows * n))
    → Most shape most
most_by shape rows most tall above below image layout buffer answer kept after e none w =
    let d = (file_writes image layout buffer answer kept after w).ruled.exactly (image_rules (length image) layout) (no_room (file_of layout image) buffer ∷ [])
    (too_long (file_of layout image))
    refl in
    let exact = image_exact layout (length image) ((ruled (image_rules (length image) layout) _ tt (image_first layout (length image))).accepted.1 none) in
    let size : length (file_of layout image) ≡ 9 + 4 * (rows * blocks layout) =
    length_file layout image ∙ ap (λ (n : ℕ). 9 + 4 * n) (exact ∙ ap (λ (k : ℕ). k * blocks layout) (tall layout e)) in (
      λ n. above (blocks layout) (rw (← size) (d.0 n).1),
      λ l. d.1 (none, rw size (below (blocks layout) l)),
    )

pub file_round_trip : FileRoundTrip
unfolding write_refusal image_refusal layout_refusal shape_numbered
file_round_trip =
    record {
      back = back;
      again = again;
      new = new;
      printed = printed;
      sample = sample;
      old_sample_read = old_sample_read;
      worded = worded;
      headed_one = headed 4800 (layout_of 1 1 300);
      headed_two = headed 1080 (layout_of 2 3 5);
      largest_one = edge 1 511 8176 32713 refl refl (λ room l. rw (lt-ltb room 32713 l)) (λ room. refl);
      largest_two = edge 2 113 8136 32553 refl refl (λ room l. rw (lt-ltb room 32553 l)) (λ room. refl);
      most_one = most_by 1 16 _ (λ layout e. ap rows (shape_one layout.shape e)) (λ n l. omega arith) (λ n l. omega arith);
      most_two = most_by 2 72 _ (λ layout e. ap rows (shape_two layout.shape (λ q. omega arith))) (λ n l. omega arith) (λ n l. omega arith);
      length_first = λ image buffer answer kept after e w. w.number ∙ rw e;
    }

-- ---- that every byte is below 256 is needed: 256 in the place of a byte is read into its word, and written as the byte before it

pub record FittingNeeded : Type 0 where
  pub bytes : List ℕ
  pub passed : file_refusal bytes ≡ 0
  pub other : file_of (layout_in bytes) (words_in bytes) ≡ bytes → ⊥

pub fitting_needed : FittingNeeded
unfolding file_refusal frame_refusal body_refusal layout_refusal shape_numbered file_of bytes_of words_in list_of
fitting_needed =
    record {
      bytes = take 72 new_sample ++ 256 ∷ [];
      passed = refl;
      other = λ e. let z : ◌≡◌ {A = ℕ} 1 0 = ap (λ (l : List ℕ). get_or l 71 0) e in omega arith;
    }
