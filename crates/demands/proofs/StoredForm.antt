-- What is stored, row by row; and a dead chip is lost in all 32 lanes, which are even. Assumes nothing.
use Prim.Native.Nat.{ℕ, zero, suc, ◌≤◌, ◌<◌}
use mathlib.Core.Bool.{Bool, true, false}
use mathlib.Core.Path.{◌≡◌, refl, sym, ap, ap₂, ◌∙◌}
use mathlib.Core.List.{List, [], ◌∷◌}
use mathlib.Core.Logic.{inl, inr, ⊎_elim}
use native.Mathlib.Omega.{arith}
use lib.Bits.{bit_xor}
use lib.Dec.{lit<}
use lib.ListN.{length, get_or, take, get_or-eq_default}
use lib.Pow.{pow_pos}
use borrow.Author.Tests.{le-leb, lt-leb}
use Rattle.ground.specs.Totals.{total}
use Rattle.ground.proofs.Totals.{total_same}
use Rattle.lane.specs.Bit.{bit, pick}
use Rattle.lane.specs.Lane.{sum, count, odd}
use Rattle.lane.specs.Decision.{even, beyond}
use Rattle.lane.proofs.Bits.{bit_zero}
use Rattle.lane.proofs.Linear.{sum_same, count_same}
use Rattle.lane.proofs.Rows.{split_below}
use Rattle.lane.proofs.TwoKinds.{kind_exactly}
use Rattle.shape.specs.declared.Shape.{Shape}
use Rattle.shape.specs.declared.Shape.TheVariants.{One, Two}
use Rattle.shape.specs.Shape.{before, rows}
use Rattle.shape.proofs.Sizes.{rows_fit}
use Rattle.sums.specs.Words.{lane}
use Rattle.sums.proofs.StoredSums.{bit_ones, sum_complemented, odd_complemented}
use Rattle.layout.specs.declared.Layout.{Layout}
use Rattle.layout.specs.Layout.{shape_of, rows_of, blocks, index}
use Rattle.layout.specs.Refusal.{image_refusal}
use Rattle.layout.proofs.RowsInside.{row_at_index, interleaved, row_inside}
use Rattle.layout.proofs.Ladder.{image_layout, block_image, accepted}
use Rattle.stored.specs.Stored.{mask, complemented_in, complemented, complemented_image}
use Rattle.stored.proofs.Forms.{word_kept, row_complemented, rest_complemented, complemented_twice, word_image, image_twice}
use Rattle.block.specs.Block.{lanes_lost, lanes_lost_as, bits_changed, mended_block, Fitting}
use Rattle.block.specs.declared.Verdict.TheVariants.{Lost}
use Rattle.block.specs.Verdict.{Said, said_of, verdict, verdict_of}
use Rattle.block.proofs.Told.{few_lost, kinds_lost}
use Rattle.store.specs.Answer.{Answer}
use Rattle.std.specs.Prelude.{Ok}
use Rattle.store.specs.Answer.{answer_said}
use Rattle.refusal.specs.Refusal.{answer_number}
use Rattle.store.specs.Fresh.{fresh_image, fresh_after}
use Rattle.store.specs.Image.{stored_rows, gathered}
use Rattle.store.specs.Read.{Reads}
use Rattle.store.specs.Visit.{Visits, visit_answer, visit_after}
use Rattle.store.proofs.Image.{length_rows, rows_row}
use Rattle.store.proofs.Promises.{visits, visits_answer}
use Rattle.store.proofs.FreshBlocks.{fresh_word_lem}
use Rattle.rota.specs.Line.{asks_of}
use Rattle.patrol.specs.declared.Record.{Record}
use Rattle.patrol.specs.Handed.{Formatted}
use Rattle.patrol.specs.declared.Turned.{Turned}
use Rattle.patrol.specs.Format.{Formats}
use Rattle.patrol.specs.Numbers.{report_number, report_first, report_second}
use Rattle.patrol.specs.Turn.{Turns}
use Rattle.file.specs.Bytes.{version_in, layout_in, words_in, image_in}
use Rattle.file.specs.Refusal.{file_refusal}
use Rattle.file.proofs.Layouts.{words_held}
use Rattle.text.specs.Page.{end_to_end}
use Rattle.report.specs.Report.{verdict_at, lines_by, image_report, Inspects}
use Rattle.report.proofs.Visited.{verdict_read}
use Rattle.report.proofs.SameLines.{lines_same}
use Rattle.demands.specs.Demand2.{LaneLostAs, Turning}
use Rattle.demands.specs.StoredForm.{RowIn, Dead, LostWhole, StoredForm}
use Rattle.demands.proofs.Numbers.{visit_number}
use Rattle.demands.proofs.Demand2.{demand_2}
use Rattle.demands.proofs.Files.{accepted_lines}

-- ---- rows

module _ (image : List ℕ) (layout : Layout) (block : ℕ) where
  complemented_word : (p : ℕ) → RowIn image layout block p → get_or (complemented_image layout image) (index layout block p) 0
      ≡ complemented_in p (get_or image (index layout block p) 0)
  complemented_word zero r = absurd (omega (arith, r.first))
  complemented_word (suc k) r =
      let at = index layout block (suc k) in
      word_image layout image at (row_inside layout (length image) r.fits block (suc k) r.there r.first r.last)
      ∙ ap (λ (p : ℕ). complemented_in p (get_or image at 0)) (row_at_index layout (interleaved layout (length image) r.fits) block k r.last)

  formatted_word : {answer : Formatted} {after : List ℕ} → Formats image layout answer after → (p : ℕ) → RowIn image layout block p
      → get_or after (index layout block p) 0 ≡ mask p
  unfolding fresh_after
  formatted_word f zero r = absurd (omega (arith, r.first))
  formatted_word {after = after} f (suc k) r =
      let left : after ≡ fresh_image layout = f.leaves ∙ rw r.fits in
      ap (λ (l : List ℕ). get_or l (index layout block (suc k)) 0) left
      ∙ fresh_word_lem layout (image_layout layout (length image) r.fits) block r.there k r.last

-- ---- a dead block

-- lanes that are the same in every row have no sum, and are even
same_sum : (shape : Shape) (b : Bool) → sum (before shape) (λ p. b) ≡ 0
unfolding sum
same_sum One true = refl
same_sum One false = refl
same_sum Two true = refl
same_sum Two false = refl

same_even : (shape : Shape) (b : Bool) → odd (rows shape) (λ p. b) ≡ false
unfolding count bit
same_even One true = refl
same_even One false = refl
same_even Two true = refl
same_even Two false = refl

module _ (shape : Shape) (stored : List ℕ) (long : rows shape ≤ length stored) where
  lanes_same : (i : ℕ) → i < 32 → (b : Bool) → ((j : ℕ) → j < rows shape → lane i stored (suc j) ≡ b) → LaneLostAs even shape stored i
  lanes_same i h b same = (
    odd_complemented shape stored long i h ∙ ap (bit 0) (count_same (rows shape) (lane i stored) (λ p. b) same) ∙ same_even shape b,
    λ z.
        let three =
        sym z ∙ sum_complemented shape stored long i h
        ∙ ap (λ (s : ℕ). bit_xor s 3) (sum_same (before shape) (lane i stored) (λ p. b) (λ j l. same j (omega arith)) ∙ same_sum shape b) in
        let never : ◌≡◌ {A = ℕ} 0 3 = three in omega arith,
  )

  pub dead_lanes : Dead (rows shape) stored → (i : ℕ) → i < 32 → LaneLostAs even shape stored i
  dead_lanes dead i h =
      ⊎_elim (λ zeros. lanes_same i h false (λ j l. ap (bit i) (zeros j l) ∙ bit_zero i))
      (λ ones. lanes_same i h true (λ j l. ap (bit i) (ones j l) ∙ bit_ones i h))
      dead

  abbrev code : List ℕ
  code = complemented stored

  dead_even : Dead (rows shape) stored → lanes_lost_as shape code even ≡ 32
  unfolding lanes_lost_as total
  dead_even dead =
      total_same 32 _ (λ i. 1)
      (λ i h. ap (λ (b : Bool). pick b 1) ((kind_exactly (before shape) (lane i code) even).1 (dead_lanes dead i h)))

  dead_verdict : Dead (rows shape) stored → verdict_of shape code ≡ Lost 32 0
  unfolding verdict_of
  dead_verdict dead =
      let many = dead_even dead in
      let none : lanes_lost_as shape code beyond ≡ 0 = omega (arith, many, kinds_lost shape code, few_lost shape code) in
      let all : lanes_lost shape code ≡ 32 = omega (arith, many, none, kinds_lost shape code) in
      ap (λ (n : ℕ). verdict n (lanes_lost_as shape code) (bits_changed shape code (mended_block shape code))) all ∙ ap₂ Lost many none

-- ---- a block of an image

module _ (image : List ℕ) (layout : Layout) (block : ℕ) where
  dead_found : Dead (rows_of layout) (stored_rows layout block image) → verdict_of (shape_of layout) (gathered layout block image) ≡ Lost 32 0
  unfolding gathered
  dead_found =
      dead_verdict (shape_of layout) (stored_rows layout block image) (rw (length_rows layout block image) (rows_fit (shape_of layout)))

  pub dead_block : (answer : Answer) (after : List ℕ) → Fitting image → Dead (rows_of layout) (stored_rows layout block image)
      → Visits image layout block answer after
      → answer_number answer ≡ 0
      → LostWhole (answer_said answer) × (after ≡ image)
  unfolding visit_answer
  dead_block answer after fits dead v z =
      let e = visits_answer image layout block v in
      let passed = sym (visit_number image layout block) ∙ sym (ap answer_number e) ∙ z in
      let found : answer ≡ Ok (Lost 32 0) = e ∙ rw passed (ap Ok (dead_found dead)) in
      let said : answer_said answer ≡ said_of (Lost 32 0) = ap answer_said found in
      let says : (answer_said answer).verdict ≡ 3 = ap (λ (s : Said). s.verdict) said in (
        record { verdict = says; even = ap (λ (s : Said). s.count) said; beyond = ap (λ (s : Said). s.beyond) said },
        (demand_2.visit image layout block answer after fits v z).lost_unaltered says,
      )

  pub dead_block_read : (buffer : List ℕ) (answer : Answer) (kept filled : List ℕ) → Fitting image
      → Dead (rows_of layout) (stored_rows layout block image)
      → Reads image layout block buffer answer kept filled
      → answer_number answer ≡ 0
      → LostWhole (answer_said answer) × (filled ≡ buffer)
  dead_block_read buffer answer kept filled fits dead r z =
      let v = visits image layout block refl refl in
      let d = demand_2.read image layout block buffer answer kept filled fits r z _ _ v in
      let lost = (dead_block _ _ fits dead v (sym (ap answer_number d.same) ∙ z)).0 in
      let same = d.same in
      let whole : LostWhole (answer_said answer) = rw same lost in
      (whole, d.stays whole.verdict)

-- ---- a dead image

module _ (image : List ℕ) (layout : Layout) (dead : Dead (length image) image) where
  dead_fits : Fitting image
  dead_fits k =
      ⊎_elim
      (λ l. ⊎_elim (λ zeros. rw (zeros k l) (pow_pos 32)) (λ ones. rw (ones k l) (lit< tt)) dead)
      (λ l. rw (get_or-eq_default image 0 {n = k} l) (pow_pos 32))
      (split_below k (length image))

  module _ (block : ℕ) (passed : image_refusal (length image) layout ≡ 0) (there : block < blocks layout) where
    row_dead : (w : ℕ) → ((k : ℕ) → k < length image → get_or image k 0 ≡ w) → (k : ℕ) → k < rows_of layout → get_or (stored_rows layout block image) k 0 ≡ w
    row_dead w all k h =
        rows_row layout block image k h
        ∙ all (index layout block (suc k)) (row_inside layout (length image) passed block (suc k) there (omega arith) h)

    rows_dead : Dead (rows_of layout) (stored_rows layout block image)
    rows_dead = ⊎_elim (λ zeros. inl (row_dead 0 zeros)) (λ ones. inr (row_dead 0xFFFFFFFF ones)) dead

  -- of a block that a visit accepts
  found_dead : (block : ℕ) (answer : Answer) (after : List ℕ) → Visits image layout block answer after → answer_number answer ≡ 0
      → Dead (rows_of layout) (stored_rows layout block image)
  found_dead block answer after v z =
      let passed = sym (visit_number image layout block) ∙ sym (ap answer_number (visits_answer image layout block v)) ∙ z in
      rows_dead block (block_image layout (length image) block passed) (accepted layout (length image) block passed).inside

  dead_visit : (block : ℕ) (answer : Answer) (after : List ℕ) → Visits image layout block answer after → answer_number answer ≡ 0
      → LostWhole (answer_said answer) × (after ≡ image)
  dead_visit block answer after v z = dead_block image layout block answer after dead_fits (found_dead block answer after v z) v z

  dead_read : (block : ℕ) (buffer : List ℕ) (answer : Answer) (kept filled : List ℕ) → Reads image layout block buffer answer kept filled
      → answer_number answer ≡ 0
      → LostWhole (answer_said answer) × (filled ≡ buffer)
  dead_read block buffer answer kept filled r z =
      let v = visits image layout block refl refl in
      let same = (demand_2.read image layout block buffer answer kept filled dead_fits r z _ _ v).same in
      dead_block_read image layout block buffer answer kept filled dead_fits (found_dead block _ _ v (sym (ap answer_number same) ∙ z)) r z

module _ (r : Record) (image : List ℕ) (answer : Turned) (after : List ℕ) (dead : Dead (length image) image) (w : Turns r image answer after)
    (z : report_number answer.report ≡ 0) where
  abbrev between : List ℕ
  between = visit_after image r.layout r.rota.next

  passed_on : Turning r answer after (visit_answer image r.layout r.rota.next) between
  passed_on = demand_2.turn r image answer after w z _ _ (visits image r.layout r.rota.next refl refl)

  first_dead : LostWhole (answer_said (visit_answer image r.layout r.rota.next)) × (between ≡ image)
  first_dead = dead_visit image r.layout dead r.rota.next _ _ (visits image r.layout r.rota.next refl refl) passed_on.accepted

  asked_dead : (block : ℕ) (rest : List ℕ) → asks_of r.rota.line ≡ block ∷ rest → LostWhole (report_second answer.report).said × (after ≡ image)
  asked_dead block rest e =
      let still : Dead (length between) between = rw first_dead.1 dead in
      let v = visits between r.layout block refl refl in
      let a = passed_on.asked block rest e _ _ v in
      let lost = dead_visit between r.layout still block _ _ v a.0 in
      (rw a.1 lost.0, a.2 ∙ lost.1 ∙ first_dead.1)

  kept_dead : (asks : List ℕ) → asks_of r.rota.line ≡ asks → after ≡ image
  kept_dead [] e = (passed_on.alone e).1 ∙ first_dead.1
  kept_dead (block ∷ rest) e = (asked_dead block rest e).1

  dead_turn : LostWhole (report_first answer.report).said
      × ((block : ℕ) (rest : List ℕ) → asks_of r.rota.line ≡ block ∷ rest → LostWhole (report_second answer.report).said)
      × (after ≡ image)
  dead_turn = (rw passed_on.first first_dead.0, λ block rest e. (asked_dead block rest e).0, kept_dead (asks_of r.rota.line) refl)

-- ---- a dead file

dead_printed : (bytes out : List ℕ) (end : ℕ) (left : List ℕ) → version_in bytes ≡ 2 → Dead (length (words_in bytes)) (words_in bytes)
    → file_refusal bytes ≡ 0
    → Inspects bytes out end left
    → take end left ≡ end_to_end (lines_by (layout_in bytes) (λ block. Lost 32 0))
unfolding image_report
dead_printed bytes out end left version dead passed i =
    let layout = layout_in bytes in
    let held : image_in bytes ≡ words_in bytes = rw version in
    i.whole ∙ ap end_to_end (accepted_lines bytes passed)
    ∙ ap (λ (image : List ℕ). end_to_end (lines_by layout (verdict_at image layout))) held
    ∙ ap end_to_end
    (lines_same _ (λ block. Lost 32 0) layout
    (λ block there.
    verdict_read (words_in bytes) layout block
    ∙ dead_found (words_in bytes) layout block (rows_dead (words_in bytes) layout dead block (words_held bytes passed) there)))

pub stored_form : StoredForm
stored_form =
    record {
      inverse = complemented_twice;
      image_inverse = image_twice;
      rows_complemented = λ block k h l. row_complemented block k l ∙ ap (bit_xor (get_or block k 0)) (low k h);
      rows_kept = rest_complemented;
      image_complemented = λ image layout block p r h. complemented_word image layout block p r ∙ rw (le-leb p 2 h);
      image_kept = λ image layout block p r h. complemented_word image layout block p r ∙ word_kept p _ h;
      fresh_ones = λ image layout answer after f block p r h. formatted_word image layout block f p r ∙ rw (le-leb p 2 h);
      fresh_zeros = λ image layout answer after f block p r h. formatted_word image layout block f p r ∙ rw (lt-leb p 2 h);
      dead_lanes = dead_lanes;
      dead_block = dead_block;
      dead_block_read = dead_block_read;
      dead_visit = λ image layout block answer after dead. dead_visit image layout dead block answer after;
      dead_read = λ image layout block buffer answer kept filled dead. dead_read image layout dead block buffer answer kept filled;
      dead_turn = dead_turn;
      dead_printed = dead_printed;
    }
  where
    low : (k : ℕ) → k < 2 → mask (suc k) ≡ 0xFFFFFFFF
    low k h = rw (le-leb (suc k) 2 h)
