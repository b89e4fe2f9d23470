-- Demand 2 holds of write, read and visit, for every image and block. Assumes nothing.
use Prim.Native.Nat.{ℕ, ◌≤◌}
use mathlib.Core.Path.{◌≡◌, refl, sym, ap, ◌∙◌}
use mathlib.Core.List.{List}
use lib.ListN.{length}
use Rattle.ground.proofs.Choices.{refused_kept}
use Rattle.shape.specs.declared.Shape.{Shape}
use Rattle.shape.specs.Shape.{rows}
use Rattle.block.specs.Block.{data_of, lanes_lost, mended_block, Fitting}
use Rattle.block.specs.Verdict.{verdict_of}
use Rattle.shape.proofs.Sizes.{rows_fit}
use Rattle.block.proofs.ValidBlocks.{valid_is, holds_data, valid_only}
use Rattle.layout.specs.declared.Layout.{Layout}
use Rattle.layout.specs.Layout.{shape_of}
use Rattle.layout.specs.Refusal.{block_refusal}
use Rattle.store.specs.Answer.{Answer, Stored}
use Rattle.std.specs.Prelude.{Ok}
use Rattle.refusal.specs.Refusal.{answer_number}
use Rattle.stored.specs.Stored.{complemented}
use Rattle.stored.proofs.Forms.{complemented_fits, complemented_twice}
use Rattle.store.specs.Image.{stored_rows, gathered}
use Rattle.store.specs.Refusal.{data_refusal}
use Rattle.store.specs.Write.{write_after, Writes}
use Rattle.store.specs.Read.{read_answer, read_buffer, mended_data, Reads}
use Rattle.store.specs.Visit.{visit_answer, visit_after, Visits}
use Rattle.store.proofs.Promises.{writes_answer, reads_answer, visits_answer}
use Rattle.store.proofs.After.{visit_held, visit_words_lem, visit_untouched, write_held, write_untouched}
use Rattle.store.proofs.Image.{length_rows, rows_words, placed_gathered}
use Rattle.store.proofs.StoredBlocks.{data_stored, same_stored}
use Rattle.store.proofs.Ladder.{data_accepted}
use Rattle.demands.specs.Demand2.{Visiting, Writing, Reading, Demand2}
use Rattle.demands.proofs.Numbers.{write_number, read_number, visit_number}
use Rattle.demands.proofs.Turning.{passes_on}
use Rattle.demands.proofs.OneBlock.{mends, clean_same, lost_same, clean_numbers, kept_numbers}

module _ (image : List ℕ) (layout : Layout) (block : ℕ) where
  abbrev shape : Shape
  shape = shape_of layout

  -- the rows as they are stored, and the code's block
  abbrev stored : List ℕ
  stored = stored_rows layout block image

  abbrev found : List ℕ
  found = gathered layout block image

  long : rows shape ≤ length stored
  long = rw (length_rows layout block image) (rows_fit shape)

  -- a block that is left as it was leaves the image as it was
  unaltered : block_refusal (length image) layout block ≡ 0 → mended_block shape found ≡ found → visit_after image layout block ≡ image
  unfolding visit_after
  unaltered e same = rw (e, same) (placed_gathered layout block image)

  lost_left : (lanes_lost shape found ≡ 0 → ⊥) → mended_block shape found ≡ found
  unfolding mended_block
  lost_left some = refused_kept (lanes_lost shape found) _ found some

  says : block_refusal (length image) layout block ≡ 0 → visit_answer image layout block ≡ Ok (verdict_of shape found)
  unfolding visit_answer
  says e = rw e

  pub visit_mends : Fitting image → block_refusal (length image) layout block ≡ 0
      → Visiting image layout block (visit_answer image layout block) (visit_after image layout block)
  unfolding gathered
  visit_mends fits e =
      let small = rows_words layout block image fits in
      let left : stored_rows layout block (visit_after image layout block) ≡ complemented (mended_block shape found) =
      sym (complemented_twice (stored_rows layout block (visit_after image layout block))) ∙ ap complemented (visit_held image layout block e) in
      rw (says e)
      (record {
        mends = rw left (mends shape stored small long);
        lost_unaltered = λ l. unaltered e (lost_left (lost_same shape stored small long l));
        clean_unaltered = λ c. let z = clean_numbers shape stored small long c in unaltered e (clean_same shape stored small long z.0 z.1);
        untouched = visit_untouched image layout block;
        words = visit_words_lem image layout block fits;
      })

  pub write_stores : (list : List ℕ) → Fitting list → data_refusal (length image) layout block (length list) ≡ 0
      → Writing image layout block list (write_after image layout block list)
  unfolding gathered
  write_stores list fits e =
      let exact = (data_accepted (length image) layout block (length list) e).1 in
      let after = stored_rows layout block (write_after image layout block list) in
      let held = write_held image layout block list e in
      let whole : rows shape ≤ length after = rw (length_rows layout block (write_after image layout block list)) (rows_fit shape) in
      record {
        valid = rw held (valid_is shape list);
        holds = sym (data_stored shape after) ∙ rw held (holds_data shape list fits exact);
        only = λ other tall small v d.
            same_stored shape other after tall whole
            (rw held (valid_only shape list fits (complemented other) (complemented_fits other small) v exact (data_stored shape other ∙ d)));
        untouched = write_untouched image layout block list;
      }

  pub read_mends : Fitting image → (buffer : List ℕ) → data_refusal (length image) layout block (length buffer) ≡ 0
      → Reading layout block buffer (read_answer image layout block buffer) (read_buffer image layout block buffer)
      (visit_answer image layout block)
      (visit_after image layout block)
  unfolding read_answer read_buffer mended_data gathered
  read_mends fits buffer e =
      let small = rows_words layout block image fits in
      let v = (data_accepted (length image) layout block (length buffer) e).0 in
      let after = stored_rows layout block (visit_after image layout block) in
      rw (e, says v)
      (record {
        same = refl;
        mended = λ ne. rw (kept_numbers shape stored small long ne) (ap (data_of shape) (sym (visit_held image layout block v)) ∙ data_stored shape after);
        stays = λ l. refused_kept (lanes_lost shape found) (data_of shape (mended_block shape found)) buffer (lost_same shape stored small long l);
      })

-- what a promise allows is what the call answers and leaves; a call that answers number 0 was not refused
module _ (image : List ℕ) (layout : Layout) (block : ℕ) where
  visit_allowed : (answer : Answer) (after : List ℕ) → Fitting image → Visits image layout block answer after → answer_number answer ≡ 0
      → Visiting image layout block answer after
  visit_allowed answer after fits p z =
      let e = visits_answer image layout block p in
      rw (e, p.leaves) (visit_mends image layout block fits (sym (visit_number image layout block) ∙ sym (ap answer_number e) ∙ z))

  write_allowed : (list : List ℕ) (answer : Stored) (after : List ℕ) → Fitting list → Writes image layout block list answer after → answer_number answer ≡ 0
      → Writing image layout block list after
  write_allowed list answer after fits p z =
      let e = writes_answer image layout block list p in
      rw p.leaves (write_stores image layout block list fits (sym (write_number image layout block list) ∙ sym (ap answer_number e) ∙ z))

  read_allowed : (buffer : List ℕ) (answer : Answer) (kept filled : List ℕ) → Fitting image → Reads image layout block buffer answer kept filled
      → answer_number answer ≡ 0
      → (visited : Answer) (after : List ℕ) → Visits image layout block visited after
      → Reading layout block buffer answer filled visited after
  read_allowed buffer answer kept filled fits p z visited after q =
      let e = reads_answer image layout block buffer p in
      rw (e, p.leaves, visits_answer image layout block q, q.leaves)
      (read_mends image layout block fits buffer (sym (read_number image layout block buffer) ∙ sym (ap answer_number e) ∙ z))

pub demand_2 : Demand2
demand_2 =
    record {
      visit = visit_allowed;
      write = write_allowed;
      read = read_allowed;
      turn = passes_on;
      read_leaves = λ image layout block buffer answer kept filled p. p.keeps;
    }
