-- What a call that has its place answers and leaves, from what its steps gave: the rows gathered, the verdict, the rows scattered. Assumes nothing.
use Prim.Native.Nat.{ℕ}
use mathlib.Core.Path.{◌≡◌, refl, sym, ap, ap₂, ◌∙◌}
use mathlib.Core.List.{List}
use native.Mathlib.Omega.{arith}
use lib.ListN.{length, get_or}
use Rattle.shape.specs.declared.Shape.{Shape}
use Rattle.block.specs.declared.Verdict.{Verdict}
use Rattle.block.specs.declared.Verdict.TheVariants.{Clean, Lost}
use Rattle.shape.specs.Shape.{words, data_rows_of}
use Rattle.sums.specs.Words.{row}
use Rattle.ground.proofs.Stores.{length_stores, stores_hit}
use Rattle.block.specs.Block.{valid_block, mended_block, data_into, data_of}
use Rattle.block.specs.Verdict.{verdict_of}
use Rattle.ground.proofs.Lists.{list_is}
use Rattle.std.specs.Prelude.{Ok, Err}
use Rattle.refusal.specs.declared.Refusal.{Refusal}
use Rattle.refusal.specs.Refusal.{number}
use Rattle.refusal.proofs.Answered.{number_some}
use Rattle.store.specs.Answer.{Answer, verdict_in}
use Rattle.store.specs.Inner.{taken, put}
use Rattle.store.specs.Image.{gathered, placed}
use Rattle.store.specs.Write.{write_answer, write_after, Writes}
use Rattle.store.specs.Read.{read_answer, read_buffer, mended_data, Reads}
use Rattle.layout.specs.declared.Layout.{Layout}
use Rattle.layout.specs.declared.Site.{Site}
use Rattle.layout.specs.Layout.{shape_of}
use Rattle.layout.specs.Refusal.{block_refusal}
use Rattle.layout.proofs.Sites.{Located}
use Rattle.store.specs.Refusal.{data_refusal}
use Rattle.store.specs.Visit.{visit_answer, visit_after, Visits, VisitsAccepted}
use Rattle.ground.proofs.Choices.{refused_kept}
use Rattle.store.proofs.Answers.{refused_answer}
use Rattle.store.proofs.Promises.{writes, reads, visits, visits_answer, visits_accepted}
use Rattle.store.proofs.Image.{gathered_stride, placed_stride}
use Rattle.store.proofs.Located.{list_fits}
use Rattle.store.proofs.Strides.{left, read_long}
use Rattle.block.proofs.Told.{NotLost, lost_some, not_lost, not_mended}

-- a buffer of the exact length holds the data words alone
data_fills : (shape : Shape) (block buffer : List ℕ) → length buffer ≡ words shape → data_into shape block buffer ≡ data_of shape block
unfolding data_into data_of
data_fills shape block buffer fits =
    list_is (words shape) _ (λ k. row (get_or (data_rows_of shape) k 0) block) (length_stores buffer (λ k. k) _ (words shape) ∙ fits)
    (λ k h. stores_hit buffer (λ k. k) (λ k. row (get_or (data_rows_of shape) k 0) block) k (words shape) (λ j l e. e) h (omega arith))

-- ---- refused: what was lent stays

module _ (image : List ℕ) (layout : Layout) (block : ℕ) (refusal : Refusal) where
  pub write_refused : (list : List ℕ) → data_refusal (length image) layout block (length list) ≡ number refusal
      → Writes image layout block list (Err refusal) image
  unfolding write_answer write_after
  write_refused list e = writes _ _ _ _ (rw e (refused_answer refusal tt)) (rw e (sym (refused_kept _ _ image (number_some refusal))))

  pub read_refused : (buffer : List ℕ) → data_refusal (length image) layout block (length buffer) ≡ number refusal
      → Reads image layout block buffer (Err refusal) image buffer
  unfolding read_answer read_buffer
  read_refused buffer e = reads _ _ _ _ (rw e (refused_answer refusal _)) (rw e (sym (refused_kept _ _ buffer (number_some refusal))))

  pub visit_refused : block_refusal (length image) layout block ≡ number refusal → Visits image layout block (Err refusal) image
  unfolding visit_answer visit_after
  visit_refused e = visits _ _ _ (rw e (refused_answer refusal _)) (rw e (sym (refused_kept _ _ image (number_some refusal))))

-- ---- accepted: from what the steps gave

module _ (image : List ℕ) {layout : Layout} {block : ℕ} {site : Site} (there : Located (length image) layout block site) where
  abbrev held : List ℕ
  held = taken site.shape image site.at site.s

  -- the rows that are gathered are the block, and those that are scattered lie where it does
  whole : held ≡ gathered layout block image
  whole = rw (there.first, there.same_shape, there.step) (gathered_stride layout block image)

  scattered : (given : List ℕ) → put site.shape image site.at site.s given ≡ placed layout block given image
  scattered given = rw (there.first, there.same_shape, there.step) (placed_stride layout block given image)

  pub write_stored : (list valid after : List ℕ) → length list ≡ words site.shape → valid ≡ valid_block site.shape list
      → after ≡ put site.shape image site.at site.s valid
      → Writes image layout block list (Ok tt) after
  unfolding write_answer write_after
  write_stored list valid after fits e w =
      let none = list_fits (length image) layout block there (length list) fits in
      writes _ _ _ _ (rw none refl) (rw (none, w, scattered valid, e, there.same_shape) refl)

  module _ (v : Verdict) (says : v ≡ verdict_of site.shape held) where
    judged : v ≡ verdict_of (shape_of layout) (gathered layout block image)
    judged = says ∙ ap₂ verdict_of there.same_shape whole

    mends : mended_block site.shape held ≡ mended_block (shape_of layout) (gathered layout block image)
    mends = ap₂ mended_block there.same_shape whole

    pub visit_found : (after : List ℕ) → after ≡ put site.shape image site.at site.s (mended_block site.shape held) → Visits image layout block (Ok v) after
    unfolding visit_answer visit_after
    visit_found after w =
        visits _ _ _ (rw there.passed (ap Ok judged))
        (rw there.passed (w ∙ scattered (mended_block site.shape held) ∙ ap (λ (l : List ℕ). placed layout block l image) mends))

    module _ (buffer : List ℕ) (fits : length buffer ≡ words site.shape) where
      none : data_refusal (length image) layout block (length buffer) ≡ 0
      none = list_fits (length image) layout block there (length buffer) fits

      read_answer_lem : Ok v ≡ read_answer image layout block buffer
      unfolding read_answer
      read_answer_lem = rw none (ap Ok judged)

      pub read_lost : (e b : ℕ) → v ≡ Lost e b → Reads image layout block buffer (Ok v) image buffer
      unfolding read_buffer mended_data
      read_lost e b l =
          reads _ _ _ _ read_answer_lem
          (rw none (sym (refused_kept _ _ buffer (lost_some (shape_of layout) (gathered layout block image) v judged e b l))))

      pub read_data : NotLost v → (mended after : List ℕ) → mended ≡ mended_block site.shape held → after ≡ data_into site.shape mended buffer
          → Reads image layout block buffer (Ok v) image after
      unfolding read_buffer mended_data
      read_data keys mended after e a =
          reads _ _ _ _ read_answer_lem
          (rw (none, not_lost (shape_of layout) (gathered layout block image) v judged keys)
          (a ∙ data_fills site.shape mended buffer fits ∙ ap₂ data_of there.same_shape (e ∙ mends)))

  -- the data of a valid block are read where they lie
  pub read_clean : Clean ≡ verdict_of site.shape held → (buffer after : List ℕ) → length buffer ≡ words site.shape
      → after ≡ data_into site.shape held buffer
      → Reads image layout block buffer (Ok Clean) image after
  read_clean says buffer after fits e =
      read_data Clean says buffer fits (λ e b w. cc) _ after
      (sym (not_mended site.shape held Clean says (read_long image site.shape site.at site.s) (λ n w. cc))) e

  -- a valid block is left where it lies
  pub visit_clean : Clean ≡ verdict_of site.shape held → Visits image layout block (Ok Clean) image
  visit_clean says = visit_found Clean says image (left image site.shape site.at site.s Clean says (λ n w. cc))

-- a visit for a caller who wants its verdict alone
pub accepts : {image : List ℕ} {layout : Layout} {block : ℕ} {answer : Answer} {after : List ℕ} → Visits image layout block answer after
    → VisitsAccepted image layout block (verdict_in answer) after
accepts visited = visits_accepted _ _ _ (ap verdict_in (visits_answer _ _ _ visited)) visited.leaves
