-- Demand 3, c: the memory's reads are right where its flips lie apart, and the store's reads are those. Assumes nothing.
use Prim.Native.Nat.{ℕ}
use mathlib.Core.Path.{◌≡◌, sym, ap, ap₂, ◌∙◌, subst}
use mathlib.Core.List.{List, [], ◌∷◌, ◌++◌, append_assoc}
use lib.ListN.{length, replicate, length-replicate}
use Rattle.block.specs.Block.{lanes_lost, mended_block, valid_block, data_of}
use Rattle.block.specs.Verdict.{verdict_of}
use Rattle.block.proofs.ValidBlocks.{holds_data}
use Rattle.layout.specs.declared.Layout.{Layout}
use Rattle.layout.specs.Layout.{shape_of, words_of}
use Rattle.layout.specs.Refusal.{image_refusal, block_refusal}
use Rattle.layout.proofs.Ladder.{block_image, accepted}
use Rattle.refusal.specs.Refusal.{answer_number}
use Rattle.store.specs.Image.{gathered}
use Rattle.store.specs.Read.{read_answer, read_buffer, mended_data}
use Rattle.store.specs.Refusal.{data_refusal}
use Rattle.store.proofs.Ladder.{data_accepted}
use Rattle.store.proofs.Promises.{reads_answer}
use Rattle.rota.specs.Patrol.{memory_run, memory_at}
use Rattle.rota.specs.Steps.{other}
use Rattle.rota.specs.Touches.{read as reads}
use Rattle.rota.proofs.Patrol.{read_right}
use Rattle.demands.specs.Steps.{Step, write, read, fresh, last_written}
use Rattle.demands.specs.Demand2.{SaysLost}
use Rattle.demands.specs.Demand3.{WordsWritten, store, NotFormatted, OneLayout, FlipsSpaced, ReadsRight}
use Rattle.demands.proofs.Numbers.{read_number}
use Rattle.block.proofs.Told.{three_lost}
use Rattle.store.proofs.FreshBlocks.{zeros_fit}
use Rattle.demands.proofs.Lasting.{store_size, front_none}
use Rattle.demands.proofs.ImageMemory.{found}
use Rattle.demands.proofs.Parts.{Part, calls, all_parts, parts_append, parts_written}
use Rattle.demands.proofs.Simulated.{LayoutFrom, memory, run_image}
use Rattle.demands.proofs.Order.{parts_of, fresh_image_lem, fresh_rota, fresh_stays, some_blocks}
use Rattle.demands.proofs.Spaced.{parts_spaced}
use Rattle.demands.proofs.Written.{DataOf, written_data}

-- ---- a read that is accepted, of a block with no lane lost

module _ (image : List ℕ) (layout : Layout) (block : ℕ) (buffer : List ℕ)
    (passed : data_refusal (length image) layout block (length buffer) ≡ 0)
    (kept : lanes_lost (shape_of layout) (gathered layout block image) ≡ 0) where
  says_kept : SaysLost (read_answer image layout block buffer) → ⊥
  unfolding read_answer verdict_of
  says_kept e = three_lost _ (lanes_lost (shape_of layout) (gathered layout block image)) _ (rw passed at e) kept

  leaves_data : read_buffer image layout block buffer ≡ data_of (shape_of layout) (mended_block (shape_of layout) (gathered layout block image))
  unfolding read_buffer mended_data
  leaves_data = rw (passed, kept)

-- ---- what holds of all the steps holds of the first of them

layout_front : (image : List ℕ) (layout : Layout) (before rest : List Step) (step : Step) → OneLayout image layout (before ++ step ∷ rest)
    → LayoutFrom layout (fresh image layout) before
layout_front image layout before rest step one front tail next e =
    one front (tail ++ step ∷ rest) next (ap (λ (l : List Step). l ++ step ∷ rest) e ∙ append_assoc front (next ∷ tail) (step ∷ rest))

words_front : (before rest : List Step) (step : Step) → WordsWritten (before ++ step ∷ rest) → WordsWritten before
words_front before rest step words front tail layout block list e =
    words front (tail ++ step ∷ rest) layout block list
    (ap (λ (l : List Step). l ++ step ∷ rest) e ∙ append_assoc front (write layout block list ∷ tail) (step ∷ rest))

-- ---- a read with the store's layout

module _ (image : List ℕ) (layout : Layout) (before rest : List Step) (block : ℕ) (buffer : List ℕ)
    (one : OneLayout image layout (before ++ read layout block buffer ∷ rest))
    (words : WordsWritten (before ++ read layout block buffer ∷ rest))
    (spaced : FlipsSpaced image layout (before ++ read layout block buffer ∷ rest))
    (none : NotFormatted image layout (before ++ read layout block buffer ∷ rest))
    (passed : data_refusal (length (store image layout before).image) layout block (length buffer) ≡ 0) where
  abbrev last : List ℕ
  last = last_written block (replicate (words_of layout) 0) before (fresh image layout)

  layout_before : LayoutFrom layout (fresh image layout) before
  layout_before = layout_front image layout before rest (read layout block buffer) one

  none_before : NotFormatted image layout before
  none_before = front_none (fresh image layout) before (read layout block buffer ∷ rest) none

  last_data : DataOf layout last
  last_data =
      written_data layout block before (replicate (words_of layout) 0) (fresh image layout) layout_before
      (words_front before rest (read layout block buffer) words)
      (record { exact = length-replicate (words_of layout) 0; small = zeros_fit (words_of layout) })

  -- the length of the image has not changed, so that the format was accepted too
  block_passed : block_refusal (length image) layout block ≡ 0
  block_passed = (data_accepted (length image) layout block (length buffer) (rw (← store_size image layout before) passed)).0

  fits : image_refusal (length image) layout ≡ 0
  fits = block_image layout (length image) block block_passed

  -- the image is that of the memory, and the read is one of its reads
  memory_is : (store image layout before).image ≡ memory_at (memory (length image) layout fits) (parts_of image layout before)
  memory_is =
      run_image (length image) layout fits before (fresh image layout) none_before (fresh_stays image layout fits) layout_before
      ∙ ap₂ (memory_run (memory (length image) layout fits) (parts_of image layout before)) (fresh_rota image layout fits) (fresh_image_lem image layout fits)

  later : List Part
  later = all_parts rest (store image layout before)

  read_part : parts_of image layout (before ++ read layout block buffer ∷ rest) ≡ parts_of image layout before ++ other (reads block) ∷ later
  unfolding all_parts later
  read_part =
      parts_append before (read layout block buffer ∷ rest) (fresh image layout)
      ∙ ap (λ (number : ℕ). parts_of image layout before ++ (calls number (reads block ∷ []) ++ all_parts rest (store image layout before)))
      (read_number (store image layout before).image layout block buffer ∙ passed)

  found_last : found (length image) layout fits block (store image layout before).image ≡ (0, data_of (shape_of layout) (valid_block (shape_of layout) last))
  found_last =
      ap (found (length image) layout fits block) memory_is
      ∙ read_right (memory (length image) layout fits) (some_blocks image layout fits)
      (parts_of image layout (before ++ read layout block buffer ∷ rest))
      (parts_spaced image layout fits (before ++ read layout block buffer ∷ rest) spaced)
      (parts_of image layout before)
      later
      block
      read_part
      (accepted layout (length image) block block_passed).inside
      ∙ ap (λ (list : List ℕ). (0, data_of (shape_of layout) (valid_block (shape_of layout) list)))
      (parts_written block before (replicate (words_of layout) 0) (fresh image layout))

  right : (SaysLost (read_answer (store image layout before).image layout block buffer) → ⊥)
      × (read_buffer (store image layout before).image layout block buffer ≡ last)
  right =
      let kept = ap (λ (x : ℕ × List ℕ). x.0) found_last in (
        says_kept (store image layout before).image layout block buffer passed kept,
        leaves_data (store image layout before).image layout block buffer passed kept
            ∙ ap (λ (x : ℕ × List ℕ). x.1) found_last
            ∙ holds_data (shape_of layout) last last_data.small last_data.exact,
      )

-- ---- a read with any layout

-- what is right of a read with the store's layout, of a read with another
abbrev Right : List ℕ → Layout → List Step → List Step → ℕ → List ℕ → Layout → Type 0
Right image layout before rest block buffer named =
    OneLayout image layout (before ++ read named block buffer ∷ rest)
    → WordsWritten (before ++ read named block buffer ∷ rest)
    → FlipsSpaced image layout (before ++ read named block buffer ∷ rest)
    → NotFormatted image layout (before ++ read named block buffer ∷ rest)
    → data_refusal (length (store image layout before).image) named block (length buffer) ≡ 0
    → (SaysLost (read_answer (store image layout before).image named block buffer) → ⊥)
    × (read_buffer (store image layout before).image named block buffer ≡ last_written block (replicate (words_of layout) 0) before (fresh image layout))

pub reads_right : (image : List ℕ) (layout : Layout) → ReadsRight image layout
reads_right image layout steps one words spaced none before rest named block buffer e answer kept left promise accepted =
    let given = reads_answer _ _ _ _ promise in
    let number = sym (ap answer_number given) ∙ accepted in
    let same = one before rest (read named block buffer) e number in
    let passed = sym (read_number (store image layout before).image named block buffer) ∙ number in
    let any = subst (λ (other : Layout). Right image layout before rest block buffer other) (sym same) (right image layout before rest block buffer) in
    let both = any (rw e at one) (rw e at words) (rw e at spaced) (rw e at none) passed in
    (λ lost. both.0 (subst SaysLost given lost), promise.leaves ∙ both.1)
