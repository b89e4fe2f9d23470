-- Rows a stride apart: what is read is what lies there, and mended rows are written back as a visit leaves them. Assumes nothing.
use Prim.Native.Nat.{ℕ, suc, ◌+◌, ◌*◌, ◌≤◌, ◌<◌}
use mathlib.Core.Path.{◌≡◌, sym, ap, ◌∙◌}
use mathlib.Core.List.{List}
use native.Mathlib.Omega.{arith}
use lib.ListN.{length, get_or}
use Rattle.shape.specs.declared.Shape.{Shape}
use Rattle.block.specs.declared.Verdict.{Verdict}
use Rattle.block.specs.declared.Verdict.TheVariants.{Clean}
use Rattle.shape.specs.Shape.{before, rows}
use Rattle.ground.proofs.Stores.{length_stores, stores_hit, stores_same}
use Rattle.ground.proofs.Lists.{get_or_list_of}
use Rattle.ground.specs.Choice.{if_zero}
use Rattle.block.specs.Block.{blank, lanes_lost, mended_lanes, mended_block, SameRows, data_into}
use Rattle.block.specs.Verdict.{verdict_of}
use Rattle.stored.specs.Stored.{complemented_in, complemented}
use Rattle.stored.proofs.Forms.{length_complemented, row_complemented, complemented_twice}
use Rattle.sums.specs.declared.Finding.{Finding}
use Rattle.sums.specs.declared.Finding.TheVariants.{Clean as NoDoubt}
use Rattle.sums.specs.Sums.{lying, sums_of, Looks}
use Rattle.sums.proofs.Doubt.{clean_found, else_found}
use Rattle.sums.proofs.Lying.{length_lying}
use Rattle.block.specs.Sums.{CopiesData, Decides, MendsLanes}
use Rattle.shape.proofs.Sizes.{rows_fit, before_lt}
use Rattle.block.proofs.Blocks.{length_mended, mended_kept}
use Rattle.block.proofs.Decided.{decided, lanes_mended, clean_verdict}
use Rattle.block.proofs.Alike.{sums_alike, doubt_alike, data_alike}
use Rattle.store.specs.Inner.{Inside, stride_read, stride_write, taken, put}
use Rattle.block.proofs.Told.{NotMended, not_mended}
use Rattle.store.proofs.StoredBlocks.{copied_stored}

module _ (image : List ℕ) (shape : Shape) (at s : ℕ) where
  -- the rows as they are stored
  abbrev lain : List ℕ
  lain = stride_read image at s blank (rows shape)

  lain_size : length lain ≡ 72
  unfolding stride_read
  lain_size = length_stores blank (λ k. k) (λ k. get_or image (at + k * s) 0) (rows shape)

  read_size : length (taken shape image at s) ≡ 72
  read_size = length_complemented lain ∙ lain_size

  pub read_long : rows shape ≤ length (taken shape image at s)
  read_long = rw read_size (rows_fit shape)

  lain_row : (k : ℕ) → k < rows shape → get_or lain k 0 ≡ get_or image (at + k * s) 0
  unfolding stride_read
  lain_row k h =
      stores_hit blank (λ k. k) (λ k. get_or image (at + k * s) 0) k (rows shape) (λ j l e. e) h (omega (arith, rows_fit shape))

  -- rows that are not mended are left as they are
  pub left : (v : Verdict) → v ≡ verdict_of shape (taken shape image at s) → NotMended v
      → image ≡ put shape image at s (mended_block shape (taken shape image at s))
  unfolding stride_write
  left v says keys =
      rw (not_mended shape (taken shape image at s) v says read_long keys, complemented_twice lain)
      (sym (stores_same image (λ k. at + k * s) (λ k. get_or lain k 0) (rows shape) lain_row))

  -- what is decided and mended of the rows that are read, by their sums
  module _ {sums : List ℕ} (are : sums ≡ sums_of shape (taken shape image at s)) where
    pub decided_there : {v : Verdict} → Decides shape sums v → v ≡ verdict_of shape (taken shape image at s)
    decided_there says = decided shape (taken shape image at s) read_long are says

    pub mended_there : {gathered mended : List ℕ} → gathered ≡ taken shape image at s → MendsLanes shape gathered sums mended
        → mended ≡ mended_lanes shape (taken shape image at s)
    mended_there took leaves = lanes_mended shape (taken shape image at s) are (rw took at leaves)

  -- where no lane is lost, the rows that are taken out are the block mended
  pub mended_whole : {mended : List ℕ} → lanes_lost shape (taken shape image at s) ≡ 0
      → mended ≡ if_zero (lanes_lost shape (taken shape image at s)) (mended_lanes shape (taken shape image at s)) blank
      → mended ≡ mended_block shape (taken shape image at s)
  mended_whole none e =
      e
      ∙ ap (λ (n : ℕ). if_zero n (mended_lanes shape (taken shape image at s)) blank) none
      ∙ sym (mended_kept shape (taken shape image at s) none)

  pub mended_size : {mended : List ℕ} → mended ≡ mended_block shape (taken shape image at s) → length mended ≡ 72
  mended_size e = ap length e ∙ length_mended shape (taken shape image at s) ∙ read_size

  -- the rows that lie there are those that are read, and so are the code's
  lying_row : SameRows shape (lying shape image at s) lain
  unfolding lying
  lying_row k h = get_or_list_of (rows shape) (λ k. get_or image (at + k * s) 0) k h ∙ sym (lain_row k h)

  code_row : SameRows shape (complemented (lying shape image at s)) (taken shape image at s)
  code_row k h =
      row_complemented (lying shape image at s) k (omega (arith, length_lying shape image at s)) ∙ ap (complemented_in (suc k)) (lying_row k h)
      ∙ sym (row_complemented lain k (omega (arith, lain_size, rows_fit shape)))

  module _ (inside : Inside (length image) (rows shape) at s) where
    room : at + before shape * s < length image
    room = inside.1 (before shape) (omega arith)

    -- where no lane is doubtful the block is clean
    pub clean_there : {lent after : List ℕ} → Looks shape image at s lent NoDoubt after → Clean ≡ verdict_of shape (taken shape image at s)
    clean_there looked =
        clean_verdict shape (taken shape image at s) read_long
        (sym (doubt_alike shape (complemented (lying shape image at s)) (taken shape image at s) code_row) ∙ clean_found shape image at s room looked)

    -- and where one is the sums kept are those of the rows that are read
    pub sums_there : {lent after : List ℕ} {found : Finding} → Looks shape image at s lent found after → (found ≡ NoDoubt → ⊥)
        → after ≡ sums_of shape (taken shape image at s)
    sums_there looked some =
        (else_found shape image at s room looked some).1
        ∙ sums_alike shape (complemented (lying shape image at s)) (taken shape image at s) code_row

    -- the data words that lie there are those of the rows that are read
    pub data_there : {buffer copied : List ℕ} → CopiesData shape image at s buffer copied
        → copied ≡ data_into shape (taken shape image at s) buffer
    data_there {buffer = buffer} copies =
        copies.there room ∙ data_alike shape (lying shape image at s) lain lying_row buffer ∙ sym (copied_stored shape lain buffer)

-- a gathered block lies in itself
pub data_gathered : (shape : Shape) {block buffer copied : List ℕ} → length block ≡ 72 → CopiesData shape block 0 1 buffer copied
    → copied ≡ data_into shape block buffer
data_gathered shape {block = block} {buffer = buffer} long copies =
    copies.there (omega (arith, before_lt shape))
    ∙ data_alike shape (lying shape block 0 1) block same buffer
  where
    same : SameRows shape (lying shape block 0 1) block
    same k h =
        unfold lying in
        (get_or_list_of (rows shape) (λ k. get_or block (0 + k * 1) 0) k h ∙ ap (λ (j : ℕ). get_or block j 0) (let e : 0 + k * 1 ≡ k = omega arith in e))
