-- An image of words is a memory of blocks: its lanes are the bits of each block, and a flip damages one of them. Assumes nothing.
use Prim.Native.Nat.{ℕ, suc, ◌≤◌, ◌<◌}
use mathlib.Core.Bool.{Bool}
use mathlib.Core.Path.{◌≡◌, refl, sym, ap, ◌∙◌}
use mathlib.Core.List.{List}
use mathlib.Core.Logic.{by_cases}
use native.Mathlib.Decide.{ℕ_discrete}
use native.Mathlib.Omega.{arith}
use lib.ListN.{length, replicate}
use Rattle.lane.specs.Bit.{◌⊕◌}
use Rattle.lane.specs.Lane.{diff, apart}
use Rattle.lane.proofs.Distance.{empty}
use Rattle.lane.proofs.Few.{count_single}
use Rattle.lane.proofs.Linear.{count_same}
use Rattle.shape.specs.declared.Shape.{Shape}
use Rattle.shape.specs.Shape.{before, rows, words}
use Rattle.sums.specs.Words.{lane}
use Rattle.block.specs.Block.{lanes_lost, mended_block, valid_block, data_of, Near, SameRows, Fitting}
use Rattle.block.proofs.Blocks.{near_none, near_rows, mended_fits}
use Rattle.shape.proofs.Sizes.{rows_fit}
use Rattle.block.proofs.ValidBlocks.{length_valid, valid_out, valid_fits, valid_is}
use Rattle.layout.specs.declared.Layout.{Layout}
use Rattle.layout.specs.Layout.{shape_of, blocks, index}
use Rattle.layout.specs.Refusal.{image_refusal}
use Rattle.layout.proofs.RowsInside.{interleaved, row_inside}
use Rattle.layout.proofs.Ladder.{image_layout, image_exact, block_accepted}
use Rattle.store.specs.Image.{gathered, placed}
use Rattle.store.specs.Fresh.{fresh_image}
use Rattle.store.specs.Visit.{visit_after}
use Rattle.store.proofs.After.{visit_untouched, visit_words_lem, visit_held}
use Rattle.store.proofs.Image.{length_gathered, same_bit, gathered_words, length_placed, placed_words, placed_untouched, gathered_placed}
use Rattle.rota.specs.Memory.{Memory}
use Rattle.demands.specs.Steps.{flipped}
use Rattle.demands.proofs.Index.{block_at, rows_past, only_at}
use Rattle.demands.proofs.SameBlocks.{same_apart, same_data}
use Rattle.store.proofs.FreshBlocks.{length_fresh, fresh_words, fresh_block}
use Rattle.demands.proofs.Flips.{length_flipped, flipped_words, other_bit}

-- two pairs of numbers are the same or not
pub pair? : (u v : ℕ × ℕ) → Dec (u ≡ v)
pair? u v =
    by_cases (ℕ_discrete u.0 v.0)
    (λ e.
    by_cases (ℕ_discrete u.1 v.1)
    (λ f. yes (λ i. (e i, f i)))
    (λ nf. no (λ p. nf (ap (λ (x : ℕ × ℕ). x.1) p))))
    (λ ne. no (λ p. ne (ap (λ (x : ℕ × ℕ). x.0) p)))

module _ (len : ℕ) (layout : Layout) (fits : image_refusal len layout ≡ 0) where
  abbrev shape : Shape
  shape = shape_of layout

  pub first : 1 ≤ layout.s
  first = interleaved layout len fits

  -- the image keeps its length, and its words are words
  pub record Sound (image : List ℕ) : Type 0 where
    pub size : length image ≡ len
    pub small : Fitting image

  -- a lane is a block and a bit; how far it is from the lane where the data is written
  abbrev pub OffBy : ℕ → List ℕ → ℕ × ℕ → List ℕ → Type 0
  OffBy k image u list =
      u.1 < 32 → apart (before shape) (lane u.1 (gathered layout u.0 image)) (lane u.1 (valid_block shape list)) ≤ k

  -- what a read finds: the lanes lost, and the data of the mended block
  abbrev pub found : ℕ → List ℕ → ℕ × List ℕ
  found block image =
      (lanes_lost shape (gathered layout block image), data_of shape (mended_block shape (gathered layout block image)))

  pub as_meant : (image : List ℕ) (u : ℕ × ℕ) (list : List ℕ) → SameRows shape (gathered layout u.0 image) (valid_block shape list) → OffBy 0 image u list
  as_meant image u list h l = omega (arith, same_apart shape (gathered layout u.0 image) (valid_block shape list) h u.1)

  -- where a block is gathered as before, its lanes are as far off as before
  pub unmoved : (k : ℕ) (image new : List ℕ) (u : ℕ × ℕ) (list : List ℕ) → gathered layout u.0 new ≡ gathered layout u.0 image
      → OffBy k image u list → OffBy k new u list
  unmoved k image new u list e off = rw e off

  -- ---- a block that is at most one flip off in each lane

  module _ (block : ℕ) (image list : List ℕ) (ok : Sound image) (off : (u : ℕ × ℕ) → u.0 ≡ block → OffBy 1 image u list) where
    abbrev here : List ℕ
    here = gathered layout block image

    long : rows shape ≤ length here
    long = rw (length_gathered layout block image) (rows_fit shape)

    near : Near shape here (valid_block shape list)
    near i h = off (block, i) refl h

    pub none_lost : lanes_lost shape here ≡ 0
    none_lost = near_none shape here long (valid_block shape list) (valid_is shape list) near

    pub mended_rows : SameRows shape (mended_block shape here) (valid_block shape list)
    mended_rows =
        near_rows shape here long (valid_block shape list) (valid_is shape list) near
        (mended_fits shape here (gathered_words layout block image ok.small))
        (valid_fits shape list)

    pub found_right : found block image ≡ (0, data_of shape (valid_block shape list))
    found_right = λ i. (none_lost i, same_data shape (mended_block shape here) (valid_block shape list) mended_rows i)

  -- ---- a flip

  module _ (at nth : ℕ) (image : List ℕ) (u : ℕ × ℕ) where
    -- a row of the lane is as it was, unless the flip is in that lane and that row
    row_kept : (k : ℕ) → k < rows shape → (u.0 ≡ block_at layout at → k ≡ rows_past layout at → u.1 ≡ nth → ⊥)
        → lane u.1 (gathered layout u.0 (flipped at nth image)) (suc k) ≡ lane u.1 (gathered layout u.0 image) (suc k)
    row_kept k h ne =
        same_bit layout u.0 u.1 (flipped at nth image) image k h
        (other_bit at nth image (index layout u.0 (suc k)) u.1
        (λ e f. let q = only_at layout first at u.0 k h e in ne q.0 q.1 f))

    pub flip_elsewhere : ((block_at layout at, nth) ≡ u → ⊥) → (list : List ℕ) (k : ℕ) → OffBy k image u list → OffBy k (flipped at nth image) u list
    flip_elsewhere ne list k off l =
        omega (
          arith,
          off l,
          count_same (rows shape)
              (diff (lane u.1 (gathered layout u.0 (flipped at nth image))) (lane u.1 (valid_block shape list)))
              (diff (lane u.1 (gathered layout u.0 image)) (lane u.1 (valid_block shape list)))
              (λ j h.
              ap (λ (b : Bool). b ⊕ lane u.1 (valid_block shape list) (suc j)) (row_kept j h (λ e r f. ne (λ i. (sym e i, sym f i))))),
        )

    pub flip_there : (list : List ℕ) → OffBy 0 image u list → OffBy 1 (flipped at nth image) u list
    flip_there list off l =
        count_single (rows shape) (diff (lane u.1 (gathered layout u.0 (flipped at nth image))) (lane u.1 (valid_block shape list)))
        (rows_past layout at)
        (λ j h ne.
        ap (λ (b : Bool). b ⊕ lane u.1 (valid_block shape list) (suc j)) (row_kept j h (λ e r f. ne r))
        ∙ empty (rows shape) (diff (lane u.1 (gathered layout u.0 image)) (lane u.1 (valid_block shape list))) (omega (arith, off l)) j h)

  -- ---- a fresh image

  pub fresh_sound : Sound (fresh_image layout)
  fresh_sound = record { size = length_fresh layout ∙ sym (image_exact layout len fits); small = fresh_words layout }

  -- ---- the memory

  abbrev pub image_memory : Memory (blocks layout)
  image_memory =
      record {
        State = List ℕ;
        Lane = ℕ × ℕ;
        Flip = ℕ × ℕ;
        Data = List ℕ;
        Answer = ℕ × List ℕ;
        block = λ u. u.0;
        lane = λ f. (block_at layout f.0, f.1);
        lane? = pair?;
        zeros = replicate (words shape) 0;
        fresh = fresh_image layout;
        visit = λ block image. visit_after image layout block;
        write = λ block list image. placed layout block (valid_block shape list) image;
        flip = λ f. flipped f.0 f.1;
        read = found;
        gives = λ list. (0, data_of shape (valid_block shape list));
        Good = Sound;
        fresh_good = fresh_sound;
        visit_good = λ block image ok.
            record { size = (visit_untouched image layout block).size ∙ ok.size; small = visit_words_lem image layout block ok.small };
        write_good = λ block list image ok.
            record {
              size = length_placed layout block (valid_block shape list) image ∙ ok.size;
              small = placed_words layout block (valid_block shape list) image (valid_fits shape list) ok.small;
            };
        flip_good = λ f image ok. record { size = length_flipped f.0 f.1 image ∙ ok.size; small = flipped_words f.0 f.1 image ok.small };
        Off = OffBy;
        off_more = λ image u list ok off l. omega (arith, off l);
        fresh_zeros = λ u l.
            as_meant (fresh_image layout) u (replicate (words shape) 0) (fresh_block layout (image_layout layout len fits) u.0 l);
        visit_here = λ block image list ok l off u e.
            as_meant (visit_after image layout block) u list
            (rw (e, visit_held image layout block (rw ok.size (block_accepted layout len block fits l))) (mended_rows block image list ok off));
        visit_away = λ block image u list ok ne k off.
            unmoved k image (visit_after image layout block) u list ((visit_untouched image layout block).others u.0 ne) off;
        write_here = λ block list image u ok l e.
            as_meant (placed layout block (valid_block shape list) image) u list
            (rw (
              e,
              gathered_placed layout block (first) (valid_block shape list) image
                  (λ p a b. rw ok.size (row_inside layout len fits block p l a b))
                  (length_valid shape list)
                  (valid_out shape list),
            )
            (λ j h. refl));
        write_away = λ block new image u list ok ne k off.
            unmoved k image (placed layout block (valid_block shape new) image) u list
            ((placed_untouched layout block (first) (valid_block shape new) image).others u.0 ne)
            off;
        flip_here = λ f image u list ok e off. flip_there f.0 f.1 image u list off;
        flip_away = λ f image u list ok ne k off. flip_elsewhere f.0 f.1 image u ne list k off;
        read_here = λ block image list ok l off. found_right block image list ok off;
      }
