-- Every block is valid after a format, and after a write where it was so before. Assumes nothing.
use Prim.Native.Nat.{ℕ}
use mathlib.Core.Path.{◌≡◌, sym, ap, subst, ◌∙◌}
use mathlib.Core.List.{List}
use mathlib.Core.Logic.{by_cases}
use native.Mathlib.Decide.{ℕ_discrete}
use native.Mathlib.Omega.{arith}
use lib.ListN.{length, replicate}
use Rattle.ground.proofs.Choices.{refused_kept}
use Rattle.lane.specs.Bit.{bit}
use Rattle.lane.proofs.Linear.{valid_same}
use Rattle.shape.specs.Shape.{before, words}
use Rattle.sums.specs.Words.{lane}
use Rattle.block.specs.Block.{Fitting, ValidBlock, valid_block}
use Rattle.block.proofs.ValidBlocks.{valid_is}
use Rattle.layout.specs.declared.Layout.{Layout}
use Rattle.layout.specs.Layout.{shape_of}
use Rattle.layout.specs.Refusal.{image_refusal}
use Rattle.layout.proofs.Ladder.{image_layout, image_exact}
use Rattle.store.specs.Answer.{Stored}
use Rattle.store.specs.Fresh.{fresh_image, fresh_after}
use Rattle.store.specs.Image.{gathered}
use Rattle.store.specs.Refusal.{data_refusal}
use Rattle.store.specs.Write.{Writes, write_after}
use Rattle.store.proofs.After.{write_words}
use Rattle.store.proofs.FreshBlocks.{length_fresh, fresh_words, fresh_block}
use Rattle.patrol.specs.Handed.{Formatted}
use Rattle.patrol.specs.Format.{Formats}
use Rattle.demands.specs.Burst.{AllValid}
use Rattle.demands.proofs.Demand2.{demand_2}

fresh_all : (layout : Layout) (len : ℕ) → image_refusal len layout ≡ 0 → AllValid layout (fresh_image layout)
unfolding gathered
fresh_all layout len fits =
    let shape = shape_of layout in
    let zeros : List ℕ = replicate (words shape) 0 in
    record {
      fits = rw (length_fresh layout, ← image_exact layout len fits) fits;
      words = fresh_words layout;
      valid = λ block inside i l.
          valid_same (before shape) (lane i (valid_block shape zeros)) (lane i (gathered layout block (fresh_image layout)))
          (λ j h. ap (bit i) (sym (fresh_block layout (image_layout layout len fits) block (omega (arith, inside)) j h)))
          (valid_is shape zeros i l);
    }

pub fresh_valid : (image : List ℕ) (layout : Layout) (answer : Formatted) (after : List ℕ) → Formats image layout answer after → answer.number ≡ 0
    → AllValid layout after
unfolding fresh_after
fresh_valid image layout answer after p z =
    let fits = sym p.number ∙ z in
    let made : fresh_after image layout ≡ fresh_image layout = rw fits in
    subst (AllValid layout) (sym (p.leaves ∙ made)) (fresh_all layout (length image) fits)

pub write_valid : (image : List ℕ) (layout : Layout) → AllValid layout image
    → (block : ℕ) (list : List ℕ) (answer : Stored) (after : List ℕ) → Fitting list → Writes image layout block list answer after
    → AllValid layout after
unfolding gathered write_after
write_valid image layout all block list answer after small p =
    by_cases (ℕ_discrete (data_refusal (length image) layout block (length list)) 0)
    (λ e.
    let writing = demand_2.write image layout block list answer after small p (p.answers.number ∙ e) in
    record {
      fits = rw writing.untouched.size all.fits;
      words = rw p.leaves (write_words image layout block list all.words);
      valid = λ other inside.
          by_cases (ℕ_discrete other block) (λ same. rw same writing.valid)
          (λ ne. subst (ValidBlock (shape_of layout)) (sym (writing.untouched.others other ne)) (all.valid other inside));
    })
    (λ ne.
    let stays : write_after image layout block list ≡ image = refused_kept (data_refusal (length image) layout block (length list)) _ image ne in
    subst (AllValid layout) (sym (p.leaves ∙ stays)) all)
