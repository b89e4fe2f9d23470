-- An image of zeros, as it is stored, is the fresh one. Assumes nothing.
use Prim.Native.Nat.{ℕ}
use mathlib.Core.Path.{◌≡◌, sym}
use mathlib.Core.List.{List}
use lib.ListN.{length, replicate, length-replicate}
use Rattle.std.specs.Prelude.{Ok, Err}
use Rattle.refusal.specs.declared.Refusal.{Refusal}
use Rattle.refusal.specs.Refusal.{number}
use Rattle.refusal.proofs.Answered.{number_some}
use Rattle.ground.proofs.Choices.{refused_kept}
use Rattle.layout.specs.declared.Layout.{Layout}
use Rattle.layout.specs.Refusal.{image_refusal}
use Rattle.layout.proofs.Ladder.{image_exact}
use Rattle.stored.specs.Stored.{ComplementsImage}
use Rattle.store.specs.Fresh.{fresh_after, Clears}
use Rattle.store.proofs.FreshBlocks.{fresh_stored}

module _ (image : List ℕ) (layout : Layout) where
  pub fresh_refused : {refusal : Refusal} → number refusal ≡ image_refusal (length image) layout → Clears image layout (Err refusal) image
  unfolding fresh_after
  fresh_refused {refusal} e = record { answers = e; leaves = rw (← e) (sym (refused_kept _ _ image (number_some refusal))) }

  pub fresh_made : 0 ≡ image_refusal (length image) layout → {filled after : List ℕ} → ComplementsImage filled layout after
      → filled ≡ replicate (length image) 0
      → Clears image layout (Ok tt) after
  unfolding fresh_after
  fresh_made passed complements e =
      let none = sym passed in
      let zeros : List ℕ = replicate (length image) 0 in
      let fits : image_refusal (length zeros) layout ≡ 0 = rw (length-replicate {A = ℕ} (length image) 0) none in
      record {
        answers = passed;
        leaves = rw (none, complements, e, fits, image_exact layout (length image) none) (fresh_stored layout);
      }
