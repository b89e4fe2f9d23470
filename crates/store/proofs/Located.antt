-- What the site of a block tells of its rows, and of the list of data words or the buffer. Assumes nothing.
use Prim.Native.Nat.{ℕ, ◌^◌, ◌<◌}
use mathlib.Core.Path.{◌≡◌}
use native.Mathlib.Nat.{mul-le-mul_right}
use native.Mathlib.Omega.{arith}
use borrow.Author.Tests.{eq-eqb, ne_eqb}
use Rattle.std.specs.Prelude.{Err}
use Rattle.refusal.specs.declared.Refusal.{Refusal}
use Rattle.refusal.specs.Refusal.{number}
use Rattle.refusal.proofs.Answered.{number_some}
use Rattle.shape.specs.Shape.{rows, words}
use Rattle.shape.proofs.Sizes.{rows_fit}
use Rattle.ground.proofs.Ladder.{then_first}
use Rattle.layout.specs.declared.Layout.{Layout}
use Rattle.layout.specs.declared.Site.{Site}
use Rattle.layout.specs.Layout.{shape_of, blocks}
use Rattle.layout.specs.Site.{Locates}
use Rattle.layout.proofs.Ladder.{accepted}
use Rattle.layout.proofs.Sites.{Located, refused, rows_inside}
use Rattle.store.specs.Refusal.{list_rung, data_refusal}
use Rattle.store.specs.Inner.{Inside}

module _ (len : ℕ) (layout : Layout) (block : ℕ) where
  -- a refusal stands, whatever the list's length
  pub data_refused : {refusal : Refusal} (list : ℕ) → Locates len layout block (Err refusal) → data_refusal len layout block list ≡ number refusal
  unfolding data_refusal
  data_refused {refusal} list l = rw (refused len layout block l) (then_first (number refusal) (list_rung layout list) (number_some refusal))

  module _ {site : Site} (there : Located len layout block site) where
    -- its rows lie in the image
    pub inside : Inside len (rows site.shape) site.at site.s
    inside =
        let ok = accepted layout len block there.passed in
        rw there.same_shape (rw there.step ok.geometry.s_last, rows_inside len layout block there)

    -- and its first index has 32 bits
    pub first_small : site.at < 2 ^ 32
    first_small =
        let ok = accepted layout len block there.passed in
        let few = mul-le-mul_right (blocks layout) (rows_fit (shape_of layout)) in
        let first = rows_inside len layout block there 0 (omega arith) in
        omega (arith, ok.exact, ok.geometry.n_last, few, first)

    pub list_refused : (list : ℕ) → (list ≡ words site.shape → ⊥) → data_refusal len layout block list ≡ 7
    unfolding data_refusal
    list_refused list ne = rw (there.passed, ← there.same_shape, ne_eqb list (words site.shape) ne)

    pub list_fits : (list : ℕ) → list ≡ words site.shape → data_refusal len layout block list ≡ 0
    unfolding data_refusal
    list_fits list e = rw (there.passed, ← there.same_shape, eq-eqb list (words site.shape) e)
