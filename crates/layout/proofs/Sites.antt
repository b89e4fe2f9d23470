-- What the site of a block tells: why there is none, or that nothing is refused and its rows lie in the image. Assumes nothing.
use Prim.Native.Nat.{ℕ, zero, suc, ◌+◌, ◌*◌, ◌≤◌, ◌<◌}
use mathlib.Core.Path.{◌≡◌, refl, sym, ap, ◌∙◌}
use mathlib.Core.Logic.{◌⊎◌, ⊎_elim}
use native.Mathlib.Omega.{arith}
use Rattle.std.specs.Prelude.{Result, Ok, Err}
use Rattle.ground.specs.Choice.{if_zero}
use Rattle.refusal.specs.declared.Refusal.{Refusal}
use Rattle.refusal.specs.Refusal.{number, numbered, answer_number, answered}
use Rattle.refusal.proofs.Answered.{is_answered, number_some, numbered_number, number_of_numbered}
use Rattle.shape.specs.declared.Shape.{Shape}
use Rattle.shape.specs.declared.Shape.TheVariants.{One, Two}
use Rattle.layout.specs.declared.Layout.{Layout}
use Rattle.layout.specs.declared.Site.{Site}
use Rattle.layout.specs.Layout.{shape_number, shape_numbered, shape_of, rows_of, index}
use Rattle.layout.specs.Refusal.{layout_refusal, image_refusal, block_refusal, Checks, ChecksImage}
use Rattle.layout.specs.Site.{site_shape, site_first, site_step, block_site, site_of, Locates}
use Rattle.layout.proofs.Index.{stride, in_range}
use Rattle.layout.proofs.Ladder.{accepted, block_known}

-- ---- the answers of check and check_image

module _ (layout : Layout) {answer : Result (Unit {0}) Refusal} where
  pub checks_is : Checks layout answer → answer ≡ answered (layout_refusal layout) tt
  checks_is e = is_answered (layout_refusal layout) tt answer e (λ given same. refl)

  pub checks_image_is : (len : ℕ) → ChecksImage len layout answer → answer ≡ answered (image_refusal len layout) tt
  checks_image_is len e = is_answered (image_refusal len layout) tt answer e (λ given same. refl)

-- ---- a block that has a site

pub record Located (len : ℕ) (layout : Layout) (block : ℕ) (site : Site) : Type 0 where
  pub passed : block_refusal len layout block ≡ 0
  pub same_shape : site.shape ≡ shape_of layout
  pub first : site.at ≡ index layout block 1
  pub step : site.s ≡ layout.s

same_shapes : (a b : Shape) → shape_number a ≡ shape_number b → a ≡ b
same_shapes One One e = refl
same_shapes One Two e = absurd (omega arith)
same_shapes Two One e = absurd (omega arith)
same_shapes Two Two e = refl

-- the number of the shape with a number is that number, for 1 and 2
numbered_shape : (n : ℕ) → (n ≡ 1) ⊎ (n ≡ 2) → shape_number (shape_numbered n) ≡ n
unfolding shape_numbered
numbered_shape n known = ⊎_elim (λ e. rw e) (λ e. rw e) known

module _ (len : ℕ) (layout : Layout) (block : ℕ) where
  -- its rows lie in the image
  pub rows_inside : {site : Site} → Located len layout block site → (k : ℕ) → k < rows_of layout → site.at + k * site.s < len
  rows_inside l k h =
      let ok = accepted layout len block l.passed in
      rw (l.first, l.step, ← stride (rows_of layout) layout.s block k, ok.exact)
      (in_range (rows_of layout) layout.s ok.geometry.s_first layout.g block (suc k) ok.inside (omega arith) h)

  -- what locate promises of a site, and of a refusal
  pub located : {site : Site} → Locates len layout block (Ok site) → Located len layout block site
  located {site} l =
      let passed : block_refusal len layout block ≡ 0 = sym l.number in
      let known = numbered_shape layout.shape (accepted layout len block passed).geometry.shape_known in
      record {
        passed = passed;
        same_shape = same_shapes site.shape (shape_of layout) (rw passed at l.shape ∙ sym known);
        first = rw passed at l.first;
        step = rw passed at l.step;
      }

  pub refused : {refusal : Refusal} → Locates len layout block (Err refusal) → block_refusal len layout block ≡ number refusal
  refused l = sym l.number

  -- a site that is the block's keeps the promise
  pub locates_ok : {site : Site} → Located len layout block site → Locates len layout block (Ok site)
  locates_ok l =
      let known = numbered_shape layout.shape (accepted layout len block l.passed).geometry.shape_known in
      record {
        number = sym l.passed;
        shape = rw (l.passed, l.same_shape) known;
        first = rw l.passed l.first;
        step = rw l.passed l.step;
      }

  -- and so does a refusal that is the block's
  pub locates_err : (refusal : Refusal) → number refusal ≡ block_refusal len layout block → Locates len layout block (Err refusal)
  locates_err refusal e =
      record {
        number = e;
        shape = none layout.shape;
        first = none (index layout block 1);
        step = none layout.s;
      }
    where
      none : (value : ℕ) → 0 ≡ if_zero (block_refusal len layout block) value 0
      none value = by (block_refusal len layout block) (λ z. number_some refusal (e ∙ z))
        where
          by : (n : ℕ) → (n ≡ 0 → ⊥) → 0 ≡ if_zero n value 0
          by zero ne = absurd (ne refl)
          by (suc n) ne = refl

-- number, shape, index and interleave tell the answers apart
pub sites_told : (a b : Result Site Refusal) → answer_number a ≡ answer_number b → site_shape a ≡ site_shape b → site_first a ≡ site_first b
    → site_step a ≡ site_step b
    → a ≡ b
sites_told (Ok a) (Ok b) e f g h = ap Ok (λ i. record { shape = same_shapes a.shape b.shape f i; at = g i; s = h i })
sites_told (Ok a) (Err other) e f g h = absurd (number_some other (sym e))
sites_told (Err refusal) (Ok b) e f g h = absurd (number_some refusal e)
sites_told (Err refusal) (Err other) e f g h = ap Err (sym (numbered_number refusal) ∙ ap numbered e ∙ numbered_number other)

module _ (len : ℕ) (layout : Layout) (block : ℕ) where
  locates_site : Locates len layout block (site_of len layout block)
  unfolding site_of
  locates_site = by (block_refusal len layout block) refl
    where
      by : (n : ℕ) → block_refusal len layout block ≡ n → Locates len layout block (answered n (block_site layout block))
      by zero e = locates_ok len layout block (record { passed = e; same_shape = refl; first = refl; step = refl })
      by (suc n) e =
          let small : suc n ≤ 14 = rw (← e) (block_known layout len block) in
          locates_err len layout block (numbered (suc n)) (number_of_numbered (suc n) small (λ z. omega arith) ∙ sym e)

  -- an answer that is the block's keeps the promise, and what keeps it is the block's answer
  pub locates : {answer : Result Site Refusal} → answer ≡ site_of len layout block → Locates len layout block answer
  locates e = rw e locates_site

  pub locates_is : {answer : Result Site Refusal} → Locates len layout block answer → answer ≡ site_of len layout block
  locates_is {answer} l =
      let m = locates_site in
      sites_told answer (site_of len layout block) (l.number ∙ sym m.number) (l.shape ∙ sym m.shape) (l.first ∙ sym m.first) (l.step ∙ sym m.step)
