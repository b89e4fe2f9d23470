-- Each rung answers its number exactly for its reason, and each ladder the first that applies; what holds where nothing is refused.
-- Assumes nothing.
use Prim.Native.Nat.{ℕ, zero, suc, ◌*◌, ◌≤◌, ◌<◌}
use mathlib.Core.Bool.{Bool, not}
use mathlib.Core.Path.{◌≡◌, refl, sym, ◌∙◌}
use mathlib.Core.List.{[], ◌∷◌}
use mathlib.Core.Logic.{◌⊎◌, inl, inr, ⊎_elim}
use native.Mathlib.Nat.{zero-mul, suc-mul, lt_of_not-le, mul-le-mul}
use native.Mathlib.Omega.{arith}
use borrow.Author.Tests.{eq-eqb, ne_eqb, eqb-false, eqb-true, ltb-false, ltb-true, leb-false, leb-true, lt-leb, not-false, not-true}
use lib.Dec.{ltb, leb, eqb}
use Rattle.shape.proofs.Sizes.{rows_fit}
use Rattle.ground.specs.Ladder.{◌when◌else◌}
use Rattle.ground.specs.Rules.{FirstOf}
use Rattle.ground.proofs.Ladder.{Rung, rung_test, rung_tests, rung_neither, rung_passed, then_assoc, then_zero, first_more}
use Rattle.ground.proofs.Ladder.{not_zero, not_above, one_or_two, not_other}
use Rattle.refusal.proofs.Answered.{rung_known, then_known}
use Rattle.layout.specs.declared.Layout.{Layout}
use Rattle.layout.specs.Layout.{shape_of, rows_of, blocks}
use Rattle.layout.specs.Refusal.{shape_rung, interleave_rung, groups_rung, length_rung, block_rung, layout_refusal, image_refusal, block_refusal}
use Rattle.layout.specs.Reason.{no_shape, bad_interleave, bad_groups, bad_length, no_block, layout_rules, image_rules, block_rules}

-- where s is not 0, no groups are no blocks
pub no_blocks : (s g : ℕ) → (s ≡ 0 → ⊥) → eqb g 0 ≡ eqb (g * s) 0
no_blocks zero g ne = absurd (ne refl)
no_blocks (suc s) zero ne = sym (eq-eqb (0 * suc s) 0 (zero-mul (suc s)))
no_blocks (suc s) (suc g) ne = ne_eqb (suc g) 0 (λ e. omega arith) ∙ sym (ne_eqb (suc g * suc s) 0 (λ e. omega (arith, suc-mul g (suc s))))

-- ---- what holds where nothing is refused

-- of a layout
pub record Geometry (layout : Layout) : Type 0 where
  pub shape_known : (layout.shape ≡ 1) ⊎ (layout.shape ≡ 2)
  pub s_first : 1 ≤ layout.s
  pub s_last : layout.s ≤ 16
  pub g_first : 1 ≤ layout.g
  pub n_last : blocks layout ≤ 4096

-- of a block of an image
pub record Accepted (len : ℕ) (layout : Layout) (block : ℕ) : Type 0 where
  pub geometry : Geometry layout
  pub exact : len ≡ rows_of layout * blocks layout
  pub inside : block < blocks layout

module _ (layout : Layout) where
  -- ---- the rungs

  shape_rung_lem : Rung (no_shape layout) (shape_rung layout)
  shape_rung_lem = rung_neither (no_shape layout) layout.shape (λ r. r) (λ r. r)

  interleave_rung_lem : Rung (bad_interleave layout) (interleave_rung layout)
  interleave_rung_lem =
      let s = layout.s in
      rung_tests (bad_interleave layout) (eqb s 0) (ltb 16 s) (λ e. inl (eqb-true s 0 e)) (λ e. inr (ltb-true 16 s e))
      (λ e f. ⊎_elim (eqb-false s 0 e) (λ l. let m = ltb-false 16 s f in omega arith))

  groups_rung_lem : Rung (bad_groups layout) (groups_rung layout)
  groups_rung_lem =
      let g = layout.g in
      let n = blocks layout in
      rung_tests (bad_groups layout) (eqb g 0) (ltb 4096 n) (λ e. inl (eqb-true g 0 e)) (λ e. inr (ltb-true 4096 n e))
      (λ e f. ⊎_elim (eqb-false g 0 e) (λ l. let m = ltb-false 4096 n f in omega arith))

  pub length_rung_lem : (len : ℕ) → Rung (bad_length len layout) (length_rung len layout)
  length_rung_lem len =
      rung_test (bad_length len layout) (not (eqb len (rows_of layout * blocks layout)))
      (λ e. eqb-false _ _ (not-true _ e))
      (λ e r. r (eqb-true _ _ (not-false _ e)))

  pub block_rung_lem : (block : ℕ) → Rung (no_block layout block) (block_rung layout block)
  block_rung_lem block =
      rung_test (no_block layout block) (leb (blocks layout) block) (leb-true _ _) (λ e l. let m = leb-false (blocks layout) block e in omega arith)

  -- ---- nothing refused

  pub geometry : layout_refusal layout ≡ 0 → Geometry layout
  unfolding layout_refusal
  geometry e =
      let p = then_zero (shape_rung layout) _ e in
      let q = then_zero (interleave_rung layout) _ p.1 in
      let interleave = rung_passed (bad_interleave layout) (interleave_rung layout) (λ z. omega arith) interleave_rung_lem q.0 in
      let groups = rung_passed (bad_groups layout) (groups_rung layout) (λ z. omega arith) groups_rung_lem q.1 in
      record {
        shape_known = one_or_two layout.shape (rung_passed (no_shape layout) (shape_rung layout) (λ z. omega arith) shape_rung_lem p.0);
        s_first = not_zero layout.s (λ z. interleave (inl z));
        s_last = not_above 16 layout.s (λ l. interleave (inr l));
        g_first = not_zero layout.g (λ z. groups (inl z));
        n_last = not_above 4096 (blocks layout) (λ l. groups (inr l));
      }

  -- an image that is accepted has its layout's length, and its layout is accepted
  pub image_layout : (len : ℕ) → image_refusal len layout ≡ 0 → layout_refusal layout ≡ 0
  unfolding image_refusal
  image_layout len e = (then_zero (layout_refusal layout) (length_rung len layout) e).0

  pub image_exact : (len : ℕ) → image_refusal len layout ≡ 0 → len ≡ rows_of layout * blocks layout
  unfolding image_refusal
  image_exact len e =
      let q = then_zero (layout_refusal layout) (length_rung len layout) e in
      not_other len (rows_of layout * blocks layout)
      (rung_passed (bad_length len layout) (length_rung len layout) (λ z. omega arith) (length_rung_lem len) q.1)

  -- and at most 72·4,096 words
  pub image_few : (len : ℕ) → image_refusal len layout ≡ 0 → len ≤ 294912
  image_few len e =
      let ok = geometry (image_layout len e) in
      omega (arith, image_exact len e, mul-le-mul (rows_fit (shape_of layout)) ok.n_last)

  -- no more groups than blocks
  pub groups_few : Geometry layout → layout.g ≤ 4096
  groups_few ok =
      let same : layout.g ≤ layout.g = omega arith in
      omega (arith, ok.n_last, mul-le-mul same ok.s_first)

  pub block_image : (len block : ℕ) → block_refusal len layout block ≡ 0 → image_refusal len layout ≡ 0
  unfolding block_refusal
  block_image len block e = (then_zero (image_refusal len layout) (block_rung layout block) e).0

  pub accepted : (len block : ℕ) → block_refusal len layout block ≡ 0 → Accepted len layout block
  unfolding block_refusal
  accepted len block e =
      let p = then_zero (image_refusal len layout) (block_rung layout block) e in
      record {
        geometry = geometry (image_layout len p.0);
        exact = image_exact len p.0;
        inside = lt_of_not-le (rung_passed (no_block layout block) (block_rung layout block) (λ z. omega arith) (block_rung_lem block) p.1);
      }

  -- a block below N of an image that is accepted is accepted
  pub block_accepted : (len block : ℕ) → image_refusal len layout ≡ 0 → block < blocks layout → block_refusal len layout block ≡ 0
  unfolding block_refusal
  block_accepted len block e h = rw (e, lt-leb (blocks layout) block h)

  -- ---- each ladder's number is one of the table's

  pub layout_known : layout_refusal layout ≤ 14
  unfolding layout_refusal
  layout_known =
      let two_rungs = λ (n : ℕ) (small : n ≤ 14) (t u : Bool). rung_known n t (n when u else 0) small (rung_known n u 0 small (omega arith)) in
      then_known _ _ (two_rungs 1 (omega arith) _ _) (then_known _ _ (two_rungs 2 (omega arith) _ _) (two_rungs 3 (omega arith) _ _))

  pub image_known : (len : ℕ) → image_refusal len layout ≤ 14
  unfolding image_refusal
  image_known len = then_known _ _ layout_known (rung_known 4 _ 0 (omega arith) (omega arith))

  pub block_known : (len block : ℕ) → block_refusal len layout block ≤ 14
  unfolding block_refusal
  block_known len block = then_known _ _ (image_known len) (rung_known 6 _ 0 (omega arith) (omega arith))

  -- ---- each ladder is the first of its rules

  pub layout_first : FirstOf (layout_rules layout) (layout_refusal layout)
  unfolding layout_refusal
  layout_first =
      rw (← then_assoc (shape_rung layout) (interleave_rung layout) (groups_rung layout))
      (first_more (no_shape layout ∷ bad_interleave layout ∷ []) (bad_groups layout) _ _ tt
      (first_more (no_shape layout ∷ []) (bad_interleave layout) _ _ tt shape_rung_lem interleave_rung_lem)
      groups_rung_lem)

  pub image_first : (len : ℕ) → FirstOf (image_rules len layout) (image_refusal len layout)
  unfolding image_refusal
  image_first len = first_more (layout_rules layout) (bad_length len layout) _ _ tt layout_first (length_rung_lem len)

  pub block_first : (len block : ℕ) → FirstOf (block_rules len layout block) (block_refusal len layout block)
  unfolding block_refusal
  block_first len block = first_more (image_rules len layout) (no_block layout block) _ _ tt (image_first len) (block_rung_lem block)
