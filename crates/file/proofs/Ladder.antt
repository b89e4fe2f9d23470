-- The refusals of a file: how the code's tests give them, and that each ladder is the first of its rules. Assumes nothing.
use Prim.Native.Nat.{ℕ, ◌-◌, ◌*◌, ◌/◌, ◌%◌, ◌≤◌}
use mathlib.Core.Bool.{Bool, not}
use mathlib.Core.Path.{◌≡◌, sym, ◌∙◌}
use mathlib.Core.List.{List, [], ◌∷◌, ◌++◌}
use mathlib.Core.Logic.{◌⊎◌}
use native.Mathlib.Decide.{ℕ_discrete}
use native.Mathlib.Omega.{arith}
use borrow.Author.Tests.{eq-eqb, ne_eqb, eqb-true, eqb-false, ltb-false, not-true, not-false}
use lib.Dec.{eqb}
use lib.ListN.{length, length-drop}
use Rattle.layout.specs.declared.Layout.{Layout}
use Rattle.layout.specs.Layout.{rows_of, blocks}
use Rattle.ground.specs.Ladder.{◌when◌else◌, ◌then◌}
use Rattle.ground.specs.Rules.{Rule, FirstOf}
use Rattle.ground.proofs.Ladder.{Rung, rung_test, rung_below, rung_neither, rung_passed, one_or_two, then_first, then_zero}
use Rattle.ground.proofs.Ladder.{first_then, first_more, first_front, test_passed}
use Rattle.layout.specs.Refusal.{layout_refusal, image_refusal}
use Rattle.layout.specs.Reason.{layout_rules}
use Rattle.layout.proofs.Ladder.{Geometry, geometry, layout_first}
use Rattle.std.specs.Prelude.{Ok}
use Rattle.refusal.proofs.Answered.{rung_known, then_known, answered_accepted}
use Rattle.layout.proofs.Ladder.{layout_known, image_known}
use Rattle.file.specs.Header.{header_of}
use Rattle.file.specs.Bytes.{version_in, field_in, layout_in}
use Rattle.file.specs.Refusal.{long_rung, short_rung, version_rung, field_rung, body_rung}
use Rattle.file.specs.Refusal.{frame_refusal, body_refusal, file_refusal, read_refusal, write_refusal}
use Rattle.file.specs.Reason.{too_long, too_short, bad_version, bad_field, bad_body, file_rules}

-- ---- 4 by bytes and by words

same_test : (body words : ℕ) → body % 4 ≡ 0 → eqb body (4 * words) ≡ eqb (body / 4) words
same_test body words h = elim (ℕ_discrete (body / 4) words) [
  | yes e ↦ eq-eqb body (4 * words) (omega arith) ∙ sym (eq-eqb (body / 4) words e)
  | no ne ↦ ne_eqb body (4 * words) (λ e. ne (omega arith)) ∙ sym (ne_eqb (body / 4) words ne)
]

-- bytes that are whole words are refused as those words are
pub body_words : (body : ℕ) (layout : Layout) → body % 4 ≡ 0 → body_refusal body layout ≡ image_refusal (body / 4) layout
unfolding body_refusal image_refusal
body_words body layout h = rw (same_test body (rows_of layout * blocks layout) h)

pub body_uneven : (body : ℕ) (layout : Layout) → (body % 4 ≡ 0 → ⊥) → body_rung body layout ≡ 4
body_uneven body layout ne = rw (ne_eqb body (4 * (rows_of layout * blocks layout)) (λ e. ne (omega arith)))

-- ---- what holds of a file that is not refused

pub record Framed (bytes : List ℕ) : Type 0 where
  pub most : length bytes ≤ 32768
  pub least : 9 ≤ length bytes
  pub version : (version_in bytes ≡ 1) ⊎ (version_in bytes ≡ 2)
  pub field : field_in bytes ≡ length bytes - 5

version_rung_lem : (bytes : List ℕ) → Rung (bad_version bytes) (version_rung (version_in bytes))
version_rung_lem bytes = rung_neither (bad_version bytes) (version_in bytes) (λ r. r) (λ r. r)

pub framed : (bytes : List ℕ) → frame_refusal bytes ≡ 0 → Framed bytes
unfolding frame_refusal
framed bytes e =
    let long = then_zero (long_rung (length bytes)) _ e in
    let short = then_zero (short_rung (length bytes)) _ long.1 in
    let version = then_zero (version_rung (version_in bytes)) _ short.1 in
    record {
      most = ltb-false 32768 (length bytes) (test_passed 10 _ long.0);
      least = ltb-false (length bytes) 9 (test_passed 9 _ short.0);
      version =
          one_or_two (version_in bytes)
          (rung_passed (bad_version bytes) (version_rung (version_in bytes)) (λ z. omega arith) (version_rung_lem bytes) version.0);
      field = eqb-true (field_in bytes) (length bytes - 5) (not-false _ (test_passed 9 _ version.1));
    }

-- a file with a frame has the nine bytes of a header
pub nine_bytes : (bytes : List ℕ) → 0 ≡ frame_refusal bytes → 9 ≤ length bytes
nine_bytes bytes passes = (framed bytes (sym passes)).least

pub record Accepted (bytes : List ℕ) : Type 0 where
  pub frame : Framed bytes
  pub framed_whole : frame_refusal bytes ≡ 0
  pub geometry : Geometry (layout_in bytes)
  pub body : length bytes - 9 ≡ 4 * (rows_of (layout_in bytes) * blocks (layout_in bytes))

pub accepted : (bytes : List ℕ) → file_refusal bytes ≡ 0 → Accepted bytes
unfolding file_refusal body_refusal
accepted bytes e =
    let frame = then_zero (frame_refusal bytes) _ e in
    let layout = then_zero (layout_refusal (layout_in bytes)) _ frame.1 in
    record {
      frame = framed bytes frame.0;
      framed_whole = frame.0;
      geometry = geometry (layout_in bytes) layout.0;
      body = eqb-true (length bytes - 9) _ (not-false _ (test_passed 3 _ layout.1));
    }

-- so has one that is accepted
pub nine_accepted : (bytes : List ℕ) → 0 ≡ file_refusal bytes → 9 ≤ length bytes
nine_accepted bytes passes = (accepted bytes (sym passes)).frame.least

-- ---- each rung answers its number exactly for its reason, and the ladder the first that applies

module _ (bytes : List ℕ) where
  field_rung_lem : Rung (bad_field bytes) (field_rung (field_in bytes) (length bytes))
  field_rung_lem =
      rung_test (bad_field bytes) (not (eqb (field_in bytes) (length bytes - 5)))
      (λ e q. eqb-false _ _ (not-true _ e) (q ∙ length-drop 5 bytes))
      (λ e r. r (eqb-true _ _ (not-false _ e) ∙ sym (length-drop 5 bytes)))

  body_rung_lem : Rung (bad_body bytes) (body_rung (length bytes - 9) (layout_in bytes))
  body_rung_lem =
      rung_test (bad_body bytes) (not (eqb (length bytes - 9) (4 * (rows_of (layout_in bytes) * blocks (layout_in bytes)))))
      (λ e q. eqb-false _ _ (not-true _ e) (sym (length-drop 9 bytes) ∙ q))
      (λ e r. r (length-drop 9 bytes ∙ eqb-true _ _ (not-false _ e)))

  abbrev frame_rules : List Rule
  frame_rules = too_long bytes ∷ too_short bytes ∷ bad_version bytes ∷ bad_field bytes ∷ []

  frame_first : FirstOf frame_rules (frame_refusal bytes)
  unfolding frame_refusal
  frame_first =
      let field = field_rung (field_in bytes) (length bytes) in
      let version = version_rung (version_in bytes) then field in
      first_front (too_long bytes) (too_short bytes ∷ bad_version bytes ∷ bad_field bytes ∷ []) _ (short_rung (length bytes) then version)
      (λ z. omega arith)
      (rung_below (too_long bytes) _ _ (λ l. l) (λ l. l))
      (first_front (too_short bytes) (bad_version bytes ∷ bad_field bytes ∷ []) _ version (λ z. omega arith)
      (rung_below (too_short bytes) _ _ (λ l. l) (λ l. l))
      (first_front (bad_version bytes) (bad_field bytes ∷ []) _ field (λ z. omega arith) (version_rung_lem bytes) field_rung_lem))

  pub file_first : FirstOf (file_rules bytes) (file_refusal bytes)
  unfolding file_refusal body_refusal
  file_first =
      let rules = layout_rules (layout_in bytes) in
      first_then frame_rules (rules ++ bad_body bytes ∷ []) _ _ tt frame_first
      (first_more rules (bad_body bytes) _ _ tt (layout_first (layout_in bytes)) body_rung_lem)

-- ---- the header by its refusals

module _ (bytes : List ℕ) where
  pub frame_stands : (number : ℕ) → number ≡ frame_refusal bytes → (number ≡ 0 → ⊥) → number ≡ file_refusal bytes
  unfolding file_refusal
  frame_stands number e ne = rw (← e) (sym (then_first number _ ne))

  pub frame_passed : frame_refusal bytes ≡ 0
      → file_refusal bytes ≡ body_refusal (length bytes - 9) (layout_in bytes)
  unfolding file_refusal
  frame_passed e = rw e

  pub header_image : file_refusal bytes ≡ 0 → Ok (layout_in bytes) ≡ header_of bytes
  unfolding header_of
  header_image e = sym (answered_accepted (file_refusal bytes) (layout_in bytes) e)

-- ---- the numbers of the ladders are of the table

rung : (n : ℕ) (test : Bool) → n ≤ 14 → (n when test else 0) ≤ 14
rung n test small = rung_known n test 0 small (omega arith)

frame_known : (bytes : List ℕ) → frame_refusal bytes ≤ 14
unfolding frame_refusal
frame_known bytes =
    then_known _ _ (rung 11 _ (omega arith))
    (then_known _ _ (rung 10 _ (omega arith))
    (then_known _ _ (rung_known 9 _ _ (omega arith) (rung 9 _ (omega arith))) (rung 10 _ (omega arith))))

pub file_known : (bytes : List ℕ) → file_refusal bytes ≤ 14
unfolding file_refusal body_refusal
file_known bytes =
    then_known (frame_refusal bytes) _ (frame_known bytes)
    (then_known (layout_refusal (layout_in bytes)) _ (layout_known (layout_in bytes)) (rung 4 _ (omega arith)))

pub read_known : (bytes : List ℕ) (len : ℕ) → read_refusal bytes len ≤ 14
unfolding read_refusal
read_known bytes len = then_known (file_refusal bytes) _ (file_known bytes) (rung 4 _ (omega arith))

pub write_known : (len : ℕ) (layout : Layout) (room : ℕ) → write_refusal len layout room ≤ 14
unfolding write_refusal
write_known len layout room =
    then_known (image_refusal len layout) _ (image_known layout len) (then_known _ _ (rung 11 _ (omega arith)) (rung 12 _ (omega arith)))
