-- Rows 1 and 2 come first in each group: complementing the first words of every group complements the image. Assumes nothing.
use Prim.Native.Nat.{ℕ, suc, ◌+◌, ◌-◌, ◌*◌, ◌/◌, ◌%◌, ◌≤◌, ◌<◌}
use mathlib.Core.Bool.{cond}
use mathlib.Core.Path.{◌≡◌, refl, sym, ap, ◌∙◌}
use mathlib.Core.List.{List, [], ◌∷◌}
use native.Mathlib.Decide.{dec_lt}
use native.Mathlib.Nat.{add-mul, mul-le-mul_right, mul_comm, mul_right_comm, mul_assoc, mod-lt, div-add-mod', div-lt_iff_lt-mul, one-mul}
use native.Mathlib.Omega.{arith}
use lib.Arith.{digits_mod}
use lib.Bits.{bit_xor, xor_zero_r}
use lib.Dec.{ltb}
use lib.ListN.{length, get_or, set, take, drop}
use borrow.Rule.Slice.PartMut.{put_mid, same_len_mid}
use borrow.Author.Tests.{lt-ltb, le-ltb, le-leb, lt-leb}
use Rattle.std.specs.Prelude.{map}
use Rattle.std.proofs.lemmas.List.{places, get_or-append_right, get_or_append_left, get_or-map, get_or-take, get_or-drop, length-map, length-take-le}
use Rattle.ground.specs.Lists.{list_of}
use Rattle.ground.proofs.Choices.{refused_kept}
use Rattle.ground.proofs.Lists.{list_is, list_of_same}
use Rattle.shape.proofs.Sizes.{rows_least}
use Rattle.layout.specs.declared.Layout.{Layout}
use Rattle.layout.specs.Layout.{shape_of, rows_of, group_words, row_at}
use Rattle.layout.specs.Refusal.{image_refusal}
use Rattle.layout.proofs.Index.{row_in_group}
use Rattle.layout.proofs.Ladder.{geometry, image_layout, image_exact}
use Rattle.stored.proofs.Forms.{word_kept}
use Rattle.stored.specs.Stored.{ones, flipped, mask, complemented_in, complemented, complemented_image, ComplementsImage}

-- ---- a block

-- the rows after the first two are as they are
rest_same : (rest : List ℕ) → rest ≡ list_of (length rest) (λ k. complemented_in (suc (suc (suc k))) (get_or rest k 0))
rest_same rest = list_is (length rest) rest _ refl (λ k l. sym (word_kept (suc (suc (suc k))) (get_or rest k 0) (omega arith)))

pub two_rows : (block : List ℕ) → set (set block 0 (flipped (get_or block 0 0))) 1 (flipped (get_or block 1 0)) ≡ complemented block
unfolding complemented list_of
two_rows [] = refl
two_rows (a ∷ []) = refl
two_rows (a ∷ b ∷ rest) = ap (λ (l : List ℕ). flipped a ∷ flipped b ∷ l) (rest_same rest)

-- with rows 1 and 2 overwritten both forms are one
pub two_over : (block : List ℕ) (x y : ℕ) → set (set (complemented block) 0 x) 1 y ≡ set (set block 0 x) 1 y
unfolding complemented list_of
two_over [] x y = refl
two_over (a ∷ []) x y = refl
two_over (a ∷ b ∷ rest) x y = ap (λ (l : List ℕ). x ∷ y ∷ l) (sym (rest_same rest))

-- ---- a part of an image

module _ (image : List ℕ) (at n : ℕ) where
  -- the image with every bit of that part turned
  abbrev pub turned : List ℕ
  turned = put_mid at n image (map flipped (take n (drop at image)))

  module _ (inside : at + n ≤ length image) where
    turned_length : length turned ≡ length image
    turned_length = same_len_mid at n image _ (length-map (take n (drop at image)) flipped)

    turned_below : (i : ℕ) → i < at → get_or turned i 0 ≡ get_or image i 0
    turned_below i h = grind (arith, places)

    turned_above : (i : ℕ) → at + n ≤ i → get_or turned i 0 ≡ get_or image i 0
    turned_above i high = grind (arith, places, length-map)

    turned_in : (i : ℕ) → at ≤ i → i < at + n → get_or turned i 0 ≡ flipped (get_or image i 0)
    turned_in i low high =
        let part = take n (drop at image) in
        let long : length part ≡ n = grind (arith, places) in
        let within : i - at < length part = omega arith in
        get_or-append_right (take at image) _ at i 0 (length-take-le at image (omega arith)) low
        ∙ get_or_append_left (map flipped part) _ 0 (i - at) (rw (length-map part flipped) within)
        ∙ get_or-map flipped part (i - at) 0 0 within
        ∙ ap flipped (get_or-take n (drop at image) (i - at) 0 (omega arith) ∙ get_or-drop at image (i - at) 0)
        ∙ ap (λ (k : ℕ). flipped (get_or image k 0)) (let e : at + (i - at) ≡ i = omega arith in e)

-- ---- the groups of an image

-- the bits of a word that are complemented, by its place in a group
abbrev pub mask_in : (first group at : ℕ) → ℕ
mask_in first group at = cond (ltb (at % group) first) ones 0

module _ (image : List ℕ) (first group : ℕ) where
  abbrev pub word : ℕ → ℕ
  word i = bit_xor (get_or image i 0) (mask_in first group i)

  -- what is done after some groups
  pub record Going (after : List ℕ) (at : ℕ) : Type 0 where
    pub groups : ℕ
    pub size : length image ≡ groups * group
    pub some : 1 ≤ group
    pub fits : first ≤ group
    pub passed : ℕ
    pub place : at ≡ passed * group
    pub same_length : length after ≡ length image
    pub done : (i : ℕ) → i < at → get_or after i 0 ≡ word i
    pub left : (i : ℕ) → at ≤ i → get_or after i 0 ≡ get_or image i 0

  module _ {after : List ℕ} {at : ℕ} (g : Going after at) where
    -- the next group lies in the image
    pub group_inside : at < length image → at + group ≤ length image
    group_inside more =
        let next : suc g.passed ≤ g.groups = elim (dec_lt g.passed g.groups) [
          | yes l ↦ l
          | no l ↦ absurd (let m = mul-le-mul_right group (let e : g.groups ≤ g.passed = omega arith in e) in omega (arith, m, g.size, g.place))
        ] in
        let m = mul-le-mul_right group next in
        omega (arith, m, g.size, g.place, add-mul g.passed 1 group, one-mul group)

    pub group_done : {n : ℕ} {part : List ℕ} → at < length image → n ≡ first → part ≡ map flipped (take n (drop at after))
        → Going (put_mid at n after part) (at + group)
    group_done {n} {part} more n_is part_is =
        let end = group_inside more in
        let inside : at + first ≤ length after = omega (arith, g.same_length, g.fits) in
        let e : put_mid at n after part ≡ turned after at first = rw (part_is, n_is) refl in
        let in_group : (i : ℕ) → at ≤ i → i < at + group → i % group ≡ i - at =
        λ i low high.
        let split : g.passed * group + (i - at) ≡ i = omega (arith, g.place) in
        ap (λ (m : ℕ). m % group) (sym split) ∙ digits_mod g.passed (let small : i - at < group = omega arith in small) in
        rw e
        (record {
          groups = g.groups;
          size = g.size;
          some = g.some;
          fits = g.fits;
          passed = suc g.passed;
          place = omega (arith, g.place, add-mul g.passed 1 group, one-mul group);
          same_length = turned_length after at first inside ∙ g.same_length;
          done = λ i below.
              elim (dec_lt i at) [
                | yes l ↦ turned_below after at first inside i l ∙ g.done i l
                | no l ↦ elim (dec_lt i (at + first)) [
                  | yes h ↦
                      turned_in after at first inside i (omega arith) h
                      ∙ rw (g.left i (omega arith), in_group i (omega arith) below, lt-ltb (i - at) first (omega arith)) refl
                  | no h ↦
                      turned_above after at first inside i (omega arith) ∙ g.left i (omega arith)
                      ∙ sym (rw (in_group i (omega arith) below, le-ltb (i - at) first (omega arith)) (xor_zero_r (get_or image i 0)))
                ]
              ];
          left = λ i high. turned_above after at first inside i (omega (arith, g.fits)) ∙ g.left i (omega arith);
        })

    -- all of it
    pub all_done : length image ≤ at → after ≡ list_of (length image) word
    all_done h = list_is (length image) after word g.same_length (λ i l. g.done i (omega arith))

-- ---- the groups of a layout

module _ (layout : Layout) (first : 1 ≤ layout.s) where
  -- the place in a group tells the row
  mask_at : (at : ℕ) → mask_in (2 * layout.s) (group_words layout) at ≡ mask (row_at layout at)
  mask_at at =
      let s = layout.s in
      let rows = rows_of layout in
      let q : ℕ = at / group_words layout in
      let j : ℕ = at % group_words layout in
      let some : 1 ≤ group_words layout = let m = mul-le-mul_right s (let e : 1 ≤ rows = omega arith in e) in omega (arith, m, one-mul s) in
      let row : at / s % rows ≡ j / s =
      ap (λ (n : ℕ). n / s % rows) (sym (div-add-mod' at (group_words layout))) ∙ row_in_group rows s first q j (mod-lt at some) in
      rw row
      (elim (dec_lt j (2 * s)) [
        | yes l ↦ rw (lt-ltb j (2 * s) l, le-leb (suc (j / s)) 2 ((div-lt_iff_lt-mul first).1 l))
        | no l ↦ rw (le-ltb j (2 * s) (omega arith), lt-leb (suc (j / s)) 2 (above (j / s) (λ h. l ((div-lt_iff_lt-mul first).0 h))))
      ])
    where
      above : (n : ℕ) → (n < 2 → ⊥) → 2 < suc n
      above n h = omega arith

module _ (image : List ℕ) (layout : Layout) where
  module _ (passed : image_refusal (length image) layout ≡ 0) where
    s_first : 1 ≤ layout.s
    s_first = (geometry layout (image_layout layout (length image) passed)).s_first

    -- before the first group
    pub none_done : Going image (2 * layout.s) (group_words layout) image 0
    none_done =
        let s = layout.s in
        let tall = mul-le-mul_right s (rows_least (shape_of layout)) in
        record {
          groups = layout.g;
          size =
              image_exact layout (length image) passed
              ∙ omega (arith, mul_comm (rows_of layout) (layout.g * s), mul_right_comm layout.g s (rows_of layout), mul_assoc layout.g (rows_of layout) s);
          some = omega (arith, tall, s_first);
          fits = tall;
          passed = 0;
          place = omega arith;
          same_length = refl;
          done = λ i h. absurd (omega arith);
          left = λ i h. refl;
        }

    -- after the last
    pub image_done : {after : List ℕ} {at : ℕ} → Going image (2 * layout.s) (group_words layout) after at → length image ≤ at
        → ComplementsImage image layout after
    unfolding complemented_image
    image_done g h =
        all_done image (2 * layout.s) (group_words layout) g h
        ∙ rw passed (list_of_same (length image) _ _ (λ j l. ap (bit_xor (get_or image j 0)) (mask_at layout s_first j)))

  pub image_stays : (number : ℕ) → number ≡ image_refusal (length image) layout → (number ≡ 0 → ⊥) → ComplementsImage image layout image
  image_stays number e ne = rw (← e) (sym (refused_kept number _ image ne))
