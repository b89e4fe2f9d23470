-- Two or three marks are taken out of the sums: what is told of a lane makes its digits where none is left, and none is left where some rows make
-- them. Assumes nothing.
use Prim.Native.Nat.{ℕ, suc, ◌+◌, ◌≤◌, ◌<◌}
use mathlib.Core.Bool.{Bool, true, false, ◌&&◌, true≢false}
use mathlib.Core.Path.{◌≡◌, refl, sym, ap, ap₂, ◌∙◌}
use mathlib.Core.List.{List}
use mathlib.Core.Logic.{◌⊎◌, inl, inr, ⊎_elim, by_cases}
use native.Mathlib.Nat.{eq-or-lt_of_le, le_of_suc-le-suc, lt_of_not-le}
use native.Mathlib.Decide.{ℕ_discrete}
use native.Mathlib.Omega.{arith}
use lib.Bits.{bit_xor, xor_lt}
use lib.Count.{count_trailing_zeros}
use lib.ListN.{get_or}
use borrow.Author.Tests.{eq-eqb, ne_eqb}
use Rattle.lane.specs.Bit.{bit, ◌⊕◌}
use Rattle.lane.proofs.Bits.{bit_of_xor, bit_zero, bit_high, xor_cancel}
use Rattle.sums.proofs.WordBits.{digit_one}
use Rattle.block.proofs.Flips.{trailing_set}
use Rattle.std.specs.Prelude.{Option, Some}
use Rattle.shape.specs.declared.Shape.{Shape}
use Rattle.shape.specs.Shape.{before, rows}
use Rattle.shape.proofs.Sizes.{before_small}
use Rattle.around.specs.Refusal.{misnamed?}
use Rattle.around.specs.Inner.{more_rows, row_or_none, mark, changed_by, lanes_told, Made, Solves}
use Rattle.around.proofs.Calls.{three, third_there}
use Rattle.around.proofs.ThreeRows.{Three}
use Rattle.around.proofs.Digits.{bit_changed}
use Rattle.around.proofs.Tables.{law}

-- ---- marks

-- two marks, or three; a third that is 0 is none
pub record Marks (a b c : ℕ) : Type 0 where
  pub a_mark : (128 ≤ a) × (a < 256)
  pub b_mark : (128 ≤ b) × (b < 256)
  pub c_mark : (c ≡ 0) ⊎ ((128 ≤ c) × (c < 256))
  pub a_b : a ≡ b → ⊥
  pub a_c : a ≡ c → ⊥
  pub b_c : b ≡ c → ⊥

pub lowest_digit : (n : ℕ) → 0 < n → n < 256 → (count_trailing_zeros 32 n < 8) × (bit (count_trailing_zeros 32 n) n ≡ true)
lowest_digit n low high =
    let t = trailing_set 32 n (omega arith) (λ z. omega arith) in (
      lt_of_not-le (λ above. true≢false (sym t.1 ∙ bit_high 8 (count_trailing_zeros 32 n) n high above)),
      t.1,
    )

-- two marks that differ do so in some digit
pub apart : (a b : ℕ) → a < 256 → b < 256 → (a ≡ b → ⊥) → (0 < bit_xor a b) × (bit_xor a b < 256)
apart a b ha hb ne =
    let some : bit_xor a b ≡ 0 → ⊥ = λ z. ne (xor_cancel a b z) in
    (omega arith, xor_lt 8 a b ha hb)

-- every mark has the parity's digit
top_digit : (n : ℕ) → 128 ≤ n → n < 256 → bit 7 n ≡ true
top_digit n low high = digit_one 7 n (omega arith)

pub third_mark : {a b c : ℕ} → Marks a b c → (c ≡ 0 → ⊥) → (128 ≤ c) × (c < 256)
third_mark marks some = ⊎_elim (λ z. absurd (some z)) (λ r. r) marks.c_mark

-- the mark of a row that is there: 128 of the last, and 128 more than the number of another
mark_row : (m r : ℕ) → 1 ≤ r → r ≤ suc m → ((r ≡ suc m) × (mark (suc m) r ≡ 128)) ⊎ ((r ≤ m) × (mark (suc m) r ≡ 128 + r))
mark_row m r low high =
    by_cases (ℕ_discrete r (suc m))
    (λ e. inl (e, rw (ne_eqb r 0 (λ z. omega arith), eq-eqb r (suc m) e)))
    (λ ne. inr (omega arith, rw (ne_eqb r 0 (λ z. omega arith), ne_eqb r (suc m) ne)))

mark_within : (m r : ℕ) → m < 128 → 1 ≤ r → r ≤ suc m → (128 ≤ mark (suc m) r) × (mark (suc m) r < 256)
mark_within m r small low high = ⊎_elim (λ h. (omega arith, omega arith)) (λ h. (omega arith, omega arith)) (mark_row m r low high)

mark_apart : (m r q : ℕ) → 1 ≤ r → r ≤ suc m → 1 ≤ q → q ≤ suc m → (r ≡ q → ⊥) → mark (suc m) r ≡ mark (suc m) q → ⊥
mark_apart m r q lr hr lq hq ne e =
    ne (⊎_elim
    (λ h. ⊎_elim (λ g. h.0 ∙ sym g.0) (λ g. omega arith) (mark_row m q lq hq))
    (λ h. ⊎_elim (λ g. omega arith) (λ g. omega arith) (mark_row m q lq hq))
    (mark_row m r lr hr))

three_marks : (m : ℕ) (small : m < 128) {a b c : ℕ} → Three m small a b c → Marks (mark (suc m) a) (mark (suc m) b) (mark (suc m) c)
three_marks m small {a} {b} {c} three =
    let low = three.a_row in
    let mid = three.b_row in
    let in_a = mark_within m a small low.0 low.1 in
    let in_b = mark_within m b small mid.0 mid.1 in
    let none : c ≡ 0 → mark (suc m) c ≡ 0 = λ e. ap (mark (suc m)) e in
    record {
      a_mark = in_a;
      b_mark = in_b;
      c_mark = ⊎_elim (λ z. inl (none z)) (λ h. inr (mark_within m c small h.0 h.1)) three.c_row;
      a_b = mark_apart m a b low.0 low.1 mid.0 mid.1 three.a_b;
      a_c = λ e. ⊎_elim (λ z. let n = none z in omega (arith, in_a, e, n)) (λ h. mark_apart m a c low.0 low.1 h.0 h.1 three.a_c e) three.c_row;
      b_c = λ e. ⊎_elim (λ z. let n = none z in omega (arith, in_b, e, n)) (λ h. mark_apart m b c mid.0 mid.1 h.0 h.1 three.b_c e) three.c_row;
    }

-- ---- laws of a digit: d as it was, a, b and c of the marks, o the parity, t and u what is told

made_two : (d a b c o t : Bool) → d ≡ ((d ⊕ (a && o)) ⊕ ((a ⊕ b) && t)) ⊕ (((o ⊕ t) && a) ⊕ ((t && b) ⊕ (false && c)))
made_two = law 6 _ _ tt

made_bc : (d a b c o t u : Bool) → d
    ≡ (((d ⊕ (a && o)) ⊕ ((a ⊕ b) && t)) ⊕ ((b ⊕ c) && u)) ⊕ (((o ⊕ t) && a) ⊕ (((t ⊕ u) && b) ⊕ (u && c)))
made_bc = law 7 _ _ tt

made_ac : (d a b c o t u : Bool) → d
    ≡ (((d ⊕ (a && o)) ⊕ ((a ⊕ b) && t)) ⊕ ((a ⊕ c) && u)) ⊕ ((((o ⊕ t) ⊕ u) && a) ⊕ ((t && b) ⊕ (u && c)))
made_ac = law 7 _ _ tt

top_two : (o t c : Bool) → o ≡ ((o ⊕ t) && true) ⊕ ((t && true) ⊕ (false && c))
top_two = law 3 _ _ tt

top_bc : (o t u : Bool) → o ≡ ((o ⊕ t) && true) ⊕ (((t ⊕ u) && true) ⊕ (u && true))
top_bc = law 3 _ _ tt

top_ac : (o t u : Bool) → o ≡ (((o ⊕ t) ⊕ u) && true) ⊕ ((t && true) ⊕ (u && true))
top_ac = law 3 _ _ tt

-- the first mark taken out of what rows make
first_out : (x y z a b c : Bool)
    → ((x && a) ⊕ ((y && b) ⊕ (z && c))) ⊕ (a && ((x && true) ⊕ ((y && true) ⊕ (z && true)))) ≡ (y && (a ⊕ b)) ⊕ (z && (a ⊕ c))
first_out = law 6 _ _ tt

first_out_two : (x y z a b : Bool) → ((x && a) ⊕ ((y && b) ⊕ (z && false))) ⊕ (a && ((x && true) ⊕ ((y && true) ⊕ (z && false)))) ≡ y && (a ⊕ b)
first_out_two = law 5 _ _ tt

second_bc : (y z a b c : Bool) → ((y && (a ⊕ b)) ⊕ (z && (a ⊕ c))) ⊕ ((a ⊕ b) && ((y && true) ⊕ (z && true))) ≡ z && (b ⊕ c)
second_bc = law 5 _ _ tt

second_ac : (y z a b c : Bool) → ((y && (a ⊕ b)) ⊕ (z && (a ⊕ c))) ⊕ ((a ⊕ b) && ((y && true) ⊕ (z && false))) ≡ z && (a ⊕ c)
second_ac = law 5 _ _ tt

last_out : (z w : Bool) → (z && w) ⊕ (w && (z && true)) ≡ false
last_out = law 2 _ _ tt

-- a digit below 8 is the parity's or one of the sum's
below : (P : ℕ → Type 0) → P 7 → ((k : ℕ) → k < 7 → P k) → (k : ℕ) → k < 8 → P k
below P top low k h = ⊎_elim (λ e. rw e top) (λ l. low k l) (eq-or-lt_of_le (le_of_suc-le-suc h))

module _ (sums : List ℕ) {a b c : ℕ} (marks : Marks a b c) where
  abbrev odds : ℕ
  odds = get_or sums 7 0

  abbrev pub first : List ℕ
  first = changed_by a odds sums

  abbrev pub told_lanes : ℕ
  told_lanes = lanes_told (bit_xor a b) first

  abbrev pub second : List ℕ
  second = changed_by (bit_xor a b) told_lanes first

  abbrev pub third_lanes : ℕ → ℕ
  third_lanes n = lanes_told n second

  abbrev pub third : ℕ → List ℕ
  third n = changed_by n (third_lanes n) second

  abbrev p : ℕ
  p = count_trailing_zeros 32 (bit_xor a b)

  p_low : (p < 8) × (bit p a ⊕ bit p b ≡ true)
  p_low =
      let n = apart a b marks.a_mark.1 marks.b_mark.1 marks.a_b in
      let l = lowest_digit (bit_xor a b) n.0 n.1 in
      (l.0, sym (bit_of_xor p a b) ∙ l.1)

  top_a : bit 7 a ≡ true
  top_a = top_digit a marks.a_mark.0 marks.a_mark.1

  top_b : bit 7 b ≡ true
  top_b = top_digit b marks.b_mark.0 marks.b_mark.1

  module _ (i : ℕ) where
    abbrev d : ℕ → Bool
    d k = bit i (get_or sums k 0)

    abbrev o : Bool
    o = bit i odds

    abbrev t : Bool
    t = bit i told_lanes

    first_bit : (k : ℕ) → k < 8 → bit i (get_or first k 0) ≡ d k ⊕ (bit k a && o)
    first_bit = bit_changed a odds sums i

    second_bit : (k : ℕ) → k < 8 → bit i (get_or second k 0) ≡ (d k ⊕ (bit k a && o)) ⊕ ((bit k a ⊕ bit k b) && t)
    second_bit k h = bit_changed (bit_xor a b) told_lanes first i k h ∙ ap₂ (λ (s v : Bool). s ⊕ (v && t)) (first_bit k h) (bit_of_xor k a b)

    third_bit : (n m : ℕ) (k : ℕ) → k < 8 → bit i (get_or (third (bit_xor n m)) k 0)
        ≡ bit i (get_or second k 0) ⊕ ((bit k n ⊕ bit k m) && bit i (third_lanes (bit_xor n m)))
    third_bit n m k h =
        bit_changed (bit_xor n m) (third_lanes (bit_xor n m)) second i k h
        ∙ ap (λ (v : Bool). bit i (get_or second k 0) ⊕ (v && bit i (third_lanes (bit_xor n m)))) (bit_of_xor k n m)

  -- ---- two marks

  module _ (none : c ≡ 0) where
    two_no_digit : (k : ℕ) → bit k c ≡ false
    two_no_digit k = ap (bit k) none ∙ bit_zero k

    module _ (i : ℕ) (x y z : Bool) (made : Made (λ k. bit i (get_or sums k 0)) a b c x y z) where
      two_parity : o i ≡ (x && true) ⊕ ((y && true) ⊕ (z && false))
      two_parity = rw (top_a, top_b, two_no_digit 7) at (made 7 (omega arith))

      two_out : (k : ℕ) → k < 8 → d i k ⊕ (bit k a && o i) ≡ y && (bit k a ⊕ bit k b)
      two_out k h = rw (two_parity, made k h, two_no_digit k) (first_out_two x y z (bit k a) (bit k b))

      two_told : t i ≡ y && true
      two_told = first_bit i p p_low.0 ∙ two_out p p_low.0 ∙ ap (λ (v : Bool). y && v) p_low.1

      two_complete : (k : ℕ) → k < 7 → bit i (get_or second k 0) ≡ false
      two_complete k l = second_bit i k (omega arith) ∙ rw (two_out k (omega arith), two_told) (last_out y (bit k a ⊕ bit k b))

    pub two_solved : Solves sums a b c (record { a = bit_xor odds told_lanes; b = told_lanes; c = 0 }) second
    two_solved =
        record {
          sound = λ i left.
              rw (bit_of_xor i odds told_lanes, bit_zero i)
              (below (λ k. d i k ≡ ((o i ⊕ t i) && bit k a) ⊕ ((t i && bit k b) ⊕ (false && bit k c)))
              (rw (top_a, top_b) (top_two (o i) (t i) (bit 7 c)))
              (λ k l. made_two (d i k) (bit k a) (bit k b) (bit k c) (o i) (t i)
              ∙ ap (λ (v : Bool). v ⊕ (((o i ⊕ t i) && bit k a) ⊕ ((t i && bit k b) ⊕ (false && bit k c)))) (sym (second_bit i k (omega arith)) ∙ left k l)));
          complete = two_complete;
          no_third = λ e. refl;
        }

  -- ---- three

  module _ (some : c ≡ 0 → ⊥) where
    top_c : bit 7 c ≡ true
    top_c = let h = third_mark marks some in top_digit c h.0 h.1

    low_bc : let n = bit_xor b c in (count_trailing_zeros 32 n < 8) × (bit (count_trailing_zeros 32 n) b ⊕ bit (count_trailing_zeros 32 n) c ≡ true)
    low_bc =
        let n = apart b c marks.b_mark.1 (third_mark marks some).1 marks.b_c in
        let l = lowest_digit (bit_xor b c) n.0 n.1 in
        (l.0, sym (bit_of_xor _ b c) ∙ l.1)

    low_ac : let n = bit_xor a c in (count_trailing_zeros 32 n < 8) × (bit (count_trailing_zeros 32 n) a ⊕ bit (count_trailing_zeros 32 n) c ≡ true)
    low_ac =
        let n = apart a c marks.a_mark.1 (third_mark marks some).1 marks.a_c in
        let l = lowest_digit (bit_xor a c) n.0 n.1 in
        (l.0, sym (bit_of_xor _ a c) ∙ l.1)

    module _ (i : ℕ) (x y z : Bool) (made : Made (λ k. bit i (get_or sums k 0)) a b c x y z) where
      parity3 : o i ≡ (x && true) ⊕ ((y && true) ⊕ (z && true))
      parity3 = rw (top_a, top_b, top_c) at (made 7 (omega arith))

      out3 : (k : ℕ) → k < 8 → d i k ⊕ (bit k a && o i) ≡ (y && (bit k a ⊕ bit k b)) ⊕ (z && (bit k a ⊕ bit k c))
      out3 k h = rw (parity3, made k h) (first_out x y z (bit k a) (bit k b) (bit k c))

      told3 : (v : Bool) → bit p (bit_xor a c) ≡ v → t i ≡ (y && true) ⊕ (z && v)
      told3 v e =
          first_bit i p p_low.0 ∙ out3 p p_low.0
          ∙ ap₂ (λ (s r : Bool). (y && s) ⊕ (z && r)) p_low.1 (sym (bit_of_xor p a c) ∙ e)

    module _ (digit : bit p (bit_xor a c) ≡ true) where
      module _ (i : ℕ) (x y z : Bool) (made : Made (λ k. bit i (get_or sums k 0)) a b c x y z) where
        bc_out : (k : ℕ) → k < 8 → bit i (get_or second k 0) ≡ z && (bit k b ⊕ bit k c)
        bc_out k h = second_bit i k h ∙ rw (out3 i x y z made k h, told3 i x y z made true digit) (second_bc y z (bit k a) (bit k b) (bit k c))

        bc_told : bit i (third_lanes (bit_xor b c)) ≡ z && true
        bc_told = bc_out _ low_bc.0 ∙ ap (λ (v : Bool). z && v) low_bc.1

        bc_complete : (k : ℕ) → k < 7 → bit i (get_or (third (bit_xor b c)) k 0) ≡ false
        bc_complete k l = third_bit i b c k (omega arith) ∙ rw (bc_out k (omega arith), bc_told) (last_out z (bit k b ⊕ bit k c))

      -- where the third row has the digit too, it is told by where it differs from the second
      pub bc_solved :
          Solves sums a b c
          (record { a = bit_xor odds told_lanes; b = bit_xor told_lanes (third_lanes (bit_xor b c)); c = third_lanes (bit_xor b c) })
          (third (bit_xor b c))
      bc_solved =
          record {
            sound = λ i left.
                let u = bit i (third_lanes (bit_xor b c)) in
                rw (bit_of_xor i odds told_lanes, bit_of_xor i told_lanes (third_lanes (bit_xor b c)))
                (below (λ k. d i k ≡ ((o i ⊕ t i) && bit k a) ⊕ (((t i ⊕ u) && bit k b) ⊕ (u && bit k c)))
                (rw (top_a, top_b, top_c) (top_bc (o i) (t i) u))
                (λ k l. made_bc (d i k) (bit k a) (bit k b) (bit k c) (o i) (t i) u
                ∙ ap (λ (v : Bool). v ⊕ (((o i ⊕ t i) && bit k a) ⊕ (((t i ⊕ u) && bit k b) ⊕ (u && bit k c))))
                (sym (third_bit i b c k (omega arith) ∙ ap (λ (v : Bool). v ⊕ ((bit k b ⊕ bit k c) && u)) (second_bit i k (omega arith))) ∙ left k l)));
            complete = bc_complete;
            no_third = λ z. absurd (some z);
          }

    module _ (digit : bit p (bit_xor a c) ≡ false) where
      module _ (i : ℕ) (x y z : Bool) (made : Made (λ k. bit i (get_or sums k 0)) a b c x y z) where
        ac_out : (k : ℕ) → k < 8 → bit i (get_or second k 0) ≡ z && (bit k a ⊕ bit k c)
        ac_out k h = second_bit i k h ∙ rw (out3 i x y z made k h, told3 i x y z made false digit) (second_ac y z (bit k a) (bit k b) (bit k c))

        ac_told : bit i (third_lanes (bit_xor a c)) ≡ z && true
        ac_told = ac_out _ low_ac.0 ∙ ap (λ (v : Bool). z && v) low_ac.1

        ac_complete : (k : ℕ) → k < 7 → bit i (get_or (third (bit_xor a c)) k 0) ≡ false
        ac_complete k l = third_bit i a c k (omega arith) ∙ rw (ac_out k (omega arith), ac_told) (last_out z (bit k a ⊕ bit k c))

      -- and else by where it differs from the first
      pub ac_solved :
          Solves sums a b c
          (record { a = bit_xor (bit_xor odds told_lanes) (third_lanes (bit_xor a c)); b = told_lanes; c = third_lanes (bit_xor a c) })
          (third (bit_xor a c))
      ac_solved =
          record {
            sound = λ i left.
                let u = bit i (third_lanes (bit_xor a c)) in
                rw (bit_of_xor i (bit_xor odds told_lanes) (third_lanes (bit_xor a c)), bit_of_xor i odds told_lanes)
                (below (λ k. d i k ≡ (((o i ⊕ t i) ⊕ u) && bit k a) ⊕ ((t i && bit k b) ⊕ (u && bit k c)))
                (rw (top_a, top_b, top_c) (top_ac (o i) (t i) u))
                (λ k l. made_ac (d i k) (bit k a) (bit k b) (bit k c) (o i) (t i) u
                ∙ ap (λ (v : Bool). v ⊕ ((((o i ⊕ t i) ⊕ u) && bit k a) ⊕ ((t i && bit k b) ⊕ (u && bit k c))))
                (sym (third_bit i a c k (omega arith) ∙ ap (λ (v : Bool). v ⊕ ((bit k a ⊕ bit k c) && u)) (second_bit i k (omega arith))) ∙ left k l)));
            complete = ac_complete;
            no_third = λ z. absurd (some z);
          }

-- ---- the marks of rows that are named

module _ (shape : Shape) (a b : ℕ) (c : Option ℕ) (named : misnamed? (rows shape) (more_rows a b c) ≡ false) where
  pub named_marks : Marks (mark (rows shape) a) (mark (rows shape) b) (mark (rows shape) (row_or_none c))
  named_marks = three_marks (before shape) (before_small shape) (three shape a b c named)

  -- a third that is there has one
  pub some_mark : (r : ℕ) → c ≡ Some r → mark (rows shape) (row_or_none c) ≡ 0 → ⊥
  some_mark r e z =
      let is : row_or_none c ≡ r = ap row_or_none e in
      let there = third_there shape a b c named r e in
      let within = mark_within (before shape) (row_or_none c) (before_small shape) (omega (arith, there.0, is)) (omega (arith, there.1, is)) in
      omega (arith, within.0)
