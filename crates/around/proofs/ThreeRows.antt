-- Lanes that differ in some of three rows at most: their sums and parities are made by those rows' marks, and by no others. The third row may be 0,
-- which is none. Assumes nothing.
use Prim.Native.Nat.{ℕ, zero, suc, ◌+◌, ◌≤◌, ◌<◌}
use mathlib.Core.Bool.{Bool, true, false, not, cond, ◌&&◌, ◌||◌, and-false, and-true, true≢false}
use mathlib.Core.Path.{◌≡◌, refl, sym, ap, ap₂, ◌∙◌}
use mathlib.Core.List.{List, [], ◌∷◌}
use mathlib.Core.Logic.{inr, ⊎_elim, by_cases}
use native.Mathlib.Decide.{ℕ_discrete}
use native.Mathlib.Omega.{arith}
use lib.Bits.{bit_xor, xor_self}
use lib.Dec.{eqb, eqb-suc-zero}
use borrow.Author.Tests.{eq-eqb, ne_eqb}
use Rattle.lane.specs.Bit.{bit, ◌⊕◌, pick}
use Rattle.lane.specs.Lane.{Lane, sum, count, odd, Valid, diff}
use Rattle.lane.proofs.Bits.{bit_zero, bit_ext_below, ⊕-zero}
use Rattle.lane.proofs.Linear.{sum_diff, odd_diff, count_same}
use Rattle.lane.proofs.Distance.{empty}
use Rattle.lane.proofs.Mended.{⊕-cancel, ⊕-self, count_empty}
use Rattle.lane.proofs.Exactly.{sum_lt}
use Rattle.around.specs.Named.{among?, spare?}
use Rattle.around.specs.Lane.{outside, MeantLane}
use Rattle.around.specs.Inner.{mark, Made}
use Rattle.around.proofs.Lanes.{RowsTo}
use Rattle.around.proofs.Marks.{digits, digits_diff, digits_same, one, RowOrNone, one_count, one_digit}

-- two rows, and a third that is not 0
abbrev pub rows_named : (a b c : ℕ) → List ℕ
rows_named a b zero = a ∷ b ∷ []
rows_named a b (suc c) = a ∷ b ∷ suc c ∷ []

module _ (m : ℕ) (small : m < 128) where
  pub record Three (a b c : ℕ) : Type 0 where
    pub a_row : (1 ≤ a) × (a ≤ suc m)
    pub b_row : (1 ≤ b) × (b ≤ suc m)
    pub c_row : RowOrNone m c
    pub a_b : a ≡ b → ⊥
    pub a_c : a ≡ c → ⊥
    pub b_c : b ≡ c → ⊥

  pub three_within : {a b c : ℕ} → Three a b c → RowsTo (suc m) (rows_named a b c)
  three_within {a} {b} {c} rows = by c rows.c_row
    where
      by : (c : ℕ) → RowOrNone m c → RowsTo (suc m) (rows_named a b c)
      by zero h = (rows.a_row.0, rows.a_row.1, (rows.b_row.0, rows.b_row.1, tt))
      by (suc c) h =
          ⊎_elim (λ e. absurd (omega arith)) (λ r. (rows.a_row.0, rows.a_row.1, (rows.b_row.0, rows.b_row.1, (r.0, r.1, tt)))) h

  abbrev pub flips : (a b c : ℕ) (x y z : Bool) → Lane
  flips a b c x y z = diff (one m a x) (diff (one m b y) (one m c z))

  module _ {a b c : ℕ} (rows : Three a b c) where
    ra : RowOrNone m a
    ra = inr rows.a_row

    rb : RowOrNone m b
    rb = inr rows.b_row

    rc : RowOrNone m c
    rc = rows.c_row

    -- the digits of such a lane are made by the rows' marks
    flips_made : (x y z : Bool) → Made (digits m (flips a b c x y z)) (mark (suc m) a) (mark (suc m) b) (mark (suc m) c) x y z
    flips_made x y z k h =
        digits_diff m (one m a x) (diff (one m b y) (one m c z)) k
        ∙ ap₂ ◌⊕◌ (one_digit m small a x ra k h)
        (digits_diff m (one m b y) (one m c z) k ∙ ap₂ ◌⊕◌ (one_digit m small b y rb k h) (one_digit m small c z rc k h))

    -- a lane whose digits they make is valid once these rows are changed
    made_valid : (f : Lane) (x y z : Bool) → Made (digits m f) (mark (suc m) a) (mark (suc m) b) (mark (suc m) c) x y z → Valid m (diff f (flips a b c x y z))
    made_valid f x y z made =
        let g = flips a b c x y z in
        let same : (k : ℕ) → k < 8 → digits m f k ≡ digits m g k = λ k h. made k h ∙ sym (flips_made x y z k h) in
        let bits : (k : ℕ) → k < 7 → bit k (sum m f) ≡ bit k (sum m g) =
        λ k h. digit_low k h (sum m f) (sum m g) (odd (suc m) f) (odd (suc m) g) (same k (omega arith)) in
        record {
          sum_zero = sum_diff m f g ∙ ap (bit_xor (sum m f)) (sym (bit_ext_below 7 (sum m f) (sum m g) (sum_lt 7 m f small) (sum_lt 7 m g small) bits))
              ∙ xor_self (sum m f);
          even = odd_diff (suc m) f g ∙ ap (λ (t : Bool). odd (suc m) f ⊕ t) (sym (same 7 (omega arith))) ∙ ⊕-self (odd (suc m) f);
        }
      where
        digit_low : (k : ℕ) → k < 7 → (s t : ℕ) (o p : Bool) → cond (eqb k 7) o (bit k s) ≡ cond (eqb k 7) p (bit k t) → bit k s ≡ bit k t
        digit_low k h s t o p e = rw (ne_eqb k 7 (λ q. omega arith)) at e

    -- ---- the rows are the named ones

    abbrev named : List ℕ
    named = rows_named a b c

    -- outside them nothing is changed
    still : (x y z : Bool) (j : ℕ) → not (among? named (suc j)) && flips a b c x y z (suc j) ≡ false
    unfolding among?
    still x y z j = by c
      where
        outside_two : (s t : Bool) → not (s || (t || false)) && ((x && s) ⊕ ((y && t) ⊕ (z && false))) ≡ false
        outside_two true t = refl
        outside_two false true = refl
        outside_two false false = rw (and-false x, and-false y, and-false z)

        outside_three : (s t u : Bool) → not (s || (t || (u || false))) && ((x && s) ⊕ ((y && t) ⊕ (z && u))) ≡ false
        outside_three true t u = refl
        outside_three false true u = refl
        outside_three false false true = refl
        outside_three false false false = rw (and-false x, and-false y, and-false z)

        by : (c : ℕ) → not (among? (rows_named a b c) (suc j)) && flips a b c x y z (suc j) ≡ false
        by zero = rw (eqb-suc-zero j) (outside_two (eqb (suc j) a) (eqb (suc j) b))
        by (suc c) = outside_three (eqb (suc j) a) (eqb (suc j) b) (eqb (suc j) (suc c))

    pub made_meant : (f : Lane) (x y z : Bool) → Made (digits m f) (mark (suc m) a) (mark (suc m) b) (mark (suc m) c) x y z
        → MeantLane m named f (diff f (flips a b c x y z))
    made_meant f x y z made =
        record {
          valid = made_valid f x y z made;
          near =
              rw (
                count_same (suc m) (outside named f (diff f (flips a b c x y z))) (λ p. false)
                    (λ j l. ap (λ (t : Bool). not (among? named (suc j)) && t) (⊕-cancel (f (suc j)) (flips a b c x y z (suc j))) ∙ still x y z j),
                count_empty (suc m),
              )
              (omega arith);
        }

    -- and a lane that may have been meant differs in these rows alone
    module _ (f g : Lane) (meant : MeantLane m named f g) where
      abbrev d : Lane
      d = diff f g

      no_spare : (c : ℕ) → pick (spare? (rows_named a b c)) 1 ≡ 0
      no_spare zero = refl
      no_spare (suc c) = refl

      -- none of the three
      elsewhere : (j : ℕ) → j < suc m → (suc j ≡ a → ⊥) → (suc j ≡ b → ⊥) → (suc j ≡ c → ⊥) → d (suc j) ≡ false
      unfolding among?
      elsewhere j l na nb nc =
          ap (λ (t : Bool). not t && d (suc j)) (sym (by c nc))
          ∙ empty (suc m) (outside named f g) (omega (arith, meant.near, no_spare c)) j l
        where
          by : (c : ℕ) → (suc j ≡ c → ⊥) → among? (rows_named a b c) (suc j) ≡ false
          by zero nc = rw (ne_eqb (suc j) a na, ne_eqb (suc j) b nb)
          by (suc c) nc = rw (ne_eqb (suc j) a na, ne_eqb (suc j) b nb, ne_eqb (suc j) (suc c) nc)

      in_rows : (j : ℕ) → j < suc m → d (suc j) ≡ flips a b c (d a) (d b) (d c) (suc j)
      in_rows j l =
          by_cases (ℕ_discrete (suc j) a)
          (λ e.
          rw (eq-eqb (suc j) a e, ne_eqb (suc j) b (λ q. rows.a_b (sym e ∙ q)), ne_eqb (suc j) c (λ q. rows.a_c (sym e ∙ q)))
          (ap d e ∙ first (d a) (d b) (d c)))
          (λ na.
          by_cases (ℕ_discrete (suc j) b)
          (λ e. rw (ne_eqb (suc j) a na, eq-eqb (suc j) b e, ne_eqb (suc j) c (λ q. rows.b_c (sym e ∙ q))) (ap d e ∙ second (d a) (d b) (d c)))
          (λ nb.
          by_cases (ℕ_discrete (suc j) c)
          (λ e. rw (ne_eqb (suc j) a na, ne_eqb (suc j) b nb, eq-eqb (suc j) c e) (ap d e ∙ third (d a) (d b) (d c)))
          (λ nc. rw (ne_eqb (suc j) a na, ne_eqb (suc j) b nb, ne_eqb (suc j) c nc) (elsewhere j l na nb nc ∙ none (d a) (d b) (d c)))))
        where
          first : (x y z : Bool) → x ≡ (x && true) ⊕ ((y && false) ⊕ (z && false))
          first x y z = rw (and-true x, and-false y, and-false z) (sym (⊕-zero x))

          second : (x y z : Bool) → y ≡ (x && false) ⊕ ((y && true) ⊕ (z && false))
          second x y z = rw (and-false x, and-true y, and-false z) (sym (⊕-zero y))

          third : (x y z : Bool) → z ≡ (x && false) ⊕ ((y && false) ⊕ (z && true))
          third x y z = rw (and-false x, and-false y, and-true z)

          none : (x y z : Bool) → false ≡ (x && false) ⊕ ((y && false) ⊕ (z && false))
          none x y z = rw (and-false x, and-false y, and-false z)

      pub meant_made : Made (digits m f) (mark (suc m) a) (mark (suc m) b) (mark (suc m) c) (d a) (d b) (d c)
      meant_made k h =
          sym (digits_diff m f g k ∙ ap (λ (t : Bool). digits m f k ⊕ t) (none k) ∙ ⊕-zero (digits m f k))
          ∙ digits_same m d (flips a b c (d a) (d b) (d c)) in_rows k
          ∙ flips_made (d a) (d b) (d c) k h
        where
          none : (k : ℕ) → digits m g k ≡ false
          none k = by (eqb k 7)
            where
              by : (t : Bool) → cond t (odd (suc m) g) (bit k (sum m g)) ≡ false
              by true = meant.valid.even
              by false = ap (bit k) meant.valid.sum_zero ∙ bit_zero k

    -- ---- counts

    count_apart : (n : ℕ) (u v : Lane) → ((j : ℕ) → j < n → u (suc j) && v (suc j) ≡ false) → count n (diff u v) ≡ count n u + count n v
    unfolding count
    count_apart zero u v h = refl
    count_apart (suc n) u v h =
        omega (arith, count_apart n u v (λ j l. h j (omega arith)), both (u (suc n)) (v (suc n)) (h n (omega arith)))
      where
        both : (x y : Bool) → x && y ≡ false → pick (x ⊕ y) 1 ≡ pick x 1 + pick y 1
        both true true e = absurd (true≢false e)
        both true false e = refl
        both false y e = omega arith

    -- a row is not two
    never_both : (q r : ℕ) → (q ≡ r → ⊥) → (x y : Bool) (p : ℕ) → (x && eqb p q) && (y && eqb p r) ≡ false
    never_both q r ne x y p =
        by_cases (ℕ_discrete p q)
        (λ e. rw (ne_eqb p r (λ z. ne (sym e ∙ z)), and-false y) (and-false (x && eqb p q)))
        (λ n. rw (ne_eqb p q n, and-false x))

    pub flips_inside : (x y z : Bool) → (c ≡ 0 → z ≡ false)
        → count (suc m) (λ p. among? named p && flips a b c x y z p) ≡ pick x 1 + pick y 1 + pick z 1
    flips_inside x y z no_third =
        count_same (suc m) (λ p. among? named p && flips a b c x y z p) (flips a b c x y z)
        (λ j l. all (among? named (suc j)) (flips a b c x y z (suc j)) (still x y z j))
        ∙ count_apart (suc m) (one m a x) (diff (one m b y) (one m c z))
        (λ j l. apart3 (one m a x (suc j)) (one m b y (suc j)) (one m c z (suc j)) (never_both a b rows.a_b x y (suc j)) (never_both a c rows.a_c x z (suc j)))
        ∙ omega (
          arith,
          count_apart (suc m) (one m b y) (one m c z) (λ j l. never_both b c rows.b_c y z (suc j)),
          one_count m a x ra ∙ ap (λ (t : Bool). pick t 1) (there a x (λ e. omega (arith, rows.a_row))),
          one_count m b y rb ∙ ap (λ (t : Bool). pick t 1) (there b y (λ e. omega (arith, rows.b_row))),
          one_count m c z rc ∙ ap (λ (t : Bool). pick t 1) (by_cases (ℕ_discrete c 0)
              (λ e. rw (no_third e)) (λ ne. there c z ne)),
        )
      where
        all : (n v : Bool) → not n && v ≡ false → n && v ≡ v
        all true v e = refl
        all false v e = sym e

        apart3 : (u v w : Bool) → u && v ≡ false → u && w ≡ false → u && (v ⊕ w) ≡ false
        apart3 false v w e h = refl
        apart3 true v w e h = rw (e, h)

        there : (r : ℕ) (x : Bool) → (r ≡ 0 → ⊥) → x && not (eqb r 0) ≡ x
        there r x ne = rw (ne_eqb r 0 ne) (and-true x)

    pub flips_outside : (x y z : Bool) → count (suc m) (λ p. not (among? named p) && flips a b c x y z p) ≡ 0
    flips_outside x y z =
        count_same (suc m) (λ p. not (among? named p) && flips a b c x y z p) (λ p. false) (λ j l. still x y z j) ∙ count_empty (suc m)
