-- The exclusive or over rows that pass a test: linear in the test, and lane by lane the digits of the sums and the parities. Assumes nothing.
use Prim.Native.Nat.{ℕ, zero, suc, ◌^◌, ◌≤◌, ◌<◌}
use mathlib.Core.Bool.{Bool, true, false, not, ◌&&◌, and_comm}
use mathlib.Core.Path.{◌≡◌, refl, sym, ap, ap₂, ◌∙◌}
use mathlib.Core.List.{List, [], ◌∷◌}
use mathlib.Core.Logic.{⊎_elim}
use native.Mathlib.Nat.{eq-or-lt_of_le, le_of_suc-le-suc}
use native.Mathlib.Omega.{arith}
use lib.Bits.{bit_xor, xor_zero_r, xor_lt}
use lib.Dec.{eqb, leb}
use lib.Pow.{pow_pos}
use borrow.Author.Tests.{eq-eqb, ne_eqb, le-leb, lt-leb, leb-true, not-true}
use Rattle.lane.specs.Bit.{bit, ◌⊕◌, pick}
use Rattle.lane.specs.Lane.{Lane, sum, count, odd}
use Rattle.lane.proofs.Bits.{bit_zero, bit_of_xor, xor_swap}
use Rattle.lane.proofs.Linear.{odd_suc, pick_xor, sum_same, count_same}
use Rattle.lane.proofs.Exactly.{pick_bit}
use Rattle.ground.proofs.Bools.{both}
use Rattle.shape.specs.declared.Shape.{Shape}
use Rattle.shape.specs.Shape.{before, rows}
use Rattle.sums.specs.Words.{row, lane, word}
use Rattle.sums.specs.Sums.{sums_of}
use Rattle.sums.specs.Inner.{xor_rows}
use Rattle.sums.proofs.WordBits.{number_bits}

-- ---- tests

-- the rows of two tests together: those that pass one of them and not the other
pub xor_both : (t u : ℕ → Bool) (n : ℕ) (w : ℕ → ℕ) → bit_xor (xor_rows t n w) (xor_rows u n w) ≡ xor_rows (λ p. t p ⊕ u p) n w
unfolding xor_rows
xor_both t u zero w = refl
xor_both t u (suc n) w = rw (pick_xor, ← xor_both t u n w) (xor_swap (xor_rows t n w) _ _ _)

-- do two bits agree, and do two tests on rows 1 to n: by computing
abbrev pub alike : Bool → Bool → Bool
alike true b = b
alike false b = not b

unfoldable pub agree? : (t u : ℕ → Bool) → ℕ → Bool
agree? t u zero = true
agree? t u (suc n) = agree? t u n && alike (t (suc n)) (u (suc n))

agree_same : (t u : ℕ → Bool) (n : ℕ) (w : ℕ → ℕ) → agree? t u n ≡ true → xor_rows t n w ≡ xor_rows u n w
unfolding agree? xor_rows
agree_same t u zero w e = refl
agree_same t u (suc n) w e =
    let b = both (agree? t u n) (alike (t (suc n)) (u (suc n))) e in
    rw (alike_same (t (suc n)) (u (suc n)) b.1, agree_same t u n w b.0)
  where
    alike_same : (a b : Bool) → alike a b ≡ true → a ≡ b
    alike_same true b e = sym e
    alike_same false b e = sym (not-true b e)

-- no row, and one row
pub no_row : (t : ℕ → Bool) (n : ℕ) (w : ℕ → ℕ) → ((p : ℕ) → p ≤ n → t p ≡ false) → xor_rows t n w ≡ 0
unfolding xor_rows
no_row t zero w h = refl
no_row t (suc n) w h = rw (h (suc n) (omega arith), no_row t n w (λ p l. h p (omega arith)))

pub one_row : (q n : ℕ) (w : ℕ → ℕ) → 1 ≤ q → q ≤ n → w q ≡ xor_rows (λ p. eqb p q) n w
unfolding xor_rows
one_row q zero w f l = absurd (omega arith)
one_row q (suc n) w f l =
    ⊎_elim
    (λ e. rw (eq-eqb (suc n) q (sym e), no_row (λ p. eqb p q) n w (λ p k. ne_eqb p q (λ d. omega arith))) (ap w e))
    (λ b. rw (ne_eqb (suc n) q (λ d. omega arith), xor_zero_r) (one_row q n w f (le_of_suc-le-suc b)))
    (eq-or-lt_of_le l)

-- the rows up to one, among all of them
pub rows_upto : (k n : ℕ) (w : ℕ → ℕ) → k ≤ n → xor_rows (λ p. true) k w ≡ xor_rows (λ p. leb p k) n w
unfolding xor_rows
rows_upto k zero w h = let e : k ≡ 0 = omega arith in rw e
rows_upto k (suc n) w h =
    ⊎_elim (λ (e : k ≡ suc n). ap (λ (m : ℕ). xor_rows (λ p. true) m w) e ∙ every k (suc n) (omega arith))
    (λ b. rw (lt-leb (suc n) k (omega arith), xor_zero_r) (rows_upto k n w (le_of_suc-le-suc b)))
    (eq-or-lt_of_le h)
  where
    every : (k m : ℕ) → m ≤ k → xor_rows (λ p. true) m w ≡ xor_rows (λ p. leb p k) m w
    every k zero h = unfold xor_rows in refl
    every k (suc m) h = unfold xor_rows in (rw (le-leb (suc m) k h, every k m (omega arith)))

-- a word that is made of rows: those of the first n that pass the test, where each row taken is there
pub record Made (n : ℕ) (w : ℕ → ℕ) (a : ℕ) : Type 0 where
  pub test : ℕ → Bool
  pub there : Bool
  pub is : there ≡ true → a ≡ xor_rows test n w

module _ {n : ℕ} {w : ℕ → ℕ} where
  abbrev pub none : Made n w 0
  none = record { test = λ p. false; there = true; is = λ e. sym (no_row (λ p. false) n w (λ p l. refl)) }

  abbrev pub one : (q : ℕ) → Made n w (w q)
  one q =
      record {
        test = λ p. eqb p q;
        there = leb 1 q && leb q n;
        is = λ e. let b = both (leb 1 q) (leb q n) e in one_row q n w (leb-true 1 q b.0) (leb-true q n b.1);
      }

  abbrev pub upto : (k : ℕ) → Made n w (xor_rows (λ p. true) k w)
  upto k = record { test = λ p. leb p k; there = leb k n; is = λ e. rows_upto k n w (leb-true k n e) }

  abbrev pub same : {a b : ℕ} → a ≡ b → Made n w b → Made n w a
  same e x = record { test = x.test; there = x.there; is = λ t. e ∙ x.is t }

  infixl 30 ◌xor◌
  abbrev pub ◌xor◌ : {a b : ℕ} → Made n w a → Made n w b → Made n w (bit_xor a b)
  x xor y =
      record {
        test = λ p. x.test p ⊕ y.test p;
        there = x.there && y.there;
        is = λ e. let b = both x.there y.there e in ap₂ bit_xor (x.is b.0) (y.is b.1) ∙ xor_both x.test y.test n w;
      }

  -- by computing: every row taken is there, and the rows are those of another test
  pub agreed : {a : ℕ} (u : ℕ → Bool) (x : Made n w a) → x.there && agree? x.test u n ≡ true → a ≡ xor_rows u n w
  agreed u x e = let b = both x.there (agree? x.test u n) e in x.is b.0 ∙ agree_same x.test u n w b.1

-- ---- lanes

module _ (i : ℕ) (w : ℕ → ℕ) where
  abbrev f : Lane
  f p = bit i (w p)

  -- bit i of the word for digit k is digit k of lane i's sum
  pub bit_digit : (k m : ℕ) → bit i (xor_rows (bit k) m w) ≡ bit k (sum m f)
  unfolding xor_rows sum
  bit_digit k zero = bit_zero i ∙ sym (bit_zero k)
  bit_digit k (suc m) = rw (bit_of_xor i, bit_of_xor k, pick_bit i, pick_bit k, bit_digit k m, and_comm (bit k (suc m)))

  -- bit i of the word of all rows is lane i's parity
  pub bit_parity : (n : ℕ) → bit i (xor_rows (λ p. true) n w) ≡ odd n f
  unfolding xor_rows
  bit_parity zero = unfold count in (bit_zero i ∙ sym (bit_zero 0))
  bit_parity (suc n) = rw (bit_of_xor i, bit_parity n, odd_suc n f)

pub xor_rows_lt : (t : ℕ → Bool) (n : ℕ) (w : ℕ → ℕ) → ((p : ℕ) → w p < 2 ^ 32) → xor_rows t n w < 2 ^ 32
unfolding xor_rows
xor_rows_lt t zero w h = pow_pos 32
xor_rows_lt t (suc n) w h = xor_lt 32 (xor_rows t n w) (pick (t (suc n)) (w (suc n))) (xor_rows_lt t n w h) (of (t (suc n)))
  where
    of : (b : Bool) → pick b (w (suc n)) < 2 ^ 32
    of true = h (suc n)
    of false = pow_pos 32

-- ---- the eight words

-- two lists of eight, word by word
pub same_eight : {a b c d e f g h a' b' c' d' e' f' g' h' : ℕ} → a ≡ a' → b ≡ b' → c ≡ c' → d ≡ d' → e ≡ e' → f ≡ f' → g ≡ g' → h ≡ h'
    → a ∷ b ∷ c ∷ d ∷ e ∷ f ∷ g ∷ h ∷ [] ≡ a' ∷ b' ∷ c' ∷ d' ∷ e' ∷ f' ∷ g' ∷ h' ∷ []
same_eight ea eb ec ed ee ef eg eh = cc

module _ (shape : Shape) (block : List ℕ) (w : ℕ → ℕ) (fits : (p : ℕ) → w p < 2 ^ 32) (lies : (p : ℕ) → 1 ≤ p → p ≤ rows shape → w p ≡ row p block) where
  lane_lies : (i j : ℕ) → j < rows shape → bit i (w (suc j)) ≡ lane i block (suc j)
  lane_lies i j h = ap (bit i) (lies (suc j) (omega arith) h)

  pub digit_is : (k : ℕ) → xor_rows (bit k) (before shape) w ≡ word (λ i. bit k (sum (before shape) (lane i block)))
  digit_is k =
      number_bits 32 _ _ (xor_rows_lt (bit k) (before shape) w fits)
      (λ i h. bit_digit i w k (before shape) ∙ ap (bit k) (sum_same (before shape) _ (lane i block) (λ j l. lane_lies i j (omega arith))))

  pub parity_is : xor_rows (λ p. true) (rows shape) w ≡ word (λ i. odd (rows shape) (lane i block))
  parity_is =
      number_bits 32 _ _ (xor_rows_lt (λ p. true) (rows shape) w fits)
      (λ i h. bit_parity i w (rows shape) ∙ ap (bit 0) (count_same (rows shape) _ (lane i block) (lane_lies i)))

  -- eight words that are the exclusive or of the rows that each digit and the parity want are the block's sums
  pub sums_are : {a b c d e f g h : ℕ} → a ≡ xor_rows (bit 0) (before shape) w → b ≡ xor_rows (bit 1) (before shape) w
      → c ≡ xor_rows (bit 2) (before shape) w → d ≡ xor_rows (bit 3) (before shape) w → e ≡ xor_rows (bit 4) (before shape) w
      → f ≡ xor_rows (bit 5) (before shape) w → g ≡ xor_rows (bit 6) (before shape) w → h ≡ xor_rows (λ p. true) (rows shape) w
      → a ∷ b ∷ c ∷ d ∷ e ∷ f ∷ g ∷ h ∷ [] ≡ sums_of shape block
  unfolding sums_of
  sums_are ea eb ec ed ee ef eg eh =
      same_eight (ea ∙ digit_is 0) (eb ∙ digit_is 1) (ec ∙ digit_is 2) (ed ∙ digit_is 3) (ee ∙ digit_is 4) (ef ∙ digit_is 5) (eg ∙ digit_is 6)
      (eh ∙ parity_is)
