-- Flipping the row that a lane's sum names, lane by lane, lowest set lane first. Assumes nothing.
use Prim.Native.Nat.{ℕ, zero, suc, ◌-◌, ◌*◌, ◌/◌, ◌%◌, ◌^◌, ◌≤◌, ◌<◌}
use mathlib.Core.Bool.{Bool, true, false, not, ◌&&◌, and-true, and-false}
use mathlib.Core.Path.{◌≡◌, refl, sym, ap, ◌∙◌}
use mathlib.Core.List.{List}
use mathlib.Core.Logic.{by_cases}
use native.Mathlib.Decide.{ℕ_discrete}
use native.Mathlib.Nat.{pow-suc, one-mul}
use native.Mathlib.Omega.{arith}
use lib.Bits.{bit_xor, bit_and, xor_zero_r, xor_lt, and_lt, xor_add_and}
use lib.Count.{count_trailing_zeros, under}
use lib.Dec.{eqb, eqb-suc-zero}
use lib.ListN.{length, get_or, set, length-set}
use lib.Pow.{pow_pos, pow-lt, shl_exact}
use lib.Seq.{get_or-set_same, get_or-set_other}
use borrow.Author.Tests.{eq-eqb, ne_eqb}
use Rattle.lane.specs.Bit.{set?, bit, ◌⊕◌}
use Rattle.lane.proofs.Bits.{bit_zero, bit_of_xor, bit_of_and, bit_ext_below, xor_assoc, ⊕-zero}
use Rattle.lane.proofs.Rows.{power_digit, power_apart}
use Rattle.ground.proofs.Lists.{length_list_of, get_or_list_of, list_is, list_of_same}
use Rattle.sums.specs.Words.{word}
use Rattle.sums.specs.Sums.{sum_in}
use Rattle.block.specs.Inner.{row_named, flipped_in}
use Rattle.sums.proofs.WordBits.{number_lt, number_bits, number_same, bit_number}

-- ---- the lowest set lane

pub trailing_set : (k w : ℕ) → w < 2 ^ k → (w ≡ 0 → ⊥) → (count_trailing_zeros k w < k) × (bit (count_trailing_zeros k w) w ≡ true)
unfolding count_trailing_zeros bit
trailing_set zero w h ne = absurd (ne (omega arith))
trailing_set (suc k) w h ne = go (λ b c. trailing_set k (w / 2) b c) (w % 2) refl
  where
    go : (w / 2 < 2 ^ k → (w / 2 ≡ 0 → ⊥) → (count_trailing_zeros k (w / 2) < k) × (bit (count_trailing_zeros k (w / 2)) (w / 2) ≡ true))
        → (d : ℕ) → w % 2 ≡ d → (under d (count_trailing_zeros k (w / 2)) < suc k) × (bit (under d (count_trailing_zeros k (w / 2))) w ≡ true)
    go ih zero e =
        let p = pow-suc 2 k in
        let r = ih (omega arith) (λ z. ne (omega arith)) in
        (omega (arith, r.0), r.1)
    go ih (suc d) e = (omega arith, ap set? e)

-- clearing a set lane
pub bit_cleared : (w i k : ℕ) → bit k (bit_xor w (2 ^ i)) ≡ bit k w ⊕ eqb k i
bit_cleared w i k =
    bit_of_xor k w (2 ^ i)
    ∙ ap (λ (b : Bool). bit k w ⊕ b)
    (by_cases (ℕ_discrete k i) (λ e. rw (eq-eqb k i e) (rw e (power_digit i))) (λ ne. rw (ne_eqb k i ne) (power_apart k i ne)))

pub clear_less : (w i : ℕ) → w < 2 ^ 32 → i < 32 → bit i w ≡ true → bit_xor w (2 ^ i) < w
clear_less w i h l e =
    let p = pow-lt {i = i} {j = 32} l in
    let a : bit_and w (2 ^ i) ≡ 2 ^ i =
    bit_ext_below 32 (bit_and w (2 ^ i)) (2 ^ i) (and_lt 32 w (2 ^ i) h p) p
    (λ k b.
    bit_of_and k w (2 ^ i)
    ∙ by_cases (ℕ_discrete k i) (λ q. rw q (ap (λ (x : Bool). x && bit i (2 ^ i)) e)) (λ ne. rw (power_apart k i ne) (and-false (bit k w)))) in
    omega (arith, xor_add_and w (2 ^ i), pow_pos i)

-- ---- one lane more

pub word_flip : (f : ℕ → Bool) (i : ℕ) → i < 32 → bit_xor (word f) (2 ^ i) ≡ word (λ k. f k ⊕ eqb k i)
word_flip f i h =
    number_bits 32 (bit_xor (word f) (2 ^ i)) (λ k. f k ⊕ eqb k i) (xor_lt 32 (word f) (2 ^ i) (number_lt 32 f) (pow-lt {i = i} {j = 32} h))
    (λ k l. bit_cleared (word f) i k ∙ ap (λ (b : Bool). b ⊕ eqb k i) (bit_number 32 k f l))

pub word_none : word (λ i. false) ≡ 0
word_none = sym (number_bits 32 0 (λ i. false) (pow_pos 32) (λ i l. bit_zero i))

module _ (last : ℕ) (digits block : List ℕ) where
  -- the lanes that are to be flipped in row j + 1
  abbrev here : (ℕ → Bool) → ℕ → ℕ → Bool
  here lanes j i = lanes i && eqb (suc j) (row_named last (sum_in digits i))

  pub flipped_same : (f g : ℕ → Bool) → ((i : ℕ) → i < 32 → f i ≡ g i) → flipped_in last digits f block ≡ flipped_in last digits g block
  unfolding flipped_in
  flipped_same f g e =
      list_of_same (length block) _ _
      (λ j h.
      ap (bit_xor (get_or block j 0))
      (number_same 32 (here f j) (here g j) (λ i l. ap (λ (b : Bool). b && eqb (suc j) (row_named last (sum_in digits i))) (e i l))))

  pub flipped_none : block ≡ flipped_in last digits (λ i. false) block
  unfolding flipped_in
  flipped_none = list_is (length block) block _ refl (λ j l. sym (ap (bit_xor (get_or block j 0)) word_none ∙ xor_zero_r (get_or block j 0)))

  module _ (lanes : ℕ → Bool) (i : ℕ) (hi : i < 32) (off : lanes i ≡ false) where
    abbrev more : ℕ → Bool
    more k = lanes k ⊕ eqb k i

    lane_there : (j : ℕ) → suc j ≡ row_named last (sum_in digits i) → (k : ℕ) → here lanes j k ⊕ eqb k i ≡ here more j k
    lane_there j e k =
        by_cases (ℕ_discrete k i)
        (λ q. rw q (rw (off, eq-eqb i i refl, eq-eqb (suc j) (row_named last (sum_in digits i)) e)))
        (λ ne. rw (ne_eqb k i ne, ⊕-zero (lanes k), ⊕-zero (here lanes j k)))

    lane_elsewhere : (j : ℕ) → (suc j ≡ row_named last (sum_in digits i) → ⊥) → (k : ℕ) → here lanes j k ≡ here more j k
    lane_elsewhere j ne k =
        by_cases (ℕ_discrete k i)
        (λ q. rw q (rw (off, eq-eqb i i refl, ne_eqb (suc j) (row_named last (sum_in digits i)) ne)))
        (λ nq. rw (ne_eqb k i nq, ⊕-zero (lanes k)))

    -- flipping the bit of lane i in the row that its sum names adds that lane
    pub flip_more : (p : ℕ) → p ≡ row_named last (sum_in digits i) → 1 ≤ p
        → set (flipped_in last digits lanes block) (p - 1) (bit_xor (get_or (flipped_in last digits lanes block) (p - 1) 0) (2 ^ i))
        ≡ flipped_in last digits (λ k. lanes k ⊕ eqb k i) block
    unfolding flipped_in
    flip_more p e l =
        list_is (length block) _ _ (length-set (flipped_in last digits lanes block) (p - 1) _ ∙ length_list_of (length block) _)
        (λ j b.
        by_cases (ℕ_discrete j (p - 1))
        (λ q.
        rw q
        (get_or-set_same (flipped_in last digits lanes block) (p - 1) _ 0 (rw length_list_of (omega arith))
        ∙ ap (λ (x : ℕ). bit_xor x (2 ^ i)) (get_or_list_of (length block) _ (p - 1) (omega arith))
        ∙ xor_assoc (get_or block (p - 1) 0) (word (here lanes (p - 1))) (2 ^ i)
        ∙ ap (bit_xor (get_or block (p - 1) 0))
        (word_flip (here lanes (p - 1)) i hi ∙ number_same 32 _ _ (λ k r. lane_there (p - 1) (let z : suc (p - 1) ≡ p = omega arith in z ∙ e) k))))
        (λ nq.
        get_or-set_other (flipped_in last digits lanes block) (p - 1) j _ 0 nq
        ∙ get_or_list_of (length block) _ j b
        ∙ ap (bit_xor (get_or block j 0))
        (number_same 32 (here lanes j) (here more j) (λ k r. lane_elsewhere j (λ z. nq (let y : suc j ≡ p = z ∙ sym e in omega arith)) k))))

-- the word with a one in lane i alone
pub one_lane : (i : ℕ) → i < 32 → (1 * 2 ^ i) % 2 ^ 32 ≡ 2 ^ i
one_lane i h = shl_exact {a = 1} 1 i 32 (omega arith) (omega arith) ∙ one-mul (2 ^ i)

-- a sum below the last row names a row
pub named_there : (last sum : ℕ) → 1 ≤ last → last ≤ 72 → sum < last → (1 ≤ row_named last sum) × (row_named last sum ≤ 72)
named_there last zero l h s = (l, h)
named_there last (suc sum) l h s = rw (eqb-suc-zero sum) (omega arith, omega arith)

-- ---- a turn of the loop: some lanes are left, and the lowest of them is flipped

module _ (last : ℕ) (digits block : List ℕ) (lanes : ℕ) where
  abbrev pub done_but : ℕ → List ℕ
  done_but left = flipped_in last digits (λ k. bit k lanes && not (bit k left)) block

  pub none_done : block ≡ done_but lanes
  none_done = flipped_none last digits block ∙ flipped_same last digits block _ _ (λ i l. none (bit i lanes))
    where
      none : (b : Bool) → false ≡ (b && not b)
      none true = refl
      none false = refl

  pub all_done : done_but 0 ≡ flipped_in last digits (λ k. bit k lanes) block
  all_done = flipped_same last digits block _ _ (λ i l. rw (bit_zero i) (and-true (bit i lanes)))

  module _ (left i : ℕ) (hi : i < 32) (on : bit i left ≡ true) (within : (k : ℕ) → bit k left ≡ true → bit k lanes ≡ true) where
    pub next_within : (k : ℕ) → bit k (bit_xor left (2 ^ i)) ≡ true → bit k lanes ≡ true
    next_within k e =
        by_cases (ℕ_discrete k i) (λ q. rw q (within i on))
        (λ ne. within k (sym (bit_cleared left i k ∙ ap (λ (b : Bool). bit k left ⊕ b) (ne_eqb k i ne) ∙ ⊕-zero (bit k left)) ∙ e))

    pub next_done : (p : ℕ) → p ≡ row_named last (sum_in digits i) → 1 ≤ p
        → set (done_but left) (p - 1) (bit_xor (get_or (done_but left) (p - 1) 0) (2 ^ i)) ≡ done_but (bit_xor left (2 ^ i))
    next_done p e l =
        flip_more last digits block (λ k. bit k lanes && not (bit k left)) i hi (rw (on, within i on)) p e l
        ∙ flipped_same last digits block _ _
        (λ k r.
        rw bit_cleared
        (by_cases (ℕ_discrete k i)
        (λ q. rw q (rw (eq-eqb i i refl, on, within i on)))
        (λ ne. rw (ne_eqb k i ne) (rw (⊕-zero (bit k left)) (⊕-zero (bit k lanes && not (bit k left)))))))
