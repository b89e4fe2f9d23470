-- Decimal digits: one for a number below 10, and else those of n / 10 and then n % 10. Read as digits they are the number. Assumes nothing.
use Prim.Native.Nat.{ℕ, zero, suc, ◌+◌, ◌-◌, ◌*◌, ◌/◌, ◌%◌, ◌^◌, ◌≤◌, ◌<◌}
use mathlib.Core.Path.{◌≡◌, refl, sym, ap, ◌∙◌}
use mathlib.Core.List.{List, [], ◌∷◌, ◌++◌, append_assoc}
use native.Mathlib.Decide.{dec_lt}
use native.Mathlib.Nat.{pow-succ'}
use native.Mathlib.Omega.{arith}
use borrow.Author.Tests.{lt-ltb, le-ltb}
use lib.ListN.{length, get_or, set, take, drop, length-append, get_or-append}
use lib.Seq.{set_split, drop_at, length-take-le}
use Rattle.text.specs.Text.{digit, spelled, decimal}

-- ---- the steps

one_digit : (steps n : ℕ) → n < 10 → spelled steps n ≡ digit n ∷ []
unfolding spelled
one_digit zero n h = refl
one_digit (suc steps) n h = rw (lt-ltb n 10 h)

more_digits : (steps n : ℕ) → 10 ≤ n → spelled (suc steps) n ≡ spelled steps (n / 10) ++ digit (n % 10) ∷ []
unfolding spelled
more_digits steps n h = rw (le-ltb n 10 h)

-- steps that are enough are as good as any
enough : (a b n : ℕ) → n ≤ a → n ≤ b → spelled a n ≡ spelled b n
enough zero b n h k = one_digit zero n (omega arith) ∙ sym (one_digit b n (omega arith))
enough (suc a) zero n h k = one_digit (suc a) n (omega arith) ∙ sym (one_digit zero n (omega arith))
enough (suc a) (suc b) n h k = elim (dec_lt n 10) [
  | yes l ↦ one_digit (suc a) n l ∙ sym (one_digit (suc b) n l)
  | no l ↦ more_digits a n (omega arith)
      ∙ ap (λ (ds : List ℕ). ds ++ digit (n % 10) ∷ []) (enough a b (n / 10) (omega arith) (omega arith))
      ∙ sym (more_digits b n (omega arith))
]

-- ---- the two laws

pub decimal_one : (n : ℕ) → n < 10 → decimal n ≡ digit n ∷ []
unfolding decimal
decimal_one n h = one_digit n n h

pub decimal_more : (n : ℕ) → 10 ≤ n → decimal n ≡ decimal (n / 10) ++ digit (n % 10) ∷ []
unfolding decimal
decimal_more zero h = absurd (omega arith)
decimal_more (suc n) h =
    more_digits n (suc n) h ∙ ap (λ (ds : List ℕ). ds ++ digit (suc n % 10) ∷ []) (enough n (suc n / 10) (suc n / 10) (omega arith) (omega arith))

-- ---- read as digits

-- the number that digits spell, after those that were read
unfoldable pub value_from : ℕ → List ℕ → ℕ
value_from n [] = n
value_from n (d ∷ ds) = value_from (n * 10 + (d - 48)) ds

value_last : (n : ℕ) (ds : List ℕ) (d : ℕ) → value_from n (ds ++ digit d ∷ []) ≡ value_from n ds * 10 + d
unfolding value_from
value_last n [] d = omega arith
value_last n (e ∷ ds) d = value_last (n * 10 + (e - 48)) ds d

by_steps : (steps n : ℕ) → n ≤ steps → value_from 0 (decimal n) ≡ n
unfolding value_from
by_steps zero n h = rw (decimal_one n (omega arith)) (omega arith)
by_steps (suc steps) n h = elim (dec_lt n 10) [
  | yes l ↦ rw (decimal_one n l) (omega arith)
  | no l ↦ ap (value_from 0) (decimal_more n (omega arith))
      ∙ value_last 0 (decimal (n / 10)) (n % 10)
      ∙ ap (λ (k : ℕ). k * 10 + n % 10) (by_steps steps (n / 10) (omega arith))
      ∙ omega arith
]

-- the digits of n spell n
pub decimal_value : (n : ℕ) → value_from 0 (decimal n) ≡ n
decimal_value n = by_steps n n (omega arith)

-- ---- how many

pub length_one : (n : ℕ) → n < 10 → length (decimal n) ≡ 1
length_one n h = ap length (decimal_one n h)

pub length_more : (n : ℕ) → 10 ≤ n → length (decimal n) ≡ length (decimal (n / 10)) + 1
length_more n h = ap length (decimal_more n h) ∙ length-append (decimal (n / 10)) (digit (n % 10) ∷ [])

pub decimal_some : (n : ℕ) → 0 < length (decimal n)
decimal_some n = elim (dec_lt n 10) [
  | yes l ↦ omega (arith, length_one n l)
  | no l ↦ omega (arith, length_more n (omega arith))
]

-- a number below 10 ^ k has at most k digits
pub decimal_short : (k n : ℕ) → n < 10 ^ suc k → length (decimal n) ≤ suc k
decimal_short zero n h = omega (arith, length_one n (omega arith))
decimal_short (suc k) n h = elim (dec_lt n 10) [
  | yes l ↦ omega (arith, length_one n l)
  | no l ↦ omega (arith, length_more n (omega arith), decimal_short k (n / 10) (omega (arith, pow-succ' 10 (suc k))))
]

-- ---- no zeros in front

front_steps : (steps n : ℕ) → n ≤ steps → 1 ≤ n → get_or (decimal n) 0 0 ≡ digit 0 → ⊥
front_steps zero n h l e = omega arith
front_steps (suc steps) n h l e = elim (dec_lt n 10) [
  | yes low ↦ omega (arith, sym e ∙ ap (λ (ds : List ℕ). get_or ds 0 0) (decimal_one n low))
  | no high ↦ front_steps steps (n / 10) (omega arith) (omega arith)
      (sym (get_or-append (decimal (n / 10)) (digit (n % 10) ∷ []) 0 0 (decimal_some (n / 10)))
      ∙ ap (λ (ds : List ℕ). get_or ds 0 0) (sym (decimal_more n (omega arith)))
      ∙ e)
]

-- the first digit of a number above 0 is no 0
pub decimal_front : (n : ℕ) → 1 ≤ n → get_or (decimal n) 0 0 ≡ digit 0 → ⊥
decimal_front n = front_steps n n (omega arith)

-- ---- digits that are put before those that stand at the end of a list, the last digit first

module _ (n rest first : ℕ) (digits : List ℕ) where
  -- one more stands before them
  put_front : (d : ℕ) → 0 < first → first ≤ length digits → drop (first - 1) (set digits (first - 1) d) ≡ d ∷ drop first digits
  put_front d some h =
      let next : suc (first - 1) ≡ first = omega arith in
      ap (drop (first - 1)) (set_split digits (first - 1) d (omega arith))
      ∙ drop_at (take (first - 1) digits) (d ∷ drop (suc (first - 1)) digits) (first - 1) (length-take-le (first - 1) digits (omega arith))
      ∙ ap (λ (k : ℕ). d ∷ drop k digits) next

  module _ (e : decimal n ≡ decimal rest ++ drop first digits) (some : 0 < first) (h : first ≤ length digits) where
    -- the last of more digits, and the others are left
    pub put_more : 10 ≤ rest → decimal n ≡ decimal (rest / 10) ++ drop (first - 1) (set digits (first - 1) (digit (rest % 10)))
    put_more l =
        e
        ∙ ap (λ (ds : List ℕ). ds ++ drop first digits) (decimal_more rest l)
        ∙ append_assoc (decimal (rest / 10)) (digit (rest % 10) ∷ []) (drop first digits)
        ∙ ap (λ (ds : List ℕ). decimal (rest / 10) ++ ds) (sym (put_front (digit (rest % 10)) some h))

    -- the only digit left, and all stand
    pub put_only : rest / 10 ≡ 0 → drop (first - 1) (set digits (first - 1) (digit (rest % 10))) ≡ decimal n
    put_only l =
        let same : rest % 10 ≡ rest = omega arith in
        put_front (digit (rest % 10)) some h
        ∙ ap (λ (d : ℕ). digit d ∷ drop first digits) same
        ∙ ap (λ (ds : List ℕ). ds ++ drop first digits) (sym (decimal_one rest (omega arith)))
        ∙ sym e
