-- The sums as eight words hold each lane's sum and parity, and the lanes in which a word is set are those that are not valid. Assumes nothing.
use Prim.Native.Nat.{ℕ, zero, suc, ◌+◌, ◌*◌, ◌^◌, ◌≤◌, ◌<◌}
use mathlib.Core.Bool.{Bool, true, false, not, ◌||◌, cond}
use mathlib.Core.Path.{◌≡◌, refl, sym, ap, ap₂, ◌∙◌}
use mathlib.Core.List.{List}
use mathlib.Core.Logic.{⊎_elim}
use native.Mathlib.Nat.{eq-or-lt_of_le, le_of_suc-le-suc}
use native.Mathlib.Omega.{arith}
use lib.Bits.{bit_or, or_lt, or_add_and, and_le_l, and_le_r}
use lib.Dec.{eqb, ltb, eqb-suc-zero}
use lib.ListN.{length, get_or, replicate}
use lib.Pow.{pow_pos}
use lib.Seq.{ext_get_or}
use borrow.Author.Tests.{ne_eqb, lt-ltb}
use Rattle.lane.specs.Bit.{bit, pick}
use Rattle.lane.specs.Lane.{sum, odd}
use Rattle.lane.proofs.Bits.{bit_zero, bit_of_or}
use Rattle.lane.proofs.Exactly.{sum_lt}
use Rattle.ground.specs.Lists.{list_of}
use Rattle.ground.specs.Choice.{if_zero}
use Rattle.ground.proofs.Lists.{get_or_list_of, zeros_at}
use Rattle.shape.specs.declared.Shape.{Shape}
use Rattle.shape.specs.Shape.{before, rows}
use Rattle.shape.proofs.Sizes.{before_small}
use Rattle.stored.specs.Stored.{complemented}
use Rattle.sums.specs.Words.{lane, number, word}
use Rattle.sums.specs.declared.Finding.{Finding}
use Rattle.sums.specs.declared.Finding.TheVariants.{Clean, Doubt, Missing}
use Rattle.sums.specs.Sums.{lying, sums_of, doubtful, Looks, sum_in, odd_in, any_of}
use Rattle.sums.specs.Inner.{Kept}
use Rattle.sums.proofs.WordBits.{number_lt, number_bits, bit_number}

-- ---- the lanes with a sum

module _ (i : ℕ) (digits : List ℕ) where
  abbrev low : ℕ → ℕ
  low k = number k (λ j. bit i (get_or digits j 0))

  or_zero : (n k : ℕ) (b : Bool) → not (eqb n 0) || b ≡ not (eqb (n + pick b (2 ^ k)) 0)
  or_zero zero k true = sym (ap not (ne_eqb (0 + 2 ^ k) 0 (λ e. let p = pow_pos k in omega arith)))
  or_zero zero k false = refl
  or_zero (suc n) k b = rw (eqb-suc-zero n, ne_eqb (suc n + pick b (2 ^ k)) 0 (λ e. omega arith))

  pub bit_any : (k : ℕ) → bit i (any_of k digits) ≡ not (eqb (low k) 0)
  unfolding any_of number
  bit_any zero = bit_zero i
  bit_any (suc k) = rw (bit_of_or i, bit_any k) (or_zero (low k) k (bit i (get_or digits k 0)))

-- ---- the sums

module _ (shape : Shape) (block : List ℕ) where
  abbrev sums : List ℕ
  sums = sums_of shape block

  word_in : (k : ℕ) → k < 8 → get_or sums k 0 ≡ word (λ i. cond (ltb k 7) (bit k (sum (before shape) (lane i block))) (odd (rows shape) (lane i block)))
  unfolding sums_of list_of
  word_in = get_or_list_of 8 _

  pub digit_in : (k i : ℕ) → k < 7 → i < 32 → bit i (get_or sums k 0) ≡ bit k (sum (before shape) (lane i block))
  digit_in k i h l = rw (word_in k (omega arith), lt-ltb k 7 h) (bit_number 32 i _ l)

  pub odd_in_lem : (i : ℕ) → i < 32 → odd_in sums i ≡ odd (rows shape) (lane i block)
  unfolding sums_of
  odd_in_lem i l = bit_number 32 i (λ i. odd (rows shape) (lane i block)) l

  pub sum_in_lem : (i : ℕ) → i < 32 → sum_in sums i ≡ sum (before shape) (lane i block)
  sum_in_lem i l =
      sym (number_bits 7 (sum (before shape) (lane i block)) _ (sum_lt 7 (before shape) (lane i block) (before_small shape)) (λ k h. sym (digit_in k i h l)))

  pub word_lt : (k : ℕ) → k < 8 → get_or sums k 0 < 2 ^ 32
  word_lt k h = rw (word_in k h) (number_lt 32 _)

  pub any_lt : (k : ℕ) → k ≤ 8 → any_of k sums < 2 ^ 32
  unfolding any_of
  any_lt zero h = pow_pos 32
  any_lt (suc k) h = or_lt 32 (any_of k sums) (get_or sums k 0) (any_lt k (omega arith)) (word_lt k (omega arith))

  pub some_doubt : any_of 8 sums ≡ doubtful shape block
  unfolding doubtful any_of
  some_doubt =
      number_bits 32 (any_of 8 sums) _ (any_lt 8 (omega arith))
      (λ i l. rw (bit_of_or i (any_of 7 sums), bit_any i sums 7, sum_in_lem i l, odd_in_lem i l))

-- eight words that are the sums, and kept, are what a look is to find
pub looks : (shape : Shape) (words : List ℕ) (at s : ℕ) {lent after : List ℕ} {found : Finding} → at + before shape * s < length words
    → {eight : List ℕ} → eight ≡ sums_of shape (complemented (lying shape words at s)) → Kept eight found lent after → Looks shape words at s lent found after
looks shape words at s {lent = lent} there are k =
    let doubt = ap (any_of 8) are ∙ some_doubt shape (complemented (lying shape words at s)) in
    record {
      there = λ h. (k.0 ∙ ap (λ (n : ℕ). if_zero n Clean Doubt) doubt, k.1 ∙ ap₂ (λ (n : ℕ) (l : List ℕ). if_zero n lent l) doubt are);
      lanes = λ h. some_doubt shape (complemented (lying shape words at s));
      missing = λ none. absurd (none there);
    }

pub misses : (shape : Shape) (words : List ℕ) (at s : ℕ) (lent : List ℕ) → length words ≤ at + before shape * s → Looks shape words at s lent Missing lent
misses shape words at s lent short = record { there = λ h. absurd (omega arith); lanes = λ h. absurd (omega arith); missing = λ none. (refl, refl) }

-- what is found of the shape and the stride that are told
pub as_told : {shape known : Shape} {words : List ℕ} {at s t : ℕ} {lent after : List ℕ} {found : Finding} → shape ≡ known → s ≡ t
    → Looks known words at t lent found after → Looks shape words at s lent found after
as_told told stride l = rw (told, stride) l

-- what a caller learns of a block whose rows are all there, by what a look found
module _ (shape : Shape) (words : List ℕ) (at s : ℕ) where
  abbrev doubt : ℕ
  doubt = doubtful shape (complemented (lying shape words at s))

  abbrev code_words : List ℕ
  code_words = sums_of shape (complemented (lying shape words at s))

  module _ {lent after : List ℕ} (room : at + before shape * s < length words) where
    pub none_missing : Looks shape words at s lent Missing after → ⊥
    none_missing l = by doubt (l.there room).0
      where
        by : (n : ℕ) → Missing ≡ if_zero n Clean Doubt → ⊥
        by zero e = cc
        by (suc n) e = cc

    pub clean_found : Looks shape words at s lent Clean after → doubt ≡ 0
    clean_found l = by doubt (l.there room).0
      where
        by : (n : ℕ) → Clean ≡ if_zero n Clean Doubt → n ≡ 0
        by zero e = refl
        by (suc n) e = absurd (let no : ⊥ = cc in no)

    -- what is not found clean is in doubt, and its sums are kept
    pub else_found : {found : Finding} → Looks shape words at s lent found after → (found ≡ Clean → ⊥) → (doubt ≡ 0 → ⊥) × (after ≡ code_words)
    else_found {found} l never = by doubt (l.there room).0 (l.there room).1
      where
        by : (n : ℕ) → found ≡ if_zero n Clean Doubt → after ≡ if_zero n lent code_words → (n ≡ 0 → ⊥) × (after ≡ code_words)
        by zero e k = absurd (never e)
        by (suc n) e k = (λ z. cc, k)

    pub doubt_found : Looks shape words at s lent Doubt after → (doubt ≡ 0 → ⊥) × (after ≡ code_words)
    doubt_found l = else_found l (λ e. cc)

-- where no lane has a one in any word, each word is zero
or_none : (a b : ℕ) → bit_or a b ≡ 0 → (a ≡ 0) × (b ≡ 0)
or_none a b e = (omega (arith, or_add_and a b, and_le_r a b), omega (arith, or_add_and a b, and_le_l a b))

any_none : (l : List ℕ) (n : ℕ) → any_of n l ≡ 0 → (k : ℕ) → k < n → get_or l k 0 ≡ 0
unfolding any_of
any_none l zero e k h = absurd (omega arith)
any_none l (suc n) e k h =
    let o = or_none (any_of n l) (get_or l n 0) e in
    ⊎_elim (λ q. ap (λ (j : ℕ). get_or l j 0) q ∙ o.1) (λ b. any_none l n o.0 k b) (eq-or-lt_of_le (le_of_suc-le-suc h))

-- sums kept in zeros are there either way: those that are not kept are zeros themselves
pub kept_in_zeros : (shape : Shape) (block after : List ℕ) → after ≡ if_zero (doubtful shape block) (replicate 8 0) (sums_of shape block)
    → after ≡ sums_of shape block
unfolding sums_of
kept_in_zeros shape block after k = by (doubtful shape block) refl k
  where
    by : (n : ℕ) → n ≡ doubtful shape block → after ≡ if_zero n (replicate 8 0) (sums_of shape block) → after ≡ sums_of shape block
    by zero e k =
        k ∙ sym (ext_get_or 0 (sums_of shape block) (replicate 8 0) refl
        (λ j h. any_none (sums_of shape block) 8 (some_doubt shape block ∙ sym e) j (omega arith) ∙ sym (zeros_at 8 j)))
    by (suc n) e k = k
