-- Setting the check rows by the words of the sums makes the valid block for the data. Assumes nothing.
use Prim.Native.Nat.{ℕ, zero, suc, ◌-◌, ◌^◌, ◌≤◌, ◌<◌}
use mathlib.Core.Bool.{Bool, false, cond, ◌&&◌, and-true, and-false}
use mathlib.Core.Path.{◌≡◌, refl, sym, ap, ap₂, ◌∙◌}
use mathlib.Core.List.{List}
use mathlib.Core.Logic.{⊎_elim, by_cases}
use native.Mathlib.Decide.{ℕ_discrete}
use native.Mathlib.Nat.{le_refl, eq-or-lt_of_le, le_of_suc-le-suc, add-zero}
use native.Mathlib.Omega.{arith}
use lib.Bits.{bit_xor, xor_lt, xor_zero_r}
use lib.Dec.{eqb, ltb, lit≤}
use lib.ListN.{length, get_or, set, length-set}
use lib.Pow.{pow_pos, pow_mono, pow-lt}
use lib.Seq.{get_or-set_same, get_or-set_other}
use borrow.Author.Tests.{eq-eqb, ne_eqb, lt-ltb, le-ltb}
use Rattle.lane.specs.Bit.{bit, ◌⊕◌}
use Rattle.lane.specs.Lane.{Lane, sum, count, odd}
use Rattle.lane.specs.Rows.{power?, DataRow}
use Rattle.lane.specs.Encoded.{named, summed, encoded}
use Rattle.lane.proofs.Bits.{bit_zero, bit_of_xor, bit_high, bit_ext_below, ⊕-zero}
use Rattle.lane.proofs.Rows.{either, split_below, power_found, power_none}
use Rattle.lane.proofs.Exactly.{sum_lt, named_off, named_on, xor_digits, summed_odd, encoded_data}
use Rattle.shape.specs.declared.Shape.{Shape}
use Rattle.shape.specs.declared.Shape.TheVariants.{One, Two}
use Rattle.shape.specs.Shape.{before, rows, digits}
use Rattle.stored.specs.Stored.{complemented}
use Rattle.stored.proofs.Forms.{length_complemented, complemented_twice}
use Rattle.stored.proofs.Groups.{two_over}
use Rattle.sums.specs.Words.{lane, word}
use Rattle.ground.specs.Stores.{stores}
use Rattle.ground.proofs.Stores.{length_stores, stores_hit, stores_miss}
use Rattle.block.specs.Block.{data_block, valid_block}
use Rattle.sums.specs.Sums.{lying, sums_of}
use Rattle.block.specs.Inner.{xor_all, with_checks}
use Rattle.sums.proofs.WordBits.{number_bits, number_same}
use Rattle.ground.proofs.Lists.{list_is}
use Rattle.sums.proofs.RowSums.{same_eight}
use Rattle.sums.proofs.Doubt.{digit_in, odd_in_lem, word_lt}
use Rattle.shape.proofs.Sizes.{before_lt}
use Rattle.block.proofs.Data.{before_digits, length_data, data_miss, data_lt}

-- the last row of a shape is no power of two among the check rows
last_no_power : (shape : Shape) (l : ℕ) → l < digits shape → rows shape ≡ 2 ^ l → ⊥
unfolding power?
last_no_power One = power_none 4 16 refl
last_no_power Two = power_none 7 72 refl

digits_le : (shape : Shape) → digits shape ≤ 7
digits_le One = lit≤ tt
digits_le Two = lit≤ tt

-- the check rows of a shape stand before its last row, and the next power of two does not
power_inside : (shape : Shape) (l : ℕ) → l < digits shape → 2 ^ l ≤ before shape
power_inside One l h = let g : 2 ^ l ≤ 2 ^ 3 = pow_mono {i = l} {j = 3} (omega arith) in omega arith
power_inside Two l h = let g : 2 ^ l ≤ 2 ^ 6 = pow_mono {i = l} {j = 6} (omega arith) in omega arith

power_outside : (shape : Shape) (l : ℕ) → digits shape ≤ l → rows shape ≤ 2 ^ l
power_outside One l h = let g : 2 ^ 4 ≤ 2 ^ l = pow_mono h in omega arith
power_outside Two l h = let g : 2 ^ 7 ≤ 2 ^ l = pow_mono h in omega arith

-- two powers of two are equal only where their exponents are
power_once : (k l : ℕ) → 2 ^ k - 1 ≡ 2 ^ l - 1 → k ≡ l
power_once k l e =
    let p = pow_pos k in
    let q = pow_pos l in
    ⊎_elim (λ h. let g : 2 ^ k < 2 ^ l = pow-lt h in absurd (omega arith))
    (λ h. ⊎_elim (λ g. let f : 2 ^ l < 2 ^ k = pow-lt g in absurd (omega arith)) (λ g. omega arith) (split_below l k)) (split_below k l)

-- a sum of a shape has no digit past the shape's
xor_seven : (shape : Shape) (s : ℕ) → s < 2 ^ digits shape → xor_digits 7 s ≡ xor_digits (digits shape) s
unfolding xor_digits
xor_seven One s h =
    let none = ⊕-zero (xor_digits 4 s) in
    ap₂ ◌⊕◌ (ap₂ ◌⊕◌ (ap (λ (b : Bool). xor_digits 4 s ⊕ b) (bit_high 4 4 s h (le_refl 4)) ∙ none) (bit_high 4 5 s h (lit≤ tt)) ∙ none)
    (bit_high 4 6 s h (lit≤ tt))
    ∙ none
xor_seven Two s h = refl

module _ (shape : Shape) (list : List ℕ) (words-fit : (k : ℕ) → get_or list k 0 < 2 ^ 32) where
  abbrev m : ℕ
  m = before shape

  abbrev data_rows : List ℕ
  data_rows = data_block shape list

  abbrev sums : List ℕ
  sums = sums_of shape data_rows

  -- digit k of every lane's sum, as a word
  abbrev digit_word : ℕ → ℕ
  digit_word k = get_or sums k 0

  abbrev last_word : ℕ
  last_word = bit_xor (get_or sums 7 0) (xor_all 7 sums)

  abbrev sum_of : ℕ → ℕ
  sum_of i = sum m (lane i data_rows)

  sum_small : (i : ℕ) → sum_of i < 2 ^ digits shape
  sum_small i = sum_lt (digits shape) m (lane i data_rows) (before_digits shape)

  fits : (j : ℕ) → get_or data_rows j 0 < 2 ^ 32
  fits = data_lt shape list words-fit

  digit_lt : (k : ℕ) → k < 7 → digit_word k < 2 ^ 32
  digit_lt k h = word_lt shape data_rows k (omega arith)

  digit_none : (k : ℕ) → digits shape ≤ k → k < 7 → digit_word k ≡ 0
  digit_none k h l =
      bit_ext_below 32 (digit_word k) 0 (digit_lt k l) (pow_pos 32)
      (λ i g. digit_in shape data_rows k i l g ∙ bit_high (digits shape) k (sum_of i) (sum_small i) h ∙ sym (bit_zero i))

  all_bit : (i k : ℕ) → i < 32 → k ≤ 7 → bit i (xor_all k sums) ≡ xor_digits k (sum_of i)
  unfolding xor_all xor_digits
  all_bit i zero g h = bit_zero i
  all_bit i (suc k) g h =
      bit_of_xor i (xor_all k sums) (digit_word k) ∙ ap₂ ◌⊕◌ (all_bit i k g (omega arith)) (digit_in shape data_rows k i (omega arith) g)

  all_lt : (k : ℕ) → k ≤ 7 → xor_all k sums < 2 ^ 32
  unfolding xor_all
  all_lt zero h = pow_pos 32
  all_lt (suc k) h = xor_lt 32 (xor_all k sums) (digit_word k) (all_lt k (omega arith)) (digit_lt k (omega arith))

  last_bit : (i : ℕ) → i < 32 → bit i last_word ≡ odd (rows shape) (summed (digits shape) m (lane i data_rows))
  last_bit i g =
      bit_of_xor i (get_or sums 7 0) (xor_all 7 sums)
      ∙ ap₂ ◌⊕◌ (odd_in_lem shape data_rows i g) (all_bit i 7 g (le_refl 7) ∙ xor_seven shape (sum_of i) (sum_small i))
      ∙ sym (summed_odd (digits shape) m (lane i data_rows) (before_digits shape))

  -- ---- each kind of row holds what the encoded lanes say

  abbrev coded : ℕ → ℕ → Bool
  coded j i = encoded (digits shape) m (lane i data_rows) (suc j)

  not_last : (j : ℕ) → (j ≡ m → ⊥) → (b : Bool) → b && eqb (suc j) (rows shape) ≡ false
  not_last j ne b = ap (λ (x : Bool). b && x) (ne_eqb (suc j) (rows shape) (λ e. ne (omega arith))) ∙ and-false b

  zero_lane : (j : ℕ) → (DataRow m (suc j) → ⊥) → (i : ℕ) → lane i data_rows (suc j) ≡ false
  zero_lane j ne i = ap (bit i) (data_miss shape list j ne) ∙ bit_zero i

  pub last_row : last_word ≡ word (coded m)
  last_row =
      number_bits 32 last_word (coded m) (xor_lt 32 _ _ (word_lt shape data_rows 7 (omega arith)) (all_lt 7 (le_refl 7)))
      (λ i h.
      last_bit i h
      ∙ sym
      (ap₂ ◌⊕◌
      (ap₂ ◌⊕◌ (zero_lane m (λ d. let l = d.last in omega arith) i) (named_off (digits shape) (sum_of i) (rows shape) (last_no_power shape)))
      (ap (λ (x : Bool). odd (rows shape) (summed (digits shape) m (lane i data_rows)) && x) (eq-eqb (rows shape) (rows shape) refl) ∙ and-true _)))

  pub check_row : (l j : ℕ) → l < digits shape → suc j ≡ 2 ^ l → (j ≡ m → ⊥) → digit_word l ≡ word (coded j)
  check_row l j h e ne =
      let k = digits_le shape in
      number_bits 32 (digit_word l) (coded j) (digit_lt l (omega arith))
      (λ i g.
      digit_in shape data_rows l i (omega arith) g
      ∙ sym
      (ap₂ ◌⊕◌
      (ap₂ ◌⊕◌ (zero_lane j (λ d. d.no_power l e) i) (ap (named (digits shape) (sum_of i)) e ∙ named_on (digits shape) (sum_of i) l h))
      (not_last j ne (odd (rows shape) (summed (digits shape) m (lane i data_rows))))
      ∙ ⊕-zero (bit l (sum_of i))))

  pub data_kept : (j : ℕ) → DataRow m (suc j) → get_or data_rows j 0 ≡ word (coded j)
  data_kept j d =
      number_bits 32 (get_or data_rows j 0) (coded j) (fits j)
      (λ i g. sym (encoded_data (digits shape) m (lane i data_rows) (before_digits shape) (suc j) d))

  -- ---- the whole block

  abbrev with_digits : List ℕ
  with_digits = with_checks sums data_rows

  length_checks : length with_digits ≡ 72
  unfolding with_checks
  length_checks = length_stores data_rows _ _ 7 ∙ length_data shape list

  check_there : (l j : ℕ) → l < 7 → suc j ≡ 2 ^ l → get_or with_digits j 0 ≡ digit_word l
  unfolding with_checks
  check_there l j h e =
      let q : j ≡ 2 ^ l - 1 = omega arith in
      let g : 2 ^ l ≤ 2 ^ 6 = pow_mono {i = l} {j = 6} (omega arith) in
      let n = length_data shape list in
      rw q (stores_hit data_rows (λ k. 2 ^ k - 1) digit_word l 7 (λ k b r. power_once l k r) h (omega arith))

  other_there : (j : ℕ) → ((l : ℕ) → l < 7 → suc j ≡ 2 ^ l → ⊥) → get_or with_digits j 0 ≡ get_or data_rows j 0
  unfolding with_checks
  other_there j ne = stores_miss data_rows (λ k. 2 ^ k - 1) digit_word j 7 (λ k h e. ne k h (let p = pow_pos k in omega arith))

  -- what the definition says of place j
  abbrev meant : ℕ → ℕ
  meant j = cond (ltb j (rows shape)) (word (coded j)) 0

  meant_in : (j : ℕ) → j < rows shape → meant j ≡ word (coded j)
  meant_in j h = ap (λ (b : Bool). cond b (word (coded j)) 0) (lt-ltb j (rows shape) h)

  meant_out : (j : ℕ) → rows shape ≤ j → meant j ≡ 0
  meant_out j h = ap (λ (b : Bool). cond b (word (coded j)) 0) (le-ltb j (rows shape) h)

  at_check : (l j : ℕ) → l < 7 → suc j ≡ 2 ^ l → (j ≡ m → ⊥) → digit_word l ≡ meant j
  at_check l j h e ne =
      ⊎_elim
      (λ b. let g = power_inside shape l b in check_row l j b e ne ∙ sym (meant_in j (omega arith)))
      (λ b. let g = power_outside shape l b in digit_none l b h ∙ sym (meant_out j (omega arith)))
      (split_below l (digits shape))

  at_other : (j : ℕ) → ((l : ℕ) → l < 7 → suc j ≡ 2 ^ l → ⊥) → (j ≡ m → ⊥) → get_or data_rows j 0 ≡ meant j
  at_other j ne nm =
      ⊎_elim
      (λ b. data_kept j (record { first = omega arith; last = omega arith; no_power = λ k e. no_power_there j ne b k e }) ∙ sym (meant_in j b))
      (λ b. data_miss shape list j (λ d. let l = d.last in omega arith) ∙ sym (meant_out j b))
      (split_below j (rows shape))
    where
      no_power_there : (j : ℕ) → ((l : ℕ) → l < 7 → suc j ≡ 2 ^ l → ⊥) → j < rows shape → (k : ℕ) → suc j ≡ 2 ^ k → ⊥
      no_power_there j ne b k e =
          ⊎_elim (λ h. ne k h e) (λ h. let g : 2 ^ 7 ≤ 2 ^ k = pow_mono h in let t = before_lt shape in omega arith) (split_below k 7)

  at_place : (j : ℕ) → (j ≡ m → ⊥) → get_or with_digits j 0 ≡ meant j
  at_place j ne =
      ⊎_elim
      (λ t. let f = power_found 7 (suc j) t in check_there f.0 j f.1 f.2 ∙ at_check f.0 j f.1 f.2 ne)
      (λ t. let n = power_none 7 (suc j) t in other_there j n ∙ at_other j n ne)
      (either (power? 7 (suc j)))

  pub built : set with_digits m last_word ≡ valid_block shape list
  unfolding valid_block
  built =
      list_is 72 (set with_digits m last_word) meant (length-set with_digits m last_word ∙ length_checks)
      (λ j h.
      by_cases (ℕ_discrete j m)
      (λ e.
      let b = before_lt shape in
      let n = length_checks in
      rw e (get_or-set_same with_digits m last_word 0 (omega arith) ∙ last_row ∙ sym (meant_in m (omega arith))))
      (λ ne. get_or-set_other with_digits m j last_word 0 ne ∙ at_place j ne))

-- ---- the sums as the code works them out

-- rows without a one add nothing
module _ (m : ℕ) (f : Lane) (none : (p : ℕ) → m < p → f p ≡ false) where
  sum_more : (n : ℕ) → m ≤ n → sum n f ≡ sum m f
  unfolding sum
  sum_more zero h = let e : 0 ≡ m = omega arith in ap (λ (k : ℕ). sum k f) e
  sum_more (suc n) h =
      ⊎_elim (λ e. ap (λ (k : ℕ). sum k f) (sym e))
      (λ l. rw (none (suc n) l) (xor_zero_r (sum n f) ∙ sum_more n (le_of_suc-le-suc l)))
      (eq-or-lt_of_le h)

  count_more : (n : ℕ) → m ≤ n → count n f ≡ count m f
  unfolding count
  count_more zero h = let e : 0 ≡ m = omega arith in ap (λ (k : ℕ). count k f) e
  count_more (suc n) h =
      ⊎_elim (λ e. ap (λ (k : ℕ). count k f) (sym e))
      (λ l. rw (none (suc n) l) (add-zero (count n f) ∙ count_more n (le_of_suc-le-suc l)))
      (eq-or-lt_of_le h)

past_rows : (list : List ℕ) (i p : ℕ) → 15 < p → lane i (data_block One list) p ≡ false
past_rows list i zero h = absurd (omega arith)
past_rows list i (suc j) h = ap (bit i) (data_miss One list j (λ d. let l = d.last in omega arith)) ∙ bit_zero i

-- the rows past the last of shape 1 are zero in its data block: the sums of shape 2 serve both
sums_of_two : (shape : Shape) (list : List ℕ) → sums_of Two (data_block shape list) ≡ sums_of shape (data_block shape list)
unfolding sums_of
sums_of_two Two list = refl
sums_of_two One list =
    same_eight (digit 0) (digit 1) (digit 2) (digit 3) (digit 4) (digit 5) (digit 6)
    (number_same 32 _ _ (λ i h. ap (bit 0) (count_more 16 _ (λ p l. past_rows list i p (omega arith)) 72 (lit≤ tt))))
  where
    digit : (k : ℕ) → word (λ i. bit k (sum 71 (lane i (data_block One list)))) ≡ word (λ i. bit k (sum 15 (lane i (data_block One list))))
    digit k = number_same 32 _ _ (λ i h. ap (bit k) (sum_more 15 _ (past_rows list i) 71 (lit≤ tt)))

-- a block of shape 2 lies in its own words
lies_whole : (block : List ℕ) → length block ≡ 72 → lying Two block 0 1 ≡ block
unfolding lying
lies_whole block e = sym (list_is 72 block _ e (λ j h. ap (λ (k : ℕ). get_or block k 0) (omega arith)))

-- the sums of shape 2 of a data block of either shape, as it is stored, are its own
pub own_sums : (shape : Shape) (list : List ℕ) {block words : List ℕ} → block ≡ complemented (data_block shape list)
    → words ≡ sums_of Two (complemented (lying Two block 0 1)) → words ≡ sums_of shape (data_block shape list)
own_sums shape list {block} e are =
    let long : length block ≡ 72 = ap length e ∙ length_complemented (data_block shape list) ∙ length_data shape list in
    are
    ∙ ap (sums_of Two) (ap complemented (lies_whole block long ∙ e) ∙ complemented_twice (data_block shape list))
    ∙ sums_of_two shape list

-- the check rows are set over what is stored complemented
pub checks_over : (digits block : List ℕ) → with_checks digits (complemented block) ≡ with_checks digits block
unfolding with_checks stores
checks_over digits block =
    let d : ℕ → ℕ = λ k. get_or digits k 0 in
    ap (λ (l : List ℕ). set (set (set (set (set l 3 (d 2)) 7 (d 3)) 15 (d 4)) 31 (d 5)) 63 (d 6)) (two_over block (d 0) (d 1))
