-- Two or three rows are named: what is told of a block by its sums is what is lost of it, and how it is mended, around them. Assumes nothing.
use Prim.Native.Nat.{ℕ, zero, suc, ◌+◌, ◌^◌, ◌≤◌, ◌<◌}
use mathlib.Core.Bool.{Bool, true, false, not, ◌&&◌}
use mathlib.Core.Path.{◌≡◌, refl, sym, ap, ap₂, ◌∙◌}
use mathlib.Core.List.{List}
use mathlib.Core.Logic.{⊎_elim}
use native.Mathlib.Nat.{eq-or-lt_of_le, le_of_suc-le-suc}
use native.Mathlib.Omega.{arith}
use lib.Bits.{bit_xor, xor_lt}
use lib.Count.{ones}
use lib.Dec.{eqb}
use lib.ListN.{length, get_or}
use lib.Pow.{pow_pos}
use borrow.Author.Tests.{eq-eqb, ne_eqb, eqb-true}
use Rattle.std.proofs.Math.Bool.{and_comm}
use Rattle.lane.specs.Bit.{bit, ◌⊕◌, pick}
use Rattle.lane.specs.Lane.{diff}
use Rattle.lane.proofs.Bits.{bit_of_xor, bit_zero}
use Rattle.lane.proofs.Linear.{count_same}
use Rattle.lane.proofs.Exactly.{pick_bit}
use Rattle.ground.proofs.Totals.{total_same, total_zero, total_add}
use Rattle.shape.specs.declared.Shape.{Shape}
use Rattle.shape.specs.Shape.{before, rows}
use Rattle.shape.proofs.Sizes.{before_small}
use Rattle.sums.specs.Words.{lane, number}
use Rattle.sums.specs.Sums.{sums_of, any_of}
use Rattle.sums.proofs.Doubt.{bit_any, digit_in, odd_in_lem}
use Rattle.sums.proofs.WordBits.{bit_number}
use Rattle.block.proofs.Lanes.{ones_total}
use Rattle.around.specs.declared.solving.Told.{Told}
use Rattle.around.specs.Named.{among?}
use Rattle.around.specs.Lane.{MeantLane, lane_lost?, lane_around}
use Rattle.around.specs.Block.{lanes_lost_around, around_block, bits_inside, bits_outside}
use Rattle.around.specs.Inner.{mark, Made, Solves}
use Rattle.around.proofs.Lanes.{RowsTo, around_meant, meant_kept}
use Rattle.around.proofs.Blocks.{meant_same, change_none, change_row, change_inside, change_outside}
use Rattle.around.proofs.Marks.{digits}
use Rattle.around.proofs.ThreeRows.{rows_named, Three, three_within, flips, made_meant, meant_made, flips_inside, flips_outside}

pub three_few : (a b c : ℕ) → length (rows_named a b c) ≤ 3
three_few a b zero = omega arith
three_few a b (suc c) = omega arith

-- the digits of a lane in the sums
pub digit_of : (shape : Shape) (block : List ℕ) (i : ℕ) → i < 32 → (k : ℕ) → k < 8
    → bit i (get_or (sums_of shape block) k 0) ≡ digits (before shape) (lane i block) k
digit_of shape block i hi k h =
    ⊎_elim
    (λ e. rw (eq-eqb k 7 e) (ap (λ (j : ℕ). bit i (get_or (sums_of shape block) j 0)) e ∙ odd_in_lem shape block i hi))
    (λ l. rw (ne_eqb k 7 (λ e. omega arith)) (digit_in shape block k i l hi))
    (eq-or-lt_of_le (le_of_suc-le-suc h))

-- a lane is in a word of lanes with a sum left exactly if a digit is
digits_none : (i : ℕ) (left : List ℕ) → bit i (any_of 7 left) ≡ false → (k : ℕ) → k < 7 → bit i (get_or left k 0) ≡ false
digits_none i left e k h =
    sym (bit_number 7 k (λ j. bit i (get_or left j 0)) h)
    ∙ ap (bit k) (zero? (number 7 (λ j. bit i (get_or left j 0))) (sym (bit_any i left 7) ∙ e))
    ∙ bit_zero k
  where
    zero? : (n : ℕ) → not (eqb n 0) ≡ false → n ≡ 0
    zero? n q = eqb-true n 0 (borrow.Author.Tests.not-false (eqb n 0) q)

none_digits : (i : ℕ) (left : List ℕ) → ((k : ℕ) → k < 7 → bit i (get_or left k 0) ≡ false) → bit i (any_of 7 left) ≡ false
unfolding number
none_digits i left h =
    bit_any i left 7
    ∙ ap (λ (n : ℕ). not (eqb n 0))
    (Rattle.sums.proofs.WordBits.number_same 7 (λ j. bit i (get_or left j 0)) (λ j. false) h)

module _ (shape : Shape) (block : List ℕ) (long : rows shape ≤ length block) {a b c : ℕ} (three : Three (before shape) (before_small shape) a b c)
    {sums left : List ℕ} {told : Told} (are : sums ≡ sums_of shape block)
    (solved : Solves sums (mark (rows shape) a) (mark (rows shape) b) (mark (rows shape) c) told left) where
  abbrev m : ℕ
  m = before shape

  abbrev named : List ℕ
  named = rows_named a b c

  within : RowsTo (rows shape) named
  within = three_within m (before_small shape) three

  -- the digits of the sums are those of the lane
  made_of : (i : ℕ) → i < 32 → (x y z : Bool) → Made (λ k. bit i (get_or sums k 0)) (mark (rows shape) a) (mark (rows shape) b) (mark (rows shape) c) x y z
      → Made (digits m (lane i block)) (mark (rows shape) a) (mark (rows shape) b) (mark (rows shape) c) x y z
  made_of i hi x y z made k h = sym (ap (λ (l : List ℕ). bit i (get_or l k 0)) are ∙ digit_of shape block i hi k h) ∙ made k h

  of_made : (i : ℕ) → i < 32 → (x y z : Bool) → Made (digits m (lane i block)) (mark (rows shape) a) (mark (rows shape) b) (mark (rows shape) c) x y z
      → Made (λ k. bit i (get_or sums k 0)) (mark (rows shape) a) (mark (rows shape) b) (mark (rows shape) c) x y z
  of_made i hi x y z made k h = ap (λ (l : List ℕ). bit i (get_or l k 0)) are ∙ digit_of shape block i hi k h ∙ made k h

  -- where nothing is left in a lane it may have been meant to be what is told
  told_meant : (i : ℕ) → i < 32 → bit i (any_of 7 left) ≡ false
      → MeantLane m named (lane i block) (diff (lane i block) (flips m (before_small shape) a b c (bit i told.a) (bit i told.b) (bit i told.c)))
  told_meant i hi none =
      let x = bit i told.a in
      let y = bit i told.b in
      let z = bit i told.c in
      made_meant m (before_small shape) three (lane i block) x y z (made_of i hi x y z (solved.sound i (digits_none i left none)))

  -- the lanes with something left are the lost ones
  lost_lane : (i : ℕ) → i < 32 → bit i (any_of 7 left) ≡ lane_lost? m named (lane i block)
  lost_lane i hi = by (bit i (any_of 7 left)) refl (lane_lost? m named (lane i block)) refl
    where
      by : (t : Bool) → bit i (any_of 7 left) ≡ t → (u : Bool) → lane_lost? m named (lane i block) ≡ u → t ≡ u
      by true e true q = refl
      by false e false q = refl
      by false e true q = sym (meant_kept m named (lane i block) within _ (told_meant i hi e)) ∙ q
      by true e false q =
          let d = diff (lane i block) (lane_around m named (lane i block)) in
          sym e
          ∙ none_digits i left
          (solved.complete i (d a) (d b) (d c)
          (of_made i hi (d a) (d b) (d c)
          (meant_made m (before_small shape) three (lane i block) (lane_around m named (lane i block)) (around_meant m named (lane i block) within q))))

  pub lost_count : any_of 7 left < 2 ^ 32 → ones (any_of 7 left) ≡ lanes_lost_around shape named block
  unfolding lanes_lost_around
  lost_count small = ones_total 32 (any_of 7 left) small ∙ total_same 32 _ _ (λ i hi. ap (λ (t : Bool). pick t 1) (lost_lane i hi))

  -- ---- where none is lost

  module _ (none : any_of 7 left ≡ 0) (fa : told.a < 2 ^ 32) (fb : told.b < 2 ^ 32) (fc : told.c < 2 ^ 32) where
    -- row p is changed by the word of p
    abbrev pub change : ℕ → ℕ
    change p = bit_xor (pick (eqb p a) told.a) (bit_xor (pick (eqb p b) told.b) (pick (eqb p c) told.c))

    change_small : (p : ℕ) → change p < 2 ^ 32
    change_small p = xor_lt 32 _ _ (fits (eqb p a) fa) (xor_lt 32 _ _ (fits (eqb p b) fb) (fits (eqb p c) fc))
      where
        fits : {w : ℕ} (t : Bool) → w < 2 ^ 32 → pick t w < 2 ^ 32
        fits true h = h
        fits false h = pow_pos 32

    change_bit : (i p : ℕ) → bit i (change p) ≡ flips m (before_small shape) a b c (bit i told.a) (bit i told.b) (bit i told.c) p
    change_bit i p =
        bit_of_xor i (pick (eqb p a) told.a) _
        ∙ ap₂ ◌⊕◌ (at (eqb p a) told.a) (bit_of_xor i (pick (eqb p b) told.b) _ ∙ ap₂ ◌⊕◌ (at (eqb p b) told.b) (at (eqb p c) told.c))
      where
        at : (t : Bool) (w : ℕ) → bit i (pick t w) ≡ bit i w && t
        at t w = pick_bit i t w ∙ and_comm t (bit i w)

    change_meant : (i : ℕ) → i < 32 → MeantLane m named (lane i block) (diff (lane i block) (λ p. bit i (change p)))
    change_meant i hi =
        meant_same m named (lane i block) _ _ (λ j h. ap (λ (t : Bool). lane i block (suc j) ⊕ t) (sym (change_bit i (suc j))))
        (told_meant i hi (ap (bit i) none ∙ bit_zero i))

    pub more_row : (j : ℕ) → j < rows shape → bit_xor (get_or block j 0) (change (suc j)) ≡ get_or (around_block shape named block) j 0
    more_row = change_row shape named block long within (three_few a b c) change change_small change_meant

    pub more_none : lanes_lost_around shape named block ≡ 0
    more_none = change_none shape named block long within (three_few a b c) change change_small change_meant

    pub more_inside : bits_inside shape named block (around_block shape named block) ≡ ones told.a + ones told.b + ones told.c
    more_inside =
        change_inside shape named block long within (three_few a b c) change change_small change_meant
        ∙ total_same 32 _ _
        (λ i hi.
        count_same (rows shape) (λ p. among? named p && bit i (change p))
        (λ p. among? named p && flips m (before_small shape) a b c (bit i told.a) (bit i told.b) (bit i told.c) p)
        (λ j h. ap (λ (t : Bool). among? named (suc j) && t) (change_bit i (suc j)))
        ∙ flips_inside m (before_small shape) three (bit i told.a) (bit i told.b) (bit i told.c)
        (λ e. ap (bit i) (solved.no_third (ap (mark (rows shape)) e)) ∙ bit_zero i))
        ∙ sym (total_add 32 _ _) ∙ ap₂ (λ (s t : ℕ). s + t) (sym (total_add 32 _ _)) refl
        ∙ sym (ap₂ (λ (s t : ℕ). s + t) (ap₂ (λ (s t : ℕ). s + t) (ones_total 32 told.a fa) (ones_total 32 told.b fb)) (ones_total 32 told.c fc))

    pub more_outside : bits_outside shape named block (around_block shape named block) ≡ 0
    more_outside =
        change_outside shape named block long within (three_few a b c) change change_small change_meant
        ∙ total_same 32 _ _
        (λ i hi.
        count_same (rows shape) (λ p. not (among? named p) && bit i (change p))
        (λ p. not (among? named p) && flips m (before_small shape) a b c (bit i told.a) (bit i told.b) (bit i told.c) p)
        (λ j h. ap (λ (t : Bool). not (among? named (suc j)) && t) (change_bit i (suc j)))
        ∙ flips_outside m (before_small shape) three (bit i told.a) (bit i told.b) (bit i told.c))
        ∙ total_zero 32
