-- One row is named: it is wrong in the lanes that its mark takes the sum out of and that were odd, and in those with a sum left that were even. Once it
-- is changed there, the ordinary decision is the one around the row, and changes other rows alone. Assumes nothing.
use Prim.Native.Nat.{ℕ, zero, suc, ◌≤◌}
use mathlib.Core.Bool.{Bool, true, false, not, cond, ◌&&◌, and-false, and-true}
use mathlib.Core.Path.{◌≡◌, refl, sym, ap, ap₂, ◌∙◌}
use mathlib.Core.List.{[], ◌∷◌}
use mathlib.Core.Logic.{by_cases, inr}
use native.Mathlib.Decide.{ℕ_discrete}
use native.Mathlib.Omega.{arith}
use lib.Bits.{bit_xor, xor_self, xor_zero_r}
use lib.Dec.{eqb, leb}
use borrow.Author.Tests.{eq-eqb, ne_eqb, eqb-true, eqb-false, le-leb, lt-leb, leb-true}
use Rattle.lane.specs.Bit.{◌⊕◌, pick}
use Rattle.lane.specs.Lane.{Lane, sum, count, odd, diff}
use Rattle.lane.specs.Decision.{Decision, flipped, lost, beyond, decision, decide, lost?, changes, mended}
use Rattle.lane.proofs.Bits.{xor_assoc, pick_one, ⊕-zero}
use Rattle.lane.proofs.Linear.{sum_diff, odd_diff, count_same, valid_same}
use Rattle.lane.proofs.Mended.{⊕-cancel, mended_valid, mended_count}
use Rattle.around.specs.Named.{among?}
use Rattle.around.specs.Lane.{outside, MeantLane, weight, lost_around?, lane_lost?}
use Rattle.around.proofs.Lanes.{⊕-assoc}
use Rattle.around.proofs.Marks.{one, one_sum, one_odd, one_count}

-- is a sum left once the row is taken out where the lane is odd
abbrev pub left? : (o : Bool) (s w : ℕ) → Bool
left? o s w = not (eqb (bit_xor s (pick o w)) 0)

-- is the row wrong
abbrev pub wrong? : (o : Bool) (s w : ℕ) → Bool
wrong? o s w = o ⊕ left? o s w

module _ (m r : ℕ) (low : 1 ≤ r) (high : r ≤ suc m) where
  -- by how much the row counts
  abbrev w : ℕ
  w = weight m r

  -- lost once the row is changed so, exactly if lost around it
  lost_same : (o : Bool) (s : ℕ)
      → lost? (decision m (left? o s w) (bit_xor s (pick (wrong? o s w) w))) ≡ lost? (decision m o s) && lost? (decision m (not o) (bit_xor s w))
  unfolding decision
  lost_same o s = by o (eqb (bit_xor s (pick o w)) 0) refl
    where
      even_lost : (s : ℕ) → (s ≡ 0 → ⊥) → lost? (decision m false s) ≡ true
      even_lost zero ne = absurd (ne refl)
      even_lost (suc s) ne = refl

      by : (o t : Bool) → eqb (bit_xor s (pick o w)) 0 ≡ t
          → lost? (decision m (not t) (bit_xor s (pick (o ⊕ not t) w))) ≡ lost? (decision m o s) && lost? (decision m (not o) (bit_xor s w))
      by false true e =
          let z : s ≡ 0 = sym (xor_zero_r s) ∙ eqb-true _ _ e in
          rw (xor_zero_r s) (rw z)
      by false false e =
          let z : s ≡ 0 → ⊥ = λ q. eqb-false _ _ e (xor_zero_r s ∙ q) in
          rw (even_lost s z)
      by true true e = let z : bit_xor s w ≡ 0 = eqb-true _ _ e in rw z (sym (and-false (lost? (decision m true s))))
      by true false e =
          let z : bit_xor s w ≡ 0 → ⊥ = eqb-false _ _ e in
          rw (xor_zero_r s, even_lost (bit_xor s w) z) (sym (and-true (lost? (decision m true s))))

  -- what is then changed is not the row
  row_kept : (o : Bool) (s : ℕ) → lost? (decision m (left? o s w) (bit_xor s (pick (wrong? o s w) w))) ≡ false
      → changes (decision m (left? o s w) (bit_xor s (pick (wrong? o s w) w))) r ≡ false
  row_kept o s ok = by o (eqb (bit_xor s (pick o w)) 0) refl ok
    where
      -- a sum that is not the row's names another
      other : (s : ℕ) → (s ≡ w → ⊥) → lost? (decision m true s) ≡ false → changes (decision m true s) r ≡ false
      other zero ne kept =
          unfold decision in
          ne_eqb r (suc m) (λ e. ne (sym (ap (λ (t : Bool). cond t r 0) (lt-leb r m (omega arith)))))
      other (suc s) ne kept = unfold decision in named (leb (suc s) m) refl
        where
          named : (t : Bool) → leb (suc s) m ≡ t → changes (cond t (flipped (suc s)) (lost beyond)) r ≡ false
          named true e =
              ne_eqb r (suc s)
              (λ q. let h = leb-true (suc s) m e in ne (sym q ∙ sym (ap (λ (t : Bool). cond t r 0) (le-leb r m (omega arith)))))
          named false e = refl

      by : (o t : Bool) → eqb (bit_xor s (pick o w)) 0 ≡ t → lost? (decision m (not t) (bit_xor s (pick (o ⊕ not t) w))) ≡ false
          → changes (decision m (not t) (bit_xor s (pick (o ⊕ not t) w))) r ≡ false
      by false true e kept = let z : s ≡ 0 = sym (xor_zero_r s) ∙ eqb-true _ _ e in rw (xor_zero_r s) (rw z (unfold decision in refl))
      by false false e kept =
          other (bit_xor s w)
          (λ q.
          eqb-false _ _ e
          (xor_zero_r s ∙ sym (xor_zero_r s) ∙ ap (bit_xor s) (sym (xor_self w)) ∙ sym (xor_assoc s w w)
          ∙ ap (λ (x : ℕ). bit_xor x w) q ∙ xor_self w))
          kept
      by true true e kept = let z : bit_xor s w ≡ 0 = eqb-true _ _ e in rw z (unfold decision in refl)
      by true false e kept =
          let k : lost? (decision m true s) ≡ false = rw (xor_zero_r s) at kept in
          rw (xor_zero_r s) (other s (λ q. eqb-false _ _ e (ap (λ (x : ℕ). bit_xor x w) q ∙ xor_self w)) k)

  -- ---- of a lane

  module _ (f : Lane) where
    abbrev o : Bool
    o = odd (suc m) f

    abbrev s : ℕ
    s = sum m f

    -- is the row wrong in it
    abbrev pub wrong : Bool
    wrong = wrong? o s w

    -- the lane with the row changed where it is
    abbrev pub turned : Lane
    turned = diff f (one m r wrong)

    there : (x : Bool) → x && not (eqb r 0) ≡ x
    there x = rw (ne_eqb r 0 (λ e. omega arith)) (and-true x)

    turned_sum : sum m turned ≡ bit_xor s (pick wrong w)
    turned_sum = sum_diff m f (one m r wrong) ∙ ap (bit_xor s) (one_sum m r wrong (inr (low, high)))

    pub turned_odd : odd (suc m) turned ≡ left? o s w
    turned_odd =
        odd_diff (suc m) f (one m r wrong) ∙ ap (λ (t : Bool). o ⊕ t) (one_odd m r wrong (inr (low, high)) ∙ there wrong) ∙ ⊕-cancel o (left? o s w)

    turned_decision : decide m turned ≡ decision m (left? o s w) (bit_xor s (pick wrong w))
    turned_decision = ap₂ (decision m) turned_odd turned_sum

    pub turned_lost : lost? (decide m turned) ≡ lane_lost? m (r ∷ []) f
    unfolding lost_around?
    turned_lost = ap lost? turned_decision ∙ lost_same o s

    -- the row, and what is then decided
    abbrev pub change : Lane
    change p = one m r wrong p ⊕ changes (decide m turned) p

    module _ (kept : lost? (decide m turned) ≡ false) where
      row_stays : changes (decide m turned) r ≡ false
      row_stays = ap (λ (d : Decision). changes d r) turned_decision ∙ row_kept o s (ap lost? (sym turned_decision) ∙ kept)

      in_row : (p : ℕ) → among? (r ∷ []) p && change p ≡ one m r wrong p
      unfolding among?
      in_row p =
          by_cases (ℕ_discrete p r)
          (λ e. rw (eq-eqb p r e, ap (changes (decide m turned)) e ∙ row_stays) (⊕-zero (wrong && true)))
          (λ ne. rw (ne_eqb p r ne) (sym (and-false wrong)))

      out_row : (p : ℕ) → not (among? (r ∷ []) p) && change p ≡ changes (decide m turned) p
      unfolding among?
      out_row p =
          by_cases (ℕ_discrete p r)
          (λ e. rw (eq-eqb p r e) (sym (ap (changes (decide m turned)) e ∙ row_stays)))
          (λ ne. rw (ne_eqb p r ne, and-false wrong))

      pub count_inside : count (suc m) (λ p. among? (r ∷ []) p && change p) ≡ pick wrong 1
      count_inside =
          count_same (suc m) _ (one m r wrong) (λ j l. in_row (suc j)) ∙ one_count m r wrong (inr (low, high)) ∙ ap (λ (t : Bool). pick t 1) (there wrong)

      pub count_outside : count (suc m) (λ p. not (among? (r ∷ []) p) && change p) ≡ pick (odd (suc m) turned) 1
      count_outside =
          count_same (suc m) _ (changes (decide m turned)) (λ j l. out_row (suc j))
          ∙ sym (count_same (suc m) (diff turned (mended m turned)) (changes (decide m turned))
          (λ j l. ⊕-cancel (turned (suc j)) (changes (decide m turned) (suc j))))
          ∙ mended_count m turned kept

      pub change_meant : MeantLane m (r ∷ []) f (diff f change)
      change_meant =
          record {
            valid = valid_same m (mended m turned) (diff f change)
                (λ j l. ⊕-assoc (f (suc j)) (one m r wrong (suc j)) (changes (decide m turned) (suc j))) (mended_valid m turned kept);
            near =
                rw (
                  count_same (suc m) (outside (r ∷ []) f (diff f change)) (λ p. not (among? (r ∷ []) p) && change p)
                      (λ j l. ap (λ (t : Bool). not (among? (r ∷ []) (suc j)) && t) (⊕-cancel (f (suc j)) (change (suc j)))),
                  count_outside,
                )
                (pick_one (odd (suc m) turned));
          }
