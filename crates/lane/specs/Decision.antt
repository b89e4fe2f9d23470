-- The decision for one lane, from its parity and its sum. `lane/proofs/Decided` proves that it is right. Assumes nothing.
use Rattle.std.specs.Prelude.{ℕ, zero, suc, ◌≤◌, Bool, true, false, cond, ◌≡◌, leb, eqb}
use Rattle.lane.specs.Lane.{Lane, sum, odd, diff, apart, Valid}

-- the two kinds of lost: even parity, and an odd sum beyond the rows
pub data Kind : Type 0 where
  even beyond : Kind

pub data Decision : Type 0 where
  unchanged : Decision
  flipped : ℕ → Decision
  lost : Kind → Decision

-- Sum 0, even: nothing changed.
-- Odd, sum 0: the last row flipped.
-- Odd, sum from 1 to rows − 1: the row with that number flipped; odd, sum of rows or more: lost, beyond the rows.
-- Even, sum not 0: lost, with even parity.
unfoldable pub decision : ℕ → Bool → ℕ → Decision
decision m false zero = unchanged
decision m true zero = flipped (suc m)
decision m true (suc s) = cond (leb (suc s) m) (flipped (suc s)) (lost beyond)
decision m false (suc s) = lost even

abbrev pub decide : ℕ → Lane → Decision
decide m f = decision m (odd (suc m) f) (sum m f)

abbrev pub lost? : Decision → Bool
lost? unchanged = false
lost? (flipped r) = false
lost? (lost kind) = true

-- is it lost, and of this kind
abbrev pub lost_as? : Kind → Decision → Bool
lost_as? kind unchanged = false
lost_as? kind (flipped r) = false
lost_as? even (lost even) = true
lost_as? even (lost beyond) = false
lost_as? beyond (lost even) = false
lost_as? beyond (lost beyond) = true

-- a lane of this kind: even with a sum that is not 0, or odd with a sum of rows or more
abbrev pub LostAs : Kind → ℕ → Lane → Type 0
LostAs even m f = (odd (suc m) f ≡ false) × (sum m f ≡ 0 → ⊥)
LostAs beyond m f = (odd (suc m) f ≡ true) × (suc m ≤ sum m f)

-- the rows that the decision changes
abbrev pub changes : Decision → Lane
changes unchanged p = false
changes (flipped r) p = eqb p r
changes (lost kind) p = false

-- the lane with the decision carried out
abbrev pub mended : ℕ → Lane → Lane
mended m f = diff f (changes (decide m f))

-- no valid lane is at most one row away
abbrev pub NoneNear : ℕ → Lane → Type 0
NoneNear m f = (g : Lane) → Valid m g → apart m f g ≤ 1 → ⊥

-- the decision is right: what it leaves is valid and at most one row away; where it says lost there is no such lane, and the lane is of that kind
abbrev pub Right : ℕ → Lane → Decision → Type 0
Right m f unchanged = Valid m f
Right m f (flipped r) = (1 ≤ r) × (r ≤ suc m) × Valid m (diff f (λ p. eqb p r))
Right m f (lost kind) = LostAs kind m f × NoneNear m f
