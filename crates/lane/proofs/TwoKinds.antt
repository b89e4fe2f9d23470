-- A lane is lost as exactly one of the two kinds, each exactly for its reason; where the rows are a power of two no sum is beyond them. Assumes nothing.
use Prim.Native.Nat.{ℕ, zero, suc, ◌+◌, ◌^◌, ◌≤◌}
use mathlib.Core.Bool.{Bool, true, false, true≢false, ◌||◌}
use mathlib.Core.Path.{◌≡◌, refl, sym}
use mathlib.Core.Logic.{◌⊎◌, inl, inr, ⊎_elim, ◌↔◌}
use native.Mathlib.Omega.{arith}
use borrow.Author.Tests.{lt-leb}
use Rattle.lane.specs.Bit.{pick}
use Rattle.lane.specs.Lane.{Lane, sum}
use Rattle.lane.specs.Decision.{Kind, even, beyond, Decision, unchanged, flipped, lost, decision, decide, lost?, lost_as?, LostAs, NoneNear, Right}
use Rattle.lane.proofs.Decided.{decided}
use Rattle.lane.proofs.Mended.{mended_valid, mended_near}
use Rattle.lane.proofs.Exactly.{sum_lt}

-- ---- of a decision

pub either_kind : (d : Decision) → lost_as? even d || lost_as? beyond d ≡ lost? d
either_kind unchanged = refl
either_kind (flipped r) = refl
either_kind (lost even) = refl
either_kind (lost beyond) = refl

-- never as both
pub one_kind : (d : Decision) → pick (lost_as? even d) 1 + pick (lost_as? beyond d) 1 ≡ pick (lost? d) 1
one_kind unchanged = refl
one_kind (flipped r) = refl
one_kind (lost even) = refl
one_kind (lost beyond) = refl

-- ---- of a lane

module _ (m : ℕ) (f : Lane) where
  of_kind : (kind : Kind) (d : Decision) → Right m f d → lost_as? kind d ≡ true → LostAs kind m f
  of_kind kind unchanged r e = absurd (true≢false (sym e))
  of_kind kind (flipped p) r e = absurd (true≢false (sym e))
  of_kind even (lost even) r e = r.0
  of_kind even (lost beyond) r e = absurd (true≢false (sym e))
  of_kind beyond (lost even) r e = absurd (true≢false (sym e))
  of_kind beyond (lost beyond) r e = r.0

  even_said : (s : ℕ) → (s ≡ 0 → ⊥) → lost_as? even (decision m false s) ≡ true
  unfolding decision
  even_said zero ne = absurd (ne refl)
  even_said (suc s) ne = refl

  beyond_said : (s : ℕ) → suc m ≤ s → lost_as? beyond (decision m true s) ≡ true
  unfolding decision
  beyond_said zero h = absurd (omega arith)
  beyond_said (suc s) h = rw (lt-leb (suc s) m h)

  said : (kind : Kind) → LostAs kind m f → lost_as? kind (decide m f) ≡ true
  said even h = rw h.0 (even_said (sum m f) h.1)
  said beyond h = rw h.0 (beyond_said (sum m f) h.1)

  -- a kind is said exactly of the lanes that are of it
  pub kind_exactly : (kind : Kind) → (lost_as? kind (decide m f) ≡ true) ↔ LostAs kind m f
  kind_exactly kind = (of_kind kind (decide m f) (decided m f), said kind)

  none_near : (d : Decision) → Right m f d → lost? d ≡ true → NoneNear m f
  none_near unchanged r e = absurd (true≢false (sym e))
  none_near (flipped p) r e = absurd (true≢false (sym e))
  none_near (lost kind) r e = r.1

  is_lost : NoneNear m f → lost? (decide m f) ≡ true
  is_lost none = go (lost? (decide m f)) refl
    where
      go : (t : Bool) → lost? (decide m f) ≡ t → t ≡ true
      go true e = refl
      go false e = absurd (none _ (mended_valid m f e) (mended_near m f e))

  -- lost is said exactly of the lanes that no valid lane is near
  pub lost_exactly : (lost? (decide m f) ≡ true) ↔ NoneNear m f
  lost_exactly = (none_near (decide m f) (decided m f), is_lost)

  as_kind : (d : Decision) → Right m f d → lost? d ≡ true → LostAs even m f ⊎ LostAs beyond m f
  as_kind unchanged r e = absurd (true≢false (sym e))
  as_kind (flipped p) r e = absurd (true≢false (sym e))
  as_kind (lost even) r e = inl r.0
  as_kind (lost beyond) r e = inr r.0

  kind_lost : (kind : Kind) (d : Decision) → lost_as? kind d ≡ true → lost? d ≡ true
  kind_lost kind unchanged e = e
  kind_lost kind (flipped p) e = e
  kind_lost kind (lost other) e = refl

  kind_near : (kind : Kind) → LostAs kind m f → NoneNear m f
  kind_near kind h = lost_exactly.0 (kind_lost kind (decide m f) (said kind h))

  -- and those are of one kind or the other
  pub kinds_exactly : NoneNear m f ↔ (LostAs even m f ⊎ LostAs beyond m f)
  kinds_exactly = (λ none. as_kind (decide m f) (decided m f) (is_lost none), ⊎_elim (kind_near even) (kind_near beyond))

  pub never_beyond : (k : ℕ) → suc m ≡ 2 ^ k → lost_as? beyond (decide m f) ≡ false
  never_beyond k full = go (lost_as? beyond (decide m f)) refl
    where
      go : (t : Bool) → lost_as? beyond (decide m f) ≡ t → t ≡ false
      go false e = refl
      go true e = absurd (omega (arith, ((kind_exactly beyond).0 e).1, sum_lt k m f (omega arith)))
