-- What a found lane may have been meant to be, where the named rows may hold anything: a valid lane that agrees with it outside them, but for at
-- most one row where none or one is named. `around/proofs/Lanes` proves that there is never a second where at most three are named, and that a lane
-- is lost exactly if there is none. Assumes nothing.
use Rattle.std.specs.Prelude.{ℕ, zero, suc, ◌≤◌, Bool, true, false, not, cond, ◌&&◌, List, [], ◌∷◌, eqb, leb}
use Rattle.std.specs.Int.Bits.{bit_xor}
use Rattle.lane.specs.Bit.{◌⊕◌, pick}
use Rattle.lane.specs.Lane.{Lane, sum, count, odd, Valid, diff}
use Rattle.lane.specs.Decision.{Decision, unchanged, lost, even, beyond, decision, lost?, changes}
use Rattle.around.specs.Named.{among?, spare?}

-- where two lanes differ in the named rows, and where outside them
abbrev pub inside : List ℕ → Lane → Lane → Lane
inside named f g p = among? named p && diff f g p

abbrev pub outside : List ℕ → Lane → Lane → Lane
outside named f g p = not (among? named p) && diff f g p

pub record MeantLane (m : ℕ) (named : List ℕ) (found meant : Lane) : Type 0 where
  pub valid : Valid m meant
  pub near : count (suc m) (outside named found meant) ≤ pick (spare? named) 1

-- ---- the decision: the named rows' bits are tried, each as it was found first

-- by how much a row counts in the sum: its number, and 0 for the last
abbrev pub weight : ℕ → ℕ → ℕ
weight m r = cond (leb r m) r 0

-- once they are settled: the ordinary decision where one bit is spare, and else a lane is valid or lost
abbrev pub settled : Bool → ℕ → Bool → ℕ → Decision
settled true m o s = decision m o s
settled false m false zero = unchanged
settled false m false (suc s) = lost even
settled false m true s = lost beyond

-- is a lane with this parity and this sum lost around the named rows
unfoldable pub lost_around? : Bool → ℕ → List ℕ → Bool → ℕ → Bool
lost_around? spare m [] o s = lost? (settled spare m o s)
lost_around? spare m (r ∷ named) o s = lost_around? spare m named o s && lost_around? spare m named (not o) (bit_xor s (weight m r))

-- the rows that are changed in it, where it is not
unfoldable pub changes_around : Bool → ℕ → List ℕ → Bool → ℕ → Lane
changes_around spare m [] o s p = changes (settled spare m o s) p
changes_around spare m (r ∷ named) o s p =
    cond (lost_around? spare m named o s)
    (eqb p r ⊕ changes_around spare m named (not o) (bit_xor s (weight m r)) p)
    (changes_around spare m named o s p)

-- of a lane
abbrev pub lane_lost? : ℕ → List ℕ → Lane → Bool
lane_lost? m named f = lost_around? (spare? named) m named (odd (suc m) f) (sum m f)

abbrev pub lane_changes : ℕ → List ℕ → Lane → Lane
lane_changes m named f = changes_around (spare? named) m named (odd (suc m) f) (sum m f)

-- the lane with them changed
abbrev pub lane_around : ℕ → List ℕ → Lane → Lane
lane_around m named f = diff f (lane_changes m named f)
