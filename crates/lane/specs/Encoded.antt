-- The valid lane for a choice of data: check row 2^k is changed where the sum has digit k, and then the last row where the parity is odd.
-- `lane/proofs/Exactly` proves that it is valid, keeps the data rows, and is the only such lane. Assumes nothing.
use Rattle.std.specs.Prelude.{ℕ, zero, suc, ◌^◌, Bool, ◌&&◌, eqb}
use Rattle.lane.specs.Bit.{bit, ◌⊕◌}
use Rattle.lane.specs.Lane.{Lane, sum, odd, diff}

-- the check rows 1, 2, 4, .. below 2^k that the digits of a sum name
unfoldable pub named : ℕ → ℕ → Lane
named zero s p = Bool.false
named (suc k) s p = named k s p ⊕ (bit k s && eqb p (2 ^ k))

-- the lane with its sum made 0
abbrev pub summed : ℕ → ℕ → Lane → Lane
summed k m f = diff f (named k (sum m f))

-- and its parity made even
abbrev pub encoded : ℕ → ℕ → Lane → Lane
encoded k m f p = summed k m f p ⊕ (odd (suc m) (summed k m f) && eqb p (suc m))
