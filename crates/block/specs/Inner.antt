-- What the code computes on its way, 32 lanes at once: tests of a table of rows, what the words of the sums decide, and the check rows. Assumes nothing.
use Rattle.std.specs.Prelude.{ℕ, zero, suc, ◌-◌, ◌^◌, ◌≤◌, ◌<◌, Bool, true, cond, ◌&&◌, List, [], ◌∷◌, length, get_or, eqb, leb, ltb}
use Rattle.std.specs.Int.Bits.{bit_xor, bit_and, bit_or}
use Rattle.lane.specs.Bit.{bit}
use Rattle.lane.specs.Decision.{Kind, even, beyond}
use Rattle.ground.specs.Lists.{list_of}
use Rattle.ground.specs.Stores.{stores}
use Rattle.sums.specs.Words.{word}
use Rattle.sums.specs.Sums.{sum_in}
use Rattle.sums.specs.Sums.{any_of}

-- every entry of a list is the number of one of n rows
abbrev pub Listed : ℕ → List ℕ → Type 0
Listed n list = (k : ℕ) → k < length list → (1 ≤ get_or list k 0) × (get_or list k 0 ≤ n)

-- the same as a test, and the test that a list rises: each entry is below those after it
unfoldable pub listed? : ℕ → List ℕ → Bool
listed? n [] = true
listed? n (p ∷ l) = (leb 1 p && leb p n) && listed? n l

unfoldable pub above? : ℕ → List ℕ → Bool
above? p [] = true
above? p (q ∷ l) = ltb p q && above? p l

unfoldable pub rising? : List ℕ → Bool
rising? [] = true
rising? (p ∷ l) = above? p l && rising? l

-- ---- the decision

-- the lanes whose first k digits make a number above those of top
unfoldable pub above_of : ℕ → ℕ → List ℕ → ℕ
above_of top zero digits = zero
above_of top (suc k) digits =
    cond (bit k top) (bit_and (above_of top k digits) (get_or digits k 0)) (bit_or (above_of top k digits) (get_or digits k 0))

-- the lanes that are lost as a kind: even with a sum, or odd with a sum above top
abbrev pub lost_lanes : ℕ → ℕ → List ℕ → Kind → ℕ
lost_lanes top parity digits even = bit_and (any_of 7 digits) ((2 ^ 32 - 1) - parity)
lost_lanes top parity digits beyond = bit_and parity (above_of top 7 digits)

-- the lanes that are odd with a sum that names a row
abbrev pub naming_lanes : ℕ → ℕ → List ℕ → ℕ
naming_lanes top parity digits = bit_and parity ((2 ^ 32 - 1) - above_of top 7 digits)

-- the row that an odd lane's sum names
abbrev pub row_named : ℕ → ℕ → ℕ
row_named last sum = cond (eqb sum 0) last sum

-- the block with the row that its sum names flipped in each of the given lanes
unfoldable pub flipped_in : ℕ → List ℕ → (ℕ → Bool) → List ℕ → List ℕ
flipped_in last digits lanes block =
    list_of (length block) (λ j. bit_xor (get_or block j 0) (word (λ i. lanes i && eqb (suc j) (row_named last (sum_in digits i)))))

-- the exclusive or of the first k digits' words
unfoldable pub xor_all : ℕ → List ℕ → ℕ
xor_all zero digits = zero
xor_all (suc k) digits = bit_xor (xor_all k digits) (get_or digits k 0)

-- the block with the digits' words in check rows 1, 2, 4, .. 64
unfoldable pub with_checks : List ℕ → List ℕ → List ℕ
with_checks digits block = stores block (λ k. 2 ^ k - 1) (λ k. get_or digits k 0) 7
