-- That a list holds numbers of rows, and that it rises, is computed of the list itself. Assumes nothing.
use Prim.Native.Nat.{ℕ, zero, suc, ◌<◌}
use mathlib.Core.Bool.{true, ◌&&◌}
use mathlib.Core.Path.{◌≡◌}
use mathlib.Core.List.{List, [], ◌∷◌}
use native.Mathlib.Omega.{arith}
use borrow.Author.Tests.{leb-true, ltb-true}
use lib.Dec.{leb, ltb}
use lib.ListN.{length, get_or}
use Rattle.lane.specs.Rows.{Rising}
use Rattle.ground.proofs.Bools.{both}
use Rattle.block.specs.Inner.{Listed, listed?, above?, rising?}

pub listed : (n : ℕ) (l : List ℕ) → listed? n l ≡ true → Listed n l
unfolding listed?
listed n [] t k h = absurd (omega arith)
listed n (p ∷ l) t zero h =
    let here = both (leb 1 p) (leb p n) (both (leb 1 p && leb p n) (listed? n l) t).0 in
    (leb-true 1 p here.0, leb-true p n here.1)
listed n (p ∷ l) t (suc k) h = listed n l (both (leb 1 p && leb p n) (listed? n l) t).1 k (omega arith)

above : (p : ℕ) (l : List ℕ) → above? p l ≡ true → (k : ℕ) → k < length l → p < get_or l k 0
unfolding above?
above p [] t k h = absurd (omega arith)
above p (q ∷ l) t zero h = ltb-true p q (both (ltb p q) (above? p l) t).0
above p (q ∷ l) t (suc k) h = above p l (both (ltb p q) (above? p l) t).1 k (omega arith)

pub rising : (l : List ℕ) → rising? l ≡ true → Rising l
unfolding rising?
rising [] t j k h i = absurd (omega arith)
rising (p ∷ l) t j zero h i = absurd (omega arith)
rising (p ∷ l) t zero (suc k) h i = above p l (both (above? p l) (rising? l) t).0 k (omega arith)
rising (p ∷ l) t (suc j) (suc k) h i = rising l (both (above? p l) (rising? l) t).1 j k (omega arith) (omega arith)
