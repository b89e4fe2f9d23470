-- What a run of stores leaves: its length, the places that are hit and those that are not. Assumes nothing.
use Prim.Native.Nat.{ℕ, zero, suc, ◌+◌, ◌≤◌, ◌<◌}
use mathlib.Core.Path.{◌≡◌, refl, sym, ap, ◌∙◌}
use mathlib.Core.List.{List, [], ◌∷◌}
use mathlib.Core.Logic.{⊎_elim}
use native.Mathlib.Nat.{eq-or-lt_of_le, le_of_suc-le-suc}
use native.Mathlib.Omega.{arith}
use lib.ListN.{length, get_or, set, length-set}
use lib.Seq.{get_or-set_same, get_or-set_other, set-get_or, paste, paste-zero, paste-suc}
use Rattle.ground.specs.Stores.{stores}

pub length_stores : (d : List ℕ) (f v : ℕ → ℕ) (n : ℕ) → length (stores d f v n) ≡ length d
unfolding stores
length_stores d f v zero = refl
length_stores d f v (suc n) = rw length-set (length_stores d f v n)

-- a place that no store hits holds what it held
pub stores_miss : (d : List ℕ) (f v : ℕ → ℕ) (i n : ℕ) → ((k : ℕ) → k < n → i ≡ f k → ⊥) → get_or (stores d f v n) i 0 ≡ get_or d i 0
unfolding stores
stores_miss d f v i zero m = refl
stores_miss d f v i (suc n) m =
    get_or-set_other (stores d f v n) (f n) i (v n) 0 (m n (omega arith)) ∙ stores_miss d f v i n (λ k h. m k (omega arith))

-- a place that one store hits, and no later one, holds that store's value
pub stores_hit : (d : List ℕ) (f v : ℕ → ℕ) (k n : ℕ) → ((j : ℕ) → j < n → f k ≡ f j → k ≡ j) → k < n → f k < length d
    → get_or (stores d f v n) (f k) 0 ≡ v k
unfolding stores
stores_hit d f v k zero inj h l = absurd (omega arith)
stores_hit d f v k (suc n) inj h l =
    ⊎_elim
    (λ e. rw e (get_or-set_same (stores d f v n) (f n) (v n) 0 (rw (length_stores, ← e) l)))
    (λ b.
    get_or-set_other (stores d f v n) (f n) (f k) (v n) 0 (λ q. omega (arith, inj n (omega arith) q))
    ∙ stores_hit d f v k n (λ j hj. inj j (omega arith)) b l)
    (eq-or-lt_of_le (le_of_suc-le-suc h))

-- values are all that counts of v
pub stores_agree : (d : List ℕ) (f v w : ℕ → ℕ) (n : ℕ) → ((k : ℕ) → k < n → v k ≡ w k) → stores d f v n ≡ stores d f w n
unfolding stores
stores_agree d f v w zero e = refl
stores_agree d f v w (suc n) e = rw (stores_agree d f v w n (λ k h. e k (omega arith)), e n (omega arith))

-- stores of what is there change nothing
pub stores_same : (d : List ℕ) (f v : ℕ → ℕ) (n : ℕ) → ((k : ℕ) → k < n → v k ≡ get_or d (f k) 0) → stores d f v n ≡ d
unfolding stores
stores_same d f v zero e = refl
stores_same d f v (suc n) e = rw (stores_same d f v n (λ k h. e k (omega arith)), e n (omega arith)) (set-get_or d (f n) 0)

-- further stores that change nothing
pub stores_more : (d : List ℕ) (f v : ℕ → ℕ) (n m : ℕ) → n ≤ m → ((k : ℕ) → n ≤ k → k < m → set (stores d f v k) (f k) (v k) ≡ stores d f v k)
    → stores d f v n ≡ stores d f v m
unfolding stores
stores_more d f v n zero l same = let e : n ≡ 0 = omega arith in ap (stores d f v) e
stores_more d f v n (suc m) l same =
    ⊎_elim (λ e. ap (stores d f v) e)
    (λ b. stores_more d f v n m (le_of_suc-le-suc b) (λ k h g. same k h (omega arith)) ∙ sym (same m (le_of_suc-le-suc b) (omega arith)))
    (eq-or-lt_of_le l)

-- a list that is stored entry by entry from a place on stands there
pub stores_paste : (d : List ℕ) (at : ℕ) (l : List ℕ) (n : ℕ) → at + n ≤ length d → n ≤ length l
    → stores d (λ k. at + k) (λ k. get_or l k 0) n ≡ paste d at l n
unfolding stores
stores_paste d at l zero h g = paste-zero d at l
stores_paste d at l (suc n) h g =
    ap (λ (d : List ℕ). set d (at + n) (get_or l n 0)) (stores_paste d at l n (omega arith) (omega arith)) ∙ paste-suc d at l n 0 (omega arith) (omega arith)

-- what holds of every entry and of every value stored holds of every entry after
set_all : (P : ℕ → Type 0) (l : List ℕ) (i v j : ℕ) → ((j : ℕ) → P (get_or l j 0)) → P v → P (get_or (set l i v) j 0)
set_all P [] i v j h p = h j
set_all P (x ∷ l) zero v zero h p = p
set_all P (x ∷ l) zero v (suc j) h p = h (suc j)
set_all P (x ∷ l) (suc i) v zero h p = h zero
set_all P (x ∷ l) (suc i) v (suc j) h p = set_all P l i v j (λ k. h (suc k)) p

pub stores_all : (P : ℕ → Type 0) (d : List ℕ) (f v : ℕ → ℕ) (n : ℕ) → ((j : ℕ) → P (get_or d j 0)) → ((k : ℕ) → k < n → P (v k))
    → (j : ℕ) → P (get_or (stores d f v n) j 0)
unfolding stores
stores_all P d f v zero h p j = h j
stores_all P d f v (suc n) h p j =
    set_all P (stores d f v n) (f n) (v n) j (stores_all P d f v n h (λ k b. p k (omega arith))) (p n (omega arith))
