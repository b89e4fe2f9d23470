-- A list made of a function, by its entries. Assumes nothing.
use Prim.Native.Nat.{ℕ, zero, suc, ◌<◌}
use mathlib.Core.Path.{◌≡◌, refl, sym, ap, ◌∙◌}
use mathlib.Core.List.{List}
use native.Mathlib.Omega.{arith}
use lib.ListN.{length, get_or, replicate}
use lib.Seq.{ext_get_or}
use Rattle.ground.specs.Lists.{list_of}

pub length_list_of : (n : ℕ) (f : ℕ → ℕ) → length (list_of n f) ≡ n
unfolding list_of
length_list_of zero f = refl
length_list_of (suc n) f = ap suc (length_list_of n (λ k. f (suc k)))

pub get_or_list_of : (n : ℕ) (f : ℕ → ℕ) (j : ℕ) → j < n → get_or (list_of n f) j 0 ≡ f j
unfolding list_of
get_or_list_of zero f j h = absurd (omega arith)
get_or_list_of (suc n) f zero h = refl
get_or_list_of (suc n) f (suc j) h = get_or_list_of n (λ k. f (suc k)) j (omega arith)

pub list_is : (n : ℕ) (l : List ℕ) (f : ℕ → ℕ) → length l ≡ n → ((j : ℕ) → j < n → get_or l j 0 ≡ f j) → l ≡ list_of n f
list_is n l f e h = ext_get_or 0 l (list_of n f) (e ∙ sym (length_list_of n f)) (λ j b. let k : j < n = omega arith in h j k ∙ sym (get_or_list_of n f j k))

pub list_of_same : (n : ℕ) (f g : ℕ → ℕ) → ((j : ℕ) → j < n → f j ≡ g j) → list_of n f ≡ list_of n g
list_of_same n f g h = list_is n (list_of n f) g (length_list_of n f) (λ j k. get_or_list_of n f j k ∙ h j k)

-- the words of a list of zeros
pub zeros_at : (n k : ℕ) → ◌≡◌ {A = ℕ} (get_or (replicate n 0) k 0) 0
zeros_at zero k = refl
zeros_at (suc n) zero = refl
zeros_at (suc n) (suc k) = zeros_at n k
