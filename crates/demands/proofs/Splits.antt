-- Where two lists that are joined are split at an element, and where a list of one is. Assumes nothing.
use Prim.Native.Nat.{ℕ}
use mathlib.Core.Path.{◌≡◌, refl, sym}
use mathlib.Core.List.{List, [], ◌∷◌, ◌++◌}
use mathlib.Core.Logic.{◌⊎◌, inl, inr, ⊎_elim}
use native.Mathlib.Omega.{arith}

module _ {A : Type 0} where
  -- the element is in the first list, or in the second
  abbrev pub InFirst : List A → List A → List A → A → List A → Type 0
  InFirst l k before at rest = (more : List A) × (l ≡ before ++ at ∷ more) × (rest ≡ more ++ k)

  abbrev pub InSecond : List A → List A → List A → A → List A → Type 0
  InSecond l k before at rest = (more : List A) × (before ≡ l ++ more) × (k ≡ more ++ at ∷ rest)

  pub split_append : (l k before : List A) (at : A) (rest : List A) → l ++ k ≡ before ++ at ∷ rest
      → InFirst l k before at rest ⊎ InSecond l k before at rest
  split_append [] k before at rest e = inr (before, refl, e)
  split_append (x ∷ l) k [] at rest e = inl (l, cc, cc)
  split_append (x ∷ l) k (y ∷ before) at rest e =
      let same : x ≡ y = cc in
      ⊎_elim
      (λ r. inl (r.0, (λ i. same i ∷ r.1 i), r.2))
      (λ r. inr (r.0, (λ i. sym same i ∷ r.1 i), r.2))
      (split_append l k before at rest (cc))

  -- an empty list is not split
  pub split_none : (before : List A) (at : A) (rest : List A) → [] ≡ before ++ at ∷ rest → ⊥
  split_none [] at rest e = let z : ◌≡◌ {A = ℕ} 0 1 = cc in omega arith
  split_none (x ∷ before) at rest e = let z : ◌≡◌ {A = ℕ} 0 1 = cc in omega arith

  -- a list of one is split at that one
  pub split_one : (x : A) (before : List A) (at : A) (rest : List A) → x ∷ [] ≡ before ++ at ∷ rest
      → (x ≡ at) × (before ≡ []) × (rest ≡ [])
  split_one x [] at rest e = (cc, refl, cc)
  split_one x (y ∷ before) at rest e = absurd (split_none before at rest (cc))
