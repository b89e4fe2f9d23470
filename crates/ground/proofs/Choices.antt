-- What is left where a call is refused, and a choice seen through a function. Assumes nothing.
use Prim.Native.Nat.{ℕ, zero, suc}
use mathlib.Core.Path.{◌≡◌, refl}
use Rattle.ground.specs.Choice.{if_zero}

pub refused_kept : {A : Type 0} (number : ℕ) (new old : A) → (number ≡ 0 → ⊥) → if_zero number new old ≡ old
refused_kept zero new old ne = absurd (ne refl)
refused_kept (suc number) new old ne = refl

pub choice_of : {A B : Type 0} (f : A → B) (number : ℕ) (new old : A) → if_zero number (f new) (f old) ≡ f (if_zero number new old)
choice_of f zero new old = refl
choice_of f (suc number) new old = refl
