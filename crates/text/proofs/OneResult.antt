-- One result: two outcomes that satisfy the promise of a function over a page are equal, next place and every byte. Assumes nothing.
use Prim.Native.Nat.{ℕ}
use mathlib.Core.Path.{◌≡◌, ap}
use mathlib.Core.List.{List}
use Rattle.ground.proofs.Same.{same}
use Rattle.text.specs.Page.{Page, page}
use Rattle.text.specs.Puts.{PutsText, PutsDecimal, PutsNamed}

-- the same page is the same bytes and the same next place
pub parted : {a b : List ℕ} {m n : ℕ} → page a m ≡ page b n → (a ≡ b) × (m ≡ n)
parted e = (ap (λ (p : Page). p.bytes) e, ap (λ (p : Page). p.next) e)

module _ (out : List ℕ) (at : ℕ) {a b : List ℕ} {m n : ℕ} where
  pub one_text : (text : List ℕ) → PutsText text out at a m → PutsText text out at b n → (a ≡ b) × (m ≡ n)
  one_text text p q = parted (same p q)

  pub one_decimal : (number : ℕ) → PutsDecimal number out at a m → PutsDecimal number out at b n → (a ≡ b) × (m ≡ n)
  one_decimal number p q = parted (same p q)

  pub one_named : (text : List ℕ) (number : ℕ) → PutsNamed text number out at a m → PutsNamed text number out at b n → (a ≡ b) × (m ≡ n)
  one_named text number p q = parted (same p q)
