-- A law of truth values by its table: two functions of n of them are the same where every row of the table says so. Assumes nothing.
use Prim.Native.Nat.{ℕ, zero, suc}
use mathlib.Core.Bool.{Bool, true, false, not, ◌&&◌}
use mathlib.Core.Path.{◌≡◌, refl}
use lib.Dec.{T}
use Rattle.lane.specs.Bit.{◌⊕◌}
use Rattle.ground.proofs.Bools.{left_part, right_part}

-- a function of n truth values
abbrev pub Table : ℕ → Type 0
Table zero = Bool
Table (suc n) = Bool → Table n

abbrev pub Same : (n : ℕ) (f g : Table n) → Type 0
Same zero f g = f ≡ g
Same (suc n) f g = (b : Bool) → Same n (f b) (g b)

abbrev pub same? : (n : ℕ) (f g : Table n) → Bool
same? zero f g = not (f ⊕ g)
same? (suc n) f g = same? n (f true) (g true) && same? n (f false) (g false)

row_same : (a b : Bool) → T (not (a ⊕ b)) → a ≡ b
row_same true true t = refl
row_same true false t = absurd t
row_same false true t = absurd t
row_same false false t = refl

either : (P : Bool → Type 0) → P true → P false → (b : Bool) → P b
either P p q true = p
either P p q false = q

pub law : (n : ℕ) (f g : Table n) → T (same? n f g) → Same n f g
law zero f g t = row_same f g t
law (suc n) f g t =
    let p = same? n (f true) (g true) in
    let q = same? n (f false) (g false) in
    either (λ b. Same n (f b) (g b)) (law n (f true) (g true) (left_part p q t)) (law n (f false) (g false) (right_part p q t))
