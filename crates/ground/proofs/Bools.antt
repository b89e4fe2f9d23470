-- Two tests that hold together. Assumes nothing.
use mathlib.Core.Bool.{Bool, true, false, ◌&&◌, ◌||◌, false≢true, true≢false}
use mathlib.Core.Path.{◌≡◌, refl}
use lib.Dec.{T}

pub both : (a b : Bool) → a && b ≡ true → (a ≡ true) × (b ≡ true)
both true b e = (refl, e)
both false b e = absurd (false≢true e)

pub neither : (a b : Bool) → a || b ≡ false → (a ≡ false) × (b ≡ false)
neither true b e = absurd (true≢false e)
neither false b e = (refl, e)

pub left_part : (a b : Bool) → T (a && b) → T a
left_part true b t = tt
left_part false b t = absurd t

pub right_part : (a b : Bool) → T (a && b) → T b
right_part true b t = t
right_part false b t = absurd t
