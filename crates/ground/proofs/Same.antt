-- Two outcomes that a promise gives the same value are the same. Assumes nothing.
use mathlib.Core.Path.{◌≡◌, sym, ◌∙◌}

pub same : {A : Type 0} {a b c : A} → a ≡ c → b ≡ c → a ≡ b
same e f = e ∙ sym f
