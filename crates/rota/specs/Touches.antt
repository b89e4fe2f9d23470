-- What touches the memory, besides the patrol. A call that is refused does nothing. Assumes nothing.
use Rattle.std.specs.Prelude.{ℕ, cond, List, [], ◌∷◌, eqb}
use Rattle.rota.specs.Steps.{Step, ask, turn, other}

-- Data: what is written to a block; Flip: one bit that changes by itself
pub data Touch (Data Flip : Type 0) : Type 0 where
  write : ℕ → Data → Touch Data Flip
  read visit : ℕ → Touch Data Flip
  flip : Flip → Touch Data Flip
  nothing : Touch Data Flip

module _ {Data Flip : Type 0} where
  -- what a block is meant to hold after a touch, and after a step
  abbrev pub overwritten : ℕ → Data → Touch Data Flip → Data
  overwritten block old (write to new) = cond (eqb to block) new old
  overwritten block old (read from) = old
  overwritten block old (visit at) = old
  overwritten block old (flip bit) = old
  overwritten block old nothing = old

  abbrev pub meant : ℕ → Data → Step (Touch Data Flip) → Data
  meant block old (ask wanted) = old
  meant block old turn = old
  meant block old (other touch) = overwritten block old touch

  -- what was last written to a block, and the old data where nothing was
  unfoldable pub last_written : ℕ → Data → List (Step (Touch Data Flip)) → Data
  last_written block old [] = old
  last_written block old (step ∷ rest) = last_written block (meant block old step) rest
