-- A memory of n blocks, by its laws. Each block has lanes; a flip changes one lane; a visit mends a block that is at most one flip
-- off in each of its lanes. Assumes nothing.
use Rattle.std.specs.Prelude.{ℕ, ◌<◌, ◌≡◌}

pub record Memory (n : ℕ) : Type 1 where
  pub State : Type 0
  -- a lane is the unit of damage, and a flip damages one
  pub Lane : Type 0
  pub Flip : Type 0
  pub Data : Type 0
  pub Answer : Type 0
  pub block : Lane → ℕ
  pub lane : Flip → Lane
  pub lane? : (u v : Lane) → Dec (u ≡ v)
  pub zeros : Data
  pub fresh : State
  pub visit : ℕ → State → State
  pub write : ℕ → Data → State → State
  pub flip : Flip → State → State
  pub read : ℕ → State → Answer
  -- what a read answers where the data is what was written
  pub gives : Data → Answer
  -- what holds of the memory whatever flips in it: its length, say
  pub Good : State → Type 0
  pub fresh_good : Good fresh
  pub visit_good : (b : ℕ) (m : State) → Good m → Good (visit b m)
  pub write_good : (b : ℕ) (d : Data) (m : State) → Good m → Good (write b d m)
  pub flip_good : (f : Flip) (m : State) → Good m → Good (flip f m)
  -- Off k: the lane differs by at most k flips from the lane where its block is written with the data; k is 0 or 1
  pub Off : ℕ → State → Lane → Data → Type 0
  pub off_more : (m : State) (u : Lane) (d : Data) → Good m → Off 0 m u d → Off 1 m u d
  pub fresh_zeros : (u : Lane) → block u < n → Off 0 fresh u zeros
  pub visit_here : (b : ℕ) (m : State) (d : Data) → Good m → b < n → ((u : Lane) → block u ≡ b → Off 1 m u d)
      → (u : Lane) → block u ≡ b → Off 0 (visit b m) u d
  pub visit_away : (b : ℕ) (m : State) (u : Lane) (d : Data) → Good m → (block u ≡ b → ⊥) → (k : ℕ) → Off k m u d → Off k (visit b m) u d
  pub write_here : (b : ℕ) (d : Data) (m : State) (u : Lane) → Good m → b < n → block u ≡ b → Off 0 (write b d m) u d
  pub write_away : (b : ℕ) (e : Data) (m : State) (u : Lane) (d : Data) → Good m → (block u ≡ b → ⊥) → (k : ℕ) → Off k m u d → Off k (write b e m) u d
  pub flip_here : (f : Flip) (m : State) (u : Lane) (d : Data) → Good m → lane f ≡ u → Off 0 m u d → Off 1 (flip f m) u d
  pub flip_away : (f : Flip) (m : State) (u : Lane) (d : Data) → Good m → (lane f ≡ u → ⊥) → (k : ℕ) → Off k m u d → Off k (flip f m) u d
  pub read_here : (b : ℕ) (m : State) (d : Data) → Good m → b < n → ((u : Lane) → block u ≡ b → Off 1 m u d) → read b m ≡ gives d
