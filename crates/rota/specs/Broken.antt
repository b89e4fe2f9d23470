-- Record broken: next ≥ N, more than 16 waiting, a waiting number ≥ N, one number waiting twice, or an unused place not 0.
-- Assumes nothing.
use Rattle.std.specs.Prelude.{ℕ, ◌≤◌, ◌<◌, ◌≡◌, length, get_or}
use Rattle.rota.specs.Line.{places}
use Rattle.rota.specs.declared.line.Line.{Line}
use Rattle.rota.specs.declared.Rota.{Rota}

-- a place of a line, counted from 0: in use, or not
abbrev pub InUse : Line → ℕ → Type 0
InUse line k = (k < line.waiting) × (k < length line.asks)

abbrev pub Unused : Line → ℕ → Type 0
Unused line k = (line.waiting ≤ k) × (k < length line.asks)

-- what stands there
abbrev pub waits : Line → ℕ → ℕ
waits line k = get_or line.asks k 0

pub data BrokenLine (capacity n : ℕ) (line : Line) : Type 0 where
  too_many : capacity < line.waiting → BrokenLine capacity n line
  ask_outside : (k : ℕ) → InUse line k → n ≤ waits line k → BrokenLine capacity n line
  ask_twice : (k j : ℕ) → k < j → InUse line j → waits line k ≡ waits line j → BrokenLine capacity n line
  not_empty : (k : ℕ) → Unused line k → (waits line k ≡ 0 → ⊥) → BrokenLine capacity n line

pub data Broken (n : ℕ) (rota : Rota) : Type 0 where
  next_outside : n ≤ rota.next → Broken n rota
  line_broken : BrokenLine places n rota.line → Broken n rota
