-- What a sound record says: the block that is next, and the waiting list. Assumes nothing.
use Rattle.std.specs.Prelude.{ℕ, List, []}

pub record Plan : Type 0 where
  pub next : ℕ
  pub asks : List ℕ

-- block 0 is next, and nothing waits
abbrev pub start : Plan
start = record { next = 0; asks = [] }
