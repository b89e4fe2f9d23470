-- `sums::columns` meets its contract. The loop's invariant: the columns passed are in their places. Assumes nothing.
use Prim.Native.Nat.{ℕ, ◌≤◌}
use mathlib.Core.Path.{◌≡◌}
use Rattle.ground.specs.Stores.{stores}
use Rattle.sums.specs.declared.Column.{Column}
use Rattle.sums.specs.Inner.{column_of, in_column, tabled}
use Rattle.sums.proofs.columns.Given as goal

abbrev pub invariant-loop-c : goal.invariant-loop-c
invariant-loop-c l =
    let x : ℕ → Column = λ c. column_of (in_column l.words l.at c) in
    (l.c ≤ 4) × (l.table ≡ tabled l.initial.table x l.c) × (l.top ≡ stores l.initial.top (λ c. c) (λ c. (x c).d6) l.c)
    × (l.all ≡ stores l.initial.all (λ c. c) (λ c. (x c).all) l.c)
