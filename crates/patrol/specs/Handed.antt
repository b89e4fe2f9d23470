-- What format answers, in the specification's numbers: that of its refusal, or 0, and the record that is given. Assumes nothing.
use Rattle.std.specs.Prelude.{ℕ}
use Rattle.patrol.specs.declared.Record.{Record}

pub record Formatted : Type 0 where
  pub number : ℕ
  pub back : Record
