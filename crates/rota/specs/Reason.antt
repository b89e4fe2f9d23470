-- The refusals of ask and turn in plain statements: 5 for a broken record, 6 for a block that is not there, 8 for a block that has no
-- place. Assumes nothing.
use Rattle.std.specs.Prelude.{ℕ, ◌≤◌, ◌<◌, ◌≡◌, List, [], ◌∷◌}
use Rattle.ground.specs.Rules.{Rule}
use Rattle.rota.specs.Line.{places}
use Rattle.rota.specs.Broken.{InUse, waits, Broken}
use Rattle.rota.specs.declared.line.Line.{Line}
use Rattle.rota.specs.declared.Rota.{Rota}

abbrev pub bad_record : ℕ → Rota → Rule
bad_record n rota = record { number = 5; reason = Broken n rota }

abbrev pub no_block : ℕ → ℕ → Rule
no_block n block = record { number = 6; reason = n ≤ block }

-- every place of the line is in use, and none of them holds the block
abbrev pub line_full : ℕ → Line → ℕ → Rule
line_full capacity line block =
    record {
      number = 8;
      reason = ((k : ℕ) → k < capacity → InUse line k) × ((k : ℕ) → InUse line k → waits line k ≡ block → ⊥);
    }

-- Ask: 5, 6, 8
abbrev pub rota_ask_rules : ℕ → Rota → ℕ → List Rule
rota_ask_rules n rota block = bad_record n rota ∷ no_block n block ∷ line_full places rota.line block ∷ []

-- Turn: 5
abbrev pub rota_turn_rules : ℕ → Rota → List Rule
rota_turn_rules n rota = bad_record n rota ∷ []
