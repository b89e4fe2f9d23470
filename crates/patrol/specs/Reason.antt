-- The refusals of ask and turn in plain statements: those of the layout or the image, then those of the rota. Assumes nothing.
use Rattle.std.specs.Prelude.{ℕ, List, ◌++◌}
use Rattle.ground.specs.Rules.{Rule}
use Rattle.layout.specs.Layout.{blocks}
use Rattle.layout.specs.Reason.{layout_rules, image_rules}
use Rattle.rota.specs.Reason.{rota_ask_rules, rota_turn_rules}
use Rattle.patrol.specs.declared.Record.{Record}

-- Ask: 1, 2, 3, 5, 6, 8
abbrev pub ask_rules : Record → ℕ → List Rule
ask_rules r block = layout_rules r.layout ++ rota_ask_rules (blocks r.layout) r.rota block

-- Turn: 1, 2, 3, 4, 5
abbrev pub turn_rules : Record → ℕ → List Rule
turn_rules r len = image_rules len r.layout ++ rota_turn_rules (blocks r.layout) r.rota
