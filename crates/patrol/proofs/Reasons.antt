-- Format, ask and turn answer the number of the first rule that applies, each exactly for its stated reason. Assumes nothing.
use Prim.Native.Nat.{ℕ}
use mathlib.Core.List.{List}
use lib.ListN.{length}
use Rattle.ground.specs.Rules.{FirstOf}
use Rattle.ground.proofs.Ladder.{first_then}
use Rattle.layout.specs.declared.Layout.{Layout}
use Rattle.layout.specs.Layout.{blocks}
use Rattle.layout.specs.Reason.{layout_rules, image_rules}
use Rattle.layout.proofs.Ladder.{layout_first, image_first}
use Rattle.rota.specs.Numbers.{place_number}
use Rattle.rota.specs.Reason.{rota_ask_rules, rota_turn_rules}
use Rattle.rota.proofs.Reasons as rotaReasons
use Rattle.patrol.specs.declared.Record.{Record}
use Rattle.patrol.specs.Format.{formatted}
use Rattle.patrol.specs.Ask.{asked}
use Rattle.patrol.specs.Turn.{turned}
use Rattle.patrol.specs.Numbers.{report_number}
use Rattle.patrol.specs.Reason.{ask_rules, turn_rules}
use Rattle.patrol.proofs.Numbers.{ask_number_lem, turn_number_lem}

pub format_first : (image : List ℕ) (layout : Layout) → FirstOf (image_rules (length image) layout) (formatted image layout).number
unfolding formatted
format_first image layout = image_first layout (length image)

-- the rota's ladder goes on where that of the layout ends
module _ (r : Record) where
  pub ask_first : (block : ℕ) → FirstOf (ask_rules r block) (place_number (asked r block).place)
  ask_first block =
      rw (ask_number_lem r block)
      (first_then (layout_rules r.layout) (rota_ask_rules (blocks r.layout) r.rota block) _ _ tt (layout_first r.layout)
      (rotaReasons.ask_first (blocks r.layout) r.rota block))

  pub turn_first : (image : List ℕ) → FirstOf (turn_rules r (length image)) (report_number (turned r image).report)
  turn_first image =
      rw (turn_number_lem r image)
      (first_then (image_rules (length image) r.layout) (rota_turn_rules (blocks r.layout) r.rota) _ _ tt (image_first r.layout (length image))
      (rotaReasons.turn_first (blocks r.layout) r.rota))
