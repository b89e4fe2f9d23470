-- Ask and turn answer the number of the first rule that applies, each exactly for its stated reason. Assumes nothing.
use Prim.Native.Nat.{ℕ, ◌<◌}
use mathlib.Core.Bool.{◌&&◌}
use mathlib.Core.Path.{◌≡◌, refl}
use mathlib.Core.List.{[], ◌∷◌}
use native.Mathlib.Nat.{lt_of_not-le}
use native.Mathlib.Omega.{arith}
use lib.Dec.{eqb}
use lib.ListN.{length}
use Rattle.ground.specs.Ladder.{◌when◌else◌}
use Rattle.ground.specs.Rules.{FirstOf}
use Rattle.ground.proofs.Told.{leb_told, ltb_told}
use Rattle.ground.proofs.Ladder.{Rung, rung_both, first_told}
use Rattle.rota.specs.Line.{places, place, full, asks_of}
use Rattle.rota.specs.Asking.{ask_refusal}
use Rattle.rota.specs.Record.{ask_number, turn_number}
use Rattle.rota.specs.Broken.{InUse}
use Rattle.rota.specs.Reason.{bad_record, no_block, line_full, rota_ask_rules, rota_turn_rules}
use Rattle.rota.specs.declared.line.Line.{Line}
use Rattle.rota.specs.declared.Rota.{Rota}
use Rattle.rota.proofs.ListTold.{waiting_told}
use Rattle.rota.proofs.Broken.{used, used_inside, some_used, used_some, unbroken_told}

-- ---- a line whose places are all in use

module _ (capacity : ℕ) (line : Line) where
  all_used : (length (asks_of line) < capacity → ⊥) → (k : ℕ) → k < capacity → InUse line k
  all_used h k l = let m = lt_of_not-le h in used line k (omega arith)

  none_left : ((k : ℕ) → k < capacity → InUse line k) → length (asks_of line) < capacity → ⊥
  none_left all h = omega (arith, used_inside line (length (asks_of line)) (all (length (asks_of line)) h))

  pub no_place : (block : ℕ) → Rung (line_full capacity line block) (8 when eqb (place block (asks_of line)) 0 && full capacity (asks_of line) else 0)
  no_place block =
      rung_both (line_full capacity line block) (waiting_told block (asks_of line)) (leb_told capacity (length (asks_of line)))
      (λ none all. (all_used all, λ k u e. none (some_used line (λ a. a ≡ block) k u e)))
      (λ r. (λ s. r.1 s.at (used line s.at s.inside) (used_some line (λ a. a ≡ block) s), none_left r.0))

-- ---- the ladders

module _ (n : ℕ) (rota : Rota) where
  pub ask_first : (block : ℕ) → FirstOf (rota_ask_rules n rota block) (ask_number n rota block)
  unfolding ask_number ask_refusal
  ask_first block =
      let last = line_full places rota.line block in
      first_told (bad_record n rota) (no_block n block ∷ last ∷ []) _ (unbroken_told n rota)
      (first_told (no_block n block) (last ∷ []) _ (ltb_told block n) (no_place places rota.line block))

  pub turn_first : FirstOf (rota_turn_rules n rota) (turn_number n rota)
  unfolding turn_number
  turn_first = first_told (bad_record n rota) [] _ (unbroken_told n rota) refl
