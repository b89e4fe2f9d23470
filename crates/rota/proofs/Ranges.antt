-- What an accepted call answers is in range, for every record: a place is from 1 to as many as there are, and a block is below n. The line
-- that is handed back has as many places as the one that was handed in. Assumes nothing.
use Prim.Native.Nat.{ℕ, zero, suc, ◌≤◌, ◌<◌}
use mathlib.Core.Bool.{Bool, true, false, not}
use mathlib.Core.Path.{◌≡◌, refl, sym, ap, ◌∙◌}
use mathlib.Core.List.{List, [], ◌∷◌}
use native.Mathlib.Omega.{arith}
use lib.Dec.{ltb}
use lib.ListN.{length}
use borrow.Author.Tests.{ltb-true}
use Rattle.ground.specs.Choice.{if_zero}
use Rattle.ground.specs.Ladder.{◌when◌else◌}
use Rattle.ground.proofs.Bools.{both}
use Rattle.rota.specs.Line.{places, below, asks_of}
use Rattle.rota.specs.Asking.{ask_refusal, ask_place, joined}
use Rattle.rota.specs.Turning.{due_of, due, moved_on}
use Rattle.rota.specs.Record.{unbroken, plan_of, rota_of, ask_number, rota_asked, turn_number, rota_turned}
use Rattle.rota.specs.Numbers.{place_number, place_given, due_number, first_block, second_block}
use Rattle.rota.specs.declared.Rota.{Rota}
use Rattle.std.specs.Prelude.{Ok}
use Rattle.rota.proofs.Lines.{said_long}
use Rattle.rota.proofs.Plans.{ask_place_lem, ask_few, turn_sound}
use Rattle.refusal.proofs.Answered.{answered_accepted}
use Rattle.rota.proofs.Numbers.{ask_number_lem, turn_number_lem}
use Rattle.rota.proofs.Entries.{plan_fit}

dues_inside : (n next : ℕ) (asks : List ℕ) → next < n → below n asks ≡ true
    → (first_block (Ok (due_of next asks)) < n) × (second_block (Ok (due_of next asks)) < n)
unfolding below
dues_inside n next [] h e = (h, omega arith)
dues_inside n next (b ∷ asks) h e = (h, ltb-true b n (both (ltb b n) (below n asks) e).0)

module _ (n : ℕ) (r : Rota) where
  -- what is accepted had a record that is not broken
  turned_unbroken : turn_number n r ≡ 0 → unbroken n r ≡ true
  unfolding turn_number
  turned_unbroken = go (unbroken n r)
    where
      go : (t : Bool) → 5 when not t else 0 ≡ 0 → t ≡ true
      go true e = refl
      go false e = absurd (omega arith)

  asked_unbroken : (b : ℕ) → ask_number n r b ≡ 0 → (unbroken n r ≡ true) × (ask_refusal places n (plan_of r) b ≡ 0)
  unfolding ask_number
  asked_unbroken b = go (unbroken n r) (ask_refusal places n (plan_of r) b)
    where
      go : (t : Bool) (v : ℕ) → 5 when not t else v ≡ 0 → (t ≡ true) × (v ≡ 0)
      go true v e = (refl, e)
      go false v e = absurd (omega arith)

  pub ask_placed : (b k : ℕ) → (rota_asked n r b).place ≡ Ok k → (1 ≤ k) × (k ≤ places)
  unfolding rota_asked
  ask_placed b k e =
      let z : ask_number n r b ≡ 0 = sym (ask_number_lem n r b) ∙ ap place_number e in
      let q : ask_place (plan_of r) b ≡ k = ap place_given (sym (answered_accepted (ask_number n r b) (ask_place (plan_of r) b) z) ∙ e) in
      let ok = asked_unbroken b z in
      rw (← q) (ask_place_lem places n (plan_of r) b (plan_fit n r ok.0) ok.1)

  -- where a turn is accepted, the block that is next and those that wait are below n
  pub turn_inside : turn_number n r ≡ 0 → (r.next < n) × (below n (asks_of r.line) ≡ true)
  turn_inside e = let s = plan_fit n r (turned_unbroken e) in (s.inside, s.low)

  pub due_inside : due_number (rota_turned n r).due ≡ 0 → (first_block (rota_turned n r).due < n) × (second_block (rota_turned n r).due < n)
  unfolding rota_turned
  due_inside e =
      let z : turn_number n r ≡ 0 = sym (turn_number_lem n r) ∙ e in
      let s = turn_inside z in
      rw (answered_accepted (turn_number n r) (due (plan_of r)) z) (dues_inside n r.next (asks_of r.line) s.0 s.1)

  -- ---- the line keeps its places, whatever is answered

  module _ (long : length r.line.asks ≡ places) where
    pub ask_long : (b : ℕ) → length (rota_asked n r b).rota.line.asks ≡ places
    unfolding rota_asked
    ask_long b = go (ask_number n r b) refl
      where
        go : (v : ℕ) → ask_number n r b ≡ v → length (if_zero v (rota_of (joined (plan_of r) b)) r).line.asks ≡ places
        go zero z = let ok = asked_unbroken b z in said_long places (joined (plan_of r) b).asks (ask_few places n (plan_of r) b (plan_fit n r ok.0) ok.1)
        go (suc v) z = long

    pub turn_long : length (rota_turned n r).rota.line.asks ≡ places
    unfolding rota_turned
    turn_long = go (turn_number n r) refl
      where
        go : (v : ℕ) → turn_number n r ≡ v → length (if_zero v (rota_of (moved_on n (plan_of r))) r).line.asks ≡ places
        go zero z = said_long places (moved_on n (plan_of r)).asks (turn_sound places n (plan_of r) (plan_fit n r (turned_unbroken z))).few
        go (suc v) z = long
