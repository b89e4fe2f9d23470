-- The numbers of an answer are those of its call's refusals, all of the table, and they tell the answers apart. Assumes nothing.
use Prim.Native.Nat.{ℕ, zero, suc, ◌≤◌}
use mathlib.Core.Bool.{false, true≢false, false≢true}
use mathlib.Core.Path.{◌≡◌, refl, sym, ap, ap₂, ◌∙◌}
use mathlib.Core.List.{List, [], ◌∷◌}
use Rattle.std.specs.Prelude.{Option, Some, None, is_some, unwrap_or, Result, Ok, Err}
use native.Mathlib.Omega.{arith}
use lib.ListN.{get_or}
use Rattle.ground.specs.Choice.{if_zero}
use Rattle.refusal.specs.declared.Refusal.{Refusal}
use Rattle.refusal.specs.Refusal.{number, numbered, answered}
use Rattle.refusal.proofs.Answered.{refusal_told, number_some, rung_known, answered_number}
use Rattle.rota.specs.Line.{some?, asks_of, first_of}
use Rattle.rota.specs.Asking.{ask_refusal, ask_place, joined}
use Rattle.rota.specs.Turning.{due, moved_on}
use Rattle.rota.specs.Record.{plan_of, rota_of, ask_number, rota_asked, turn_number, rota_turned}
use Rattle.rota.specs.Numbers.{place_number, place_given, due_number, first_block, second_block, served}
use Rattle.rota.specs.Answer.{RotaAsked, RotaTurned}
use Rattle.rota.specs.Calls.{RotaAsks, RotaTurns}
use Rattle.rota.specs.declared.Rota.{Rota}
use Rattle.rota.specs.declared.Due.{Due}

-- ---- the numbers tell the answers apart

pub place_told : (a b : Result ℕ Refusal) → place_number a ≡ place_number b → place_given a ≡ place_given b → a ≡ b
place_told (Ok i) (Ok j) e f = ap Ok f
place_told (Ok i) (Err w) e f = absurd (number_some w (sym e))
place_told (Err v) (Ok j) e f = absurd (number_some v e)
place_told (Err v) (Err w) e f = ap Err (refusal_told v w e)

-- a place that has number 0 is given
pub given : (a : Result ℕ Refusal) → place_number a ≡ 0 → a ≡ Ok (place_given a)
given (Ok k) e = refl
given (Err v) e = absurd (number_some v e)

ask_told : (a b : Option ℕ) → is_some a ≡ is_some b → unwrap_or a 0 ≡ unwrap_or b 0 → a ≡ b
ask_told None None s e = refl
ask_told None (Some d) s e = absurd (false≢true s)
ask_told (Some c) None s e = absurd (true≢false s)
ask_told (Some c) (Some d) s e = ap Some e

pub due_told : (a b : Result Due Refusal) → due_number a ≡ due_number b → served a ≡ served b
    → first_block a ≡ first_block b → second_block a ≡ second_block b → a ≡ b
due_told (Ok a) (Ok b) e s f g = ap₂ (λ (p : ℕ) (q : Option ℕ). Ok (record { patrol = p; ask = q })) f (ask_told a.ask b.ask s g)
due_told (Ok a) (Err w) e s f g = absurd (number_some w (sym e))
due_told (Err v) (Ok b) e s f g = absurd (number_some v e)
due_told (Err v) (Err w) e s f g = ap Err (refusal_told v w e)

-- ---- the ask at place 1

pub first_or_zero : (l : List ℕ) → unwrap_or (first_of l) 0 ≡ get_or l 0 0
first_or_zero [] = refl
first_or_zero (a ∷ l) = refl

pub first_some : (l : List ℕ) → is_some (first_of l) ≡ some? l
first_some [] = refl
first_some (a ∷ l) = refl

module _ (n : ℕ) (r : Rota) where
  -- ---- ask

  module _ (b : ℕ) where
    pub ask_known : ask_number n r b ≤ 14
    unfolding ask_number ask_refusal
    ask_known = rung_known 5 _ _ (omega arith) (rung_known 6 _ _ (omega arith) (rung_known 8 _ 0 (omega arith) (omega arith)))

    -- what an ask leaves, by the number of the refusal
    abbrev pub answer_by : ℕ → RotaAsked
    answer_by number =
        record { place = answered number (ask_place (plan_of r) b); rota = if_zero number (rota_of (joined (plan_of r) b)) r }

    pub ask_number_lem : place_number (rota_asked n r b).place ≡ ask_number n r b
    unfolding rota_asked
    ask_number_lem = answered_number (ask_number n r b) _ ask_known

    pub ask_refused_lem : (v : ℕ) → ask_number n r b ≡ suc v → rota_asked n r b ≡ record { place = Err (numbered (suc v)); rota = r }
    unfolding rota_asked
    ask_refused_lem v e = ap answer_by e

    asks_asked : RotaAsks n r b (rota_asked n r b).place (rota_asked n r b).rota
    unfolding rota_asked
    asks_asked = record { number = ask_number_lem; place = place (ask_number n r b); back = refl }
      where
        place : (v : ℕ) → place_given (answered v (ask_place (plan_of r) b)) ≡ if_zero v (ask_place (plan_of r) b) 0
        place zero = refl
        place (suc v) = refl

    -- one answer keeps the promise: the rota's own
    pub one_asked : {p q : Result ℕ Refusal} {s t : Rota} → RotaAsks n r b p s → RotaAsks n r b q t → (p ≡ q) × (s ≡ t)
    one_asked f g = (place_told _ _ (f.number ∙ sym g.number) (f.place ∙ sym g.place), f.back ∙ sym g.back)

    pub asks_is : {p : Result ℕ Refusal} {s : Rota} → RotaAsks n r b p s → record { place = p; rota = s } ≡ rota_asked n r b
    asks_is f = let e = one_asked f asks_asked in λ i. record { place = e.0 i; rota = e.1 i }

  -- ---- turn

  pub turn_known : turn_number n r ≤ 14
  unfolding turn_number
  turn_known = rung_known 5 _ 0 (omega arith) (omega arith)

  -- what a turn leaves, by the number of the refusal
  abbrev pub turn_by : ℕ → RotaTurned
  turn_by number = record { due = answered number (due (plan_of r)); rota = if_zero number (rota_of (moved_on n (plan_of r))) r }

  pub turn_number_lem : due_number (rota_turned n r).due ≡ turn_number n r
  unfolding rota_turned
  turn_number_lem = answered_number (turn_number n r) _ turn_known

  pub turn_refused_lem : (v : ℕ) → turn_number n r ≡ suc v → rota_turned n r ≡ record { due = Err (numbered (suc v)); rota = r }
  unfolding rota_turned
  turn_refused_lem v e = ap turn_by e

  turns_turned : RotaTurns n r (rota_turned n r).due (rota_turned n r).rota
  unfolding rota_turned
  turns_turned =
      record {
        number = turn_number_lem;
        first = first (turn_number n r);
        second = second (turn_number n r) (asks_of r.line);
        asked = asked (turn_number n r) (asks_of r.line);
        back = refl;
      }
    where
      by : ℕ → List ℕ → Result Due Refusal
      by v l = answered v (record { patrol = r.next; ask = first_of l })

      first : (v : ℕ) → first_block (by v (asks_of r.line)) ≡ if_zero v r.next 0
      first zero = refl
      first (suc v) = refl

      second : (v : ℕ) (l : List ℕ) → second_block (by v l) ≡ if_zero v (get_or l 0 0) 0
      second zero l = first_or_zero l
      second (suc v) l = refl

      asked : (v : ℕ) (l : List ℕ) → served (by v l) ≡ if_zero v (some? l) false
      asked zero l = first_some l
      asked (suc v) l = refl

  -- one answer keeps the promise: the rota's own
  pub one_turned : {p q : Result Due Refusal} {s t : Rota} → RotaTurns n r p s → RotaTurns n r q t → (p ≡ q) × (s ≡ t)
  one_turned f g = (
    due_told _ _ (f.number ∙ sym g.number) (f.asked ∙ sym g.asked) (f.first ∙ sym g.first) (f.second ∙ sym g.second),
    f.back ∙ sym g.back,
  )

  pub turns_is : {p : Result Due Refusal} {s : Rota} → RotaTurns n r p s → record { due = p; rota = s } ≡ rota_turned n r
  turns_is f = let e = one_turned f turns_turned in λ i. record { due = e.0 i; rota = e.1 i }
