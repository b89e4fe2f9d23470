-- The record runs as its plan does: from a sound plan, whatever the steps, it is the record of the plan. Assumes nothing.
use Prim.Native.Nat.{ℕ, zero, suc, ◌+◌, ◌≤◌}
use mathlib.Core.Bool.{true}
use mathlib.Core.Path.{◌≡◌, refl, ap, ◌∙◌}
use mathlib.Core.List.{List, [], ◌∷◌, ◌++◌}
use native.Mathlib.Omega.{arith}
use borrow.Author.Tests.{lt-ltb}
use Rattle.ground.specs.Choice.{if_zero}
use Rattle.std.specs.Prelude.{Ok}
use Rattle.refusal.specs.Refusal.{answered}
use Rattle.rota.specs.Line.{places}
use Rattle.rota.specs.Plan.{Plan, start}
use Rattle.rota.specs.Asking.{ask_refusal, ask_place, joined}
use Rattle.rota.specs.Turning.{due, moved_on}
use Rattle.rota.specs.Record.{unbroken, rota_of, ask_number, rota_asked, turn_number, rota_turned}
use Rattle.rota.specs.Steps.{Step, ask, turn, other, turns, rota_step, rota_run, rota_at, due_at}
use Rattle.rota.specs.declared.Rota.{Rota}
use Rattle.rota.specs.Answer.{RotaAsked, RotaTurned}
use Rattle.rota.proofs.Lines.{list_said, said_sound}
use Rattle.rota.proofs.Plans.{Sound, start_sound, ask_sound, turn_sound, ask_after}

-- ---- one call

-- what an ask leaves, by the number of its refusal
abbrev pub answer_by : Plan → ℕ → ℕ → RotaAsked
answer_by p b number = record { place = answered number (ask_place p b); rota = if_zero number (rota_of (joined p b)) (rota_of p) }

module _ (n : ℕ) (p : Plan) (s : Sound places n p) where
  rota_unbroken : unbroken n (rota_of p) ≡ true
  unfolding unbroken
  rota_unbroken = rw (lt-ltb p.next n s.inside) (said_sound places n p.asks s.few s.low s.once)

  pub rota_asked_is : (b : ℕ) → rota_asked n (rota_of p) b ≡ answer_by p b (ask_refusal places n p b)
  unfolding rota_asked ask_number
  rota_asked_is b = rw (rota_unbroken, list_said places p.asks)

  pub rota_turned_is : rota_turned n (rota_of p) ≡ record { due = Ok (due p); rota = rota_of (moved_on n p) }
  unfolding rota_turned turn_number
  rota_turned_is = rw (rota_unbroken, list_said places p.asks)

  rota_asked_rota : (b : ℕ) → (rota_asked n (rota_of p) b).rota ≡ rota_of (ask_after places n p b)
  unfolding ask_after
  rota_asked_rota b = ap (λ (a : RotaAsked). a.rota) (rota_asked_is b) ∙ go (ask_refusal places n p b)
    where
      go : (v : ℕ) → (answer_by p b v).rota ≡ rota_of (if_zero v (joined p b) p)
      go zero = refl
      go (suc v) = refl

  -- an ask that is given a place is not refused, and the place is the plan's
  pub rota_asked_given : (b k : ℕ) → (rota_asked n (rota_of p) b).place ≡ Ok k → (ask_refusal places n p b ≡ 0) × (ask_place p b ≡ k)
  rota_asked_given b k e = go (ask_refusal places n p b) refl (rw rota_asked_is at e)
    where
      go : (v : ℕ) → ask_refusal places n p b ≡ v → (answer_by p b v).place ≡ Ok k → (ask_refusal places n p b ≡ 0) × (ask_place p b ≡ k)
      go zero z e = (z, cc)
      go (suc v) z e = let w : ◌≡◌ {A = ℕ} 0 1 = cc in absurd (omega arith)

-- ---- a list of steps

module _ {Other : Type 0} where
  pub turns_append : (l k : List (Step Other)) → turns (l ++ k) ≡ turns l + turns k
  unfolding turns
  turns_append [] k = omega arith
  turns_append (ask b ∷ l) k = turns_append l k
  turns_append (turn ∷ l) k = omega (arith, turns_append l k)
  turns_append (other x ∷ l) k = turns_append l k

  module _ (n : ℕ) where
    abbrev pub plan_step : Step Other → Plan → Plan
    plan_step (ask b) p = ask_after places n p b
    plan_step turn p = moved_on n p
    plan_step (other x) p = p

    unfoldable pub plan_run : List (Step Other) → Plan → Plan
    plan_run [] p = p
    plan_run (x ∷ l) p = plan_run l (plan_step x p)

    pub plan_append : (l k : List (Step Other)) (p : Plan) → plan_run (l ++ k) p ≡ plan_run k (plan_run l p)
    unfolding plan_run
    plan_append [] k p = refl
    plan_append (x ∷ l) k p = plan_append l k (plan_step x p)

    pub step_sound : (x : Step Other) (p : Plan) → Sound places n p → Sound places n (plan_step x p)
    step_sound (ask b) p s = ask_sound places n p b s
    step_sound turn p s = turn_sound places n p s
    step_sound (other x) p s = s

    pub run_sound : (l : List (Step Other)) (p : Plan) → Sound places n p → Sound places n (plan_run l p)
    unfolding plan_run
    run_sound [] p s = s
    run_sound (x ∷ l) p s = run_sound l (plan_step x p) (step_sound x p s)

    pub step_runs : (x : Step Other) (p : Plan) → Sound places n p → rota_step n x (rota_of p) ≡ rota_of (plan_step x p)
    step_runs (ask b) p s = rota_asked_rota n p s b
    step_runs turn p s = ap (λ (t : RotaTurned). t.rota) (rota_turned_is n p s)
    step_runs (other x) p s = refl

    pub run_runs : (l : List (Step Other)) (p : Plan) → Sound places n p → rota_run n l (rota_of p) ≡ rota_of (plan_run l p)
    unfolding rota_run plan_run
    run_runs [] p s = refl
    run_runs (x ∷ l) p s = ap (rota_run n l) (step_runs x p s) ∙ run_runs l (plan_step x p) (step_sound x p s)

    -- ---- from the fresh record

    abbrev pub plan_at : List (Step Other) → Plan
    plan_at l = plan_run l start

    module _ (some : 1 ≤ n) where
      pub plan_sound : (l : List (Step Other)) → Sound places n (plan_at l)
      plan_sound l = run_sound l start (start_sound places n some)

      pub rota_runs : (l : List (Step Other)) → rota_at n l ≡ rota_of (plan_at l)
      rota_runs l = run_runs l start (start_sound places n some)

      pub due_runs : (l : List (Step Other)) → due_at n l ≡ Ok (due (plan_at l))
      due_runs l = ap (λ (r : Rota). (rota_turned n r).due) (rota_runs l) ∙ ap (λ (t : RotaTurned). t.due) (rota_turned_is n (plan_at l) (plan_sound l))
