-- A block that has k others in front of it on the waiting list is served by the turn after k more. Assumes nothing.
use Prim.Native.Nat.{ℕ, suc}
use mathlib.Core.Path.{◌≡◌, refl}
use mathlib.Core.List.{List, [], ◌∷◌}
use lib.ListN.{drop}
use Rattle.std.specs.Prelude.{Some}
use Rattle.rota.specs.Line.{places, first_of}
use Rattle.rota.specs.Plan.{Plan}
use Rattle.rota.specs.Steps.{Step, ask, turn, other, tick, turns}
use Rattle.rota.proofs.Waiting.{Stands, first, behind, stands_more}
use Rattle.rota.proofs.Plans.{ask_adds}
use Rattle.rota.proofs.Runs.{plan_step, plan_run}

stands_up : {b k : ℕ} {l : List ℕ} → Stands b (suc k) l → Stands b k (drop 1 l)
stands_up (behind s) = s

pub stands_first : {b : ℕ} {l : List ℕ} → Stands b 0 l → first_of l ≡ Some b
stands_first first = refl

module _ {Other : Type 0} (n : ℕ) where
  -- a turn moves the block up, and no other step moves it
  stands_step : (x : Step Other) (p : Plan) (k b : ℕ) → Stands b (tick x k) p.asks → Stands b k (plan_step n x p).asks
  stands_step (ask c) p k b s = let e = ask_adds places n p c in rw e.1 (stands_more e.0 s)
  stands_step turn p k b s = stands_up s
  stands_step (other x) p k b s = s

  pub stands_run : (l : List (Step Other)) (p : Plan) (b : ℕ) → Stands b (turns l) p.asks → Stands b 0 (plan_run n l p).asks
  unfolding plan_run turns
  stands_run [] p b s = s
  stands_run (x ∷ l) p b s = stands_run l (plan_step n x p) b (stands_step x p (turns l) b s)
