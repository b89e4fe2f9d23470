-- What holds of every list of steps from the fresh record, and over a fresh memory: n turns running visit every block, an ask is
-- served by the turn that its place says, and every read is right where flips are far enough apart. Assumes nothing.
use Prim.Native.Nat.{ℕ, ◌+◌, ◌≤◌, ◌<◌}
use mathlib.Core.Path.{◌≡◌, ap, ◌∙◌}
use mathlib.Core.List.{List, ◌∷◌, ◌++◌, append_assoc}
use native.Mathlib.Omega.{arith}
use Rattle.std.specs.Prelude.{Option, Some, Ok}
use Rattle.rota.specs.Line.{places}
use Rattle.rota.specs.Plan.{Plan, start}
use Rattle.rota.specs.Asking.{ask_refusal, ask_place}
use Rattle.rota.specs.Record.{rota_asked}
use Rattle.rota.specs.Numbers.{first_block}
use Rattle.rota.specs.Steps.{Step, ask, turn, other, turns, rota_at, due_at}
use Rattle.rota.specs.Touches.{read, flip, last_written}
use Rattle.rota.specs.Memory.{Memory}
use Rattle.rota.specs.Patrol.{StepOf, memory_at, Spaced}
use Rattle.rota.proofs.Plans.{ask_stands, ask_after}
use Rattle.rota.proofs.Runs.{rota_asked_given, plan_run, plan_at, plan_append, plan_sound, rota_runs, due_runs}
use Rattle.rota.proofs.Serve.{stands_first, stands_run}
use Rattle.rota.proofs.Round.{away, reached}
use Rattle.rota.proofs.Hold.{reads}

module _ {Other : Type 0} where
  module _ (n : ℕ) (some : 1 ≤ n) where
    -- in any n turns running every block is visited, whatever comes between
    pub round_complete : (pre mid : List (Step Other)) → n ≤ turns mid → (b : ℕ) → b < n
        → (before after : List (Step Other)) × (mid ≡ before ++ turn ∷ after) × (first_block (due_at n (pre ++ before)) ≡ b)
    round_complete pre mid h b l =
        let s = plan_sound n some pre in
        let a = away n (plan_at n pre).next b s.inside l in
        let r = reached n mid (plan_at n pre) b a.0 s l a.1 (omega (arith, a.1.0)) in (
          r.before,
          r.after,
          r.split,
          ap first_block (due_runs n some (pre ++ r.before))
              ∙ ap (λ (q : Plan). q.next) (plan_append n pre r.before start)
              ∙ r.here,
        )

    module _ (pre : List (Step Other)) (b k : ℕ) (e : (rota_asked n (rota_at n pre) b).place ≡ Ok k) where
      given : (ask_refusal places n (plan_at n pre) b ≡ 0) × (ask_place (plan_at n pre) b ≡ k)
      given = rota_asked_given n (plan_at n pre) (plan_sound n some pre) b k (rw (rota_runs n some pre) at e)

      -- an ask that is given the place k is served by the k-th turn after it, whatever comes between
      pub ask_served : (mid : List (Step Other)) → turns mid + 1 ≡ k
          → due_at n (pre ++ ask b ∷ mid) ≡ Ok (record { patrol = (rota_at n (pre ++ ask b ∷ mid)).next; ask = Some b })
      unfolding plan_run
      ask_served mid t =
          let p = plan_run n mid (ask_after places n (plan_at n pre) b) in
          let a = plan_append n pre (ask b ∷ mid) start in
          let first = ask_stands places n (plan_at n pre) b (turns mid) given.0 (omega (arith, given.1)) in
          let s = stands_run n mid (ask_after places n (plan_at n pre) b) b first in
          rw (due_runs n some (pre ++ ask b ∷ mid), rota_runs n some (pre ++ ask b ∷ mid), a)
          (ap (λ (q : Option ℕ). Ok (record { patrol = p.next; ask = q })) (stands_first s))

module _ {n : ℕ} (M : Memory n) (some : 1 ≤ n) where
  -- if at least n turns lie between any two flips in one lane, every read gives what was last written, or zeros
  pub read_right : (l : List (StepOf M)) → Spaced M l
      → (pre post : List (StepOf M)) (b : ℕ) → l ≡ pre ++ other (read b) ∷ post → b < n
      → M.read b (memory_at M pre) ≡ M.gives (last_written b M.zeros pre)
  read_right l sp pre post b e h =
      reads M some pre
      (λ p m q f g d.
      sp p m (q ++ other (read b) ∷ post) f g
      (e ∙ ap (λ (x : List (StepOf M)). x ++ other (read b) ∷ post) d
      ∙ append_assoc (p ++ other (flip f) ∷ m) (other (flip g) ∷ q) (other (read b) ∷ post)))
      b h
