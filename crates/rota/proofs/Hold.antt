-- Every lane stays as it is meant, or one flip off while the visit of its block is due in time. Assumes nothing.
use Prim.Native.Nat.{ℕ, zero, suc, ◌+◌, ◌≤◌, ◌<◌}
use mathlib.Core.Bool.{cond}
use mathlib.Core.Path.{◌≡◌, refl, sym, ap, ◌∙◌, subst}
use mathlib.Core.List.{List, [], ◌∷◌, ◌++◌, append_assoc, append-nil}
use mathlib.Core.Logic.{◌⊎◌, inl, inr, ⊎_elim, by_cases}
use native.Mathlib.Decide.{ℕ_discrete}
use native.Mathlib.Omega.{arith}
use lib.Dec.{eqb}
use borrow.Author.Tests.{eq-eqb, ne_eqb}
use Rattle.rota.specs.Line.{places}
use Rattle.rota.specs.Plan.{Plan, start}
use Rattle.rota.specs.Turning.{onward, due_of}
use Rattle.rota.specs.Record.{fresh, rota_of, rota_turned}
use Rattle.rota.specs.Steps.{ask, turn, other, tick, turns, rota_step}
use Rattle.rota.specs.Touches.{Touch, write, read, visit, flip, nothing, overwritten, meant, last_written}
use Rattle.rota.specs.Memory.{Memory}
use Rattle.rota.specs.Patrol.{StepOf, touched, ask_visited, visited, memory_step, memory_run, memory_at, Spaced}
use Rattle.rota.specs.declared.Rota.{Rota}
use Rattle.rota.specs.declared.Due.{Due}
use Rattle.refusal.specs.declared.Refusal.{Refusal}
use Rattle.std.specs.Prelude.{Result, Ok, Err, Option, Some, None}
use Rattle.rota.proofs.Plans.{Sound, start_sound, ask_adds}
use Rattle.rota.proofs.Runs.{rota_turned_is, turns_append, plan_step, plan_run, step_sound, step_runs}
use Rattle.rota.proofs.Round.{Away, away, away_zero, away_step}

module _ {n : ℕ} (M : Memory n) where
  -- ---- the memory stays good

  ask_good : (b : Option ℕ) (m : M.State) → M.Good m → M.Good (ask_visited M b m)
  ask_good None m g = g
  ask_good (Some b) m g = M.visit_good b m g

  visited_good : (d : Result Due Refusal) (m : M.State) → M.Good m → M.Good (visited M d m)
  visited_good (Ok d) m g = ask_good d.ask (M.visit d.patrol m) (M.visit_good d.patrol m g)
  visited_good (Err v) m g = g

  touched_good : (x : Touch M.Data M.Flip) (m : M.State) → M.Good m → M.Good (touched M x m)
  touched_good (write b d) m g = M.write_good b d m g
  touched_good (read b) m g = g
  touched_good (visit b) m g = M.visit_good b m g
  touched_good (flip f) m g = M.flip_good f m g
  touched_good nothing m g = g

  step_good : (x : StepOf M) (r : Rota) (m : M.State) → M.Good m → M.Good (memory_step M x r m)
  step_good (ask b) r m g = g
  step_good turn r m g = visited_good (rota_turned n r).due m g
  step_good (other x) r m g = touched_good x m g

  run_good : (l : List (StepOf M)) (r : Rota) (m : M.State) → M.Good m → M.Good (memory_run M l r m)
  unfolding memory_run
  run_good [] r m g = g
  run_good (x ∷ l) r m g = run_good l (rota_step n x r) (memory_step M x r m) (step_good x r m g)

  -- ---- the lanes

  -- the lane is as it is meant, or one flip off, and then Q
  abbrev Kept : Type 0 → M.State → M.Lane → M.Data → Type 0
  Kept Q m u d = M.Off 0 m u d ⊎ (M.Off 1 m u d × Q)

  kept_map : {Q R : Type 0} {m k : M.State} {u : M.Lane} {d : M.Data} → ((i : ℕ) → M.Off i m u d → M.Off i k u d) → (Q → R) → Kept Q m u d → Kept R k u d
  kept_map f g = ⊎_elim (λ o. inl (f 0 o)) (λ o. inr (f 1 o.0, g o.1))

  -- every lane, where w says what each block is meant to hold
  abbrev Held : (M.Lane → Type 0) → (ℕ → M.Data) → M.State → Type 0
  Held Q w m = (u : M.Lane) → M.block u < n → Kept (Q u) m u (w (M.block u))

  all_near : (Q : M.Lane → Type 0) (w : ℕ → M.Data) (m : M.State) → M.Good m → Held Q w m
      → (b : ℕ) → b < n → (u : M.Lane) → M.block u ≡ b → M.Off 1 m u (w b)
  all_near Q w m g h b l u e =
      subst (λ (c : ℕ). M.Off 1 m u (w c)) e (⊎_elim (λ o. M.off_more m u _ g o) (λ o. o.0) (h u (rw e l)))

  held_visit : (Q R : M.Lane → Type 0) (w : ℕ → M.Data) (m : M.State) (b : ℕ)
      → ((u : M.Lane) → M.block u < n → (M.block u ≡ b → ⊥) → Q u → R u) → M.Good m → Held Q w m → Held R w (M.visit b m)
  held_visit Q R w m b f g h u l =
      by_cases (ℕ_discrete (M.block u) b)
      (λ e. let k : b < n = omega arith in inl (rw e (M.visit_here b m (w b) g k (all_near Q w m g h b k) u e)))
      (λ ne. kept_map (M.visit_away b m u _ g ne) (f u l ne) (h u l))

  -- ---- a flip in the lane, and the visit of its block is due before n turns are over

  record Hurt (done : List (StepOf M)) (next : ℕ) (u : M.Lane) : Type 0 where
    pre : List (StepOf M)
    mid : List (StepOf M)
    by : M.Flip
    wait : ℕ
    split : done ≡ pre ++ other (flip by) ∷ mid
    hit : M.lane by ≡ u
    soon : turns mid + wait < n
    off : Away n next (M.block u) wait

  -- one step later
  aged : (done : List (StepOf M)) (next after wait : ℕ) (x : StepOf M) (u : M.Lane) (h : Hurt done next u)
      → wait + tick x 0 ≡ h.wait → Away n after (M.block u) wait → Hurt (done ++ x ∷ []) after u
  unfolding turns
  aged done next after wait x u h e a =
      record {
        pre = h.pre;
        mid = h.mid ++ x ∷ [];
        by = h.by;
        wait = wait;
        split = ap (λ (l : List (StepOf M)). l ++ x ∷ []) h.split ∙ append_assoc h.pre (other (flip h.by) ∷ h.mid) (x ∷ []);
        hit = h.hit;
        soon = omega (arith, h.soon, turns_append h.mid (x ∷ []));
        off = a;
      }

  -- ---- a step

  module _ (done : List (StepOf M)) (p : Plan) (w : ℕ → M.Data) (m : M.State)
      (s : Sound places n p) (good : M.Good m) (h : Held (Hurt done p.next) w m) where
    quiet : (x : StepOf M) → tick x 0 ≡ 0 → Held (Hurt (done ++ x ∷ []) p.next) w m
    quiet x z u l = kept_map (λ i o. o) (λ q. aged done p.next p.next q.wait x u q (omega arith) q.off) (h u l)

    after_write : (b : ℕ) (d : M.Data) → Held (Hurt (done ++ other (write b d) ∷ []) p.next) (λ c. cond (eqb b c) d (w c)) (M.write b d m)
    after_write b d u l =
        by_cases (ℕ_discrete (M.block u) b)
        (λ e. inl (rw (eq-eqb b (M.block u) (sym e)) (M.write_here b d m u good (omega arith) e)))
        (λ ne. rw (ne_eqb b (M.block u) (λ e. ne (sym e))) (kept_map (M.write_away b d m u _ good ne) (λ q. q) (quiet (other (write b d)) refl u l)))

    after_flip : (f : M.Flip) → Spaced M (done ++ other (flip f) ∷ []) → Held (Hurt (done ++ other (flip f) ∷ []) p.next) w (M.flip f m)
    unfolding turns
    after_flip f sp u l =
        by_cases (M.lane? (M.lane f) u)
        (λ e.
        ⊎_elim
        (λ o.
        let a = away n p.next (M.block u) s.inside l in
        inr (M.flip_here f m u _ good e o, record { pre = done; mid = []; by = f; wait = a.0; split = refl; hit = e; soon = omega arith; off = a.1 }))
        (λ o.
        let q = o.1 in
        let k = sp q.pre q.mid [] q.by f (ap (λ (x : List (StepOf M)). x ++ other (flip f) ∷ []) q.split) (q.hit ∙ sym e) in
        absurd (omega (arith, q.soon)))
        (h u l))
        (λ ne. kept_map (M.flip_away f m u _ good ne) (λ q. q) (quiet (other (flip f)) refl u l))

    past : (u : M.Lane) → M.block u < n → (M.block u ≡ p.next → ⊥) → Hurt done p.next u → Hurt (done ++ turn ∷ []) (onward n p.next) u
    past u l ne q = go q.wait refl q.off
      where
        go : (j : ℕ) → q.wait ≡ j → Away n p.next (M.block u) j → Hurt (done ++ turn ∷ []) (onward n p.next) u
        go zero e a = absurd (ne (sym (away_zero n p.next (M.block u) s.inside a)))
        go (suc j) e a = aged done p.next (onward n p.next) j turn u q (omega arith) (away_step n p.next (M.block u) j s.inside l a)

    -- what is left to mend after the turn
    abbrev Left : M.Lane → Type 0
    Left = Hurt (done ++ turn ∷ []) (onward n p.next)

    after_first : Held Left w (M.visit p.next m)
    after_first = held_visit (Hurt done p.next) Left w m p.next past good h

    after_turn : (asks : List ℕ) → Held Left w (visited M (Ok (due_of p.next asks)) m)
    after_turn [] = after_first
    after_turn (b ∷ asks) = held_visit Left Left w (M.visit p.next m) b (λ u l ne q. q) (M.visit_good p.next m good) after_first

    after_touch : (x : Touch M.Data M.Flip) → Spaced M (done ++ other x ∷ [])
        → Held (Hurt (done ++ other x ∷ []) p.next) (λ c. overwritten c (w c) x) (touched M x m)
    after_touch (write b d) sp = after_write b d
    after_touch (read b) sp = quiet (other (read b)) refl
    after_touch (visit b) sp =
        held_visit (Hurt (done ++ other (visit b) ∷ []) p.next) (Hurt (done ++ other (visit b) ∷ []) p.next) w m b (λ u l ne q. q) good
        (quiet (other (visit b)) refl)
    after_touch (flip f) sp = after_flip f sp
    after_touch nothing sp = quiet (other nothing) refl

    after_step : (x : StepOf M) → Spaced M (done ++ x ∷ [])
        → Held (Hurt (done ++ x ∷ []) (plan_step n x p).next) (λ c. meant c (w c) x) (memory_step M x (rota_of p) m)
    after_step (ask b) sp = rw (ask_adds places n p b).2 (quiet (ask b) refl)
    after_step turn sp = rw (rota_turned_is n p s) (after_turn p.asks)
    after_step (other x) sp = after_touch x sp

  -- ---- a list of steps

  spaced_front : (l k : List (StepOf M)) → Spaced M (l ++ k) → Spaced M l
  spaced_front l k sp pre mid post f g e =
      sp pre mid (post ++ k) f g (ap (λ (x : List (StepOf M)). x ++ k) e ∙ append_assoc (pre ++ other (flip f) ∷ mid) (other (flip g) ∷ post) k)

  held_run : (rest done : List (StepOf M)) (p : Plan) (w : ℕ → M.Data) (m : M.State) → Sound places n p → M.Good m → Held (Hurt done p.next) w m
      → Spaced M (done ++ rest) → Held (Hurt (done ++ rest) (plan_run n rest p).next) (λ c. last_written c (w c) rest) (memory_run M rest (rota_of p) m)
  unfolding plan_run memory_run last_written
  held_run [] done p w m s g h sp = rw append-nil h
  held_run (x ∷ rest) done p w m s g h sp =
      let e = append_assoc done (x ∷ []) rest in
      let sq : Spaced M (done ++ x ∷ [] ++ rest) = rw e sp in
      rw (← e, step_runs n x p s)
      (held_run rest (done ++ x ∷ []) (plan_step n x p) (λ c. meant c (w c) x) (memory_step M x (rota_of p) m) (step_sound n x p s)
      (step_good x (rota_of p) m g)
      (after_step done p w m s g h x (spaced_front (done ++ x ∷ []) rest sq))
      sq)

  pub reads : 1 ≤ n → (l : List (StepOf M)) → Spaced M l → (b : ℕ) → b < n → M.read b (memory_at M l) ≡ M.gives (last_written b M.zeros l)
  reads k l sp b h =
      let held = held_run l [] start (λ c. M.zeros) M.fresh (start_sound places n k) M.fresh_good (λ u i. inl (M.fresh_zeros u i)) sp in
      let good = run_good l fresh M.fresh M.fresh_good in
      M.read_here b (memory_at M l) (last_written b M.zeros l) good h
      (all_near (Hurt ([] ++ l) (plan_run n l start).next) (λ c. last_written c M.zeros l) (memory_at M l) good held b h)
