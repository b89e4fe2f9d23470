-- A test that computes, for whether the flips of a list are spaced. Assumes nothing.
use Prim.Native.Nat.{ℕ, zero, suc, ◌≤◌}
use mathlib.Core.Bool.{Bool, true, false, not, ◌&&◌, false≢true}
use mathlib.Core.Path.{◌≡◌, sym, ap, ◌∙◌}
use mathlib.Core.List.{List, [], ◌∷◌, ◌++◌, append_assoc}
use native.Mathlib.Omega.{arith}
use Rattle.ground.proofs.Bools.{both}
use Rattle.rota.specs.Steps.{ask, turn, other, turns}
use Rattle.rota.specs.Touches.{Touch, write, read, visit, flip, nothing}
use Rattle.rota.specs.Memory.{Memory}
use Rattle.rota.specs.Patrol.{StepOf, Spaced}

abbrev pub holds : {A : Type 0} → Dec A → Bool
holds (yes a) = true
holds (no a) = false

not_held : {A : Type 0} (d : Dec A) → A → not (holds d) ≡ true → ⊥
not_held (yes b) a e = false≢true e
not_held (no b) a e = b a

module _ {n : ℕ} (M : Memory n) where
  -- whether a touch is a flip in the lane
  abbrev pub hits : M.Lane → Touch M.Data M.Flip → Bool
  hits u (write b d) = false
  hits u (read b) = false
  hits u (visit b) = false
  hits u (flip f) = holds (M.lane? (M.lane f) u)
  hits u nothing = false

  -- no flip in the lane before k turns are over
  unfoldable pub quiet : M.Lane → ℕ → List (StepOf M) → Bool
  quiet u zero l = true
  quiet u (suc k) [] = true
  quiet u (suc k) (ask b ∷ l) = quiet u (suc k) l
  quiet u (suc k) (turn ∷ l) = quiet u k l
  quiet u (suc k) (other x ∷ l) = not (hits u x) && quiet u (suc k) l

  -- no flip in the same lane before n turns are over
  abbrev pub quiet_after : Touch M.Data M.Flip → List (StepOf M) → Bool
  quiet_after (write b d) l = true
  quiet_after (read b) l = true
  quiet_after (visit b) l = true
  quiet_after (flip f) l = quiet (M.lane f) n l
  quiet_after nothing l = true

  unfoldable pub spaced? : List (StepOf M) → Bool
  spaced? [] = true
  spaced? (ask b ∷ l) = spaced? l
  spaced? (turn ∷ l) = spaced? l
  spaced? (other x ∷ l) = quiet_after x l && spaced? l

  quiet_turns : (mid post : List (StepOf M)) (u : M.Lane) (k : ℕ) (g : M.Flip) → M.lane g ≡ u
      → quiet u k (mid ++ other (flip g) ∷ post) ≡ true → k ≤ turns mid
  unfolding quiet turns
  quiet_turns mid post u zero g e q = omega arith
  quiet_turns [] post u (suc k) g e q =
      absurd (not_held (M.lane? (M.lane g) u) e (both (not (holds (M.lane? (M.lane g) u))) (quiet u (suc k) post) q).0)
  quiet_turns (ask b ∷ mid) post u (suc k) g e q = quiet_turns mid post u (suc k) g e q
  quiet_turns (turn ∷ mid) post u (suc k) g e q = let r = quiet_turns mid post u k g e q in omega arith
  quiet_turns (other x ∷ mid) post u (suc k) g e q =
      quiet_turns mid post u (suc k) g e (both (not (hits u x)) (quiet u (suc k) (mid ++ other (flip g) ∷ post)) q).1

  spaced_at : (pre mid post : List (StepOf M)) (f g : M.Flip) → spaced? (pre ++ other (flip f) ∷ (mid ++ other (flip g) ∷ post)) ≡ true
      → M.lane f ≡ M.lane g → n ≤ turns mid
  unfolding spaced?
  spaced_at [] mid post f g q e =
      let l = mid ++ other (flip g) ∷ post in
      quiet_turns mid post (M.lane f) n g (sym e) (both (quiet (M.lane f) n l) (spaced? l) q).0
  spaced_at (ask b ∷ pre) mid post f g q e = spaced_at pre mid post f g q e
  spaced_at (turn ∷ pre) mid post f g q e = spaced_at pre mid post f g q e
  spaced_at (other x ∷ pre) mid post f g q e =
      let l = pre ++ other (flip f) ∷ (mid ++ other (flip g) ∷ post) in
      spaced_at pre mid post f g (both (quiet_after x l) (spaced? l) q).1 e

  pub spaced_true : (l : List (StepOf M)) → spaced? l ≡ true → Spaced M l
  spaced_true l q pre mid post f g e =
      spaced_at pre mid post f g (sym (ap spaced? (e ∙ append_assoc pre (other (flip f) ∷ mid) (other (flip g) ∷ post))) ∙ q)
