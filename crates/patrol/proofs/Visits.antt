-- The visits of a turn are accepted, since the layout is fine and each block is below N; what they report and leave. Assumes nothing.
use Prim.Native.Nat.{ℕ}
use mathlib.Core.Path.{◌≡◌, refl, ap, ◌∙◌}
use mathlib.Core.List.{List}
use lib.ListN.{length}
use Rattle.std.specs.Prelude.{Some, None}
use Rattle.block.specs.declared.Verdict.{Verdict}
use Rattle.layout.specs.declared.Layout.{Layout}
use Rattle.layout.specs.Refusal.{block_refusal}
use Rattle.layout.proofs.Ladder.{block_accepted}
use Rattle.rota.specs.declared.Due.{Due}
use Rattle.store.specs.Answer.{verdict_in}
use Rattle.store.specs.Visit.{visit_answer, VisitsAccepted}
use Rattle.store.proofs.After.{visit_untouched}
use Rattle.store.proofs.Promises.{accepted_verdict}
use Rattle.patrol.specs.declared.Visit.{Visit}
use Rattle.patrol.specs.Turn.{seen, visited, reported, patrolled}
use Rattle.patrol.specs.Inner.{Ready}

-- a visit that is accepted says what it finds
sees : (layout : Layout) (image : List ℕ) (block : ℕ) → block_refusal (length image) layout block ≡ 0
    → verdict_in (visit_answer image layout block) ≡ seen layout image block
unfolding visit_answer
sees layout image block passed = rw passed

module _ (layout : Layout) (image : List ℕ) (due : Due) (ready : Ready layout (length image) due)
    (v : Verdict) (between : List ℕ) (met : VisitsAccepted image layout due.patrol v between) where
  saw : v ≡ seen layout image due.patrol
  saw =
      accepted_verdict image layout due.patrol met
      ∙ sees layout image due.patrol (block_accepted layout (length image) due.patrol ready.passed ready.patrol)

  abbrev first : Visit
  first = record { block = due.patrol; verdict = v }

  -- no ask is served
  pub one_visited : due.ask ≡ None → (record { patrol = first; ask = None } ≡ reported layout image due) × (between ≡ patrolled layout image due)
  one_visited e = rw (e, ← saw) (refl, met.leaves)

  -- the first visit leaves the image's length
  pub two_visited : (second : ℕ) (w : Verdict) (after : List ℕ) → VisitsAccepted between layout second w after → due.ask ≡ Some second
      → (record { patrol = first; ask = Some (record { block = second; verdict = w }) } ≡ reported layout image due)
      × (after ≡ patrolled layout image due)
  two_visited second w after also e =
      let size : length between ≡ length image = ap length met.leaves ∙ (visit_untouched image layout due.patrol).size in
      let fine : block_refusal (length between) layout second ≡ 0 =
      rw size (block_accepted layout (length image) second ready.passed (ready.ask second e)) in
      let later : w ≡ seen layout (visited layout image due.patrol) second =
      accepted_verdict between layout second also ∙ sees layout between second fine ∙ ap (λ (l : List ℕ). seen layout l second) met.leaves in
      rw (e, saw, later) (refl, also.leaves ∙ ap (λ (l : List ℕ). visited layout l second) met.leaves)
