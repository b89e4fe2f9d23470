-- What a turn that is accepted finds due, reports and leaves. Assumes nothing.
use Prim.Native.Nat.{ℕ, ◌<◌}
use mathlib.Core.Path.{◌≡◌, sym, ap, subst}
use mathlib.Core.List.{List}
use lib.ListN.{length}
use Rattle.std.specs.Prelude.{Option, unwrap_or, Result, Ok}
use Rattle.refusal.specs.declared.Refusal.{Refusal}
use Rattle.layout.specs.Layout.{blocks}
use Rattle.layout.specs.Refusal.{image_refusal}
use Rattle.rota.specs.declared.Rota.{Rota}
use Rattle.rota.specs.declared.Due.{Due}
use Rattle.rota.specs.Answer.{RotaTurned}
use Rattle.rota.specs.Numbers.{due_number, first_block, second_block}
use Rattle.rota.specs.Calls.{RotaTurns}
use Rattle.rota.proofs.Ranges.{due_inside}
use Rattle.rota.proofs.Numbers.{turns_is}
use Rattle.patrol.specs.declared.Record.{Record}
use Rattle.patrol.specs.declared.Report.{Report}
use Rattle.patrol.specs.Ask.{with_rota}
use Rattle.patrol.specs.Turn.{reported, patrolled, turned_now, turned, turn_after, Turns}
use Rattle.patrol.specs.Inner.{Ready}
use Rattle.patrol.proofs.Promises.{turns}

module _ (r : Record) (len : ℕ) (passed : 0 ≡ image_refusal len r.layout)
    {due : Due} {after : Rota} (moved : RotaTurns (blocks r.layout) r.rota (Ok due) after) where
  answered : record { due = Ok due; rota = after } ≡ turned_now r
  answered = turns_is _ _ moved

  inside : (first_block (Ok due) < blocks r.layout) × (second_block (Ok due) < blocks r.layout)
  inside =
      let e : (turned_now r).due ≡ Ok due = sym (ap (λ (a : RotaTurned). a.due) answered) in
      let both = due_inside (blocks r.layout) r.rota (ap due_number e) in (
        subst (λ (d : Result Due Refusal). first_block d < blocks r.layout) e both.0,
        subst (λ (d : Result Due Refusal). second_block d < blocks r.layout) e both.1,
      )

  pub turn_ready : Ready r.layout len due
  turn_ready =
      record {
        passed = sym passed;
        patrol = inside.0;
        ask = λ block e. subst (λ (o : Option ℕ). unwrap_or o 0 < blocks r.layout) e inside.1;
      }

  pub turn_reported : (image : List ℕ) → len ≡ length image → {report : Report} {left : List ℕ}
      → (report ≡ reported r.layout image due) × (left ≡ patrolled r.layout image due)
      → Turns r image (record { report = Ok report; back = with_rota r after }) left
  unfolding turned turn_after
  turn_reported image size e =
      turns _ _ (rw (← size, ← passed, ← answered, e.0)) (rw (← size, ← passed, ← answered, e.1))
