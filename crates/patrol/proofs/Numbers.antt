-- The specification's numbers tell the reports of a turn apart, and those of an ask and a turn are those of their refusals. Assumes nothing.
use Prim.Native.Nat.{ℕ, zero, suc, ◌≤◌}
use mathlib.Core.Path.{◌≡◌, refl, sym, ap, ◌∙◌}
use mathlib.Core.List.{List}
use native.Mathlib.Omega.{arith}
use lib.ListN.{length}
use Rattle.std.specs.Prelude.{Option, Some, None, Result, Ok, Err}
use Rattle.ground.specs.Ladder.{◌then◌}
use Rattle.refusal.specs.declared.Refusal.{Refusal}
use Rattle.refusal.proofs.Answered.{refusal_told, number_some, number_of_numbered}
use Rattle.block.proofs.Verdicts.{said_told, said_some}
use Rattle.layout.specs.declared.Layout.{Layout}
use Rattle.layout.specs.Layout.{blocks}
use Rattle.layout.specs.Refusal.{layout_refusal, image_refusal}
use Rattle.layout.proofs.Ladder.{layout_known, image_known}
use Rattle.rota.specs.declared.Due.{Due}
use Rattle.rota.specs.Numbers.{place_number, place_given, due_number}
use Rattle.rota.specs.Record.{ask_number, turn_number}
use Rattle.rota.proofs.Numbers as rotaNumbers
use Rattle.patrol.specs.declared.Record.{Record}
use Rattle.patrol.specs.declared.Report.{Report}
use Rattle.patrol.specs.declared.Visit.{Visit}
use Rattle.patrol.specs.Ask.{asked_by, asked}
use Rattle.patrol.specs.Turn.{report_by, turned_now, turned_by, turned}
use Rattle.patrol.specs.Numbers.{Seen, seen_as, seen_if, unseen, report_number, report_first, report_second}

-- ---- the numbers tell the reports apart

-- a visit is told by its block and what is said
visit_told : (x y : Visit) → seen_as x ≡ seen_as y → x ≡ y
visit_told x y e =
    let block : x.block ≡ y.block = ap (λ (s : Seen). s.block) e in
    let verdict : x.verdict ≡ y.verdict = said_told x.verdict y.verdict (ap (λ (s : Seen). s.said) e) in
    λ i. record { block = block i; verdict = verdict i }

visit_seen : (x : Visit) → seen_as x ≡ unseen → ⊥
visit_seen x e = said_some x.verdict (ap (λ (s : Seen). s.said) e)

ask_told : (x y : Option Visit) → seen_if x ≡ seen_if y → x ≡ y
ask_told None None e = refl
ask_told None (Some y) e = absurd (visit_seen y (sym e))
ask_told (Some x) None e = absurd (visit_seen x e)
ask_told (Some x) (Some y) e = ap Some (visit_told x y e)

pub reports_told : (a b : Result Report Refusal) → report_number a ≡ report_number b → report_first a ≡ report_first b
    → report_second a ≡ report_second b → a ≡ b
reports_told (Err m) (Err n) e f g = ap Err (refusal_told m n e)
reports_told (Err m) (Ok y) e f g = absurd (number_some m e)
reports_told (Ok x) (Err n) e f g = absurd (number_some n (sym e))
reports_told (Ok x) (Ok y) e f g =
    let patrol : x.patrol ≡ y.patrol = visit_told x.patrol y.patrol f in
    let ask : x.ask ≡ y.ask = ask_told x.ask y.ask g in
    λ i. Ok (record { patrol = patrol i; ask = ask i })

-- a refusal has block, verdict, counts and place 0
pub report_bare : (a : Result Report Refusal) → (report_number a ≡ 0 → ⊥) → (report_first a ≡ unseen) × (report_second a ≡ unseen)
report_bare (Err m) ne = (refl, refl)
report_bare (Ok report) ne = absurd (ne refl)

pub place_bare : (a : Result ℕ Refusal) → (place_number a ≡ 0 → ⊥) → place_given a ≡ 0
place_bare (Err m) ne = refl
place_bare (Ok k) ne = absurd (ne refl)

-- ---- the numbers that are answered

reported_number : (layout : Layout) (image : List ℕ) (due : Result Due Refusal) → report_number (report_by layout image due) ≡ due_number due
reported_number layout image (Err m) = refl
reported_number layout image (Ok due) = refl

module _ (r : Record) where
  -- ---- ask

  module _ (block : ℕ) where
    pub ask_number_lem : place_number (asked r block).place ≡ layout_refusal r.layout then ask_number (blocks r.layout) r.rota block
    unfolding asked
    ask_number_lem = go (layout_refusal r.layout) (layout_known r.layout)
      where
        go : (number : ℕ) → number ≤ 14 → place_number (asked_by r block number).place ≡ number then ask_number (blocks r.layout) r.rota block
        go zero small = rotaNumbers.ask_number_lem (blocks r.layout) r.rota block
        go (suc number) small = number_of_numbered (suc number) small (λ z. omega arith)

  -- ---- turn

  module _ (image : List ℕ) where
    pub turn_number_lem : report_number (turned r image).report ≡ image_refusal (length image) r.layout then turn_number (blocks r.layout) r.rota
    unfolding turned
    turn_number_lem = go (image_refusal (length image) r.layout) (image_known r.layout (length image))
      where
        go : (number : ℕ) → number ≤ 14 → report_number (turned_by r image number).report ≡ number then turn_number (blocks r.layout) r.rota
        go zero small = reported_number r.layout image (turned_now r).due ∙ rotaNumbers.turn_number_lem (blocks r.layout) r.rota
        go (suc number) small = number_of_numbered (suc number) small (λ z. omega arith)
