-- One result: two outcomes that satisfy the promise of inspect are equal, answer and every lent byte. Assumes nothing.
use Prim.Native.Nat.{ℕ}
use mathlib.Core.Path.{◌≡◌, sym, ap, ap₂, ◌∙◌}
use mathlib.Core.List.{List, ◌++◌}
use lib.ListN.{drop, take-append-drop}
use Rattle.ground.proofs.Same.{same}
use Rattle.report.specs.Report.{Inspects}

pub one_report : (bytes out : List ℕ) {m n : ℕ} {a b : List ℕ} → Inspects bytes out m a → Inspects bytes out n b → (m ≡ n) × (a ≡ b)
one_report bytes out {m} {n} {a} {b} p q =
    let ends = same p.ends q.ends in
    let past = p.past ∙ ap (λ (k : ℕ). drop k out) ends ∙ sym q.past in
    (ends, sym (take-append-drop m a) ∙ ap₂ (λ (front rest : List ℕ). front ++ rest) (same p.whole q.whole) past ∙ take-append-drop n b)
