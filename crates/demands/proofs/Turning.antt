-- A turn passes on what its visits answer, which are accepted: its blocks are below N. Assumes nothing.
use Prim.Native.Nat.{ℕ, ◌<◌}
use mathlib.Core.Bool.{true}
use mathlib.Core.Path.{◌≡◌, sym, ap, ◌∙◌}
use mathlib.Core.List.{List, [], ◌∷◌}
use borrow.Author.Tests.{ltb-true}
use lib.Dec.{ltb}
use lib.ListN.{length}
use Rattle.ground.specs.Choice.{if_zero}
use Rattle.ground.proofs.Bools.{both}
use Rattle.ground.proofs.Ladder.{then_zero}
use Rattle.block.specs.Verdict.{Said, unsaid, to_say}
use Rattle.layout.specs.declared.Layout.{Layout}
use Rattle.layout.specs.Layout.{shape_of, blocks}
use Rattle.layout.specs.Refusal.{image_refusal, block_refusal}
use Rattle.layout.proofs.Ladder.{block_accepted}
use Rattle.store.specs.Answer.{Answer}
use Rattle.store.specs.Answer.{answer_said}
use Rattle.store.specs.Image.{gathered}
use Rattle.store.specs.Visit.{visit_after, Visits}
use Rattle.store.proofs.After.{visit_untouched}
use Rattle.rota.specs.Line.{below, asks_of}
use Rattle.rota.specs.Record.{turn_number}
use Rattle.rota.proofs.Ranges.{turn_inside}
use Rattle.patrol.specs.declared.Record.{Record}
use Rattle.patrol.specs.declared.Turned.{Turned}
use Rattle.patrol.specs.Numbers.{unseen, report_number, report_second}
use Rattle.patrol.specs.Turn.{seen_in, ask_seen, ask_visited, turn_refused, Turns}
use Rattle.demands.specs.Demand2.{Turning}

-- an accepted visit says what is to be said of its block
said_there : (image : List ℕ) (layout : Layout) (block : ℕ) {answer : Answer} {after : List ℕ} → Visits image layout block answer after
    → block_refusal (length image) layout block ≡ 0
    → answer_said answer ≡ to_say (shape_of layout) (gathered layout block image)
said_there image layout block v passed =
    v.answers.says ∙ ap (λ (n : ℕ). if_zero n (to_say (shape_of layout) (gathered layout block image)) unsaid) passed

first_below : (n : ℕ) (block : ℕ) (rest : List ℕ) → below n (block ∷ rest) ≡ true → block < n
unfolding below
first_below n block rest e = ltb-true block n (both (ltb block n) (below n rest) e).0

module _ (r : Record) (image : List ℕ) (answer : Turned) (after : List ℕ) (p : Turns r image answer after) (z : report_number answer.report ≡ 0) where
  abbrev layout : Layout
  layout = r.layout

  abbrev next : ℕ
  next = r.rota.next

  abbrev asks : List ℕ
  asks = asks_of r.rota.line

  none : turn_refused r (length image) ≡ 0
  none = sym p.number ∙ z

  fine : (image_refusal (length image) layout ≡ 0) × (turn_number (blocks layout) r.rota ≡ 0)
  fine = then_zero _ _ none

  inside : (next < blocks layout) × (below (blocks layout) asks ≡ true)
  inside = turn_inside (blocks layout) r.rota fine.1

  module _ (visited : Answer) (between : List ℕ) (v : Visits image layout next visited between) where
    passed : block_refusal (length image) layout next ≡ 0
    passed = block_accepted layout (length image) next fine.0 inside.0

    left : (block : ℕ) → block < blocks layout → block_refusal (length between) layout block ≡ 0
    left block h = rw (v.leaves, (visit_untouched image layout next).size) (block_accepted layout (length image) block fine.0 h)

    -- what the promise says of the ask and of the image, by the asks that wait
    second_is : (l : List ℕ) → asks ≡ l → report_second answer.report ≡ ask_seen layout image next l
    second_is l e =
        p.second ∙ ap (λ (n : ℕ). if_zero n (ask_seen layout image next asks) unseen) none ∙ ap (ask_seen layout image next) e

    after_is : (l : List ℕ) → asks ≡ l → after ≡ ask_visited layout image next l
    after_is l e = p.leaves ∙ ap (λ (n : ℕ). if_zero n (ask_visited layout image next asks) image) none ∙ ap (ask_visited layout image next) e

    pub passes_on : Turning r answer after visited between
    passes_on =
        record {
          accepted = v.answers.number ∙ passed;
          first = p.first
              ∙ ap (λ (n : ℕ). if_zero n (seen_in layout image next) unseen) none
              ∙ ap (λ (s : Said). record { block = next; said = s }) (sym (said_there image layout next v passed));
          alone = λ e. (second_is [] e, after_is [] e ∙ sym v.leaves);
          asked = λ block rest e other last w.
              let low = left block (first_below (blocks layout) block rest (rw e at inside).1) in (
                w.answers.number ∙ low,
                second_is (block ∷ rest) e
                    ∙ ap (λ (l : List ℕ). seen_in layout l block) (sym v.leaves)
                    ∙ ap (λ (s : Said). record { block = block; said = s }) (sym (said_there between layout block w low)),
                after_is (block ∷ rest) e ∙ ap (λ (l : List ℕ). visit_after l layout block) (sym v.leaves) ∙ sym w.leaves,
              );
        }
