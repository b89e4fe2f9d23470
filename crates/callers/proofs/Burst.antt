-- Of a burst, for a caller in C: his visits are the store's. Assumes nothing.
use Prim.Native.Nat.{ℕ}
use mathlib.Core.Path.{◌≡◌, refl, sym, ap, ◌∙◌}
use mathlib.Core.List.{List, [], ◌∷◌, ◌++◌}
use lib.ListN.{get_or}
use Rattle.layout.specs.declared.Layout.{Layout}
use Rattle.store.specs.Read.{read_answer, read_buffer}
use Rattle.store.specs.Visit.{visit_answer, visit_after}
use Rattle.store.proofs.Promises.{reads, visits}
use Rattle.patrol.specs.Numbers.{report_words}
use Rattle.patrol.specs.Turn.{turned, turn_after}
use Rattle.patrol.proofs.Promises.{turns}
use Rattle.demands.specs.Demand3.{store}
use Rattle.demands.specs.Burst.{VisitsInOrder, OnTheWay}
use Rattle.demands.proofs.Bursts.{bursts}
use Rattle.callers.specs.Burst.{VisitCalls, CallerOnTheWay, CallerBursts}
use Rattle.callers.proofs.Answers.{read_said, visit_said, turn_said}
use Rattle.callers.proofs.Followed.{held, followed}

in_order : (layout : Layout) (order image after : List ℕ) → VisitCalls layout order image after → VisitsInOrder layout order image after
unfolding VisitCalls VisitsInOrder
in_order layout [] image after v = v
in_order layout (block ∷ rest) image after v =
    (visit_answer image layout block, v.2, visits image layout block refl v.3.leaves, in_order layout rest v.2 after v.4)

on_the_way : (layout : Layout) (image now : List ℕ) → CallerOnTheWay layout image now → OnTheWay layout image now
on_the_way layout image now way =
    record {
      spoiled = way.spoiled;
      struck = way.struck;
      done = way.done;
      visits = in_order layout way.done way.spoiled now way.visits;
    }

first_word : {said words : List ℕ} → words ≡ said → get_or words 0 0 ≡ get_or said 0 0
first_word e = ap (λ (l : List ℕ). get_or l 0 0) e

pub caller_bursts : CallerBursts
caller_bursts =
    record {
      restored = λ {layout} {image} {spoiled} struck order after every v.
          bursts.restored layout image spoiled struck order after every (in_order layout order spoiled after v);
      none_lost = λ {layout} {image} {now} way {block} c says.
          bursts.none_lost layout image now (on_the_way layout image now way) block (visit_answer now layout block) (visit_after now layout block)
          (visits now layout block refl refl)
          (sym (first_word (visit_said c).1) ∙ says);
      accepted = λ {layout} {image} {now} way {block} c inside.
          (visit_said c).0
          ∙ bursts.accepted layout image now (on_the_way layout image now way) block (visit_answer now layout block) (visit_after now layout block)
          (visits now layout block refl refl)
          inside;
      reads = λ {layout} {image} {now} way {block} {number} {buffer} c z.
          let told =
          bursts.reads layout image now (on_the_way layout image now way) block buffer (read_answer now layout block buffer) now
          (read_buffer now layout block buffer)
          (reads now layout block buffer refl refl)
          (sym (read_said c).0 ∙ z) in (
            λ says. told.0 (sym (first_word (read_said c).1) ∙ says),
            c.leaves ∙ told.1,
          );
      round = λ image layout before spark since sparked enough earlier now was is.
          (followed image layout (before ++ spark ++ since) is).image
          ∙ bursts.round image layout before spark since sparked enough
          ∙ sym (followed image layout before was).image;
      turns_none_lost = λ image layout before spark since sparked now is {number} {words} {after} {report} c.
          let state = store image layout (before ++ spark ++ since) in
          let h = followed image layout (before ++ spark ++ since) is in
          let said : report ≡ report_words (turned state.patrol state.image).report = (turn_said c).1 ∙ rw (held h, h.image) in
          rw said
          (bursts.turns_none_lost image layout before spark since sparked (turned state.patrol state.image) (turn_after state.patrol state.image)
          (turns state.patrol state.image refl refl));
    }
