-- The blocks of an accepted image, visited, printed and counted in order. Assumes nothing.
use Prim.Native.Nat.{ℕ, ◌+◌, ◌≤◌, ◌<◌}
use mathlib.Core.Path.{◌≡◌, refl, sym, ap, ap₂, ◌∙◌}
use mathlib.Core.List.{List}
use native.Mathlib.Omega.{arith}
use native.Mathlib.Numerals.{add-one}
use lib.ListN.{length}
use Rattle.block.specs.declared.Verdict.{Verdict}
use Rattle.layout.specs.declared.Layout.{Layout}
use Rattle.layout.specs.Layout.{blocks}
use Rattle.layout.specs.Refusal.{image_refusal}
use Rattle.layout.proofs.Ladder.{geometry, image_layout}
use Rattle.store.specs.Answer.{verdict_in}
use Rattle.store.specs.Visit.{VisitsAccepted, visit_answer, visit_after}
use Rattle.store.proofs.Promises.{accepted_verdict}
use Rattle.text.specs.declared.Page.{Page as Lent}
use Rattle.text.specs.Page.{page, written, written_all}
use Rattle.text.specs.Puts.{PutsText, PutsAll, OnPage}
use Rattle.text.proofs.Pages.{written_last}
use Rattle.report.specs.declared.Tally.{Tally}
use Rattle.report.specs.Lines.{image_line, block_line, total_line, counted}
use Rattle.report.specs.Report.{verdict_at, image_report, visited_below, block_lines, tally_below}
use Rattle.report.specs.Inner.{Countable}
use Rattle.report.proofs.Counts.{verdict_most, tally_within}
use Rattle.report.proofs.Visited.{visit_finds}

-- an accepted image has at most 4,096 blocks
pub few_blocks : (layout : Layout) (len : ℕ) → image_refusal len layout ≡ 0 → blocks layout ≤ 4096
few_blocks layout len accepted = (geometry layout (image_layout layout len accepted)).n_last

module _ (image : List ℕ) (layout : Layout) where
  -- the blocks below k are visited and counted, and their lines put
  pub record Below (k : ℕ) (visited : List ℕ) (tally : Tally) (before after : Lent) : Type 0 where
    pub visits : visited ≡ visited_below image layout k
    pub counts : tally ≡ tally_below (verdict_at image layout) k
    pub prints : OnPage (PutsAll (block_lines (verdict_at image layout) k)) before after

  pub none_below : {tally : Tally} (start : Lent) → (tally.clean ≡ 0) × ((tally.mended ≡ 0) × ((tally.lost ≡ 0) × (tally.bits ≡ 0)))
      → Below 0 image tally start start
  unfolding visited_below tally_below block_lines written_all
  none_below start e = record {
    visits = refl;
    counts = λ i. record { clean = e.0 i; mended = e.1.0 i; lost = e.1.1.0 i; bits = e.1.1.1 i };
    prints = record { puts = refl; same_buffer = refl };
  }

  module _ (accepted : image_refusal (length image) layout ≡ 0) {k : ℕ} {visited : List ℕ} {tally : Tally} {start now : Lent}
      (below : Below k visited tally start now) where
    module _ (more : k < blocks layout) {verdict : Verdict} {after : List ℕ} (visit : VisitsAccepted visited layout k verdict after) where
      -- a visit tells the verdict of its block
      found : verdict ≡ verdict_at image layout k
      found =
          accepted_verdict _ _ k visit
          ∙ ap (λ (visited : List ℕ). verdict_in (visit_answer visited layout k)) below.visits
          ∙ visit_finds image layout accepted k more

      pub countable : Countable verdict tally
      countable =
          let few = few_blocks layout _ accepted in
          let within = tally_within image layout k in
          rw (found, below.counts) (record {
            small = omega (arith, verdict_most image layout k);
            clean_few = omega (arith, within.clean);
            mended_few = omega (arith, within.mended);
            lost_few = omega (arith, within.lost);
            bits_few = omega (arith, within.bits);
          })

      pub one_below : {next : Lent} {counts : Tally} → OnPage (PutsText (block_line k verdict)) now next → counts ≡ counted verdict tally
          → Below (k + 1) after counts start next
      unfolding visited_below tally_below block_lines
      one_below line count = rw add-one (record {
        visits = visit.leaves ∙ ap (λ (visited : List ℕ). visit_after visited layout k) below.visits;
        counts = count ∙ ap₂ counted found below.counts;
        prints = record {
          puts = line.puts
              ∙ ap₂ written (ap (block_line k) found) below.prints.puts
              ∙ sym (written_last (block_lines (verdict_at image layout) k) (block_line k (verdict_at image layout k)) _);
          same_buffer = line.same_buffer ∙ below.prints.same_buffer;
        };
      })

    -- with the first line before them all, and the last after them
    pub all_below : {many : ℕ} {before after : Lent} → many ≡ blocks layout → k ≡ blocks layout → OnPage (PutsText (image_line layout many)) before start
        → OnPage (PutsText (total_line tally)) now after
        → OnPage (PutsAll (image_report image layout)) before after
    unfolding image_report written_all
    all_below {before = before} many all first last =
        let lines : ℕ → List (List ℕ) = block_lines (verdict_at image layout) in
        let tallies : ℕ → Tally = tally_below (verdict_at image layout) in
        let begun = first.puts ∙ ap (λ (n : ℕ). written (image_line layout n) (page before.bytes.now before.next)) many in
        record {
          puts = last.puts
              ∙ ap₂ written (ap total_line (below.counts ∙ ap tallies all)) (below.prints.puts ∙ ap₂ written_all (ap lines all) begun)
              ∙ sym (written_last (lines (blocks layout)) (total_line (tallies (blocks layout))) _);
          same_buffer = last.same_buffer ∙ below.prints.same_buffer ∙ first.same_buffer;
        }
