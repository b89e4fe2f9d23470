-- The visits of an image, block by block: none is refused, and each finds the block as it was read. Assumes nothing.
use Prim.Native.Nat.{ℕ, zero, suc, ◌≤◌, ◌<◌}
use mathlib.Core.Path.{◌≡◌, refl, ap, ◌∙◌}
use mathlib.Core.List.{List}
use native.Mathlib.Omega.{arith}
use lib.ListN.{length}
use Rattle.block.specs.Verdict.{verdict_of}
use Rattle.layout.specs.declared.Layout.{Layout}
use Rattle.layout.specs.Layout.{shape_of, blocks}
use Rattle.layout.specs.Refusal.{image_refusal}
use Rattle.layout.proofs.Ladder.{block_accepted}
use Rattle.store.specs.Image.{gathered}
use Rattle.store.specs.Answer.{verdict_in}
use Rattle.store.specs.Visit.{visit_answer}
use Rattle.store.proofs.After.{visit_untouched}
use Rattle.report.specs.Report.{visited_below, verdict_at}

module _ (image : List ℕ) (layout : Layout) where
  pub length_visited : (n : ℕ) → length (visited_below image layout n) ≡ length image
  unfolding visited_below
  length_visited zero = refl
  length_visited (suc n) = (visit_untouched (visited_below image layout n) layout n).size ∙ length_visited n

  -- a visit finds the verdict of the block
  pub visit_finds : image_refusal (length image) layout ≡ 0 → (n : ℕ) → n < blocks layout
      → verdict_in (visit_answer (visited_below image layout n) layout n) ≡ verdict_at image layout n
  unfolding visit_answer verdict_at
  visit_finds e n h = rw (length_visited n, block_accepted layout (length image) n e h)

  -- the blocks from n on are as they were read
  not_yet : (n other : ℕ) → n ≤ other → gathered layout other (visited_below image layout n) ≡ gathered layout other image
  unfolding visited_below
  not_yet zero other h = refl
  not_yet (suc n) other h =
      (visit_untouched (visited_below image layout n) layout n).others other (λ e. omega arith) ∙ not_yet n other (omega arith)

  -- so that each verdict is that of the block as it was read
  pub verdict_read : (n : ℕ) → verdict_at image layout n ≡ verdict_of (shape_of layout) (gathered layout n image)
  unfolding verdict_at
  verdict_read n = ap (verdict_of (shape_of layout)) (not_yet n n (omega arith))
