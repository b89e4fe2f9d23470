-- A verdict counts at most 32, both counts together, so a tally of 4,096 blocks fits. Assumes nothing.
use Prim.Native.Nat.{ℕ, zero, suc, ◌+◌, ◌*◌, ◌≤◌}
use mathlib.Core.List.{List}
use native.Mathlib.Omega.{arith}
use Rattle.block.specs.declared.Verdict.{Verdict}
use Rattle.block.specs.declared.Verdict.TheVariants.{Clean, Mended, Lost}
use Rattle.block.specs.Verdict.{verdict_count, verdict_beyond}
use Rattle.shape.proofs.Sizes.{rows_fit}
use Rattle.block.proofs.Told.{count_most}
use Rattle.layout.specs.declared.Layout.{Layout}
use Rattle.layout.specs.Layout.{shape_of}
use Rattle.store.proofs.Image.{length_gathered}
use Rattle.report.specs.declared.Tally.{Tally}
use Rattle.report.specs.Lines.{counted}
use Rattle.report.specs.Report.{visited_below, verdict_at, tally_below}

-- n blocks, of at most 32 bits each
pub record Within (n : ℕ) (tally : Tally) : Type 0 where
  pub clean : tally.clean ≤ n
  pub mended : tally.mended ≤ n
  pub lost : tally.lost ≤ n
  pub bits : tally.bits ≤ 32 * n

one_more : (n : ℕ) (v : Verdict) (tally : Tally) → verdict_count v ≤ 32 → Within n tally → Within (suc n) (counted v tally)
one_more n Clean tally c w =
    record { clean = omega (arith, w.clean); mended = omega (arith, w.mended); lost = omega (arith, w.lost); bits = omega (arith, w.bits) }
one_more n (Mended m) tally c w =
    record { clean = omega (arith, w.clean); mended = omega (arith, w.mended); lost = omega (arith, w.lost); bits = omega (arith, w.bits) }
one_more n (Lost e b) tally c w =
    record { clean = omega (arith, w.clean); mended = omega (arith, w.mended); lost = omega (arith, w.lost); bits = omega (arith, w.bits) }

module _ (image : List ℕ) (layout : Layout) where
  pub verdict_most : (n : ℕ) → verdict_count (verdict_at image layout n) + verdict_beyond (verdict_at image layout n) ≤ 32
  unfolding verdict_at
  verdict_most n =
      count_most (shape_of layout) _
      (rw (length_gathered layout n (visited_below image layout n)) (rows_fit (shape_of layout)))

  pub tally_within : (n : ℕ) → Within n (tally_below (verdict_at image layout) n)
  unfolding tally_below
  tally_within zero = record { clean = omega arith; mended = omega arith; lost = omega arith; bits = omega arith }
  tally_within (suc n) = one_more n (verdict_at image layout n) (tally_below (verdict_at image layout) n) (omega (arith, verdict_most n)) (tally_within n)
