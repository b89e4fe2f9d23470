-- Lines and tally are told by the verdicts below the number of blocks. Assumes nothing.
use Prim.Native.Nat.{ℕ, zero, suc, ◌<◌}
use mathlib.Core.Path.{◌≡◌, refl, ap₂}
use native.Mathlib.Omega.{arith}
use Rattle.block.specs.declared.Verdict.{Verdict}
use Rattle.layout.specs.declared.Layout.{Layout}
use Rattle.layout.specs.Layout.{blocks}
use Rattle.report.specs.Lines.{counted}
use Rattle.report.specs.Report.{block_lines, tally_below, lines_by}

module _ (u v : ℕ → Verdict) where
  blocks_same : (n : ℕ) → ((k : ℕ) → k < n → u k ≡ v k) → (block_lines u n ≡ block_lines v n) × (tally_below u n ≡ tally_below v n)
  unfolding block_lines tally_below
  blocks_same zero same = (refl, refl)
  blocks_same (suc n) same =
      let less = blocks_same n (λ k h. same k (omega arith)) in
      let last = same n (omega arith) in
      (rw (less.0, last), ap₂ counted last less.1)

  pub lines_same : (layout : Layout) → ((k : ℕ) → k < blocks layout → u k ≡ v k) → lines_by layout u ≡ lines_by layout v
  lines_same layout same = let both = blocks_same (blocks layout) same in rw (both.0, both.1)
