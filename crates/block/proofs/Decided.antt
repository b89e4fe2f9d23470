-- What is decided and mended by a block's own sums is what the definitions say, and a block without a doubtful lane is clean. Assumes nothing.
use Prim.Native.Nat.{ℕ, zero, suc, ◌≤◌, ◌<◌}
use mathlib.Core.Bool.{Bool, false, not, ◌||◌}
use mathlib.Core.Path.{◌≡◌, refl, sym, ap, ap₂, ◌∙◌}
use mathlib.Core.List.{List}
use lib.Bits.{bit_xor}
use lib.Dec.{eqb}
use lib.ListN.{length, get_or}
use borrow.Author.Tests.{eqb-true, not-false}
use Rattle.lane.specs.Bit.{bit, pick}
use Rattle.lane.specs.Lane.{sum, odd}
use Rattle.lane.specs.Decision.{Kind, Decision, decision, decide, lost?, lost_as?, changes}
use Rattle.lane.proofs.Bits.{bit_zero}
use Rattle.ground.specs.Totals.{total}
use Rattle.ground.proofs.Bools.{neither}
use Rattle.ground.proofs.Lists.{list_of_same}
use Rattle.ground.proofs.Totals.{total_same}
use Rattle.shape.specs.declared.Shape.{Shape}
use Rattle.shape.specs.Shape.{before, rows}
use Rattle.block.specs.declared.Verdict.{Verdict}
use Rattle.block.specs.declared.Verdict.TheVariants.{Clean}
use Rattle.sums.specs.Words.{lane}
use Rattle.block.specs.Block.{lanes_lost, lanes_lost_as, mended_lanes, mended_block, bits_changed}
use Rattle.block.specs.Verdict.{said_by, to_say, verdict_of}
use Rattle.sums.specs.Sums.{sums_of, doubtful}
use Rattle.block.specs.Sums.{decision_in, lost_in, lost_as_in, odd_count, changed_in, Decides, MendsLanes}
use Rattle.sums.proofs.WordBits.{number_same, bit_number}
use Rattle.sums.proofs.Doubt.{odd_in_lem, sum_in_lem}
use Rattle.block.proofs.Blocks.{AllKept, none_counted, kept_none, none_kept, mended_kept, changed_odd}
use Rattle.block.proofs.Verdicts.{says_verdict}

-- the bits changed count only where no lane is lost
said_same : (lost : ℕ) (kinds : Kind → ℕ) (a b : ℕ) → (lost ≡ 0 → a ≡ b) → said_by lost kinds a ≡ said_by lost kinds b
said_same zero kinds a b e = ap (said_by 0 kinds) (e refl)
said_same (suc lost) kinds a b e = refl

module _ (shape : Shape) (block : List ℕ) where
  abbrev sums : List ℕ
  sums = sums_of shape block

  -- what is decided by them is what is decided of the lane
  decision_in_lem : (i : ℕ) → i < 32 → decision_in shape sums i ≡ decide (before shape) (lane i block)
  decision_in_lem i l = ap₂ (decision (before shape)) (odd_in_lem shape block i l) (sum_in_lem shape block i l)

  lost_same : lost_in shape sums ≡ lanes_lost shape block
  unfolding lost_in lanes_lost
  lost_same = total_same 32 _ _ (λ i h. ap (λ (d : Decision). pick (lost? d) 1) (decision_in_lem i h))

  kinds_same : lost_as_in shape sums ≡ lanes_lost_as shape block
  unfolding lost_as_in lanes_lost_as
  kinds_same = λ t kind. total_same 32 _ _ (λ i h. ap (λ (d : Decision). pick (lost_as? kind d) 1) (decision_in_lem i h)) t

  changed_same : changed_in shape sums block ≡ mended_lanes shape block
  unfolding changed_in mended_lanes
  changed_same =
      list_of_same (length block) _ _
      (λ j l. ap (bit_xor (get_or block j 0)) (number_same 32 _ _ (λ i h. ap (λ (d : Decision). changes d (suc j)) (decision_in_lem i h))))

  -- what is mended by them is the block with each lane mended
  pub lanes_mended : {after given : List ℕ} → given ≡ sums → MendsLanes shape block given after → after ≡ mended_lanes shape block
  lanes_mended are leaves = leaves ∙ ap (λ (l : List ℕ). changed_in shape l block) are ∙ changed_same

  odd_same : odd_count sums ≡ total 32 (λ i. pick (odd (rows shape) (lane i block)) 1)
  unfolding odd_count
  odd_same = total_same 32 _ _ (λ i h. ap (λ (b : Bool). pick b 1) (odd_in_lem shape block i h))

  module _ (long : rows shape ≤ length block) where
    count_same : lanes_lost shape block ≡ 0 → odd_count sums ≡ bits_changed shape block (mended_block shape block)
    count_same none =
        odd_same ∙ sym (changed_odd shape block long (none_kept shape block none)) ∙ ap (bits_changed shape block) (sym (mended_kept shape block none))

    -- what is decided by them is the verdict of the block
    pub decided : {v : Verdict} {given : List ℕ} → given ≡ sums → Decides shape given v → v ≡ verdict_of shape block
    unfolding to_say
    decided {v} are says =
        says_verdict shape block {v = v}
        (says ∙ ap (λ (l : List ℕ). said_by (lost_in shape l) (lost_as_in shape l) (odd_count l)) are
        ∙ ap₂ (λ (n : ℕ) (kinds : Kind → ℕ). said_by n kinds (odd_count sums)) lost_same kinds_same
        ∙ said_same (lanes_lost shape block) (lanes_lost_as shape block) (odd_count sums) (bits_changed shape block (mended_block shape block)) count_same)

    -- ---- no doubtful lane

    module _ (none : doubtful shape block ≡ 0) where
      quiet : (i : ℕ) → i < 32 → (sum (before shape) (lane i block) ≡ 0) × (odd (rows shape) (lane i block) ≡ false)
      unfolding doubtful
      quiet i h =
          let n = neither (not (eqb (sum (before shape) (lane i block)) 0)) (odd (rows shape) (lane i block))
          (sym (bit_number 32 i (λ i. not (eqb (sum (before shape) (lane i block)) 0) || odd (rows shape) (lane i block)) h) ∙ ap (bit i) none ∙ bit_zero i) in
          (eqb-true (sum (before shape) (lane i block)) 0 (not-false (eqb (sum (before shape) (lane i block)) 0) n.0), n.1)

      unmoved : (i : ℕ) → i < 32 → decide (before shape) (lane i block) ≡ decision (before shape) false 0
      unmoved i h = ap₂ (decision (before shape)) (quiet i h).1 (quiet i h).0

      kept : AllKept shape block
      unfolding decision
      kept i h = ap lost? (unmoved i h)

      pub clean_verdict : Clean ≡ verdict_of shape block
      unfolding to_say
      clean_verdict =
          says_verdict shape block {v = Clean}
          (ap₂ (λ (n c : ℕ). said_by n (lanes_lost_as shape block) c) (sym (kept_none shape block kept))
          (sym
          (ap (bits_changed shape block) (mended_kept shape block (kept_none shape block kept)) ∙ changed_odd shape block long kept
          ∙ none_counted 32 (λ i. odd (rows shape) (lane i block)) (λ i h. (quiet i h).1))))
