-- A mending keeps what is past the rows of the shape. Assumes nothing.
use Prim.Native.Nat.{ℕ, zero, suc, ◌≤◌}
use mathlib.Core.Bool.{false}
use mathlib.Core.Path.{◌≡◌, refl, sym, ap, ◌∙◌}
use mathlib.Core.List.{List}
use mathlib.Core.Logic.{⊎_elim}
use native.Mathlib.Omega.{arith}
use lib.Bits.{bit_xor, xor_zero_r}
use lib.ListN.{length, get_or, get_or-eq_default}
use Rattle.lane.specs.Lane.{Lane}
use Rattle.lane.specs.Decision.{decide, changes}
use Rattle.lane.proofs.Mended.{none_past}
use Rattle.lane.proofs.Rows.{split_below}
use Rattle.shape.specs.declared.Shape.{Shape}
use Rattle.shape.specs.Shape.{before, rows}
use Rattle.sums.specs.Words.{lane}
use Rattle.ground.specs.Choice.{if_zero}
use Rattle.block.specs.Block.{lanes_lost, mended_lanes, mended_block}
use Rattle.ground.proofs.Lists.{get_or_list_of}
use Rattle.sums.proofs.WordBits.{number_same}
use Rattle.block.proofs.Flips.{word_none}
use Rattle.block.proofs.Blocks.{length_lanes}

pub mended_past : (shape : Shape) (block : List ℕ) (k : ℕ) → rows shape ≤ k → get_or (mended_block shape block) k 0 ≡ get_or block k 0
unfolding mended_block mended_lanes
mended_past shape block k h = by (lanes_lost shape block)
  where
    untouched : (f : Lane) → changes (decide (before shape) f) (suc k) ≡ false
    untouched f = none_past (before shape) f (suc k) (omega arith)

    lanes : get_or (mended_lanes shape block) k 0 ≡ get_or block k 0
    lanes =
        ⊎_elim
        (λ l.
        get_or_list_of (length block) _ k l
        ∙ ap (bit_xor (get_or block k 0)) (number_same 32 _ (λ i. false) (λ i hi. untouched (lane i block)) ∙ word_none)
        ∙ xor_zero_r (get_or block k 0))
        (λ l. get_or-eq_default (mended_lanes shape block) 0 {n = k} (rw (length_lanes shape block) l) ∙ sym (get_or-eq_default block 0 {n = k} l))
        (split_below k (length block))

    by : (n : ℕ) → get_or (if_zero n (mended_lanes shape block) block) k 0 ≡ get_or block k 0
    by zero = lanes
    by (suc n) = refl
