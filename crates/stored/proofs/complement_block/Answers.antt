-- `stored::complement_block` meets its contract. Assumes nothing.
use Prim.Native.Nat.{ℕ}
use mathlib.Core.Path.{◌≡◌, ap, ◌∙◌}
use native.Mathlib.Omega.{arith}
use lib.Bits.{bit_xor}
use lib.ListN.{get_or, set}
use lib.Seq.{get_or-set_other}
use Rattle.stored.specs.Stored.{ones}
use Rattle.stored.proofs.Groups.{two_rows}
use Rattle.stored.proofs.complement_block.Goals as goal

pub returns : goal.returns
returns c =
    let block = c.args.block in
    let other : get_or (set block.now 0 (bit_xor (get_or block.now 0 0) ones)) 1 0 ≡ get_or block.now 1 0 =
    get_or-set_other block.now 0 1 _ 0 (λ e. omega arith) in
    ap (λ (w : ℕ). set (set block.now 0 (bit_xor (get_or block.now 0 0) ones)) 1 (bit_xor w ones)) other ∙ two_rows block.now
