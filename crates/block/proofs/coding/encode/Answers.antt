-- `block::coding::encode` meets its contract: the words of the sums set the check rows. Assumes nothing.
use Prim.Native.Nat.{ℕ}
use mathlib.Core.Path.{◌≡◌, refl, sym, ap, ap₂, ◌∙◌}
use mathlib.Core.List.{List}
use native.Mathlib.Omega.{arith}
use lib.Bits.{bit_xor}
use lib.ListN.{get_or, set}
use Rattle.shape.specs.declared.Shape.{Shape}
use Rattle.shape.specs.Shape.{before}
use Rattle.stored.specs.Stored.{complemented}
use Rattle.block.specs.Block.{data_block}
use Rattle.sums.specs.Sums.{sums_of}
use Rattle.block.specs.Inner.{listed?, above?, rising?, xor_all, with_checks}
use Rattle.block.proofs.DataTables.{data_one_lem, data_two_lem, table_spread}
use Rattle.block.proofs.Encoding.{built, own_sums, checks_over}
use Rattle.block.proofs.coding.encode.Goals.{in-One, in-Two}
use Rattle.block.proofs.coding.encode.Goals as goal

-- the data block of the shape that is told
of_shape : {shape known : Shape} → shape ≡ known → (list : List ℕ) {block : List ℕ} → block ≡ data_block known list → block ≡ data_block shape list
of_shape told list e = e ∙ ap (λ (s : Shape). data_block s list) (sym told)

pub spread-requires : goal.spread-requires
unfolding listed? rising? above?
spread-requires c = (refl, refl, refl)

pub spread-requires-in-Two : goal.spread-requires-in-Two
unfolding listed? rising? above?
spread-requires-in-Two c = (refl, refl, refl)

pub returns : goal.returns
returns c =
    let list : List ℕ = c.args.list.now in
    let after : List ℕ = c.of_block-sums.result.words in
    let shape : Shape = c.args.shape in
    let placed : List ℕ = data_block shape list in
    let sums : List ℕ = sums_of shape placed in
    let placed-is : c.match-shape.block ≡ placed = elim c.match-shape.branch [
      | in-One w ↦ of_shape w.in-One.is list (w.block-is ∙ table_spread data_one_lem _ list w.spread.ensures refl)
      | in-Two w ↦ of_shape w.in-Two.is list (w.block-is ∙ table_spread data_two_lem _ list w.spread-in-Two.ensures refl)
    ] in
    let stored_is : c.complement_block.new.block ≡ complemented placed = c.complement_block.ensures ∙ ap complemented placed-is in
    let sums-are : after ≡ sums = own_sums shape list stored_is c.of_block-sums.ensures in
    let last-is : bit_xor c.odd.result c.xor_all.result ≡ bit_xor (get_or sums 7 0) (xor_all 7 sums)
    = ap₂ bit_xor (c.odd.ensures ∙ ap (λ (s : List ℕ). get_or s 7 0) sums-are) (c.xor_all.ensures ∙ ap (xor_all 7) sums-are) in
    let checks-are : c.set_checks.new.block ≡ with_checks sums placed
    = c.set_checks.ensures ∙ ap₂ with_checks sums-are stored_is ∙ checks_over sums placed in
    ap₂ (λ (w : List ℕ) (k : ℕ). set w k (bit_xor c.odd.result c.xor_all.result)) checks-are c.rows_before-at.ensures
    ∙ ap (set (with_checks sums placed) (before shape)) last-is
    ∙ built shape list (λ k. omega (arith, c.type_inv.list k))
