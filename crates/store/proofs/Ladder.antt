-- Write and read are refused by the first of their rules; what holds where nothing is refused. Assumes nothing.
use Prim.Native.Nat.{ℕ, ◌≤◌}
use mathlib.Core.Bool.{not}
use mathlib.Core.Path.{◌≡◌}
use native.Mathlib.Omega.{arith}
use borrow.Author.Tests.{eqb-false, eqb-true, not-false, not-true}
use lib.Dec.{eqb}
use Rattle.ground.specs.Rules.{FirstOf}
use Rattle.ground.proofs.Ladder.{Rung, rung_test, rung_passed, then_zero, first_more, not_other}
use Rattle.layout.specs.declared.Layout.{Layout}
use Rattle.layout.specs.Layout.{words_of}
use Rattle.layout.specs.Refusal.{block_refusal}
use Rattle.layout.specs.Reason.{block_rules}
use Rattle.layout.proofs.Ladder.{block_first, block_known}
use Rattle.refusal.proofs.Answered.{rung_known, then_known}
use Rattle.store.specs.Refusal.{list_rung, data_refusal}
use Rattle.store.specs.Reason.{bad_list, data_rules}

list_rung_lem : (layout : Layout) (list : ℕ) → Rung (bad_list layout list) (list_rung layout list)
list_rung_lem layout list =
    rung_test (bad_list layout list) (not (eqb list (words_of layout)))
    (λ e. eqb-false _ _ (not-true _ e))
    (λ e r. r (eqb-true _ _ (not-false _ e)))

module _ (len : ℕ) (layout : Layout) (block list : ℕ) where
  pub data_accepted : data_refusal len layout block list ≡ 0 → (block_refusal len layout block ≡ 0) × (list ≡ words_of layout)
  unfolding data_refusal
  data_accepted e =
      let p = then_zero (block_refusal len layout block) (list_rung layout list) e in (
        p.0,
        not_other list (words_of layout) (rung_passed (bad_list layout list) (list_rung layout list) (λ z. omega arith) (list_rung_lem layout list) p.1),
      )

  pub data_known : data_refusal len layout block list ≤ 14
  unfolding data_refusal
  data_known = then_known _ _ (block_known layout len block) (rung_known 7 (not (eqb list (words_of layout))) 0 (omega arith) (omega arith))

  pub data_first : FirstOf (data_rules len layout block list) (data_refusal len layout block list)
  unfolding data_refusal
  data_first = first_more (block_rules len layout block) (bad_list layout list) _ _ tt (block_first layout len block) (list_rung_lem layout list)
