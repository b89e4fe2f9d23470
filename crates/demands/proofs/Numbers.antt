-- The number that write, read and visit answer is that of their refusal, and 0 where they are accepted. Assumes nothing.
use Prim.Native.Nat.{ℕ}
use mathlib.Core.Path.{◌≡◌}
use mathlib.Core.List.{List}
use lib.ListN.{length}
use Rattle.layout.specs.declared.Layout.{Layout}
use Rattle.layout.specs.Refusal.{block_refusal}
use Rattle.refusal.specs.Refusal.{answer_number}
use Rattle.store.specs.Refusal.{data_refusal}
use Rattle.store.specs.Write.{write_answer}
use Rattle.store.specs.Read.{read_answer}
use Rattle.store.specs.Visit.{visit_answer}
use Rattle.refusal.proofs.Answered.{answered_number}
use Rattle.layout.proofs.Ladder.{block_known}
use Rattle.store.proofs.Ladder.{data_known}

module _ (image : List ℕ) (layout : Layout) (block : ℕ) where
  pub write_number : (list : List ℕ) → answer_number (write_answer image layout block list) ≡ data_refusal (length image) layout block (length list)
  unfolding write_answer
  write_number list = answered_number _ _ (data_known (length image) layout block (length list))

  pub read_number : (buffer : List ℕ) → answer_number (read_answer image layout block buffer) ≡ data_refusal (length image) layout block (length buffer)
  unfolding read_answer
  read_number buffer = answered_number _ _ (data_known (length image) layout block (length buffer))

  pub visit_number : answer_number (visit_answer image layout block) ≡ block_refusal (length image) layout block
  unfolding visit_answer
  visit_number = answered_number _ _ (block_known layout (length image) block)
