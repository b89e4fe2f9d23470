-- The digits of the sums with a mark changed, and what is left of them once the marks are taken out. Assumes nothing.
use Prim.Native.Nat.{ℕ, suc, ◌<◌}
use mathlib.Core.Bool.{true, false, ◌&&◌}
use mathlib.Core.Path.{◌≡◌, ◌∙◌}
use mathlib.Core.List.{List}
use native.Mathlib.Omega.{arith}
use lib.Bits.{bit_xor, xor_zero_r}
use lib.ListN.{length, get_or, set}
use Rattle.lane.specs.Bit.{bit, ◌⊕◌, pick}
use Rattle.lane.proofs.Bits.{bit_of_xor}
use Rattle.lane.proofs.Exactly.{pick_bit}
use Rattle.ground.specs.Stores.{stores}
use Rattle.ground.proofs.Lists.{get_or_list_of, list_is}
use Rattle.ground.proofs.Stores.{length_stores, stores_hit, stores_miss}
use Rattle.around.specs.Inner.{changed_by}

-- ---- a mark is changed digit by digit

module _ (mark lanes : ℕ) (sums : List ℕ) where
  -- a digit with the mark's changed
  abbrev digit : ℕ → ℕ
  digit k = bit_xor (get_or sums k 0) (pick (bit k mark) lanes)

  -- the first n are changed
  abbrev pub changed_to : ℕ → List ℕ
  changed_to n = stores sums (λ k. k) digit n

  change_more : (n : ℕ) → set (changed_to n) n (bit_xor (get_or (changed_to n) n 0) (pick (bit n mark) lanes)) ≡ changed_to (suc n)
  unfolding stores
  change_more n = rw (stores_miss sums (λ k. k) digit n n (λ k l e. omega arith))

  pub change_one : (n : ℕ) → bit n mark ≡ true → set (changed_to n) n (bit_xor (get_or (changed_to n) n 0) lanes) ≡ changed_to (suc n)
  change_one n e = rw e at (change_more n)

  pub change_none : (n : ℕ) → bit n mark ≡ false → set (changed_to n) n (get_or (changed_to n) n 0) ≡ changed_to (suc n)
  change_none n e = rw (e, xor_zero_r) at (change_more n)

  pub changed_all : length sums ≡ 8 → changed_to 8 ≡ changed_by mark lanes sums
  unfolding changed_by
  changed_all e =
      list_is 8 (changed_to 8) digit (length_stores sums (λ k. k) digit 8 ∙ e) (λ j l. stores_hit sums (λ k. k) digit j 8 (λ k h q. q) l (omega arith))

  pub bit_changed : (i k : ℕ) → k < 8 → bit i (get_or (changed_by mark lanes sums) k 0) ≡ bit i (get_or sums k 0) ⊕ (bit k mark && bit i lanes)
  unfolding changed_by
  bit_changed i k l = rw (get_or_list_of 8 digit k l, bit_of_xor, pick_bit)
