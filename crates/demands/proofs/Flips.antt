-- A flip changes one bit of one word and no other; the image keeps its length, and its words stay words. Assumes nothing.
use Prim.Native.Nat.{ℕ, ◌^◌, ◌<◌}
use mathlib.Core.Bool.{Bool, true, false, not, cond}
use mathlib.Core.Path.{◌≡◌, refl, sym, ap, ◌∙◌}
use mathlib.Core.List.{List}
use mathlib.Core.Logic.{⊎_elim, by_cases}
use native.Mathlib.Decide.{ℕ_discrete}
use lib.Bits.{bit_xor, xor_lt}
use lib.Dec.{ltb}
use lib.ListN.{length, get_or, set, length-set}
use lib.Pow.{pow-lt}
use lib.Seq.{set_out, get_or-set_same, get_or-set_other}
use borrow.Author.Tests.{ltb-true, lt-ltb}
use Rattle.ground.specs.Stores.{stores}
use Rattle.ground.proofs.Stores.{stores_all}
use Rattle.lane.specs.Bit.{bit, ◌⊕◌}
use Rattle.lane.proofs.Bits.{bit_of_xor, ⊕-zero, ⊕-one}
use Rattle.lane.proofs.Rows.{power_apart, power_digit, split_below}
use Rattle.block.specs.Block.{Fitting}
use Rattle.demands.specs.Steps.{flipped}

module _ (at nth : ℕ) (image : List ℕ) where
  -- the word at the index, with the bit changed
  abbrev changed : ℕ
  changed = bit_xor (get_or image at 0) (2 ^ nth)

  pub length_flipped : length (flipped at nth image) ≡ length image
  unfolding flipped
  length_flipped = go (ltb nth 32)
    where
      go : (t : Bool) → length (cond t (set image at changed) image) ≡ length image
      go true = length-set image at changed
      go false = refl

  pub flipped_words : Fitting image → Fitting (flipped at nth image)
  unfolding flipped stores
  flipped_words fit = go (ltb nth 32) refl
    where
      go : (t : Bool) → ltb nth 32 ≡ t → Fitting (cond t (set image at changed) image)
      go true e =
          stores_all (λ w. w < 2 ^ 32) image (λ k. at) (λ k. changed) 1 fit
          (λ k h. xor_lt 32 (get_or image at 0) (2 ^ nth) (fit at) (pow-lt {i = nth} {j = 32} (ltb-true nth 32 e)))
      go false e = fit

  -- every other bit is as it was
  pub other_bit : (i j : ℕ) → (i ≡ at → j ≡ nth → ⊥) → bit j (get_or (flipped at nth image) i 0) ≡ bit j (get_or image i 0)
  unfolding flipped
  other_bit i j ne = go (ltb nth 32)
    where
      same : i ≡ at → bit j (get_or (set image at changed) i 0) ≡ bit j (get_or image i 0)
      same e =
          ⊎_elim
          (λ h.
          ap (λ (k : ℕ). bit j (get_or (set image at changed) k 0)) e ∙ ap (bit j) (get_or-set_same image at changed 0 h)
          ∙ bit_of_xor j (get_or image at 0) (2 ^ nth) ∙ ap (λ (b : Bool). bit j (get_or image at 0) ⊕ b) (power_apart j nth (ne e))
          ∙ ⊕-zero (bit j (get_or image at 0)) ∙ ap (λ (k : ℕ). bit j (get_or image k 0)) (sym e))
          (λ h. ap (λ (l : List ℕ). bit j (get_or l i 0)) (set_out image at changed h))
          (split_below at (length image))

      go : (t : Bool) → bit j (get_or (cond t (set image at changed) image) i 0) ≡ bit j (get_or image i 0)
      go true = by_cases (ℕ_discrete i at) same (λ nq. ap (bit j) (get_or-set_other image at i changed 0 nq))
      go false = refl

  -- and the one that is flipped is changed
  pub this_bit : nth < 32 → at < length image → bit nth (get_or (flipped at nth image) at 0) ≡ not (bit nth (get_or image at 0))
  unfolding flipped
  this_bit low inside =
      rw (lt-ltb nth 32 low, get_or-set_same image at changed 0 inside, bit_of_xor nth (get_or image at 0) (2 ^ nth), power_digit nth)
      (⊕-one (bit nth (get_or image at 0)))
