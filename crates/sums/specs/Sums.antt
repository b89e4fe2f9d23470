-- The sums and the parities of a block's 32 lanes as eight words, and what is found where a block lies in words. Assumes nothing.
use Rattle.std.specs.Prelude.{ℕ, zero, suc, ◌+◌, ◌*◌, ◌<◌, Bool, not, ◌||◌, ◌≡◌, List, [], ◌∷◌, eqb, length, get_or}
use Rattle.std.specs.Int.Bits.{bit_or}
use Rattle.lane.specs.Bit.{bit}
use Rattle.lane.specs.Lane.{sum, odd}
use Rattle.ground.specs.Choice.{if_zero}
use Rattle.ground.specs.Lists.{list_of}
use Rattle.shape.specs.declared.Shape.{Shape}
use Rattle.shape.specs.Shape.{before, rows}
use Rattle.stored.specs.Stored.{complemented}
use Rattle.sums.specs.Words.{lane, number, word}
use Rattle.sums.specs.declared.Finding.{Finding}
use Rattle.sums.specs.declared.Finding.TheVariants.{Clean, Doubt, Missing}

-- the rows of a block that lies in words: row 1 at `at`, each row s after the one before
unfoldable pub lying : Shape → List ℕ → (at s : ℕ) → List ℕ
lying shape words at s = list_of (rows shape) (λ k. get_or words (at + k * s) 0)

-- word k holds digit k of every lane's sum, for k from 0 to 6, and the last word every lane's parity
unfoldable pub sums_of : Shape → List ℕ → List ℕ
sums_of shape block =
    let digit : ℕ → ℕ = λ k. word (λ i. bit k (sum (before shape) (lane i block))) in
    digit 0 ∷ digit 1 ∷ digit 2 ∷ digit 3 ∷ digit 4 ∷ digit 5 ∷ digit 6 ∷ word (λ i. odd (rows shape) (lane i block)) ∷ []

-- the lanes with a one in any of the first k words
unfoldable pub any_of : ℕ → List ℕ → ℕ
any_of zero digits = zero
any_of (suc k) digits = bit_or (any_of k digits) (get_or digits k 0)

-- the lanes that are not valid: odd, or with a sum
unfoldable pub doubtful : Shape → List ℕ → ℕ
doubtful shape block = word (λ i. not (eqb (sum (before shape) (lane i block)) 0) || odd (rows shape) (lane i block))

-- the promise of look, and of beside for shape 2 with its rows neighbours, of stored words: the code's block is clean, or a lane of it is in doubt and
-- its sums are kept; nothing is kept where a row is missing
pub record Looks (shape : Shape) (words : List ℕ) (at s : ℕ) (lent : List ℕ) (found : Finding) (after : List ℕ) : Type 0 where
  pub there : at + before shape * s < length words
      → (found ≡ if_zero (doubtful shape (complemented (lying shape words at s))) Clean Doubt)
      × (after ≡ if_zero (doubtful shape (complemented (lying shape words at s))) lent (sums_of shape (complemented (lying shape words at s))))
  -- the lanes that are not valid are those of the sums, as `Sums::lanes` gives them of what is kept
  pub lanes : at + before shape * s < length words
      → any_of 8 (sums_of shape (complemented (lying shape words at s))) ≡ doubtful shape (complemented (lying shape words at s))
  pub missing : (at + before shape * s < length words → ⊥) → (found ≡ Missing) × (after ≡ lent)

-- lane i's sum and its parity in eight words, whichever they are
abbrev pub sum_in : List ℕ → ℕ → ℕ
sum_in sums i = number 7 (λ k. bit i (get_or sums k 0))

abbrev pub odd_in : List ℕ → ℕ → Bool
odd_in sums i = bit i (get_or sums 7 0)
