-- The data words of a block that lies in words, and what is decided and mended by eight words. Assumes nothing.
use Rattle.std.specs.Prelude.{ℕ, suc, ◌+◌, ◌*◌, ◌<◌, ◌≡◌, List, length, get_or}
use Rattle.std.specs.Int.Bits.{bit_xor}
use Rattle.lane.specs.Bit.{pick}
use Rattle.lane.specs.Decision.{Kind, Decision, decision, lost?, lost_as?, changes}
use Rattle.ground.specs.Lists.{list_of}
use Rattle.ground.specs.Totals.{total}
use Rattle.shape.specs.declared.Shape.{Shape}
use Rattle.shape.specs.Shape.{before}
use Rattle.sums.specs.Words.{word}
use Rattle.sums.specs.Sums.{lying, sum_in, odd_in}
use Rattle.block.specs.declared.Verdict.{Verdict}
use Rattle.block.specs.Block.{data_into}
use Rattle.block.specs.Verdict.{said_of, said_by}

-- the promise of data_into, and of data_of for a block from the first word on: the data words copied to the buffer; nothing where a row is missing
pub record CopiesData (shape : Shape) (words : List ℕ) (at s : ℕ) (buffer after : List ℕ) : Type 0 where
  pub there : at + before shape * s < length words → after ≡ data_into shape (lying shape words at s) buffer
  pub missing : (at + before shape * s < length words → ⊥) → after ≡ buffer

-- ---- what is decided by eight words, whichever they are

abbrev pub decision_in : Shape → List ℕ → ℕ → Decision
decision_in shape sums i = decision (before shape) (odd_in sums i) (sum_in sums i)

-- how many lanes are lost, how many of them are of a kind, and how many lanes are odd
unfoldable pub lost_in : Shape → List ℕ → ℕ
lost_in shape sums = total 32 (λ i. pick (lost? (decision_in shape sums i)) 1)

unfoldable pub lost_as_in : Shape → List ℕ → Kind → ℕ
lost_as_in shape sums kind = total 32 (λ i. pick (lost_as? kind (decision_in shape sums i)) 1)

unfoldable pub odd_count : List ℕ → ℕ
odd_count sums = total 32 (λ i. pick (odd_in sums i) 1)

-- the block with the row that each lane's decision names changed in that lane; a lost lane's names none
unfoldable pub changed_in : Shape → List ℕ → List ℕ → List ℕ
changed_in shape sums block =
    list_of (length block) (λ j. bit_xor (get_or block j 0) (word (λ i. changes (decision_in shape sums i) (suc j))))

-- the promise of decide: what it says
abbrev pub Decides : Shape → List ℕ → Verdict → Type 0
Decides shape sums found = said_of found ≡ said_by (lost_in shape sums) (lost_as_in shape sums) (odd_count sums)

-- the promise of mend: the block that it leaves
abbrev pub MendsLanes : Shape → List ℕ → List ℕ → List ℕ → Type 0
MendsLanes shape block sums after = after ≡ changed_in shape sums block
