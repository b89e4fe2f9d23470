-- What the code computes on its way: the list that is lent, and 32 lanes at once. Assumes nothing.
use Rattle.std.specs.Prelude.{ℕ, zero, suc, ◌+◌, ◌*◌, ◌-◌, ◌≤◌, ◌<◌, Bool, false, cond, ◌&&◌, ◌≡◌}
use Rattle.std.specs.Prelude.{List, [], ◌∷◌, eqb, length, get_or, set, Option, None, Some, Ok}
use Rattle.std.specs.Int.Bits.{bit_xor}
use Rattle.std.specs.Int.Count.{count_trailing_zeros}
use Rattle.lane.specs.Bit.{bit, ◌⊕◌, pick}
use Rattle.lane.specs.Decision.{Kind, even, beyond}
use Rattle.ground.specs.Lists.{list_of}
use Rattle.shape.specs.declared.Shape.{Shape}
use Rattle.layout.specs.declared.Layout.{Layout}
use Rattle.layout.specs.declared.Site.{Site}
use Rattle.layout.specs.Site.{Locates}
use Rattle.sums.specs.Sums.{sums_of}
use Rattle.block.specs.Block.{ValidBlock, lanes_lost_as}
use Rattle.store.specs.Image.{gathered, placed}
use Rattle.around.specs.declared.Around.{Around}
use Rattle.around.specs.declared.Around.TheVariants.{Clean, Mended, Lost, LostAround}
use Rattle.around.specs.declared.solving.Told.{Told}
use Rattle.around.specs.Block.{lanes_lost_around, around_block, bits_inside, bits_outside}

-- ---- the list

-- two rows, and a third where there is one
abbrev pub more_rows : (a b : ℕ) (c : Option ℕ) → List ℕ
more_rows a b None = a ∷ b ∷ []
more_rows a b (Some c) = a ∷ b ∷ c ∷ []

-- a third row, or 0
abbrev pub row_or_none : Option ℕ → ℕ
row_or_none None = 0
row_or_none (Some c) = c

-- ---- the sums

-- the digits by which a row counts: those of its number in the sum, of 0 for the last, and digit 7 in the parity; none for row 0, which is none
abbrev pub mark : (last row : ℕ) → ℕ
mark last row = cond (eqb row 0) 0 (cond (eqb row last) 128 (128 + row))

-- the sums with the digits of a mark changed in some lanes
unfoldable pub changed_by : (mark lanes : ℕ) → List ℕ → List ℕ
changed_by mark lanes sums = list_of 8 (λ k. bit_xor (get_or sums k 0) (pick (bit k mark) lanes))

-- the lanes that the lowest digit of a mark tells
abbrev pub lanes_told : ℕ → List ℕ → ℕ
lanes_told mark sums = get_or sums (count_trailing_zeros 32 mark) 0

-- a lane's digits are made by the marks of those of three rows that are wrong in it
abbrev pub Made : (digits : ℕ → Bool) (a b c : ℕ) (x y z : Bool) → Type 0
Made digits a b c x y z = (k : ℕ) → k < 8 → digits k ≡ (x && bit k a) ⊕ ((y && bit k b) ⊕ (z && bit k c))

-- the rows told of each lane make its digits where no digit of the sum is left; and where some rows make them, none is left
pub record Solves (sums : List ℕ) (a b c : ℕ) (told : Told) (left : List ℕ) : Type 0 where
  pub sound : (i : ℕ) → ((k : ℕ) → k < 7 → bit i (get_or left k 0) ≡ false)
      → Made (λ k. bit i (get_or sums k 0)) a b c (bit i told.a) (bit i told.b) (bit i told.c)
  pub complete : (i : ℕ) (x y z : Bool) → Made (λ k. bit i (get_or sums k 0)) a b c x y z
      → (k : ℕ) → k < 7 → bit i (get_or left k 0) ≡ false
  pub no_third : c ≡ 0 → told.c ≡ 0

-- ---- an image

-- a row of a block whose first row is at `at` lies in an image of a length, and the stride is an interleave
abbrev pub RowInside : (len at s row : ℕ) → Type 0
RowInside len at s row = (s ≤ 16) × (1 ≤ row) × (row ≤ 72) × (at + (row - 1) * s < len)

-- the image with a word changed by exclusive or
abbrev pub changed_at : List ℕ → (at word : ℕ) → List ℕ
changed_at image at word = set image at (bit_xor (get_or image at 0) word)

-- ---- the answer itself

-- by the named rows, the lanes lost, how many are of each kind, and the bits changed inside and outside
abbrev pub around_by : List ℕ → ℕ → (Kind → ℕ) → (i o : ℕ) → Around
around_by named zero kinds zero zero = Clean
around_by named zero kinds zero (suc o) = Mended 0 (suc o)
around_by named zero kinds (suc i) o = Mended (suc i) o
around_by [] (suc l) kinds i o = Lost (kinds even) (kinds beyond)
around_by (r ∷ named) (suc l) kinds i o = LostAround (suc l)

unfoldable pub around_of : Shape → List ℕ → List ℕ → Around
around_of shape named block =
    around_by named (lanes_lost_around shape named block) (lanes_lost_as shape block) (bits_inside shape named block (around_block shape named block))
    (bits_outside shape named block (around_block shape named block))

-- ---- a block that was looked at

-- where it lies, and its sums; it is not valid
pub record Looked (image : List ℕ) (layout : Layout) (block : ℕ) (site : Site) (sums : List ℕ) : Type 0 where
  pub there : Locates (length image) layout block (Ok site)
  pub are : sums ≡ sums_of site.shape (gathered layout block image)
  pub doubt : ValidBlock site.shape (gathered layout block image) → ⊥

-- what is found of it and left of the image, around named rows
pub record Mends (image : List ℕ) (layout : Layout) (block : ℕ) (shape : Shape) (named : List ℕ) (found : Around) (after : List ℕ) : Type 0 where
  pub says : found ≡ around_of shape named (gathered layout block image)
  pub leaves : after ≡ placed layout block (around_block shape named (gathered layout block image)) image
