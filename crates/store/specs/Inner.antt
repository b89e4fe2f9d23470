-- What the code computes on its way: rows a stride apart. Assumes nothing.
use Rattle.std.specs.Prelude.{ℕ, ◌+◌, ◌*◌, ◌≤◌, ◌<◌, List, get_or}
use Rattle.ground.specs.Stores.{stores}
use Rattle.shape.specs.declared.Shape.{Shape}
use Rattle.shape.specs.Shape.{rows}
use Rattle.stored.specs.Stored.{complemented}
use Rattle.block.specs.Block.{blank}
use Rattle.layout.specs.declared.Site.{Site}
use Rattle.store.specs.declared.copies.Places.{Places}

-- the places of the rows at a site
abbrev pub places_of : Site → Places
places_of site = record { at = site.at; s = site.s }

-- the list with n of the given words, read from places a stride apart, written to others
unfoldable pub copied : (given : List ℕ) (read : Places) (list : List ℕ) (written : Places) (n : ℕ) → List ℕ
copied given read list written n = stores list (λ k. written.at + k * written.s) (λ k. get_or given (read.at + k * read.s) 0) n

-- the block with its first n words taken from `at` on, s apart
unfoldable pub stride_read : List ℕ → ℕ → ℕ → List ℕ → ℕ → List ℕ
stride_read image at s block n = stores block (λ k. k) (λ k. get_or image (at + k * s) 0) n

-- the first n of the given words stored from `at` on, s apart
unfoldable pub stride_write : List ℕ → ℕ → ℕ → List ℕ → ℕ → List ℕ
stride_write image at s given n = stores image (λ k. at + k * s) (λ k. get_or given k 0) n

-- the block of the code whose stored rows lie from `at` on, s apart, and the image with such a block put there
abbrev pub taken : Shape → List ℕ → (at s : ℕ) → List ℕ
taken shape image at s = complemented (stride_read image at s blank (rows shape))

abbrev pub put : Shape → List ℕ → (at s : ℕ) → List ℕ → List ℕ
put shape image at s given = stride_write image at s (complemented given) (rows shape)

-- such words lie in an image of a length, and the stride is an interleave
abbrev pub Inside : ℕ → ℕ → ℕ → ℕ → Type 0
Inside len rows at s = (s ≤ 16) × ((k : ℕ) → k < rows → at + k * s < len)

-- the same of places
abbrev pub Lies : (len rows : ℕ) → Places → Type 0
Lies len rows places = Inside len rows places.at places.s
