-- The promises of the calls that write to a page: the text is there whole, or the page as it was where it does not fit. Assumes nothing.
use Rattle.std.specs.Prelude.{ℕ, ◌≡◌, List}
use Rattle.text.specs.Text.{decimal}
use Rattle.text.specs.Page.{page, written, written_all}
use Rattle.text.specs.declared.Page.{Page as Lent}

-- a text
abbrev pub PutsText : List ℕ → List ℕ → ℕ → List ℕ → ℕ → Type 0
PutsText text out at left next = page left next ≡ written text (page out at)

-- a number in decimal
abbrev pub PutsDecimal : ℕ → List ℕ → ℕ → List ℕ → ℕ → Type 0
PutsDecimal n out at left next = page left next ≡ written (decimal n) (page out at)

-- a text, and a number after it
abbrev pub PutsNamed : List ℕ → ℕ → List ℕ → ℕ → List ℕ → ℕ → Type 0
PutsNamed text n out at left next = page left next ≡ written (decimal n) (written text (page out at))

-- texts, each that fits
abbrev pub PutsAll : List (List ℕ) → List ℕ → ℕ → List ℕ → ℕ → Type 0
PutsAll texts out at left next = page left next ≡ written_all texts (page out at)

-- such a promise of a call that is lent the page, which keeps its buffer
pub record OnPage (promise : List ℕ → ℕ → List ℕ → ℕ → Type 0) (before after : Lent) : Type 0 where
  pub puts : promise before.bytes.now before.next after.bytes.now after.next
  pub same_buffer : after.bytes.ghost_name ≡ before.bytes.ghost_name
