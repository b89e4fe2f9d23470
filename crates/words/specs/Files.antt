-- What a call that names a layout answers, as words: shape, s and G. Assumes nothing.
use Rattle.std.specs.Prelude.{ℕ, ◌≡◌, List, Result}
use Rattle.refusal.specs.declared.Refusal.{Refusal}
use Rattle.layout.specs.declared.Layout.{Layout}
use Rattle.file.specs.Header.{header_layout}
use Rattle.words.specs.Layouts.{layout_words}

-- the promise of header_words
abbrev pub SpellsHeader : Result Layout Refusal → List ℕ → Type 0
SpellsHeader header words = words ≡ layout_words (header_layout header)
