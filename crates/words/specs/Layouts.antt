-- A layout as words: shape, s, G. Assumes nothing.
use Rattle.std.specs.Prelude.{ℕ, List, [], ◌∷◌, get_or}
use Rattle.layout.specs.declared.Layout.{Layout}
use Rattle.layout.specs.Layout.{layout_of}

-- the layout that words hold
abbrev pub layout_held : List ℕ → Layout
layout_held words = layout_of (get_or words 0 0) (get_or words 1 0) (get_or words 2 0)

-- the words of a layout
abbrev pub layout_words : Layout → List ℕ
layout_words layout = layout.shape ∷ layout.s ∷ layout.g ∷ []
