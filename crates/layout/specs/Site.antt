-- Where a block lies: its shape, the index of its first row and the interleave, or the refusal. Assumes nothing.
use Rattle.std.specs.Prelude.{ℕ, ◌≡◌, Result, Ok, Err}
use Rattle.ground.specs.Choice.{if_zero}
use Rattle.refusal.specs.declared.Refusal.{Refusal}
use Rattle.refusal.specs.Refusal.{answer_number, answered}
use Rattle.layout.specs.declared.Layout.{Layout}
use Rattle.layout.specs.declared.Site.{Site}
use Rattle.layout.specs.Layout.{shape_number, shape_of, index}
use Rattle.layout.specs.Refusal.{block_refusal}

-- in the specification's numbers: the shape's; the index of row 1; the interleave. Where the block is refused they are 0
abbrev pub site_shape : Result Site Refusal → ℕ
site_shape (Err refusal) = 0
site_shape (Ok site) = shape_number site.shape

abbrev pub site_first : Result Site Refusal → ℕ
site_first (Err refusal) = 0
site_first (Ok site) = site.at

abbrev pub site_step : Result Site Refusal → ℕ
site_step (Err refusal) = 0
site_step (Ok site) = site.s

-- the promise of locate
pub record Locates (len : ℕ) (layout : Layout) (block : ℕ) (answer : Result Site Refusal) : Type 0 where
  pub number : answer_number answer ≡ block_refusal len layout block
  pub shape : site_shape answer ≡ if_zero (block_refusal len layout block) layout.shape 0
  pub first : site_first answer ≡ if_zero (block_refusal len layout block) (index layout block 1) 0
  pub step : site_step answer ≡ if_zero (block_refusal len layout block) layout.s 0

-- ---- the site itself, as callers use it

-- of a block that is not refused
abbrev pub block_site : Layout → ℕ → Site
block_site layout block = record { shape = shape_of layout; at = index layout block 1; s = layout.s }

unfoldable pub site_of : ℕ → Layout → ℕ → Result Site Refusal
site_of len layout block = answered (block_refusal len layout block) (block_site layout block)
