-- The refusals of write and read: those of the block, and 7 of the data list or buffer. Assumes nothing.
use Rattle.std.specs.Prelude.{ℕ, not, eqb}
use Rattle.ground.specs.Ladder.{◌when◌else◌, ◌then◌}
use Rattle.layout.specs.declared.Layout.{Layout}
use Rattle.layout.specs.Layout.{words_of}
use Rattle.layout.specs.Refusal.{block_refusal}

-- 7: data list or buffer is not of the exact length
abbrev pub list_rung : Layout → ℕ → ℕ
list_rung layout len = 7 when not (eqb len (words_of layout)) else 0

-- Write and read: 1, 2, 3, 4, 6, 7
unfoldable pub data_refusal : ℕ → Layout → ℕ → ℕ → ℕ
data_refusal len layout block list = block_refusal len layout block then list_rung layout list
