-- What the code asks of itself on its way: the blocks that are due can be visited. Assumes nothing.
use Rattle.std.specs.Prelude.{ℕ, ◌<◌, ◌≡◌, Some}
use Rattle.layout.specs.declared.Layout.{Layout}
use Rattle.layout.specs.Layout.{blocks}
use Rattle.layout.specs.Refusal.{image_refusal}
use Rattle.rota.specs.declared.Due.{Due}

pub record Ready (layout : Layout) (len : ℕ) (due : Due) : Type 0 where
  pub passed : image_refusal len layout ≡ 0
  pub patrol : due.patrol < blocks layout
  pub ask : (block : ℕ) → due.ask ≡ Some block → block < blocks layout
