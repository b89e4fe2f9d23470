-- What holds of an image that is written as a file. Assumes nothing.
use Rattle.std.specs.Prelude.{ℕ, ◌≤◌, ◌<◌}
use Rattle.layout.specs.declared.Layout.{Layout}
use Rattle.file.specs.Bytes.{file_length}

-- the layout's numbers fit in their bytes, the file is no longer than 32,768 bytes, and there is room for it
pub record Small (layout : Layout) (count room : ℕ) : Type 0 where
  pub shape : layout.shape < 256
  pub s : layout.s < 256
  pub g : layout.g < 65536
  pub most : file_length count ≤ 32768
  pub fits : file_length count ≤ room
