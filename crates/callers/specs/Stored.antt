-- What a caller in C finds in the words that are lent: ones in rows 1 and 2 of every block after a format and zero elsewhere, and of a block or
-- an image that reads all zeros or all ones lost 32 0. Assumes nothing.
use Rattle.std.specs.Prelude.{ℕ, ◌≤◌, ◌<◌, ◌≡◌, List, [], ◌∷◌, length, get_or, take, drop}
use Rattle.layout.specs.declared.Layout.{Layout}
use Rattle.layout.specs.Layout.{rows_of, index}
use Rattle.block.specs.Block.{Fitting}
use Rattle.store.specs.Image.{stored_rows}
use Rattle.rota.specs.Line.{asks_of}
use Rattle.words.specs.Records.{record_of}
use Rattle.foldgrebe.specs.Calls.{ReadCall, VisitCall, FormatCall, TurnCall}
use Rattle.demands.specs.StoredForm.{RowIn, Dead}
use Rattle.words.specs.Answers.{visit_width}

-- the three words of a verdict: lost, 32 lanes even, none beyond the rows
abbrev pub lost_whole : List ℕ
lost_whole = 3 ∷ 32 ∷ 0 ∷ []

pub record CallerStored : Type 0 where
  pub fresh_ones : {image after words : List ℕ} {layout : Layout} {number : ℕ} → FormatCall image layout number after words
      → (block p : ℕ) → RowIn image layout block p → p ≤ 2 → get_or after (index layout block p) 0 ≡ 0xFFFFFFFF
  pub fresh_zeros : {image after words : List ℕ} {layout : Layout} {number : ℕ} → FormatCall image layout number after words
      → (block p : ℕ) → RowIn image layout block p → 2 < p → get_or after (index layout block p) 0 ≡ 0
  -- a block that reads all zeros or all ones, whatever lies beside it; and so every block where the image does
  pub dead_block : {image after verdict : List ℕ} {layout : Layout} {block number : ℕ} → Fitting image
      → Dead (rows_of layout) (stored_rows layout block image)
      → VisitCall image layout block number after verdict
      → number ≡ 0
      → (verdict ≡ lost_whole) × (after ≡ image)
  pub dead_block_read : {image buffer kept after verdict : List ℕ} {layout : Layout} {block number : ℕ} → Fitting image
      → Dead (rows_of layout) (stored_rows layout block image)
      → ReadCall image layout block buffer number kept after verdict
      → number ≡ 0
      → (verdict ≡ lost_whole) × (kept ≡ image) × (after ≡ buffer)
  pub dead_visit : {image after verdict : List ℕ} {layout : Layout} {block number : ℕ} → Dead (length image) image
      → VisitCall image layout block number after verdict
      → number ≡ 0
      → (verdict ≡ lost_whole) × (after ≡ image)
  pub dead_read : {image buffer kept after verdict : List ℕ} {layout : Layout} {block number : ℕ} → Dead (length image) image
      → ReadCall image layout block buffer number kept after verdict
      → number ≡ 0
      → (verdict ≡ lost_whole) × (kept ≡ image) × (after ≡ buffer)
  pub dead_turn : {lent image words after report : List ℕ} {number : ℕ} → Dead (length image) image → TurnCall lent image number words after report
      → number ≡ 0
      → (take visit_width report ≡ (record_of lent).rota.next ∷ lost_whole)
      × ((block : ℕ) (rest : List ℕ) → asks_of (record_of lent).rota.line ≡ block ∷ rest → drop visit_width report ≡ block ∷ lost_whole)
      × (after ≡ image)
