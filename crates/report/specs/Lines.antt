-- The lines that are printed: the image line; for each block its number, its verdict and the verdict's count, 0 for clean, or its two for lost;
-- the blocks of each verdict and all bits mended; and for a refusal one line, `refused` and the number. Assumes nothing.
use Rattle.std.specs.Prelude.{ℕ, ◌+◌, List, [], ◌∷◌, ◌++◌}
use Rattle.block.specs.declared.Verdict.{Verdict}
use Rattle.block.specs.declared.Verdict.TheVariants.{Clean, Mended, Lost}
use Rattle.layout.specs.declared.Layout.{Layout}
use Rattle.report.specs.declared.Tally.{Tally}
use Rattle.text.specs.Text.{ascii, decimal, named, line_end}
use Rattle.text.specs.Page.{end_to_end}

unfoldable pub refusal_line : ℕ → List ℕ
refusal_line number = named "refused " number ++ line_end

unfoldable pub image_line : Layout → ℕ → List ℕ
image_line layout blocks =
    named "image shape " layout.shape ++ named " interleave " layout.s ++ named " groups " layout.g ++ named " blocks " blocks ++ line_end

-- the verdict and its count; of lost the lanes with even parity, and those with an odd sum beyond the rows
abbrev pub verdict_parts : Verdict → List (List ℕ)
verdict_parts Clean = ascii " clean " ∷ decimal 0 ∷ []
verdict_parts (Mended bits) = ascii " mended " ∷ decimal bits ∷ []
verdict_parts (Lost even beyond) = ascii " lost " ∷ decimal even ∷ ascii " " ∷ decimal beyond ∷ []

unfoldable pub block_line : ℕ → Verdict → List ℕ
block_line block verdict = named "block " block ++ end_to_end (verdict_parts verdict) ++ line_end

unfoldable pub total_line : Tally → List ℕ
total_line tally =
    named "total clean " tally.clean ++ named " mended " tally.mended ++ named " lost " tally.lost ++ named " bits " tally.bits ++ line_end

-- ---- the blocks of each verdict, and all bits mended

abbrev pub no_blocks : Tally
no_blocks = record { clean = 0; mended = 0; lost = 0; bits = 0 }

-- one block more
abbrev pub counted : Verdict → Tally → Tally
counted Clean tally = record { clean = tally.clean + 1; mended = tally.mended; lost = tally.lost; bits = tally.bits }
counted (Mended bits) tally = record { clean = tally.clean; mended = tally.mended + 1; lost = tally.lost; bits = tally.bits + bits }
counted (Lost even beyond) tally = record { clean = tally.clean; mended = tally.mended; lost = tally.lost + 1; bits = tally.bits }
