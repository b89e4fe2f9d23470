-- A caller in C keeps an image and the words of a record, and hands them from call to call. Each call leaves what the promise of the exported
-- function allows, and what it is not lent stays; a flip is no call. A later format is lent other words for its record: they are the caller's
-- record only where that format is accepted. Assumes nothing.
use Rattle.std.specs.Prelude.{ℕ, ◌≡◌, List, [], ◌∷◌, length}
use Rattle.ground.specs.Choice.{if_zero}
use Rattle.layout.specs.declared.Layout.{Layout}
use Rattle.words.specs.Records.{record_width}
use Rattle.foldgrebe.specs.Calls.{WriteCall, ReadCall, VisitCall, FormatCall, AskCall, TurnCall}
use Rattle.demands.specs.Steps.{Step, format, write, read, visit, ask, turn, flip, flipped}

-- what the caller keeps: the image, and the record, an array of 21 words
pub record Kept : Type 0 where
  pub image : List ℕ
  pub words : List ℕ
  pub size : length words ≡ record_width

-- a step of the caller, with the number that the call answers; a flip is no call, and has 0
abbrev pub Called : Step → ℕ → Kept → Kept → Type 0
Called (format layout) number old new =
    (other : List ℕ) × FormatCall old.image layout number new.image other × (new.words ≡ if_zero number other old.words)
Called (write layout block list) number old new = WriteCall old.image layout block list number new.image × (new.words ≡ old.words)
Called (read layout block buffer) number old new =
    (left verdict : List ℕ) × ReadCall old.image layout block buffer number new.image left verdict × (new.words ≡ old.words)
Called (visit layout block) number old new =
    (verdict : List ℕ) × VisitCall old.image layout block number new.image verdict × (new.words ≡ old.words)
Called (ask block) number old new = (place : List ℕ) × AskCall old.words block number new.words place × (new.image ≡ old.image)
Called turn number old new = (report : List ℕ) × TurnCall old.words old.image number new.words new.image report
Called (flip index bit) number old new = (number ≡ 0) × (new.image ≡ flipped index bit old.image) × (new.words ≡ old.words)

-- a list of steps, each from what the one before it left
abbrev pub Ran : List Step → Kept → Kept → Type 0
Ran [] old new = (new.image ≡ old.image) × (new.words ≡ old.words)
Ran (step ∷ rest) old new = (number : ℕ) × (mid : Kept) × Called step number old mid × Ran rest mid new

-- the same from a format on, whose record the caller takes up
abbrev pub RanFrom : List ℕ → Layout → List Step → Kept → Type 0
RanFrom image layout steps new =
    (number : ℕ) × (first : Kept) × FormatCall image layout number first.image first.words × Ran steps first new
