-- A verdict's number is never 0, what is said tells the verdicts apart, and so the verdict that keeps a promise is the block's. Assumes nothing.
use Prim.Native.Nat.{ℕ, zero, suc}
use mathlib.Core.Path.{◌≡◌, refl, sym, ap, ap₂, ◌∙◌}
use mathlib.Core.List.{List}
use native.Mathlib.Omega.{arith}
use Rattle.lane.specs.Decision.{Kind}
use Rattle.block.specs.declared.Verdict.{Verdict}
use Rattle.block.specs.declared.Verdict.TheVariants.{Clean, Mended, Lost}
use Rattle.shape.specs.declared.Shape.{Shape}
use Rattle.block.specs.Block.{lanes_lost, lanes_lost_as, bits_changed, mended_block}
use Rattle.block.specs.Verdict.{verdict_number, verdict_count, verdict_beyond, Said, said_of, said_by, to_say, unsaid, verdict, verdict_of}

pub verdict_some : (v : Verdict) → verdict_number v ≡ 0 → ⊥
verdict_some Clean e = omega arith
verdict_some (Mended m) e = omega arith
verdict_some (Lost k b) e = omega arith

pub verdicts_told : (v w : Verdict) → verdict_number v ≡ verdict_number w → verdict_count v ≡ verdict_count w → verdict_beyond v ≡ verdict_beyond w → v ≡ w
verdicts_told Clean Clean n c o = refl
verdicts_told Clean (Mended m) n c o = absurd (omega arith)
verdicts_told Clean (Lost e b) n c o = absurd (omega arith)
verdicts_told (Mended m) Clean n c o = absurd (omega arith)
verdicts_told (Mended m) (Mended k) n c o = ap Mended c
verdicts_told (Mended m) (Lost e b) n c o = absurd (omega arith)
verdicts_told (Lost e b) Clean n c o = absurd (omega arith)
verdicts_told (Lost e b) (Mended k) n c o = absurd (omega arith)
verdicts_told (Lost e b) (Lost f d) n c o = ap₂ Lost c o

-- by what is said
pub said_told : (a b : Verdict) → said_of a ≡ said_of b → a ≡ b
said_told a b e = verdicts_told a b (ap (λ (s : Said). s.verdict) e) (ap (λ (s : Said). s.count) e) (ap (λ (s : Said). s.beyond) e)

pub said_some : (v : Verdict) → said_of v ≡ unsaid → ⊥
said_some v e = verdict_some v (ap (λ (s : Said). s.verdict) e)

-- ---- the verdict of a block says what is to be said of it, and no other does

said_by_lem : (lost : ℕ) (kinds : Kind → ℕ) (changed : ℕ) → said_of (verdict lost kinds changed) ≡ said_by lost kinds changed
said_by_lem zero kinds zero = refl
said_by_lem zero kinds (suc changed) = refl
said_by_lem (suc lost) kinds changed = refl

module _ (shape : Shape) (block : List ℕ) where
  pub verdict_says : said_of (verdict_of shape block) ≡ to_say shape block
  unfolding verdict_of to_say
  verdict_says = said_by_lem (lanes_lost shape block) (lanes_lost_as shape block) (bits_changed shape block (mended_block shape block))

  pub says_verdict : {v : Verdict} → said_of v ≡ to_say shape block → v ≡ verdict_of shape block
  says_verdict {v} e = said_told v (verdict_of shape block) (e ∙ sym verdict_says)
