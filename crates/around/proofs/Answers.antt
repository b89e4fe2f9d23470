-- The number, the verdict and its counts tell the answers apart, so an answer that keeps the promise is the call's. Assumes nothing.
use Prim.Native.Nat.{ℕ, zero, suc, ◌≤◌}
use mathlib.Core.Path.{◌≡◌, refl, sym, ap, ap₂, ◌∙◌}
use mathlib.Core.List.{List, [], ◌∷◌}
use native.Mathlib.Omega.{arith}
use lib.ListN.{length, get_or}
use Rattle.std.specs.Prelude.{Result, Ok, Err}
use Rattle.lane.specs.Decision.{Kind}
use Rattle.refusal.specs.declared.Refusal.{Refusal}
use Rattle.refusal.specs.Refusal.{answered}
use Rattle.refusal.proofs.Answered.{number_some, refusal_told, answered_number}
use Rattle.shape.specs.declared.Shape.{Shape}
use Rattle.block.specs.Block.{lanes_lost_as}
use Rattle.around.specs.declared.Around.{Around}
use Rattle.around.specs.declared.Around.TheVariants.{Clean, Mended, Lost, LostAround}
use Rattle.around.specs.Answer.{around_verdict, around_counts, SaidAround, said_of_around, said_around_by, to_say_around, AnswersAround}
use Rattle.around.specs.Block.{lanes_lost_around, around_block, bits_inside, bits_outside}
use Rattle.around.specs.Inner.{around_by, around_of}

-- what is found is told by its verdict and its counts
counts_told : (a b : Around) → around_verdict a ≡ around_verdict b → around_counts a ≡ around_counts b → a ≡ b
counts_told Clean Clean e w = refl
counts_told Clean (Mended i o) e w = absurd (omega arith)
counts_told Clean (Lost l k) e w = absurd (omega arith)
counts_told Clean (LostAround n) e w = absurd (omega arith)
counts_told (Mended i o) Clean e w = absurd (omega arith)
counts_told (Mended i o) (Mended j p) e w = ap₂ Mended (ap (λ (l : List ℕ). get_or l 0 0) w) (ap (λ (l : List ℕ). get_or l 1 0) w)
counts_told (Mended i o) (Lost l k) e w = absurd (omega arith)
counts_told (Mended i o) (LostAround n) e w = absurd (omega arith)
counts_told (Lost l k) Clean e w = absurd (omega arith)
counts_told (Lost l k) (Mended i o) e w = absurd (omega arith)
counts_told (Lost l k) (Lost j p) e w = ap₂ Lost (ap (λ (l : List ℕ). get_or l 0 0) w) (ap (λ (l : List ℕ). get_or l 1 0) w)
counts_told (Lost l k) (LostAround n) e w = let z : ◌≡◌ {A = ℕ} 2 1 = ap length w in absurd (omega arith)
counts_told (LostAround m) Clean e w = absurd (omega arith)
counts_told (LostAround m) (Mended i o) e w = absurd (omega arith)
counts_told (LostAround m) (Lost l k) e w = let z : ◌≡◌ {A = ℕ} 1 2 = ap length w in absurd (omega arith)
counts_told (LostAround m) (LostAround n) e w = ap LostAround (ap (λ (l : List ℕ). get_or l 0 0) w)

said_told : (a b : Around) → said_of_around a ≡ said_of_around b → a ≡ b
said_told a b e = counts_told a b (ap (λ (s : SaidAround). s.verdict) e) (ap (λ (s : SaidAround). s.counts) e)

-- one answer has the numbers
pub around_one : {refusal : ℕ} {said : SaidAround} (a b : Result Around Refusal) → AnswersAround refusal said a → AnswersAround refusal said b → a ≡ b
around_one (Ok u) (Ok v) p q = ap Ok (said_told u v (p.says ∙ sym q.says))
around_one (Ok u) (Err s) p q = absurd (number_some s (q.number ∙ sym p.number))
around_one (Err r) (Ok v) p q = absurd (number_some r (p.number ∙ sym q.number))
around_one (Err r) (Err s) p q = ap Err (refusal_told r s (p.number ∙ sym q.number))

-- ---- what the block's answer says

said_by_lem : (named : List ℕ) (lost : ℕ) (kinds : Kind → ℕ) (i o : ℕ) → said_of_around (around_by named lost kinds i o) ≡ said_around_by named lost kinds i o
said_by_lem named zero kinds zero zero = refl
said_by_lem named zero kinds zero (suc o) = refl
said_by_lem named zero kinds (suc i) o = refl
said_by_lem [] (suc lost) kinds i o = refl
said_by_lem (r ∷ named) (suc lost) kinds i o = refl

-- where nothing is refused the answer is the block's, and else the refusal
pub answers_around : (shape : Shape) (named block : List ℕ) (refusal : ℕ) → refusal ≤ 14
    → AnswersAround refusal (to_say_around shape named block) (answered refusal (around_of shape named block))
unfolding around_of to_say_around
answers_around shape named block zero known =
    let after = around_block shape named block in
    record {
      number = refl;
      says = said_by_lem named (lanes_lost_around shape named block) (lanes_lost_as shape block) (bits_inside shape named block after)
          (bits_outside shape named block after);
    }
answers_around shape named block (suc refusal) known = record { number = answered_number (suc refusal) (around_of shape named block) known; says = refl }
