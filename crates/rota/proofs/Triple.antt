-- The laws of a memory can be met, and the bound on flips is tight: a small memory whose blocks keep three copies of one bit.
-- Assumes nothing.
use Prim.Native.Nat.{ℕ, zero, suc}
use mathlib.Core.Bool.{Bool, true, false, not, cond}
use mathlib.Core.Path.{◌≡◌, refl, sym, ap, ◌∙◌}
use mathlib.Core.List.{List, [], ◌∷◌, ◌++◌}
use native.Mathlib.Decide.{ℕ_discrete}
use native.Mathlib.Omega.{arith}
use lib.Dec.{eqb}
use borrow.Author.Tests.{eq-eqb, ne_eqb}
use Rattle.rota.specs.Line.{below, none_twice, zeros, sound}
use Rattle.rota.specs.Record.{unbroken, turn_number, rota_turned}
use Rattle.rota.specs.Steps.{turn, other}
use Rattle.rota.specs.Touches.{flip, read, last_written}
use Rattle.rota.specs.Memory.{Memory}
use Rattle.rota.specs.Patrol.{StepOf, memory_run, memory_at}
use Rattle.rota.proofs.Patrol.{read_right}
use Rattle.rota.proofs.Spacing.{spaced?, spaced_true, quiet}

record Copies : Type 0 where
  left : Bool
  mid : Bool
  right : Bool

data Copy : Type 0 where
  left mid right : Copy

abbrev three : Bool → Copies
three d = record { left = d; mid = d; right = d }

-- the bit that most copies hold
abbrev most : Bool → Bool → Bool → Bool
most true true c = true
most true false c = c
most false true c = c
most false false c = false

abbrev voted : Copies → Bool
voted x = most x.left x.mid x.right

abbrev flipped : Copy → Copies → Copies
flipped left x = record { left = not x.left; mid = x.mid; right = x.right }
flipped mid x = record { left = x.left; mid = not x.mid; right = x.right }
flipped right x = record { left = x.left; mid = x.mid; right = not x.right }

-- the block is changed, and no other
abbrev changed : ℕ → (Copies → Copies) → (ℕ → Copies) → ℕ → Copies
changed b f m c = cond (eqb c b) (f (m c)) (m c)

changed_here : (b : ℕ) (f : Copies → Copies) (m : ℕ → Copies) (c : ℕ) → c ≡ b → changed b f m c ≡ f (m c)
changed_here b f m c e = ap (λ (t : Bool). cond t (f (m c)) (m c)) (eq-eqb c b e)

changed_away : (b : ℕ) (f : Copies → Copies) (m : ℕ → Copies) (c : ℕ) → (c ≡ b → ⊥) → changed b f m c ≡ m c
changed_away b f m c ne = ap (λ (t : Bool). cond t (f (m c)) (m c)) (ne_eqb c b ne)

-- all copies hold the bit; most do
abbrev Off : ℕ → (ℕ → Copies) → ℕ → Bool → Type 0
Off zero m c d = m c ≡ three d
Off (suc k) m c d = voted (m c) ≡ d

off_same : (m n : ℕ → Copies) (c : ℕ) (d : Bool) → n c ≡ m c → (k : ℕ) → Off k m c d → Off k n c d
off_same m n c d e zero o = e ∙ o
off_same m n c d e (suc k) o = ap voted e ∙ o

voted_three : (d : Bool) → voted (three d) ≡ d
voted_three true = refl
voted_three false = refl

voted_flipped : (i : Copy) (d : Bool) → voted (flipped i (three d)) ≡ d
voted_flipped left true = refl
voted_flipped left false = refl
voted_flipped mid true = refl
voted_flipped mid false = refl
voted_flipped right true = refl
voted_flipped right false = refl

abbrev triple : (n : ℕ) → Memory n
triple n =
    record {
      State = ℕ → Copies;
      Lane = ℕ;
      Flip = ℕ × Copy;
      Data = Bool;
      Answer = Bool;
      block = λ u. u;
      lane = λ f. f.0;
      lane? = ℕ_discrete;
      zeros = false;
      fresh = λ c. three false;
      visit = λ b. changed b (λ x. three (voted x));
      write = λ b d. changed b (λ x. three d);
      flip = λ f. changed f.0 (flipped f.1);
      read = λ b m. voted (m b);
      gives = λ d. d;
      Good = λ m. Unit {0};
      fresh_good = tt;
      visit_good = λ b m g. tt;
      write_good = λ b d m g. tt;
      flip_good = λ f m g. tt;
      Off = Off;
      off_more = λ m u d g o. ap voted o ∙ voted_three d;
      fresh_zeros = λ u l. refl;
      visit_here = λ b m d g l a u e. changed_here b (λ x. three (voted x)) m u e ∙ ap three (a u e);
      visit_away = λ b m u d g ne. off_same m (changed b (λ x. three (voted x)) m) u d (changed_away b (λ x. three (voted x)) m u ne);
      write_here = λ b d m u g l e. changed_here b (λ x. three d) m u e;
      write_away = λ b e m u d g ne. off_same m (changed b (λ x. three e) m) u d (changed_away b (λ x. three e) m u ne);
      flip_here = λ f m u d g e o. ap voted (changed_here f.0 (flipped f.1) m u (sym e) ∙ ap (flipped f.1) o) ∙ voted_flipped f.1 d;
      flip_away = λ f m u d g ne. off_same m (changed f.0 (flipped f.1) m) u d (changed_away f.0 (flipped f.1) m u (λ e. ne (sym e)));
      read_here = λ b m d g l a. a b refl;
    }

-- ---- two blocks, and two flips in block 1, in different copies

abbrev enough : List (StepOf (triple 2))
enough = other (flip (1, left)) ∷ turn ∷ turn ∷ other (flip (1, mid)) ∷ []

abbrev too_few : List (StepOf (triple 2))
too_few = other (flip (1, left)) ∷ turn ∷ other (flip (1, mid)) ∷ []

enough_spaced : spaced? (triple 2) (enough ++ other (read 1) ∷ []) ≡ true
unfolding spaced? quiet
enough_spaced = refl

-- two turns lie between: the read is right
enough_right : (triple 2).read 1 (memory_at (triple 2) enough) ≡ false
unfolding last_written
enough_right =
    let l = enough ++ other (read 1) ∷ [] in
    read_right (triple 2) (omega arith) l (spaced_true (triple 2) l enough_spaced) enough [] 1 refl (omega arith)

-- one turn lies between: the read is wrong
too_few_wrong : (triple 2).read 1 (memory_at (triple 2) too_few) ≡ true
unfolding memory_run rota_turned turn_number unbroken sound below none_twice zeros
too_few_wrong = refl
