-- A test that computes for each hypothesis of demand 3, c, and that the hypothesis holds where its test passes. Assumes nothing.
use Prim.Native.Nat.{ℕ, zero, suc, ◌+◌, ◌≤◌}
use mathlib.Core.Bool.{Bool, true, false, not, ◌&&◌, ◌||◌, false≢true}
use mathlib.Core.Path.{◌≡◌, refl, sym, ◌∙◌}
use mathlib.Core.List.{List, [], ◌∷◌, ◌++◌, append_assoc}
use native.Mathlib.Omega.{arith}
use lib.Dec.{leb, eqb}
use borrow.Author.Tests.{leb-true, eqb-true, eq-eqb}
use Rattle.ground.specs.Choice.{if_zero}
use Rattle.ground.proofs.Bools.{both}
use Rattle.layout.specs.declared.Layout.{Layout}
use Rattle.layout.specs.Layout.{blocks}
use Rattle.block.proofs.ByWords.{fit?, fit_each}
use Rattle.demands.specs.Steps.{Step, format, write, read, visit, ask, turn, flip, State, fresh, step_after, after, answers, tick, turns}
use Rattle.demands.specs.Demand3.{SameLayout, WordsWritten, RowOf, NotFormatted, OneLayout, FlipsSpaced}
use Rattle.demands.proofs.Index.{block_at, only_at}
use Rattle.demands.proofs.Splits.{split_none}

-- ---- every step of a list passes a test, which sees what the steps before it have made, and the steps after it

module _ {Made : Type 0} (next : Step → Made → Made) where
  unfoldable pub made : List Step → Made → Made
  made [] m = m
  made (step ∷ rest) m = made rest (next step m)

  module _ (test : Step → Made → List Step → Bool) where
    unfoldable pub every? : List Step → Made → Bool
    every? [] m = true
    every? (step ∷ rest) m = test step m rest && every? rest (next step m)

    every_passes : (steps : List Step) (m : Made) → every? steps m ≡ true → (before : List Step) (step : Step) (rest : List Step)
        → steps ≡ before ++ step ∷ rest
        → test step (made before m) rest ≡ true
    unfolding made every?
    every_passes [] m t before step rest e = absurd (split_none before step rest e)
    every_passes (x ∷ l) m t [] step rest e = let here = (both (test x m l) (every? l (next x m)) t).0 in cc
    every_passes (x ∷ l) m t (y ∷ before) step rest e =
        let later = every_passes l (next x m) (both (test x m l) (every? l (next x m)) t).1 before step rest (cc) in
        cc

made_after : (steps : List Step) (state : State) → made step_after steps state ≡ after steps state
unfolding made after
made_after [] state = refl
made_after (step ∷ rest) state = made_after rest (step_after step state)

-- a test of the steps where they stand
module _ (test : Step → State → List Step → Bool) where
  stands : (steps : List Step) (state : State) → every? step_after test steps state ≡ true → (before : List Step) (step : Step) (rest : List Step)
      → steps ≡ before ++ step ∷ rest
      → test step (after before state) rest ≡ true
  stands steps state t before step rest e = rw (← made_after before state) (every_passes step_after test steps state t before step rest e)

-- what is asked of a call that is accepted
settled : (number : ℕ) (t : Bool) → if_zero number t true ≡ true → number ≡ 0 → t ≡ true
settled zero t e z = e
settled (suc number) t e z = absurd (omega arith)

-- ---- every accepted call names the layout

abbrev same? : Layout → Layout → Bool
same? a b = eqb a.shape b.shape && (eqb a.s b.s && eqb a.g b.g)

same_layout : (a b : Layout) → same? a b ≡ true → a ≡ b
same_layout a b t =
    let p = both (eqb a.shape b.shape) _ t in
    let q = both (eqb a.s b.s) _ p.1 in
    let shape = eqb-true a.shape b.shape p.0 in
    let s = eqb-true a.s b.s q.0 in
    let g = eqb-true a.g b.g q.1 in
    λ i. record { shape = shape i; s = s i; g = g i }

module _ (layout : Layout) where
  abbrev pub names? : Step → Bool
  names? (format named) = same? named layout
  names? (write named block list) = same? named layout
  names? (read named block buffer) = same? named layout
  names? (visit named block) = same? named layout
  names? (ask block) = true
  names? turn = true
  names? (flip at bit) = true

  names : (step : Step) → names? step ≡ true → SameLayout layout step
  names (format named) t = same_layout named layout t
  names (write named block list) t = same_layout named layout t
  names (read named block buffer) t = same_layout named layout t
  names (visit named block) t = same_layout named layout t
  names (ask block) t = tt
  names turn t = tt
  names (flip at bit) t = tt

  abbrev pub names_it? : Step → State → List Step → Bool
  names_it? step state rest = if_zero (answers step state) (names? step) true

-- ---- no format is accepted

abbrev pub refused? : Step → State → List Step → Bool
refused? (format named) state rest = if_zero (answers (format named) state) false true
refused? (write named block list) state rest = true
refused? (read named block buffer) state rest = true
refused? (visit named block) state rest = true
refused? (ask block) state rest = true
refused? turn state rest = true
refused? (flip at bit) state rest = true

-- ---- every data word is a word

abbrev pub fits? : Step → State → List Step → Bool
fits? (format named) state rest = true
fits? (write named block list) state rest = fit? list
fits? (read named block buffer) state rest = true
fits? (visit named block) state rest = true
fits? (ask block) state rest = true
fits? turn state rest = true
fits? (flip at bit) state rest = true

-- ---- flips in a lane lie N turns apart

-- a test of a step, if it is a flip
abbrev pub of_flip? : (ℕ → ℕ → Bool) → Step → Bool
of_flip? test (format named) = true
of_flip? test (write named block list) = true
of_flip? test (read named block buffer) = true
of_flip? test (visit named block) = true
of_flip? test (ask block) = true
of_flip? test turn = true
of_flip? test (flip at bit) = test at bit

module _ (layout : Layout) where
  -- a flip in another lane than that of an index and a bit, or after N turns
  abbrev pub later? : ℕ → ℕ → Step → ℕ → List Step → Bool
  later? at bit step count rest =
      of_flip? (λ also nth. not (eqb nth bit && eqb (block_at layout also) (block_at layout at)) || leb (blocks layout) count) step

  -- so are the steps after a flip
  abbrev pub apart? : Step → State → List Step → Bool
  apart? step state rest = of_flip? (λ at bit. every? tick (later? at bit) rest 0) step

made_turns : (steps : List Step) (count : ℕ) → made tick steps count ≡ turns steps + count
unfolding made turns
made_turns [] count = omega arith
made_turns (step ∷ rest) count = made_turns rest (tick step count) ∙ by step
  where
    by : (step : Step) → turns rest + tick step count ≡ tick step (turns rest) + count
    by (format named) = refl
    by (write named block list) = refl
    by (read named block buffer) = refl
    by (visit named block) = refl
    by (ask block) = refl
    by turn = omega arith
    by (flip at bit) = refl

same_lane : (a b : ℕ) (t u : Bool) → t ≡ true → u ≡ true → not (t && u) || leb a b ≡ true → a ≤ b
same_lane a b true true p q e = leb-true a b e
same_lane a b true false p q e = absurd (false≢true q)
same_lane a b false u p q e = absurd (false≢true p)

-- ---- the hypotheses, each where its test passes

module _ (image : List ℕ) (layout : Layout) (steps : List Step) where
  abbrev pub one_layout? : Bool
  one_layout? = every? step_after (names_it? layout) steps (fresh image layout)

  abbrev pub words_written? : Bool
  words_written? = every? step_after fits? steps (fresh image layout)

  abbrev pub flips_spaced? : Bool
  flips_spaced? = leb 1 layout.s && every? step_after (apart? layout) steps (fresh image layout)

  abbrev pub not_formatted? : Bool
  not_formatted? = every? step_after refused? steps (fresh image layout)

  pub one_layout : one_layout? ≡ true → OneLayout image layout steps
  one_layout t before rest step e a =
      names layout step
      (settled (answers step (after before (fresh image layout))) (names? layout step)
      (stands (names_it? layout) steps (fresh image layout) t before step rest e)
      a)

  pub words_written : words_written? ≡ true → WordsWritten steps
  words_written t before rest named block list e = fit_each list (stands fits? steps (fresh image layout) t before (write named block list) rest e)

  pub flips_spaced : flips_spaced? ≡ true → FlipsSpaced image layout steps
  flips_spaced t before between rest at also bit block e first second =
      let p = both (leb 1 layout.s) _ t in
      let s = leb-true 1 layout.s p.0 in
      let same = sym (row_block s block also second) ∙ row_block s block at first in
      let passes = stands (apart? layout) steps (fresh image layout) p.1 before (flip at bit) (between ++ flip also bit ∷ rest)
      (e ∙ append_assoc before (flip at bit ∷ between) (flip also bit ∷ rest)) in
      let late = every_passes tick (later? layout at bit) (between ++ flip also bit ∷ rest) 0 passes between (flip also bit) rest refl in
      omega (arith, same_lane (blocks layout) (made tick between 0) _ _ (eq-eqb bit bit refl) (eq-eqb _ _ same) late, made_turns between 0)
    where
      row_block : 1 ≤ layout.s → (block at : ℕ) → RowOf layout block at → block ≡ block_at layout at
      row_block s block at (zero, l, h, e) = absurd (omega arith)
      row_block s block at (suc k, l, h, e) = (only_at layout s at block k (omega arith) (sym e)).0

  pub not_formatted : not_formatted? ≡ true → NotFormatted image layout steps
  not_formatted t before rest named e a =
      false≢true
      (settled (answers (format named) (after before (fresh image layout))) false
      (stands refused? steps (fresh image layout) t before (format named) rest e)
      a)

-- ---- some of them, all, and all but one

pub data Hypothesis : Type 0 where
  layouts words spacing formats : Hypothesis

abbrev pub every : List Hypothesis
every = layouts ∷ words ∷ spacing ∷ formats ∷ []

abbrev pub others : Hypothesis → List Hypothesis
others layouts = words ∷ spacing ∷ formats ∷ []
others words = layouts ∷ spacing ∷ formats ∷ []
others spacing = layouts ∷ words ∷ formats ∷ []
others formats = layouts ∷ words ∷ spacing ∷ []

module _ (image : List ℕ) (layout : Layout) (steps : List Step) where
  abbrev pub Holds : Hypothesis → Type 0
  Holds layouts = OneLayout image layout steps
  Holds words = WordsWritten steps
  Holds spacing = FlipsSpaced image layout steps
  Holds formats = NotFormatted image layout steps

  abbrev pub passes? : Hypothesis → Bool
  passes? layouts = one_layout? image layout steps
  passes? words = words_written? image layout steps
  passes? spacing = flips_spaced? image layout steps
  passes? formats = not_formatted? image layout steps

  pub holds : (h : Hypothesis) → passes? h ≡ true → Holds h
  holds layouts t = one_layout image layout steps t
  holds words t = words_written image layout steps t
  holds spacing t = flips_spaced image layout steps t
  holds formats t = not_formatted image layout steps t

  abbrev pub pass? : List Hypothesis → Bool
  pass? [] = true
  pass? (h ∷ more) = passes? h && pass? more

  -- each of some hypotheses holds
  abbrev pub Each : List Hypothesis → Type 0
  Each [] = Unit {0}
  Each (h ∷ more) = Holds h × Each more

  each : (some : List Hypothesis) → pass? some ≡ true → Each some
  each [] t = tt
  each (h ∷ more) t = let p = both (passes? h) (pass? more) t in (holds h p.0, each more p.1)

-- a store's list of steps meets some hypotheses
pub record Meets (image : List ℕ) (layout : Layout) (some : List Hypothesis) (steps : List Step) : Type 0 where
  pub all : Each image layout steps some

pub meets : {image : List ℕ} {layout : Layout} {some : List Hypothesis} {steps : List Step} → pass? image layout steps some ≡ true
    → Meets image layout some steps
meets {image} {layout} {some} {steps} t = record { all = each image layout steps some t }
