-- `sums::columns` meets its contract. The loop's invariant: the columns passed are in their places. Assumes nothing.
use Prim.Native.Nat.{ℕ, ◌+◌}
use mathlib.Core.Path.{◌≡◌, refl, ap, ◌∙◌}
use mathlib.Core.List.{List}
use native.Mathlib.Numerals.{add-one}
use native.Mathlib.Omega.{arith}
use lib.ListN.{set}
use Rattle.ground.specs.Stores.{stores}
use Rattle.sums.specs.declared.Running.{Running}
use Rattle.sums.specs.declared.Column.{Column}
use Rattle.sums.specs.Inner.{three_of, four_of, column_from, column_of, in_column, laid, tabled}
use Rattle.sums.proofs.columns.Goals as goal

-- what is found of a column from its groups
found-is : (x : ℕ → ℕ) {a b c d b' c' d' : Running} {found : Column} → found ≡ column_from a b c d (x 16) (x 17) → a ≡ three_of (x 1) (x 2) (x 3)
    → b ≡ four_of (x 4) b' → b' ≡ three_of (x 5) (x 6) (x 7) → c ≡ four_of (x 8) c' → c' ≡ three_of (x 9) (x 10) (x 11) → d ≡ four_of (x 12) d'
    → d' ≡ three_of (x 13) (x 14) (x 15)
    → found ≡ column_of x
found-is x e ea eb eb' ec ec' ed ed' = e ∙ rw (ea, eb, eb', ec, ec', ed, ed')

-- one column more: its words in the table, and one word of it in a list
tabled_more : (x : ℕ → Column) (first : List ℕ) {n : ℕ} {column : Column} {old new : List ℕ} → new ≡ laid old n column → old ≡ tabled first x n → column ≡ x n
    → new ≡ tabled first x (n + 1)
unfolding tabled
tabled_more x first laid_now so_far is = rw add-one (cc)

stores_more : (f : ℕ → ℕ) (first : List ℕ) {n word : ℕ} {old new : List ℕ} → new ≡ set old n word → old ≡ stores first (λ c. c) f n → word ≡ f n
    → new ≡ stores first (λ c. c) f (n + 1)
unfolding stores
stores_more f first set_now so_far is = rw add-one (cc)

pub loop-c-init : goal.loop-c-init
unfolding tabled stores
loop-c-init c = (omega arith, refl, refl, refl)

pub loop-c-preserved : goal.loop-c-preserved
loop-c-preserved c =
    let inv = c.loop-c.invariant in
    let is = found-is (in_column c.args.words.now c.args.at c.loop-c.c) c.folded-found.ensures c.three-from_1.ensures
    c.four-from_4.ensures c.three-from_5.ensures c.four-from_8.ensures c.three-from_9.ensures c.four-from_12.ensures
    c.three-from_13.ensures in (
      omega arith,
      tabled_more _ _ c.lay.ensures.table inv.1 is,
      stores_more _ _ c.lay.ensures.top inv.2 (ap (λ (f : Column). f.d6) is),
      stores_more _ _ c.lay.ensures.all inv.3 (ap (λ (f : Column). f.all) is),
    )

pub returns : goal.returns
returns c =
    let e : c.loop-c.c ≡ 4 = omega arith in
    record { table = rw (← e) c.loop-c.invariant.1; top = rw (← e) c.loop-c.invariant.2; all = rw (← e) c.loop-c.invariant.3 }
