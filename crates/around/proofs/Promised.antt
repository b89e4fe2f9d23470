-- What a visit around named rows promises, from what its steps gave: refused, no row named, valid, or mended. Assumes nothing.
use Prim.Native.Nat.{ℕ, zero, suc, ◌≤◌}
use mathlib.Core.Bool.{Bool, true, false, not, ◌||◌}
use mathlib.Core.Path.{◌≡◌, refl, sym, ap, subst, ◌∙◌}
use mathlib.Core.List.{List, [], ◌∷◌}
use native.Mathlib.Omega.{arith}
use lib.Dec.{eqb, ltb}
use lib.ListN.{length}
use borrow.Author.Tests.{ltb-false}
use Rattle.lane.specs.Lane.{sum, odd}
use Rattle.ground.specs.Ladder.{◌when◌else◌, ◌then◌}
use Rattle.ground.proofs.Choices.{refused_kept}
use Rattle.ground.proofs.Ladder.{then_first}
use Rattle.std.specs.Prelude.{Result, Ok, Err}
use Rattle.refusal.specs.declared.Refusal.{Refusal}
use Rattle.refusal.specs.Refusal.{number as number_of, answered}
use Rattle.refusal.proofs.Answered.{number_some, rung_known, then_known}
use Rattle.shape.specs.declared.Shape.{Shape}
use Rattle.shape.specs.Shape.{before, rows}
use Rattle.shape.proofs.Sizes.{rows_fit}
use Rattle.sums.specs.Words.{lane, number}
use Rattle.sums.specs.Sums.{sums_of, doubtful, lying, Looks, any_of}
use Rattle.sums.specs.declared.Finding.{Finding}
use Rattle.sums.specs.declared.Finding.TheVariants.{Clean as NoDoubt}
use Rattle.sums.proofs.Doubt.{else_found, some_doubt}
use Rattle.sums.proofs.WordBits.{number_same}
use Rattle.stored.specs.Stored.{complemented}
use Rattle.block.specs.declared.Verdict.{Verdict}
use Rattle.block.specs.declared.Verdict.TheVariants as verdicts
use Rattle.block.specs.Block.{ValidBlock}
use Rattle.block.specs.Verdict.{verdict_of}
use Rattle.block.proofs.Blocks.{kept_valid}
use Rattle.block.proofs.Told.{not_lost, not_mended}
use Rattle.layout.specs.declared.Layout.{Layout}
use Rattle.layout.specs.Layout.{shape_of, rows_of}
use Rattle.layout.specs.Refusal.{block_refusal}
use Rattle.layout.specs.declared.Site.{Site}
use Rattle.layout.proofs.Sites.{Located, locates_ok}
use Rattle.layout.proofs.Ladder.{block_known}
use Rattle.store.specs.Answer.{Answer, verdict_in}
use Rattle.store.specs.Image.{gathered, placed}
use Rattle.store.specs.Inner.{taken}
use Rattle.store.specs.Visit.{visit_answer, visit_after, Visits}
use Rattle.store.proofs.Image.{length_gathered, placed_gathered, gathered_stride}
use Rattle.store.proofs.Located.{inside}
use Rattle.store.proofs.Answers.{refused_answer}
use Rattle.store.proofs.Promises.{visits_answer}
use Rattle.store.proofs.Strides.{read_long, clean_there, sums_there}
use Rattle.around.specs.declared.Around.{Around}
use Rattle.around.specs.declared.Around.TheVariants.{Clean}
use Rattle.around.specs.Refusal.{misnamed?, named_refusal, around_refusal}
use Rattle.around.specs.Block.{around_block}
use Rattle.around.specs.Answer.{unnamed}
use Rattle.around.specs.Inner.{around_of, Looked, Mends}
use Rattle.around.specs.Visit.{around_after, VisitsAround}
use Rattle.around.proofs.Lanes.{RowsTo}
use Rattle.around.proofs.Blocks.{length_around, valid_kept, valid_inside, valid_outside, valid_row}
use Rattle.around.proofs.Images.{placed_same}
use Rattle.around.proofs.None.{none_block, none_says}
use Rattle.around.proofs.Answers.{around_one, answers_around}
use Rattle.around.proofs.Calls.{named_row}

-- ---- the list

list_fine : (last : ℕ) (list : List ℕ) → named_refusal last list ≡ 0 → (length list ≤ 3) × (misnamed? last list ≡ false)
unfolding named_refusal
list_fine last list e = let h = whens (ltb 3 (length list)) (misnamed? last list) e in (ltb-false 3 (length list) h.0, h.1)
  where
    whens : (s t : Bool) → 13 when s else 14 when t else 0 ≡ 0 → (s ≡ false) × (t ≡ false)
    whens true t e = absurd (omega arith)
    whens false true e = absurd (omega arith)
    whens false false e = (refl, refl)

rows_within : (last : ℕ) (list : List ℕ) → misnamed? last list ≡ false → RowsTo last list
rows_within last [] e = tt
rows_within last (r ∷ named) e = let p = named_row last r named e in (p.0, p.1, rows_within last named p.3)

-- ---- the promise

module _ (image : List ℕ) (layout : Layout) (block : ℕ) where
  abbrev code : List ℕ
  code = gathered layout block image

  abbrev shape : Shape
  shape = shape_of layout

  module _ (named : List ℕ) where
    abbrev refusal : ℕ
    refusal = around_refusal (length image) layout block named

    known : refusal ≤ 14
    unfolding around_refusal named_refusal
    known =
        then_known (block_refusal (length image) layout block) _ (block_known layout (length image) block)
        (rung_known 13 (ltb 3 (length named)) _ (omega arith) (rung_known 14 (misnamed? (rows_of layout) named) 0 (omega arith) (omega arith)))

    -- the answer and the image of the definitions keep it
    promised : (answer : Result Around Refusal) (after : List ℕ) → answer ≡ answered refusal (around_of shape named code)
        → after ≡ around_after image layout block named
        → VisitsAround image layout block named answer after named
    promised answer after e f = record { answers = rw e (answers_around shape named code refusal known); leaves = f; keeps = refl }

    -- and what keeps it is that answer
    pub visits_around_answer : {answer : Result Around Refusal} {after kept : List ℕ} → VisitsAround image layout block named answer after kept
        → answer ≡ answered refusal (around_of shape named code)
    visits_around_answer {answer = answer} kept = around_one answer _ kept.answers (answers_around shape named code refusal known)

    refused_promised : (r : Refusal) → refusal ≡ number_of r → VisitsAround image layout block named (Err r) image named
    unfolding around_after
    refused_promised r e =
        promised (Err r) image (rw e (refused_answer r (around_of shape named code))) (rw e (sym (refused_kept (number_of r) _ image (number_some r))))

    pub site_refused : (r : Refusal) → block_refusal (length image) layout block ≡ number_of r → VisitsAround image layout block named (Err r) image named
    unfolding around_refusal
    site_refused r e = refused_promised r (rw e (then_first (number_of r) (named_refusal (rows_of layout) named) (number_some r)))

  -- ---- no row is named

  none_refusal : around_refusal (length image) layout block [] ≡ block_refusal (length image) layout block
  unfolding around_refusal named_refusal misnamed?
  none_refusal = then_none (block_refusal (length image) layout block)
    where
      then_none : (n : ℕ) → n then 0 ≡ n
      then_none zero = refl
      then_none (suc n) = refl

  module _ {after : List ℕ} where
    none_left : {answer : Answer} → Visits image layout block answer after → after ≡ around_after image layout block []
    unfolding around_after visit_after
    none_left visited = rw (none_refusal, none_block shape code) visited.leaves

    pub visit_refused : {r : Refusal} → Visits image layout block (Err r) after → VisitsAround image layout block [] (Err r) after []
    visit_refused {r} visited =
        promised [] (Err r) after
        (refused_answer r (around_of shape [] code) ∙ ap (λ (n : ℕ). answered n (around_of shape [] code)) (visited.answers.number ∙ sym none_refusal))
        (none_left visited)

    pub none_visited : {v : Verdict} → Visits image layout block (Ok v) after → VisitsAround image layout block [] (Ok (unnamed v)) after []
    unfolding visit_answer
    none_visited {v} visited =
        promised [] (Ok (unnamed v)) after
        (rw (none_refusal, ← none_says shape code) (by (block_refusal (length image) layout block) (visits_answer image layout block visited)))
        (none_left visited)
      where
        by : (n : ℕ) → Ok v ≡ answered n (verdict_of shape code) → Ok (unnamed v) ≡ answered n (unnamed (verdict_of shape code))
        by zero e = ap (λ (a : Answer). Ok (unnamed (verdict_in a))) e
        by (suc n) e = absurd (let no : ⊥ = cc in no)

-- ---- a block that was looked at

none_doubtful : (shape : Shape) (block : List ℕ) → ValidBlock shape block → doubtful shape block ≡ 0
unfolding doubtful number
none_doubtful shape block valid =
    number_same 32 (λ i. not (eqb (sum (before shape) (lane i block)) 0) || odd (rows shape) (lane i block)) (λ i. false)
    (λ i hi. rw ((valid i hi).sum_zero, (valid i hi).even))

-- a block with the sums of a valid one has no doubtful lane
no_doubt : (shape : Shape) (a b : List ℕ) → sums_of shape a ≡ sums_of shape b → ValidBlock shape b → doubtful shape a ≡ 0
no_doubt shape a b e valid = sym (some_doubt shape a) ∙ ap (any_of 8) e ∙ some_doubt shape b ∙ none_doubtful shape b valid

module _ (image : List ℕ) {layout : Layout} {block : ℕ} {site : Site} (there : Located (length image) layout block site) where
  abbrev held : List ℕ
  held = taken site.shape image site.at site.s

  abbrev found_code : List ℕ
  found_code = gathered layout block image

  whole : held ≡ found_code
  whole = rw (there.first, there.same_shape, there.step) (gathered_stride layout block image)

  module _ {lent after : List ℕ} {found : Finding} (looks : Looks site.shape image site.at site.s lent found after) where
    valid_there : found ≡ NoDoubt → ValidBlock site.shape found_code
    valid_there none =
        let clean : verdicts.Clean ≡ verdict_of site.shape held = clean_there image site.shape site.at site.s (inside _ _ _ there) (rw none at looks) in
        let unlost = not_lost site.shape held verdicts.Clean clean (λ e b w. cc) in
        let long = read_long image site.shape site.at site.s in
        let kept = not_mended site.shape held verdicts.Clean clean long (λ n w. cc) in
        subst (ValidBlock site.shape) whole (subst (ValidBlock site.shape) kept (kept_valid site.shape held long unlost))

    pub looked_at : (found ≡ NoDoubt → ⊥) → Looked image layout block site after
    looked_at some =
        record {
          there = locates_ok _ _ _ there;
          are = are;
          doubt = λ valid. doubted.0 (no_doubt site.shape (complemented (lying site.shape image site.at site.s)) found_code (sym doubted.1 ∙ are) valid);
        }
      where
        doubted : (doubtful site.shape (complemented (lying site.shape image site.at site.s)) ≡ 0 → ⊥)
            × (after ≡ sums_of site.shape (complemented (lying site.shape image site.at site.s)))
        doubted = else_found site.shape image site.at site.s ((inside _ _ _ there).1 (before site.shape) (omega arith)) looks some

        are : after ≡ sums_of site.shape found_code
        are = sums_there image site.shape site.at site.s (inside _ _ _ there) looks some ∙ ap (sums_of site.shape) whole

  -- ---- rows are named, and tested by the last row that the code knows

  module _ (named : List ℕ) {last : ℕ} (is : last ≡ rows site.shape) where
    pub list_refused : {r : Refusal} → number_of r ≡ named_refusal last named → VisitsAround image layout block named (Err r) image named
    unfolding around_refusal
    list_refused {r} e =
        refused_promised image layout block named r
        (rw there.passed (sym (e ∙ ap (λ (n : ℕ). named_refusal n named) (is ∙ ap rows there.same_shape))))

    module _ (accepted : 0 ≡ named_refusal last named) where
      passes : named_refusal (rows site.shape) named ≡ 0
      passes = sym (accepted ∙ ap (λ (n : ℕ). named_refusal n named) is)

      fine : (length named ≤ 3) × (misnamed? (rows site.shape) named ≡ false)
      fine = list_fine (rows site.shape) named passes

      pub few : length named ≤ 3
      few = fine.0

      -- the rows that the code takes from the list
      pub taken_fine : {rows_taken : List ℕ} → named ≡ rows_taken → misnamed? (rows site.shape) rows_taken ≡ false
      taken_fine e = sym (ap (misnamed? (rows site.shape)) e) ∙ fine.1

      none_refused : around_refusal (length image) layout block named ≡ 0
      unfolding around_refusal
      none_refused = rw (there.passed, ← there.same_shape, passes)

      pub mends_promised : {rows_taken : List ℕ} {found : Around} {after : List ℕ} → named ≡ rows_taken
          → Mends image layout block site.shape rows_taken found after
          → VisitsAround image layout block named (Ok found) after named
      unfolding around_after
      mends_promised {found = found} {after = after} e m =
          promised image layout block named (Ok found) after (rw (none_refused, ← there.same_shape, e) (ap Ok m.says))
          (rw (none_refused, ← there.same_shape, e) m.leaves)

      -- a valid block is clean, and stays
      module _ (valid : ValidBlock site.shape found_code) where
        long : rows site.shape ≤ length found_code
        long = rw (length_gathered layout block image) (rows_fit site.shape)

        within : RowsTo (rows site.shape) named
        within = rows_within (rows site.shape) named fine.1

        valid_says : Clean ≡ around_of site.shape named found_code
        unfolding around_of
        valid_says =
            rw (
              valid_kept site.shape named found_code long within few valid,
              valid_inside site.shape named found_code long within few valid,
              valid_outside site.shape named found_code long within few valid,
            )

        valid_leaves : image ≡ placed layout block (around_block site.shape named found_code) image
        valid_leaves =
            sym (placed_gathered layout block image)
            ∙ placed_same layout block found_code (around_block site.shape named found_code) image (length_gathered layout block image)
            (length_around site.shape named found_code ∙ length_gathered layout block image)
            (λ k h. valid_row site.shape named found_code long within few valid k (rw there.same_shape h))

        valid_promised : VisitsAround image layout block named (Ok Clean) image named
        valid_promised = mends_promised refl (record { says = valid_says; leaves = valid_leaves })

      pub clean_promised : {lent after : List ℕ} {found : Finding} → Looks site.shape image site.at site.s lent found after → found ≡ NoDoubt
          → VisitsAround image layout block named (Ok Clean) image named
      clean_promised looks none = valid_promised (valid_there looks none)
