-- What is answered and left of a block that was looked at, from what the steps of the code gave. Assumes nothing.
use Prim.Native.Nat.{ℕ, zero, suc, ◌+◌, ◌*◌, ◌-◌, ◌^◌, ◌≤◌, ◌<◌}
use mathlib.Core.Bool.{Bool, true, false, ◌||◌}
use mathlib.Core.Path.{◌≡◌, refl, sym, ap, ◌∙◌}
use mathlib.Core.List.{List, [], ◌∷◌}
use mathlib.Core.Logic.{inl, inr}
use native.Mathlib.Omega.{arith}
use lib.Bits.{bit_xor, xor_zero_r}
use lib.Count.{ones}
use lib.Dec.{eqb, ltb}
use lib.ListN.{length, get_or, length-set}
use lib.Seq.{get_or-set_other}
use borrow.Author.Tests.{eqb-false, ltb-false}
use Rattle.std.proofs.lemmas.Nat.{zero_from_ones}
use Rattle.lane.specs.Bit.{pick}
use Rattle.lane.specs.Decision.{Kind, even, beyond}
use Rattle.lane.proofs.Bits.{xor_assoc}
use Rattle.ground.proofs.Bools.{neither}
use Rattle.shape.specs.declared.Shape.{Shape}
use Rattle.shape.specs.Shape.{before, rows}
use Rattle.shape.proofs.Sizes.{rows_fit, before_small}
use Rattle.sums.specs.Sums.{any_of}
use Rattle.block.specs.declared.Verdict.{Verdict}
use Rattle.block.specs.declared.Verdict.TheVariants.{Lost}
use Rattle.block.specs.Block.{SameRows, lanes_lost, lanes_lost_as, mended_block}
use Rattle.block.specs.Sums.{Decides}
use Rattle.block.specs.Verdict.{verdict, verdict_of}
use Rattle.block.proofs.Blocks.{length_mended}
use Rattle.block.proofs.Decided.{decided}
use Rattle.block.proofs.Told.{NotLost, not_lost, lost_some, kinds_lost, few_lost}
use Rattle.layout.specs.declared.Layout.{Layout}
use Rattle.layout.specs.Layout.{rows_of, index}
use Rattle.layout.proofs.Index.{stride}
use Rattle.layout.proofs.Ladder.{accepted}
use Rattle.layout.proofs.Sites.{Located, located}
use Rattle.layout.specs.declared.Site.{Site}
use Rattle.std.specs.Prelude.{Option, None, Some}
use Rattle.store.specs.Image.{gathered, placed}
use Rattle.store.specs.Visit.{visit_after}
use Rattle.store.proofs.Image.{length_gathered, gathered_rest, length_placed, placed_gathered, placed_elsewhere, gathered_placed}
use Rattle.around.specs.declared.Around.TheVariants as answers
use Rattle.around.specs.declared.solving.Told.{Told}
use Rattle.around.specs.Named.{among?}
use Rattle.around.specs.Refusal.{misnamed?}
use Rattle.around.specs.Block.{lanes_lost_around, around_block, bits_inside, bits_outside}
use Rattle.around.specs.Inner.{more_rows, row_or_none, mark, changed_by, changed_at, RowInside, Solves, around_by, around_of, Looked, Mends}
use Rattle.around.proofs.Lanes.{RowsTo}
use Rattle.around.proofs.Blocks.{row_changed, around_lost, length_around, unchanged_valid}
use Rattle.around.proofs.Images.{placed_over, placed_same, there, changed_placed}
use Rattle.around.proofs.ThreeRows.{rows_named, Three, three_within}
use Rattle.around.proofs.More as more
use Rattle.around.proofs.One as one
use Rattle.around.proofs.One.{left_lanes, turned_sums, wrong_lanes}

-- ---- the answer, by numbers

by_lost : (r : ℕ) (named : List ℕ) (lost : ℕ) (kinds : Kind → ℕ) (i o : ℕ) → (lost ≡ 0 → ⊥) → answers.LostAround lost ≡ around_by (r ∷ named) lost kinds i o
by_lost r named zero kinds i o ne = absurd (ne refl)
by_lost r named (suc lost) kinds i o ne = refl

by_mended : (named : List ℕ) (kinds : Kind → ℕ) (i o : ℕ) → (i ≡ 0 → o ≡ 0 → ⊥) → answers.Mended i o ≡ around_by named 0 kinds i o
by_mended named kinds zero zero ne = absurd (ne refl refl)
by_mended named kinds zero (suc o) ne = refl
by_mended named kinds (suc i) o ne = refl

module _ {image : List ℕ} {layout : Layout} {block : ℕ} {site : Site} {sums : List ℕ} (looked : Looked image layout block site sums) where
  abbrev shape : Shape
  shape = site.shape

  here : Located (length image) layout block site
  here = located _ _ _ looked.there

  abbrev code : List ℕ
  code = gathered layout block image

  long : rows shape ≤ length code
  long = rw (length_gathered layout block image) (rows_fit shape)

  same_rows : rows shape ≡ rows_of layout
  same_rows = ap rows here.same_shape

  -- ---- where a row lies

  row_index : (r : ℕ) → 1 ≤ r → site.at + (r - 1) * site.s ≡ index layout block r
  row_index zero low = absurd (omega arith)
  row_index (suc k) low =
      let e : suc k - 1 ≡ k = omega arith in
      rw (here.first, here.step) (ap (λ (j : ℕ). index layout block 1 + j * layout.s) e ∙ sym (stride (rows_of layout) layout.s block k))

  pub row_inside : (len r : ℕ) → len ≡ length image → 1 ≤ r → r ≤ rows shape → RowInside len site.at site.s r
  row_inside len r size low high =
      let ok = accepted layout (length image) block here.passed in (
        rw here.step ok.geometry.s_last,
        low,
        omega (arith, rows_fit shape),
        rw (size, row_index r low) (there layout block (length image) here.passed r low (rw (← same_rows) high)),
      )

  -- ---- a row changed

  abbrev Held : List ℕ → Type 0
  Held given = (length given ≡ 72) × ((k : ℕ) → rows_of layout ≤ k → get_or given k 0 ≡ 0)

  code_held : Held code
  code_held = (length_gathered layout block image, gathered_rest layout block image)

  flip_held : (given : List ℕ) → Held given → (r : ℕ) → 1 ≤ r → r ≤ rows shape → (w : ℕ) → Held (changed_at given (r - 1) w)
  flip_held given h r low high w = (
    length-set given (r - 1) (bit_xor (get_or given (r - 1) 0) w) ∙ h.0,
    λ k l. get_or-set_other given (r - 1) k (bit_xor (get_or given (r - 1) 0) w) 0 (λ q. omega (arith, same_rows)) ∙ h.1 k l,
  )

  flip_placed : (given now : List ℕ) → Held given → now ≡ placed layout block given image → (r : ℕ) → 1 ≤ r → r ≤ rows shape → (w : ℕ)
      → changed_at now (site.at + (r - 1) * site.s) w ≡ placed layout block (changed_at given (r - 1) w) image
  flip_placed given now h e r low high w =
      rw (e, row_index r low)
      (changed_placed layout block (length image) here.passed r low (rw (← same_rows) high) w given image refl h.0 h.1)

  -- ---- lost, and mended

  module _ (r : ℕ) (named : List ℕ) where
    lost_mends : (n : ℕ) → n ≡ lanes_lost_around shape (r ∷ named) code → (n ≡ 0 → ⊥) → Mends image layout block shape (r ∷ named) (answers.LostAround n) image
    unfolding around_of
    lost_mends n e ne =
        record {
          says = ap answers.LostAround e ∙ by_lost r named (lanes_lost_around shape (r ∷ named) code) _ _ _ (λ z. ne (e ∙ z));
          leaves = sym (ap (λ (b : List ℕ). placed layout block b image) (kept n e ne) ∙ placed_gathered layout block image);
        }
      where
        kept : (n : ℕ) → n ≡ lanes_lost_around shape (r ∷ named) code → (n ≡ 0 → ⊥) → around_block shape (r ∷ named) code ≡ code
        kept zero e ne = absurd (ne refl)
        kept (suc n) e ne = around_lost shape (r ∷ named) code n (sym e)

  mended_mends : (named : List ℕ) → RowsTo (rows shape) named → lanes_lost_around shape named code ≡ 0 → (i o : ℕ)
      → i ≡ bits_inside shape named code (around_block shape named code) → o ≡ bits_outside shape named code (around_block shape named code)
      → (given after : List ℕ) → length given ≡ 72 → SameRows shape given (around_block shape named code) → after ≡ placed layout block given image
      → Mends image layout block shape named (answers.Mended i o) after
  unfolding around_of
  mended_mends named within none i o ei eo given after size same e =
      record {
        says =
            by_mended named (lanes_lost_as shape code) i o
            (λ zi zo. looked.doubt (unchanged_valid shape named code long within none (sym ei ∙ zi) (sym eo ∙ zo)))
            ∙ rw (none, ← ei, ← eo);
        leaves =
            e
            ∙ placed_same layout block given (around_block shape named code) image size (length_around shape named code ∙ length_gathered layout block image)
            (λ k h. same k (rw same_rows h));
      }

-- a lost verdict counts the lost lanes
lost_lanes_lem : (shape : Shape) (b : List ℕ) (e k : ℕ) → verdict_of shape b ≡ Lost e k → e + k ≡ lanes_lost shape b
unfolding verdict_of
lost_lanes_lem shape b e k = by (lanes_lost shape b) _ (kinds_lost shape b)
  where
    by : (lost changed : ℕ) → lanes_lost_as shape b even + lanes_lost_as shape b beyond ≡ lost
        → verdict lost (lanes_lost_as shape b) changed ≡ Lost e k
        → e + k ≡ lost
    by zero zero q says = let z : ◌≡◌ {A = ℕ} 0 1 = cc in absurd (omega arith)
    by zero (suc changed) q says = let z : ◌≡◌ {A = ℕ} 0 1 = cc in absurd (omega arith)
    by (suc lost) changed q says =
        let p : lanes_lost_as shape b even ≡ e = cc in
        let s : lanes_lost_as shape b beyond ≡ k = cc in
        omega arith

-- ---- the rows that are named

-- a row that is named is there, and no other is the same
pub named_row : (last r : ℕ) (named : List ℕ) → misnamed? last (r ∷ named) ≡ false
    → (1 ≤ r) × (r ≤ last) × (among? named r ≡ false) × (misnamed? last named ≡ false)
unfolding misnamed?
named_row last r named e =
    let p = neither (eqb r 0 || (ltb last r || among? named r)) (misnamed? last named) e in
    let q = neither (eqb r 0) (ltb last r || among? named r) p.0 in
    let s = neither (ltb last r) (among? named r) q.1 in
    (omega (arith, eqb-false r 0 q.0), ltb-false last r s.0, s.1, p.1)

another : (r q : ℕ) (named : List ℕ) → among? (q ∷ named) r ≡ false → (r ≡ q → ⊥) × (among? named r ≡ false)
unfolding among?
another r q named e = let p = neither (eqb r q) (among? named r) e in (eqb-false r q p.0, p.1)

pub three_named : (m : ℕ) (small : m < 128) (a b c : ℕ) → misnamed? (suc m) (rows_named a b c) ≡ false → Three m small a b c
three_named m small a b zero e =
    let p = named_row (suc m) a (b ∷ []) e in
    let q = named_row (suc m) b [] p.3 in
    record {
      a_row = (p.0, p.1);
      b_row = (q.0, q.1);
      c_row = inl refl;
      a_b = (another a b [] p.2).0;
      a_c = λ z. omega (arith, p.0);
      b_c = λ z. omega (arith, q.0);
    }
three_named m small a b (suc c) e =
    let p = named_row (suc m) a (b ∷ suc c ∷ []) e in
    let q = named_row (suc m) b (suc c ∷ []) p.3 in
    let s = named_row (suc m) (suc c) [] q.3 in
    let t = another a b (suc c ∷ []) p.2 in
    record {
      a_row = (p.0, p.1);
      b_row = (q.0, q.1);
      c_row = inr (s.0, s.1);
      a_b = t.0;
      a_c = (another a (suc c) [] t.1).0;
      b_c = (another b (suc c) [] q.2).0;
    }

-- ---- one row

module _ {image : List ℕ} {layout : Layout} {block : ℕ} {site : Site} {sums : List ℕ} (looked : Looked image layout block site sums)
    (r : ℕ) (named : misnamed? (rows site.shape) (r ∷ []) ≡ false) where
  low : 1 ≤ r
  low = (named_row (rows site.shape) r [] named).0

  high : r ≤ rows site.shape
  high = (named_row (rows site.shape) r [] named).1

  abbrev found : List ℕ
  found = gathered layout block image

  abbrev size : rows site.shape ≤ length found
  size = long looked

  abbrev wrong_in : ℕ
  wrong_in = wrong_lanes (mark (rows site.shape) r) sums

  abbrev left_in : ℕ
  left_in = left_lanes (mark (rows site.shape) r) sums

  abbrev turned : List ℕ
  turned = changed_at found (r - 1) wrong_in

  pub row_there : (1 ≤ r) × (r ≤ rows site.shape)
  row_there = (low, high)

  turned_held : Held looked turned
  turned_held = flip_held looked found (code_held looked) r low high wrong_in

  turned_long : rows site.shape ≤ length turned
  turned_long = rw turned_held.0 (rows_fit site.shape)

  -- what is decided by the sums once the mark is changed twice
  pub decides_turned : {mk odd outside : ℕ} {first second : List ℕ} (v : Verdict) → mk ≡ mark (rows site.shape) r → odd ≡ get_or sums 7 0
      → first ≡ changed_by mk odd sums
      → outside ≡ any_of 7 first
      → second ≡ changed_by mk outside first
      → Decides site.shape second v
      → Decides site.shape (turned_sums (mark (rows site.shape) r) sums) v
  decides_turned v m o f l s decides = rw (s, l, f, o, m) at decides

  module _ (v : Verdict) (decides : Decides site.shape (turned_sums (mark (rows site.shape) r) sums) v) where
    judged : v ≡ verdict_of site.shape turned
    judged = decided site.shape turned turned_long (one.second_are site.shape found size r low high looked.are) decides

    pub one_lost : (e b : ℕ) → v ≡ Lost e b → (e + b ≤ 32) × Mends image layout block site.shape (r ∷ []) (answers.LostAround (e + b)) image
    one_lost e b says =
        let lost = lost_lanes_lem site.shape turned e b (sym judged ∙ says) in (
          omega (arith, lost, few_lost site.shape turned),
          lost_mends looked r [] (e + b) (lost ∙ one.lost_turned site.shape found size r low high looked.are)
              (λ z. lost_some site.shape turned v judged e b says (sym lost ∙ z)),
        )

    module _ (kept : NotLost v) (now : List ℕ) (flipped : now ≡ changed_at image (site.at + (r - 1) * site.s) wrong_in) where
      none : lanes_lost site.shape turned ≡ 0
      none = not_lost site.shape turned v judged kept

      none_around : lanes_lost_around site.shape (r ∷ []) found ≡ 0
      none_around = sym (one.lost_turned site.shape found size r low high looked.are) ∙ none

      now_placed : now ≡ placed layout block turned image
      now_placed = flipped ∙ flip_placed looked found image (code_held looked) (sym (placed_gathered layout block image)) r low high wrong_in

      within : RowsTo (rows site.shape) (r ∷ [])
      within = (low, high, tt)

      -- no sum is left: the row alone was wrong
      pub one_alone : left_in ≡ 0 → Mends image layout block site.shape (r ∷ []) (answers.Mended (ones wrong_in) 0) now
      unfolding ones
      one_alone no-left =
          mended_mends looked (r ∷ []) within none_around (ones wrong_in) 0
          (sym (one.one_inside site.shape found size r low high looked.are none))
          (sym (one.one_outside site.shape found size r low high looked.are none ∙ ap ones no-left))
          turned now turned_held.0
          (λ j h.
          ap (λ (b : List ℕ). get_or b j 0) (sym (one.one_alone site.shape found size r low high looked.are none no-left))
          ∙ one.one_rows site.shape found size r low high looked.are none j h)
          now_placed

      -- and where one is, a visit mends the others
      pub one_visited : (after : List ℕ) → after ≡ visit_after now layout block
          → Mends image layout block site.shape (r ∷ []) (answers.Mended (ones wrong_in) (ones left_in)) after
      one_visited after e =
          mended_mends looked (r ∷ []) within none_around (ones wrong_in) (ones left_in)
          (sym (one.one_inside site.shape found size r low high looked.are none))
          (sym (one.one_outside site.shape found size r low high looked.are none))
          (mended_block site.shape turned) after
          (length_mended site.shape turned ∙ turned_held.0)
          (one.one_rows site.shape found size r low high looked.are none)
          (e ∙ visited)
        where
          held : gathered layout block now ≡ turned
          held =
              rw now_placed
              (gathered_placed layout block (accepted layout (length image) block (here looked).passed).geometry.s_first turned image
              (there layout block (length image) (here looked).passed) turned_held.0 turned_held.1)

          same_size : length now ≡ length image
          same_size = rw now_placed (length_placed layout block turned image)

          visited : visit_after now layout block ≡ placed layout block (mended_block site.shape turned) image
          visited =
              unfold visit_after in
              rw (same_size, (here looked).passed, held, ← (here looked).same_shape)
              (placed_over layout block (mended_block site.shape turned) now image same_size
              (λ i none. rw now_placed (placed_elsewhere layout block turned image i none)))

-- ---- two or three

-- a third row, if there is one, is not 0
more_named : (last a b : ℕ) (c : Option ℕ) → misnamed? last (more_rows a b c) ≡ false → more_rows a b c ≡ rows_named a b (row_or_none c)
more_named last a b None e = refl
more_named last a b (Some zero) e =
    let third = named_row last 0 [] (named_row last b (0 ∷ []) (named_row last a (b ∷ 0 ∷ []) e).3).3 in
    absurd (omega (arith, third.0))
more_named last a b (Some (suc c)) e = refl

module _ (shape : Shape) (a b : ℕ) (c : Option ℕ) (named : misnamed? (rows shape) (more_rows a b c) ≡ false) where
  pub as_named : more_rows a b c ≡ rows_named a b (row_or_none c)
  as_named = more_named (rows shape) a b c named

  pub three : Three (before shape) (before_small shape) a b (row_or_none c)
  three = three_named (before shape) (before_small shape) a b (row_or_none c) (rw as_named at named)

  -- a third that is there
  pub third_there : (r : ℕ) → c ≡ Some r → (1 ≤ r) × (r ≤ rows shape)
  third_there r e = (last.0, last.1)
    where
      here : misnamed? (rows shape) (a ∷ b ∷ r ∷ []) ≡ false
      here = rw e at named

      last : (1 ≤ r) × (r ≤ rows shape) × (among? [] r ≡ false) × (misnamed? (rows shape) [] ≡ false)
      last = named_row (rows shape) r [] (named_row (rows shape) b (r ∷ []) (named_row (rows shape) a (b ∷ r ∷ []) here).3).3

module _ {image : List ℕ} {layout : Layout} {block : ℕ} {site : Site} {sums : List ℕ} (looked : Looked image layout block site sums)
    (a b : ℕ) (third : Option ℕ) (fine : misnamed? (rows site.shape) (more_rows a b third) ≡ false) where
  abbrev seen : List ℕ
  seen = gathered layout block image

  abbrev c : ℕ
  c = row_or_none third

  all : Three (before site.shape) (before_small site.shape) a b c
  all = three site.shape a b third fine

  named_as : more_rows a b third ≡ rows_named a b c
  named_as = as_named site.shape a b third fine

  module _ {told : Told} {left : List ℕ} (solved : Solves sums (mark (rows site.shape) a) (mark (rows site.shape) b) (mark (rows site.shape) c) told left) where
    pub more_lost : any_of 7 left < 2 ^ 32 → (any_of 7 left ≡ 0 → ⊥)
        → Mends image layout block site.shape (more_rows a b third) (answers.LostAround (ones (any_of 7 left))) image
    more_lost small some = rw named_as (by c (more.lost_count site.shape seen (long looked) all looked.are solved small))
      where
        by : (c : ℕ) → ones (any_of 7 left) ≡ lanes_lost_around site.shape (rows_named a b c) seen
            → Mends image layout block site.shape (rows_named a b c) (answers.LostAround (ones (any_of 7 left))) image
        by zero e = lost_mends looked a (b ∷ []) (ones (any_of 7 left)) e (λ z. some (zero_from_ones (any_of 7 left) z))
        by (suc c) e = lost_mends looked a (b ∷ suc c ∷ []) (ones (any_of 7 left)) e (λ z. some (zero_from_ones (any_of 7 left) z))

    -- ---- where nothing is left

    module _ (none : any_of 7 left ≡ 0) (fa : told.a < 2 ^ 32) (fb : told.b < 2 ^ 32) (fc : told.c < 2 ^ 32) where
      -- the first two rows changed
      abbrev two : List ℕ
      two = changed_at (changed_at seen (a - 1) told.a) (b - 1) told.b

      abbrev three_flipped : List ℕ
      three_flipped = changed_at two (c - 1) told.c

      first_held : Held looked (changed_at seen (a - 1) told.a)
      first_held = flip_held looked seen (code_held looked) a all.a_row.0 all.a_row.1 told.a

      two_held : Held looked two
      two_held = flip_held looked (changed_at seen (a - 1) told.a) first_held b all.b_row.0 all.b_row.1 told.b

      two_placed : (first second : List ℕ) → first ≡ changed_at image (site.at + (a - 1) * site.s) told.a
          → second ≡ changed_at first (site.at + (b - 1) * site.s) told.b
          → second ≡ placed layout block two image
      two_placed first second e f =
          f
          ∙ flip_placed looked (changed_at seen (a - 1) told.a) first first_held
          (e ∙ flip_placed looked seen image (code_held looked) (sym (placed_gathered layout block image)) a all.a_row.0 all.a_row.1 told.a)
          b all.b_row.0 all.b_row.1 told.b

      two_row : (j : ℕ) → j < rows site.shape → get_or two j 0 ≡ bit_xor (bit_xor (get_or seen j 0) (pick (eqb (suc j) a) told.a)) (pick (eqb (suc j) b) told.b)
      two_row j h =
          let size = rows_fit site.shape in
          row_changed (changed_at seen (a - 1) told.a) b told.b all.b_row.0 j (omega (arith, first_held.0, size))
          ∙ ap (λ (w : ℕ). bit_xor w (pick (eqb (suc j) b) told.b))
          (row_changed seen a told.a all.a_row.0 j (omega (arith, length_gathered layout block image, size)))

      counted : ones told.a + ones told.b + ones told.c ≡ bits_inside site.shape (rows_named a b c) seen (around_block site.shape (rows_named a b c) seen)
      counted = sym (more.more_inside site.shape seen (long looked) all looked.are solved none fa fb fc)

      -- mended, where the rows given are those changed so
      mended_so : (given after : List ℕ) → length given ≡ 72 → after ≡ placed layout block given image
          → ((j : ℕ) → j < rows site.shape → get_or given j 0
          ≡ bit_xor (bit_xor (bit_xor (get_or seen j 0) (pick (eqb (suc j) a) told.a)) (pick (eqb (suc j) b) told.b)) (pick (eqb (suc j) c) told.c))
          → Mends image layout block site.shape (more_rows a b third) (answers.Mended (ones told.a + ones told.b + ones told.c) 0) after
      mended_so given after size e row =
          rw named_as
          (mended_mends looked (rows_named a b c) (three_within (before site.shape) (before_small site.shape) all)
          (more.more_none site.shape seen (long looked) all looked.are solved none fa fb fc)
          (ones told.a + ones told.b + ones told.c) 0 counted
          (sym (more.more_outside site.shape seen (long looked) all looked.are solved none fa fb fc))
          given after size
          (λ j h.
          let x = pick (eqb (suc j) a) told.a in
          let y = pick (eqb (suc j) b) told.b in
          let z = pick (eqb (suc j) c) told.c in
          row j h ∙ ap (λ (w : ℕ). bit_xor w z) (xor_assoc (get_or seen j 0) x y) ∙ xor_assoc (get_or seen j 0) (bit_xor x y) z
          ∙ ap (bit_xor (get_or seen j 0)) (xor_assoc x y z)
          ∙ more.more_row site.shape seen (long looked) all looked.are solved none fa fb fc j h)
          e)

      -- two rows
      pub more_two : third ≡ None → (first second : List ℕ) → first ≡ changed_at image (site.at + (a - 1) * site.s) told.a
          → second ≡ changed_at first (site.at + (b - 1) * site.s) told.b
          → Mends image layout block site.shape (more_rows a b third) (answers.Mended (ones told.a + ones told.b + ones told.c) 0) second
      more_two absent first second e f =
          let no_third : told.c ≡ 0 = solved.no_third (ap (λ (t : Option ℕ). mark (rows site.shape) (row_or_none t)) absent) in
          mended_so two second two_held.0 (two_placed first second e f)
          (λ j h. two_row j h ∙ sym (ap (λ (w : ℕ). bit_xor (bit_xor (bit_xor (get_or seen j 0) (pick (eqb (suc j) a) told.a)) (pick (eqb (suc j) b) told.b)) w)
          (ap (pick (eqb (suc j) c)) no_third ∙ pick_none (eqb (suc j) c)) ∙ xor_zero_r _))
        where
          pick_none : (t : Bool) → pick t 0 ≡ 0
          pick_none true = refl
          pick_none false = refl

      -- three
      pub more_three : (r : ℕ) → third ≡ Some r → (first second last : List ℕ) → first ≡ changed_at image (site.at + (a - 1) * site.s) told.a
          → second ≡ changed_at first (site.at + (b - 1) * site.s) told.b
          → last ≡ changed_at second (site.at + (r - 1) * site.s) told.c
          → Mends image layout block site.shape (more_rows a b third) (answers.Mended (ones told.a + ones told.b + ones told.c) 0) last
      more_three r present first second last e f g =
          let is : c ≡ r = ap row_or_none present in
          let there = third_there site.shape a b third fine r present in
          let low : 1 ≤ c = omega (arith, there.0, is) in
          let high : c ≤ rows site.shape = omega (arith, there.1, is) in
          mended_so three_flipped last (flip_held looked two two_held c low high told.c).0
          (g ∙ ap (λ (k : ℕ). changed_at second (site.at + (k - 1) * site.s) told.c) (sym is)
          ∙ flip_placed looked two second two_held (two_placed first second e f) c low high told.c)
          (λ j h.
          row_changed two c told.c low j (omega (arith, two_held.0, rows_fit site.shape))
          ∙ ap (λ (w : ℕ). bit_xor w (pick (eqb (suc j) c) told.c)) (two_row j h))
