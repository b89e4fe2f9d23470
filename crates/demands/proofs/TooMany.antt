-- s + 1 neighbouring words hold two rows of a block, where no group ends between: with the same bit of both changed, no valid block is near. Assumes nothing.
use Prim.Native.Nat.{ℕ, zero, suc, ◌+◌, ◌≤◌, ◌<◌}
use mathlib.Core.Bool.{Bool, true, false, not}
use mathlib.Core.Path.{◌≡◌, refl, sym, ap, subst, ◌∙◌}
use mathlib.Core.List.{List}
use mathlib.Core.Logic.{by_cases}
use native.Mathlib.Decide.{ℕ_discrete}
use native.Mathlib.Nat.{add-zero, suc-mul}
use native.Mathlib.Omega.{arith}
use lib.ListN.{length, get_or, set}
use lib.Seq.{get_or-set_same, get_or-set_other}
use Rattle.lane.specs.Bit.{bit, ◌⊕◌}
use Rattle.lane.specs.Lane.{diff, apart}
use Rattle.lane.proofs.Distance.{light, empty, ⊕-same, apart_between}
use Rattle.lane.proofs.Few.{count_two}
use Rattle.lane.proofs.Linear.{valid_diff}
use Rattle.shape.specs.Shape.{before, rows}
use Rattle.shape.proofs.Sizes.{rows_fit}
use Rattle.stored.specs.Stored.{complemented}
use Rattle.sums.specs.Words.{lane}
use Rattle.block.specs.Block.{Fitting}
use Rattle.layout.specs.declared.Layout.{Layout}
use Rattle.layout.specs.Layout.{shape_of, rows_of, blocks, index}
use Rattle.layout.specs.Refusal.{block_refusal}
use Rattle.layout.proofs.Index.{stride}
use Rattle.layout.proofs.Ladder.{block_accepted}
use Rattle.layout.proofs.RowsInside.{interleaved, row_inside}
use Rattle.store.specs.Image.{stored_rows}
use Rattle.store.proofs.Image.{length_rows, rows_row}
use Rattle.store.proofs.StoredBlocks.{apart_stored}
use Rattle.demands.specs.Demand2.{Meant}
use Rattle.demands.specs.Burst.{AllValid, Within, Reach, words_from, bytes_from, Hit, Burst, OneMore, Changed, flipped_in, Loses}
use Rattle.demands.proofs.Demand2.{demand_2}
use Rattle.demands.proofs.Flips.{this_bit, other_bit}
use Rattle.demands.proofs.NearWas.{window_near, within?, burst_flip, burst_none}

⊕-not : (a b : Bool) → a ≡ not b → a ⊕ b ≡ true
⊕-not a b e = ap (λ (x : Bool). x ⊕ b) e ∙ go b
  where
    go : (x : Bool) → not x ⊕ x ≡ true
    go false = refl
    go true = refl

-- a bit that is not what it was is the other one
pub other_bool : (a b : Bool) → (a ≡ b → ⊥) → a ≡ not b
other_bool false false ne = absurd (ne refl)
other_bool false true ne = refl
other_bool true false ne = refl
other_bool true true ne = absurd (ne refl)

-- rows k + 1 and k + 2 of a block, the second s words after the first
module _ (layout : Layout) (image : List ℕ) (all : AllValid layout image) (block k i : ℕ) (inside : block < blocks layout) (high : suc k < rows_of layout)
    (low : i < 32) where
  abbrev start : ℕ
  start = index layout block (suc k)

  next_row : index layout block (suc (suc k)) ≡ start + layout.s
  next_row = omega (arith, stride (rows_of layout) layout.s block k, stride (rows_of layout) layout.s block (suc k), suc-mul k layout.s)

  first_inside : start < length image
  first_inside = row_inside layout (length image) all.fits block (suc k) inside (omega arith) (omega arith)

  last_inside : start + layout.s < length image
  last_inside = rw (← next_row) (row_inside layout (length image) all.fits block (suc (suc k)) inside (omega arith) high)

  module _ (spoiled : List ℕ) (size : length spoiled ≡ length image) (small : Fitting spoiled)
      (elsewhere : (at : ℕ) → (Within (suc layout.s) start at → ⊥) → bit i (get_or spoiled at 0) ≡ bit i (get_or image at 0))
      (first : Changed i start image spoiled)
      (last : Changed i (start + layout.s) image spoiled) where
    abbrev m : ℕ
    m = before (shape_of layout)

    abbrev now : List ℕ
    now = stored_rows layout block spoiled

    abbrev was : List ℕ
    was = stored_rows layout block image

    -- the spoiled image with the first word as it was
    abbrev mid : List ℕ
    mid = set spoiled start (get_or image start 0)

    mid_word : (at : ℕ) → (at ≡ start → ⊥) → get_or mid at 0 ≡ get_or spoiled at 0
    mid_word at ne = get_or-set_other spoiled start at (get_or image start 0) 0 ne

    mid_first : get_or mid start 0 ≡ get_or image start 0
    mid_first = get_or-set_same spoiled start (get_or image start 0) 0 (rw size first_inside)

    -- in this lane it differs from the spoiled one in one word, and from the one that was in s others: so in one row of the block each
    first_off : apart m (lane i (stored_rows layout block mid)) (lane i now) ≤ 1
    first_off =
        window_near layout spoiled mid block i start
        (λ at off.
        by_cases (ℕ_discrete at start) (λ e. (omega arith, omega (arith, interleaved layout (length image) all.fits)))
        (λ ne. absurd (off (ap (bit i) (mid_word at ne)))))

    others_off : apart m (lane i (stored_rows layout block mid)) (lane i was) ≤ 1
    others_off =
        window_near layout image mid block i (suc start)
        (λ at off.
        by_cases (ℕ_discrete at start) (λ e. absurd (off (ap (bit i) (rw e mid_first))))
        (λ ne.
        by_cases (within? (suc layout.s) start at) (λ w. (omega (arith, w.0, ne), omega (arith, w.1)))
        (λ out. absurd (off (ap (bit i) (mid_word at ne) ∙ elsewhere at out)))))

    -- so the lane is changed in at most two bits
    two_off : apart m (lane i now) (lane i was) ≤ 2
    two_off = omega (arith, first_off, others_off, apart_between m (lane i (stored_rows layout block mid)) (lane i now) (lane i was))

    -- and in two
    changed : (j : ℕ) → j < rows_of layout → Changed i (index layout block (suc j)) image spoiled → lane i now (suc j) ≡ not (lane i was (suc j))
    changed j h c = ap (bit i) (rows_row layout block spoiled j h) ∙ c ∙ ap (λ (w : ℕ). not (bit i w)) (sym (rows_row layout block image j h))

    -- a valid block within one bit a lane would be the one that was, which it is not
    none_meant : (other : List ℕ) → Meant (shape_of layout) now other → ⊥
    none_meant other meant =
        let near = meant.near i low in
        let tall : rows (shape_of layout) ≤ length was = rw (length_rows layout block image) (rows_fit (shape_of layout)) in
        let stored = apart_stored (shape_of layout) was other tall meant.whole i in
        let same =
        light m (diff (lane i (complemented was)) (lane i (complemented other))) (valid_diff (all.valid block inside i low) (meant.valid i low))
        (omega (arith, two_off, near, stored, apart_between m (lane i now) (lane i was) (lane i other))) in
        let as_was : (j : ℕ) → j < rows_of layout → lane i was (suc j) ≡ lane i other (suc j) =
        λ j h. ⊕-same _ _ (empty (rows_of layout) (diff (lane i was) (lane i other)) (sym stored ∙ same) j h) in
        let off : (j : ℕ) → j < rows_of layout → Changed i (index layout block (suc j)) image spoiled → diff (lane i now) (lane i other) (suc j) ≡ true =
        λ j h c. ⊕-not _ _ (changed j h c ∙ ap not (as_was j h)) in
        count_two (rows_of layout) (diff (lane i now) (lane i other)) k (suc k) (omega arith) high
        (off k (omega arith) first)
        (off (suc k) high (rw next_row last))
        near

    pair_lost : Loses layout block spoiled
    pair_lost answer after v =
        let passed : block_refusal (length spoiled) layout block ≡ 0 = rw size (block_accepted layout (length image) block all.fits inside) in
        let visiting = demand_2.visit spoiled layout block answer after small v (v.answers.number ∙ passed) in
        let says = visiting.mends.lost.1 none_meant in (says, visiting.lost_unaltered says)

  -- with one more than s words, or than 4·s bytes, bit i is hit in s + 1 words at most
  one_more : (reach : Reach) → OneMore layout start i reach → (at : ℕ) → Hit reach at i → Within (suc layout.s) start at
  one_more (words_from n from) more at hit = (omega (arith, more.1, hit.0), omega (arith, more.0, more.1, hit.1))
  one_more (bytes_from place n from) more at hit = (omega (arith, more.1, hit.0), omega (arith, more.0, more.1, hit.1))

  pub burst_lost : (spoiled : List ℕ) (reach : Reach) → OneMore layout start i reach → Burst reach image spoiled → Changed i start image spoiled
      → Changed i (start + layout.s) image spoiled
      → Loses layout block spoiled
  burst_lost spoiled reach more burst =
      pair_lost spoiled burst.size burst.words (λ at out. burst.elsewhere at i (λ hit. out (one_more reach more at hit)))

  -- ---- one bit flipped in each of n words

  flipped_burst : (reach : Reach) (n : ℕ) → ((k : ℕ) → k < n → Hit reach (start + k) i) → Burst reach image (flipped_in i n start image)
  unfolding flipped_in
  flipped_burst reach zero hits = burst_none reach image all.words
  flipped_burst reach (suc n) hits =
      burst_flip reach image (flipped_in i n start image) (start + n) i (hits n (omega arith)) (flipped_burst reach n (λ k h. hits k (omega arith)))

  words_hit : (n k : ℕ) → k < n → Hit (words_from n start) (start + k) i
  words_hit n k h = (omega arith, omega arith)

  more_hit : (reach : Reach) → OneMore layout start i reach → (k : ℕ) → k < suc layout.s → Hit reach (start + k) i
  more_hit (words_from n from) more k h = (omega (arith, more.1), omega (arith, more.0, more.1))
  more_hit (bytes_from place n from) more k h = (omega (arith, more.1), omega (arith, more.0, more.1))

  pub more_burst : (reach : Reach) → OneMore layout start i reach → Burst reach image (flipped_in i (suc layout.s) start image)
  more_burst reach more = flipped_burst reach (suc layout.s) (more_hit reach more)

  flipped_changed : (n j : ℕ) → j < n → start + j < length image → Changed i (start + j) image (flipped_in i n start image)
  unfolding flipped_in
  flipped_changed zero j h l = absurd (omega arith)
  flipped_changed (suc n) j h l =
      let x = flipped_in i n start image in
      let b = flipped_burst (words_from n start) n (words_hit n) in
      by_cases (ℕ_discrete j n)
      (λ e.
      rw e (this_bit (start + n) i x low (rw (b.size, ← e) l) ∙ ap not (b.elsewhere (start + n) i (λ w. omega (arith, w.1)))))
      (λ ne. other_bit (start + n) i x (start + j) i (λ e f. ne (omega arith)) ∙ flipped_changed n j (omega arith) l)

  pub flipped_lost : Loses layout block (flipped_in i (suc layout.s) start image)
  flipped_lost =
      let s = layout.s in
      let left = flipped_in i (suc s) start image in
      let first = flipped_changed (suc s) 0 (omega arith) (omega (arith, first_inside)) in
      burst_lost left (words_from (suc s) start) (refl, refl) (more_burst (words_from (suc s) start) (refl, refl))
      (subst (λ (at : ℕ). Changed i at image left) (add-zero start) first)
      (flipped_changed (suc s) s (omega arith) last_inside)
