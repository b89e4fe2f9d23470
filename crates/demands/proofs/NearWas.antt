-- An image in which every block is at most one bit a lane off a valid one: what a burst leaves, and what each visit leaves of it. Assumes nothing.
use Prim.Native.Nat.{ℕ, suc, ◌+◌, ◌*◌, ◌/◌, ◌≤◌, ◌<◌}
use mathlib.Core.Bool.{Bool, true, true≢false}
use mathlib.Core.Path.{◌≡◌, refl, sym, ap, subst, ◌∙◌}
use mathlib.Core.List.{List, [], ◌∷◌}
use mathlib.Core.Logic.{◌⊎◌, inl, inr, ⊎_elim, by_cases}
use native.Mathlib.Decide.{ℕ_discrete, dec_lt}
use native.Mathlib.Omega.{arith}
use lib.ListN.{length, get_or}
use lib.Seq.{ext_get_or}
use Rattle.ground.proofs.Choices.{refused_kept}
use Rattle.lane.specs.Bit.{bit, ◌⊕◌}
use Rattle.lane.specs.Lane.{diff, apart}
use Rattle.lane.proofs.Few.{count_once}
use Rattle.lane.proofs.Mended.{⊕-self}
use Rattle.shape.specs.declared.Shape.{Shape}
use Rattle.shape.specs.Shape.{before}
use Rattle.shape.proofs.Sizes.{rows_fit}
use Rattle.stored.specs.Stored.{complemented}
use Rattle.stored.proofs.Forms.{complemented_twice}
use Rattle.sums.specs.Words.{lane}
use Rattle.block.specs.Block.{Fitting, Near, SameRows, data_of}
use Rattle.block.specs.Verdict.{Said, unsaid}
use Rattle.layout.specs.declared.Layout.{Layout}
use Rattle.layout.specs.Layout.{shape_of, rows_of, blocks, index}
use Rattle.layout.specs.Refusal.{block_refusal}
use Rattle.layout.proofs.Ladder.{accepted, block_accepted, image_exact}
use Rattle.layout.proofs.Index.{one_to_one}
use Rattle.layout.proofs.RowsInside.{interleaved}
use Rattle.store.specs.Answer.{Answer}
use Rattle.refusal.specs.Refusal.{answer_number}
use Rattle.store.specs.Image.{stored_rows, gathered}
use Rattle.store.specs.Read.{Reads}
use Rattle.store.specs.Visit.{Visits, visit_answer, visit_after}
use Rattle.store.proofs.After.{visit_untouched, visit_words_lem}
use Rattle.store.proofs.Image.{length_rows, rows_row, rows_words}
use Rattle.store.proofs.Ladder.{data_accepted}
use Rattle.store.proofs.Promises.{visits}
use Rattle.demands.specs.Demand2.{Meant, Visiting, SaysLost}
use Rattle.demands.specs.Burst.{AllValid, Within, Reach, words_from, bytes_from, Hit, Short, Burst, RowsPair, VisitsInOrder, Comes, EveryBlock}
use Rattle.demands.proofs.Demand2.{demand_2}
use Rattle.demands.specs.Steps.{flipped}
use Rattle.demands.proofs.Flips.{length_flipped, flipped_words, other_bit}
use Rattle.demands.proofs.Index.{block_at, rows_past, row_below, index_at, block_inside, rows_apart}
use Rattle.demands.proofs.SameBlocks.{same_apart, same_data}

-- ---- a lane of a block, some bits changed

-- bit i of a word is not what it was
abbrev pub Differs : (i at : ℕ) → (image spoiled : List ℕ) → Type 0
Differs i at image spoiled = bit i (get_or spoiled at 0) ≡ bit i (get_or image at 0) → ⊥

module _ (layout : Layout) (image spoiled : List ℕ) (block i : ℕ) where
  -- it is so in row k + 1
  abbrev Off : ℕ → Type 0
  Off k = Differs i (index layout block (suc k)) image spoiled

  abbrev offs : ℕ → Bool
  offs = diff (lane i (stored_rows layout block spoiled)) (lane i (stored_rows layout block image))

  off_row : (k : ℕ) → k < rows_of layout → offs (suc k) ≡ true → Off k
  off_row k h t same =
      let was = lane i (stored_rows layout block image) (suc k) in
      let stored : (words : List ℕ) → lane i (stored_rows layout block words) (suc k) ≡ bit i (get_or words (index layout block (suc k)) 0) =
      λ words. ap (bit i) (rows_row layout block words k h) in
      true≢false (sym t ∙ ap (λ (b : Bool). b ⊕ was) (stored spoiled ∙ same ∙ sym (stored image)) ∙ ⊕-self was)

  -- changed in no two rows, it is off by at most one bit
  lone_near : ((j k : ℕ) → j < k → k < rows_of layout → Off j → Off k → ⊥)
      → apart (before (shape_of layout)) (lane i (stored_rows layout block spoiled)) (lane i (stored_rows layout block image)) ≤ 1
  lone_near lone = count_once (rows_of layout) offs (λ j k l h t u. lone j k l h (off_row j (omega arith) t) (off_row k h u))

  -- changed in s neighbouring words alone, it is too
  pub window_near : (start : ℕ) → ((at : ℕ) → Differs i at image spoiled → Within layout.s start at)
      → apart (before (shape_of layout)) (lane i (stored_rows layout block spoiled)) (lane i (stored_rows layout block image)) ≤ 1
  window_near start window =
      lone_near
      (λ j k l h u v.
      omega (arith, (window (index layout block (suc j)) u).0, (window (index layout block (suc k)) v).1, rows_apart layout block j k l))

-- ---- a burst

pub within? : (n start at : ℕ) → Dec (Within n start at)
within? n start at =
    by_cases (dec_lt at start) (λ l. no (λ w. omega (arith, w.0)))
    (λ l. by_cases (dec_lt at (start + n)) (λ m. yes (omega arith, m)) (λ m. no (λ w. omega (arith, w.1))))

hit? : (reach : Reach) (at i : ℕ) → Dec (Hit reach at i)
hit? (words_from n start) at i = within? n start at
hit? (bytes_from place n start) at i = within? n start (4 * at + place (i / 8))

-- a bit that is changed is one of the burst's
off_hit : (reach : Reach) (image spoiled : List ℕ) → Burst reach image spoiled
    → (at i : ℕ) → Differs i at image spoiled → Hit reach at i
off_hit reach image spoiled burst at i off = by_cases (hit? reach at i) (λ w. w) (λ ne. absurd (off (burst.elsewhere at i ne)))

-- it is too short to hit the same bit of two words that are s apart
hits_near : (layout : Layout) (reach : Reach) → Short layout reach → (a b i : ℕ) → a + layout.s ≤ b → Hit reach a i → Hit reach b i → ⊥
hits_near layout (words_from n start) short a b i far u v = omega (arith, short, u.0, v.1)
hits_near layout (bytes_from place n start) short a b i far u v = omega (arith, short, u.0, v.1)

-- with one more of its bits flipped it is a burst there still
pub burst_flip : (reach : Reach) (image spoiled : List ℕ) (at nth : ℕ) → Hit reach at nth → Burst reach image spoiled
    → Burst reach image (flipped at nth spoiled)
burst_flip reach image spoiled at nth hit burst =
    record {
      size = length_flipped at nth spoiled ∙ burst.size;
      words = flipped_words at nth spoiled burst.words;
      elsewhere = λ a i ne. other_bit at nth spoiled a i (λ e f. ne (rw (e, f) hit)) ∙ burst.elsewhere a i ne;
    }

-- no burst at all
pub burst_none : (reach : Reach) (image : List ℕ) → Fitting image → Burst reach image image
burst_none reach image small = record { size = refl; words = small; elsewhere = λ at i ne. refl }

-- ---- an image that is near the one that was

module _ (layout : Layout) (image : List ℕ) (all : AllValid layout image) where
  abbrev shape : Shape
  shape = shape_of layout

  abbrev stored : ℕ → List ℕ → List ℕ
  stored block words = stored_rows layout block words

  pub record NearWas (now : List ℕ) : Type 0 where
    pub size : length now ≡ length image
    pub words : Fitting now
    pub near : (block : ℕ) → block < blocks layout → Near shape (stored block now) (stored block image)

  -- a block is as it was
  abbrev pub AsWas : ℕ → List ℕ → Type 0
  AsWas block now = SameRows shape (stored block now) (stored block image)

  -- a burst that changes no lane of a block in two rows
  lone_leaves : (reach : Reach) (spoiled : List ℕ) → Burst reach image spoiled
      → ((block j k i : ℕ) → j < k → k < rows_of layout → i < 32 → Hit reach (index layout block (suc j)) i → Hit reach (index layout block (suc k)) i
      → Differs i (index layout block (suc j)) image spoiled
      → Differs i (index layout block (suc k)) image spoiled
      → ⊥)
      → NearWas spoiled
  lone_leaves reach spoiled burst lone =
      record {
        size = burst.size;
        words = burst.words;
        near = λ block h i low.
            lone_near layout image spoiled block i
            (λ j k l b u v.
            lone block j k i l b low (off_hit reach image spoiled burst (index layout block (suc j)) i u)
            (off_hit reach image spoiled burst (index layout block (suc k)) i v)
            u
            v);
      }

  pub burst_leaves : (reach : Reach) (spoiled : List ℕ) → Short layout reach → Burst reach image spoiled → NearWas spoiled
  burst_leaves reach spoiled short burst =
      lone_leaves reach spoiled burst
      (λ block j k i l b low first last u v.
      hits_near layout reach short (index layout block (suc j)) (index layout block (suc k)) i (rows_apart layout block j k l) first last)

  -- s + 1 words, where the first and the last are no two rows of a block with a bit changed in common
  module _ (start : ℕ) (spoiled : List ℕ) (burst : Burst (words_from (suc layout.s) start) image spoiled) where
    pub wider_leaves : ((block k i : ℕ) → RowsPair layout k → i < 32 → index layout block (suc k) ≡ start
        → Differs i start image spoiled
        → Differs i (start + layout.s) image spoiled
        → ⊥)
        → NearWas spoiled
    wider_leaves lone =
        lone_leaves (words_from (suc layout.s) start) spoiled burst
        (λ block j k i l b low first last u v.
        let far = rows_apart layout block j k l in
        let at_first : index layout block (suc j) ≡ start = omega (arith, first.0, last.1, far) in
        let at_last : index layout block (suc k) ≡ start + layout.s = omega (arith, first.0, last.1, far) in
        lone block j i (omega arith) low at_first (subst (λ (at : ℕ). Differs i at image spoiled) at_first u)
        (subst (λ (at : ℕ). Differs i at image spoiled) at_last v))

  -- from a block's last row on they are not
  pub border_leaves : (block : ℕ) (spoiled : List ℕ) → Burst (words_from (suc layout.s) (index layout block (rows_of layout))) image spoiled
      → NearWas spoiled
  border_leaves last spoiled burst =
      wider_leaves (index layout last (rows_of layout)) spoiled burst
      (λ block k i pair low same u v.
      let q =
      one_to_one (rows_of layout) layout.s (interleaved layout (length image) all.fits) block (suc k) last (rows_of layout) (omega arith)
      (omega (arith, pair))
      (omega arith)
      (omega arith)
      same in
      omega (arith, q.1, pair))

  -- where every block is as it was, the image is
  pub all_as_was : (now : List ℕ) → length now ≡ length image → ((block : ℕ) → block < blocks layout → AsWas block now) → now ≡ image
  all_as_was now size same =
      ext_get_or 0 now image size
      (λ at h.
      let first = interleaved layout (length image) all.fits in
      let block = block_at layout at in
      let k = rows_past layout at in
      let low = row_below layout at in
      let word : (words : List ℕ) → get_or words at 0 ≡ get_or (stored block words) k 0 =
      λ words. ap (λ (j : ℕ). get_or words j 0) (sym (index_at layout first at)) ∙ sym (rows_row layout block words k low) in
      let inside = block_inside layout first at (omega (arith, image_exact layout (length image) all.fits, size, h)) in
      word now ∙ same block inside k low ∙ sym (word image))

  -- ---- a visit

  module _ (now : List ℕ) (ok : NearWas now) (block : ℕ) where
    meant : block < blocks layout → Meant shape (stored block now) (stored block image)
    meant h =
        record {
          whole = rw (length_rows layout block image) (rows_fit shape);
          words = rows_words layout block image all.words;
          valid = all.valid block (omega (arith, h));
          near = ok.near block h;
        }

    passed : block < blocks layout → block_refusal (length now) layout block ≡ 0
    passed h = rw ok.size (block_accepted layout (length image) block all.fits h)

    module _ (answer : Answer) (after : List ℕ) (v : Visits now layout block answer after) where
      pub visit_accepted : block < blocks layout → answer_number answer ≡ 0
      visit_accepted h = v.answers.number ∙ passed h

      visiting : block < blocks layout → Visiting now layout block answer after
      visiting h = demand_2.visit now layout block answer after ok.words v (visit_accepted h)

      pub visit_kept : SaysLost answer → ⊥
      visit_kept says =
          by_cases (ℕ_discrete (block_refusal (length now) layout block) 0)
          (λ e.
          let inside = (accepted layout (length now) block e).inside in
          (visiting inside).mends.lost.0 says (stored block image) (meant inside))
          (λ ne.
          let silent = v.answers.says ∙ refused_kept (block_refusal (length now) layout block) _ unsaid ne in
          omega (arith, says, ap (λ (said : Said). said.verdict) silent))

      pub visit_restores : block < blocks layout → AsWas block after
      visit_restores h j l = sym ((visiting h).mends.only (stored block image) (meant h) j l)

      -- the others are as they were found
      other_rows : (other : ℕ) → (other ≡ block → ⊥) → stored other after ≡ stored other now
      unfolding gathered
      other_rows other ne =
          let same = ap (gathered layout other) v.leaves ∙ (visit_untouched now layout block).others other ne in
          sym (complemented_twice (stored other after)) ∙ ap complemented same ∙ complemented_twice (stored other now)

      pub visit_leaves : NearWas after
      visit_leaves =
          record {
            size = ap length v.leaves ∙ (visit_untouched now layout block).size ∙ ok.size;
            words = rw v.leaves (visit_words_lem now layout block ok.words);
            near = λ other h.
                by_cases (ℕ_discrete other block)
                (λ e i l. rw e (omega (arith, same_apart shape (stored block after) (stored block image) (visit_restores (rw e at h)) i)))
                (λ ne. rw (other_rows other ne) (ok.near other h));
          }

      pub visit_keeps : (other : ℕ) → other < blocks layout → AsWas other now → AsWas other after
      visit_keeps other h same =
          by_cases (ℕ_discrete other block) (λ e. rw e (visit_restores (rw e at h))) (λ ne. rw (other_rows other ne) same)

    -- ---- a read

    pub read_kept : (buffer : List ℕ) (answer : Answer) (kept filled : List ℕ) → Reads now layout block buffer answer kept filled → answer_number answer ≡ 0
        → (SaysLost answer → ⊥) × (filled ≡ data_of shape (stored block image))
    read_kept buffer answer kept filled r z =
        let visited = visit_answer now layout block in
        let after = visit_after now layout block in
        let v = visits now layout block {answer = visited} {after = after} refl refl in
        let reading = demand_2.read now layout block buffer answer kept filled ok.words r z visited after v in
        let passed = (data_accepted (length now) layout block (length buffer) (sym r.answers.number ∙ z)).0 in
        let inside = (accepted layout (length now) block passed).inside in
        let not_lost : SaysLost answer → ⊥ = λ says. visit_kept visited after v (subst SaysLost reading.same says) in (
          not_lost,
          reading.mended not_lost ∙ same_data shape (stored block after) (stored block image) (visit_restores visited after v inside),
        )

  -- ---- visits in order

  pub order_leaves : (order now after : List ℕ) → NearWas now → VisitsInOrder layout order now after
      → NearWas after × ((block : ℕ) → block < blocks layout → Comes block order ⊎ AsWas block now → AsWas block after)
  unfolding VisitsInOrder Comes
  order_leaves [] now after ok v = rw v (ok, λ block h. ⊎_elim (λ none. absurd none) (λ same. same))
  order_leaves (first ∷ rest) now after ok v =
      let answer = v.0 in
      let between = v.1 in
      let one = v.2 in
      let later = order_leaves rest between after (visit_leaves now ok first answer between one) v.3 in (
        later.0,
        λ block h.
            ⊎_elim
            (⊎_elim
            (λ e. later.1 block h (inr (rw (← e) (visit_restores now ok first answer between one (rw e h)))))
            (λ comes. later.1 block h (inl comes)))
            (λ same. later.1 block h (inr (visit_keeps now ok first answer between one block h same))),
      )

  pub order_restores : (order now after : List ℕ) → NearWas now → EveryBlock layout order → VisitsInOrder layout order now after → after ≡ image
  order_restores order now after ok every v =
      let left = order_leaves order now after ok v in
      all_as_was after left.0.size (λ block h. left.1 block h (inl (every block (omega (arith, h)))))
