-- Words changed where the rows of a block lie: the block with those rows changed is placed, and nothing else. Assumes nothing.
use Prim.Native.Nat.{ℕ, zero, suc, ◌-◌, ◌≤◌, ◌<◌}
use mathlib.Core.Path.{◌≡◌, sym, ap, ◌∙◌}
use mathlib.Core.List.{List}
use mathlib.Core.Logic.{by_cases, ⊎_elim}
use native.Mathlib.Nat.{eq-or-lt_of_le, le_of_suc-le-suc}
use native.Mathlib.Decide.{ℕ_discrete}
use native.Mathlib.Omega.{arith}
use lib.Bits.{bit_xor, xor_zero_r}
use lib.ListN.{length, get_or, length-set}
use lib.Seq.{ext_get_or, get_or-set_same, get_or-set_other}
use Rattle.lane.proofs.Bits.{xor_swap}
use Rattle.lane.proofs.Rows.{split_below}
use Rattle.ground.specs.Stores.{stores}
use Rattle.ground.proofs.Stores.{length_stores, stores_agree}
use Rattle.shape.proofs.Sizes.{rows_fit}
use Rattle.stored.specs.Stored.{mask, complemented_in, complemented}
use Rattle.stored.proofs.Forms.{row_complemented}
use Rattle.block.specs.Block.{SameRows}
use Rattle.layout.specs.declared.Layout.{Layout}
use Rattle.layout.specs.Layout.{shape_of, rows_of, index}
use Rattle.layout.specs.Refusal.{block_refusal}
use Rattle.layout.proofs.Index.{one_to_one, in_range}
use Rattle.layout.proofs.Ladder.{accepted}
use Rattle.store.specs.Image.{gathered, placed, with_rows}
use Rattle.store.proofs.Image.{length_gathered, gathered_rest, gathered_row, length_placed, placed_gathered, placed_elsewhere, gathered_placed}
use Rattle.around.specs.Inner.{changed_at}

xor_late : (x y z : ℕ) → bit_xor (bit_xor x y) z ≡ bit_xor (bit_xor x z) y
xor_late x y z = ap (bit_xor (bit_xor x y)) (sym (xor_zero_r z)) ∙ xor_swap x y z 0 ∙ ap (bit_xor (bit_xor x z)) (xor_zero_r y)

-- a run of stores into lists that agree where it does not store
stores_over : (d e : List ℕ) (f v : ℕ → ℕ) (i n : ℕ) → i < length d → length d ≡ length e
    → (((k : ℕ) → k < n → i ≡ f k → ⊥) → get_or d i 0 ≡ get_or e i 0)
    → get_or (stores d f v n) i 0 ≡ get_or (stores e f v n) i 0
unfolding stores
stores_over d e f v i zero h len agree = agree (λ k l. absurd (omega arith))
stores_over d e f v i (suc n) h len agree =
    by_cases (ℕ_discrete i (f n))
    (λ q.
    rw q
    (get_or-set_same (stores d f v n) (f n) (v n) 0 (omega (arith, length_stores d f v n))
    ∙ sym (get_or-set_same (stores e f v n) (f n) (v n) 0 (omega (arith, length_stores e f v n)))))
    (λ ne.
    get_or-set_other (stores d f v n) (f n) i (v n) 0 ne
    ∙ stores_over d e f v i n h len
    (λ none.
    agree (λ k l q. ⊎_elim (λ last. ne (q ∙ ap f last)) (λ before. none k before q) (eq-or-lt_of_le (le_of_suc-le-suc l))))
    ∙ sym (get_or-set_other (stores e f v n) (f n) i (v n) 0 ne))

module _ (layout : Layout) (block : ℕ) where
  -- what a block is placed over counts only elsewhere
  pub placed_over : (given a b : List ℕ) → length a ≡ length b
      → ((i : ℕ) → ((p : ℕ) → 1 ≤ p → p ≤ rows_of layout → i ≡ index layout block p → ⊥) → get_or a i 0 ≡ get_or b i 0)
      → placed layout block given a ≡ placed layout block given b
  unfolding placed with_rows
  placed_over given a b len agree =
      let f : ℕ → ℕ = λ k. index layout block (suc k) in
      let v : ℕ → ℕ = λ k. get_or (complemented given) k 0 in
      ext_get_or 0 _ _ (length_stores a f v (rows_of layout) ∙ len ∙ sym (length_stores b f v (rows_of layout)))
      (λ i h.
      stores_over a b f v i (rows_of layout) (omega (arith, length_stores a f v (rows_of layout))) len
      (λ none. agree i (λ p first last q. by p first last q none)))
    where
      by : {i : ℕ} (p : ℕ) → 1 ≤ p → p ≤ rows_of layout → i ≡ index layout block p → ((k : ℕ) → k < rows_of layout → i ≡ index layout block (suc k) → ⊥) → ⊥
      by zero first last q none = omega arith
      by (suc k) first last q none = none k last q

  -- a block is placed by its rows
  pub placed_same : (a b image : List ℕ) → length a ≡ 72 → length b ≡ 72 → SameRows (shape_of layout) a b
      → placed layout block a image ≡ placed layout block b image
  unfolding placed with_rows
  placed_same a b image la lb same =
      stores_agree image (λ k. index layout block (suc k)) _ _ (rows_of layout)
      (λ k h.
      row_complemented a k (omega (arith, rows_fit (shape_of layout))) ∙ ap (complemented_in (suc k)) (same k h)
      ∙ sym (row_complemented b k (omega (arith, rows_fit (shape_of layout)))))

  -- ---- in an image where the block lies

  module _ (len : ℕ) (passed : block_refusal len layout block ≡ 0) where
    first : 1 ≤ layout.s
    first = (accepted layout len block passed).geometry.s_first

    pub there : (p : ℕ) → 1 ≤ p → p ≤ rows_of layout → index layout block p < len
    there p l h =
        let ok = accepted layout len block passed in
        rw ok.exact (in_range (rows_of layout) layout.s ok.geometry.s_first layout.g block p ok.inside l h)

    module _ (r : ℕ) (low : 1 ≤ r) (high : r ≤ rows_of layout) (w : ℕ) where
      -- a word of the block changed where it lies
      gathered_changed : (image : List ℕ) → length image ≡ len
          → gathered layout block (changed_at image (index layout block r) w) ≡ changed_at (gathered layout block image) (r - 1) w
      gathered_changed image size =
          ext_get_or 0 _ _
          (length_gathered layout block (changed_at image (index layout block r) w)
          ∙ sym (length-set (gathered layout block image) (r - 1) _ ∙ length_gathered layout block image))
          (λ k h. ⊎_elim (row k) (rest k) (split_below k (rows_of layout)))
        where
          at : ℕ
          at = index layout block r

          code : List ℕ
          code = gathered layout block image

          changed : List ℕ
          changed = changed_at image (index layout block r) w

          row : (k : ℕ) → k < rows_of layout → get_or (gathered layout block changed) k 0 ≡ get_or (changed_at code (r - 1) w) k 0
          row k h =
              gathered_row layout block changed k h
              ∙ by_cases (ℕ_discrete (suc k) r)
              (λ e.
              let j : k ≡ r - 1 = omega arith in
              ap (complemented_in (suc k))
              (ap (λ (p : ℕ). get_or changed (index layout block p) 0) e
              ∙ get_or-set_same image (index layout block r) (bit_xor (get_or image (index layout block r) 0) w) 0 (rw size (there r low high)))
              ∙ xor_late (get_or image (index layout block r) 0) w (mask (suc k))
              ∙ ap (λ (p : ℕ). bit_xor (complemented_in (suc k) (get_or image (index layout block p) 0)) w) (sym e)
              ∙ ap (λ (x : ℕ). bit_xor x w) (sym (gathered_row layout block image k h))
              ∙ sym
              (ap (λ (p : ℕ). get_or (changed_at code (r - 1) w) p 0) j
              ∙ get_or-set_same code (r - 1) (bit_xor (get_or code (r - 1) 0) w) 0
              (omega (arith, length_gathered layout block image, rows_fit (shape_of layout)))
              ∙ ap (λ (p : ℕ). bit_xor (get_or code p 0) w) (sym j)))
              (λ ne.
              ap (complemented_in (suc k))
              (get_or-set_other image (index layout block r) (index layout block (suc k)) (bit_xor (get_or image (index layout block r) 0) w) 0
              (λ q. ne (one_to_one (rows_of layout) layout.s first block (suc k) block r (omega arith) h low high q).1))
              ∙ sym (gathered_row layout block image k h)
              ∙ sym (get_or-set_other code (r - 1) k (bit_xor (get_or code (r - 1) 0) w) 0 (λ q. ne (omega arith))))

          rest : (k : ℕ) → rows_of layout ≤ k → get_or (gathered layout block changed) k 0 ≡ get_or (changed_at code (r - 1) w) k 0
          rest k h =
              gathered_rest layout block changed k h
              ∙ sym (get_or-set_other code (r - 1) k (bit_xor (get_or code (r - 1) 0) w) 0 (λ q. omega arith) ∙ gathered_rest layout block image k h)

      -- places the block with that row changed
      pub changed_placed : (code image : List ℕ) → length image ≡ len → length code ≡ 72 → ((k : ℕ) → rows_of layout ≤ k → get_or code k 0 ≡ 0)
          → changed_at (placed layout block code image) (index layout block r) w ≡ placed layout block (changed_at code (r - 1) w) image
      changed_placed code image size long zeros =
          let now = placed layout block code image in
          let now_size : length now ≡ len = length_placed layout block code image ∙ size in
          let at = index layout block r in
          let held : gathered layout block now ≡ code =
          gathered_placed layout block first code image (λ p l h. rw size (there p l h)) long zeros in
          sym (placed_gathered layout block (changed_at now at w))
          ∙ ap (λ (b : List ℕ). placed layout block b (changed_at now at w)) (gathered_changed now now_size ∙ ap (λ (b : List ℕ). changed_at b (r - 1) w) held)
          ∙ placed_over (changed_at code (r - 1) w) (changed_at now at w) image
          (length-set now at (bit_xor (get_or now at 0) w) ∙ now_size ∙ sym size)
          (λ i none.
          get_or-set_other now at i (bit_xor (get_or now at 0) w) 0 (none r low high) ∙ placed_elsewhere layout block code image i none)
