-- Around named rows: what is decided of a lane is a lane that it may have been meant to be, lost says that there is none, and where at most three
-- rows are named there is never a second. Once over the rows of a lane, and for any list of named ones. Assumes nothing.
use Prim.Native.Nat.{ℕ, zero, suc, ◌+◌, ◌-◌, ◌≤◌, ◌<◌}
use mathlib.Core.Bool.{Bool, true, false, not, cond, ◌&&◌, ◌||◌, true≢false, and-false}
use mathlib.Core.Path.{◌≡◌, refl, sym, ap, ◌∙◌}
use mathlib.Core.List.{List, [], ◌∷◌}
use native.Mathlib.Omega.{arith}
use lib.Bits.{bit_xor, xor_zero_r}
use lib.Dec.{eqb, leb}
use lib.ListN.{length}
use borrow.Author.Tests.{leb-true, leb-false, ne_eqb, eqb-true}
use Rattle.lane.specs.Bit.{◌⊕◌, pick}
use Rattle.lane.specs.Lane.{Lane, sum, count, odd, Valid, diff, apart}
use Rattle.lane.specs.Decision.{decide, lost?, changes, mended}
use Rattle.lane.proofs.Bits.{⊕-zero, ⊕-one, pick_one}
use Rattle.lane.proofs.Linear.{count_same, valid_same}
use Rattle.lane.proofs.Distance.{empty, ⊕-same, near_equal}
use Rattle.lane.proofs.Decided.{only, flip_sum, flip_last, flip_odd}
use Rattle.lane.proofs.Mended.{⊕-cancel, count_empty, mended_valid, mended_near, near_kept}
use Rattle.lane.proofs.Few.{count_single}
use Rattle.around.specs.Named.{among?, spare?}
use Rattle.around.specs.Lane.{outside, MeantLane, weight, settled, lost_around?, changes_around, lane_lost?, lane_changes, lane_around}

-- each of the named rows is one of the rows 1 to last
abbrev pub RowsTo : ℕ → List ℕ → Type 0
RowsTo last [] = Unit {0}
RowsTo last (r ∷ named) = (1 ≤ r) × (r ≤ last) × RowsTo last named

pub ⊕-assoc : (a b c : Bool) → (a ⊕ b) ⊕ c ≡ a ⊕ (b ⊕ c)
⊕-assoc false b c = refl
⊕-assoc true false c = refl
⊕-assoc true true false = refl
⊕-assoc true true true = refl

-- ---- counts

pub count_below : (n : ℕ) (a b : Lane) → ((p : ℕ) → pick (a p) 1 ≤ pick (b p) 1) → count n a ≤ count n b
unfolding count
count_below zero a b h = omega arith
count_below (suc n) a b h = omega (arith, count_below n a b h, h (suc n))

count_three : (n : ℕ) (d a b c : Lane) → ((p : ℕ) → pick (d p) 1 ≤ pick (a p) 1 + pick (b p) 1 + pick (c p) 1)
    → count n d ≤ count n a + count n b + count n c
unfolding count
count_three zero d a b c h = omega arith
count_three (suc n) d a b c h = omega (arith, count_three n d a b c h, h (suc n))

count_or : (n : ℕ) (a b : Lane) → count n (λ p. a p || b p) ≤ count n a + count n b
unfolding count
count_or zero a b = omega arith
count_or (suc n) a b = omega (arith, count_or n a b, either (a (suc n)) (b (suc n)))
  where
    either : (x y : Bool) → pick (x || y) 1 ≤ pick x 1 + pick y 1
    either true y = omega arith
    either false y = omega arith

-- as many rows are named as the list is long, at most
count_among : (n : ℕ) (named : List ℕ) → count n (among? named) ≤ length named
unfolding among?
count_among n [] = omega (arith, count_empty n)
count_among n (r ∷ named) =
    omega (
      arith,
      count_or n (only r) (among? named),
      count_single n (only r) (r - 1) (λ j l ne. ne_eqb (suc j) r (λ e. ne (omega arith))),
      count_among n named,
    )

-- ---- a flip of a named row

module _ (m : ℕ) where
  flip_weight : (r : ℕ) (f : Lane) → 1 ≤ r → r ≤ suc m → sum m (diff f (only r)) ≡ bit_xor (sum m f) (weight m r)
  flip_weight r f l h = go (leb r m) refl
    where
      go : (t : Bool) → leb r m ≡ t → sum m (diff f (only r)) ≡ bit_xor (sum m f) (cond t r 0)
      go true e = flip_sum m r f l (leb-true r m e)
      go false e =
          let k = leb-false r m e in
          let last : r ≡ suc m = omega arith in
          ap (λ (q : ℕ). sum m (diff f (only q))) last ∙ flip_last m f ∙ sym (xor_zero_r (sum m f))

  flip_not : (r : ℕ) (f : Lane) → 1 ≤ r → r ≤ suc m → odd (suc m) (diff f (only r)) ≡ not (odd (suc m) f)
  flip_not r f l h = flip_odd m r f l h ∙ ⊕-one (odd (suc m) f)

  -- ---- what is decided may have been meant

  -- the lane with some rows changed is valid, and outside the named rows no more changed than is spare
  pub record Sound (spare : Bool) (named : List ℕ) (f change : Lane) : Type 0 where
    pub valid : Valid m (diff f change)
    pub near : count (suc m) (λ p. not (among? named p) && change p) ≤ pick spare 1

  sound_none : (spare : Bool) (f : Lane) (o : Bool) (s : ℕ) → odd (suc m) f ≡ o → sum m f ≡ s → lost? (settled spare m o s) ≡ false
      → Sound spare [] f (changes (settled spare m o s))
  unfolding among?
  sound_none true f o s eo es ok =
      let kept : lost? (decide m f) ≡ false = rw (eo, es) ok in
      rw (← eo, ← es) (record {
        valid = mended_valid m f kept;
        near =
            rw (← count_same (suc m) (diff f (mended m f)) (changes (decide m f)) (λ j l. ⊕-cancel (f (suc j)) (changes (decide m f) (suc j))))
            (mended_near m f kept);
      })
  sound_none false f false zero eo es ok =
      record {
        valid = valid_same m f _ (λ j l. sym (⊕-zero (f (suc j)))) (record { sum_zero = es; even = eo });
        near = omega (arith, count_empty (suc m));
      }
  sound_none false f false (suc s) eo es ok = absurd (true≢false ok)
  sound_none false f true s eo es ok = absurd (true≢false ok)

  -- one row more is named, and is as it was found
  module _ (spare : Bool) (r : ℕ) (named : List ℕ) (f change : Lane) where
    sound_kept : Sound spare named f change → Sound spare (r ∷ named) f change
    unfolding among?
    sound_kept h =
        record {
          valid = h.valid;
          near = omega (
            arith,
            h.near,
            count_below (suc m) (λ p. not (among? (r ∷ named) p) && change p) (λ p. not (among? named p) && change p)
                (λ p. fewer (eqb p r) (among? named p) (change p)),
          );
        }
      where
        fewer : (t n c : Bool) → pick (not (t || n) && c) 1 ≤ pick (not n && c) 1
        fewer true n c = omega arith
        fewer false n c = omega arith

    -- or is changed first
    sound_flipped : Sound spare named (diff f (only r)) change → Sound spare (r ∷ named) f (λ p. eqb p r ⊕ change p)
    unfolding among?
    sound_flipped h =
        record {
          valid = valid_same m _ _ (λ j l. ⊕-assoc (f (suc j)) (eqb (suc j) r) (change (suc j))) h.valid;
          near = omega (
            arith,
            h.near,
            count_below (suc m) (λ p. not (among? (r ∷ named) p) && (eqb p r ⊕ change p)) (λ p. not (among? named p) && change p)
                (λ p. fewer (eqb p r) (among? named p) (change p)),
          );
        }
      where
        fewer : (t n c : Bool) → pick (not (t || n) && (t ⊕ c)) 1 ≤ pick (not n && c) 1
        fewer true n c = omega arith
        fewer false n c = omega arith

  sound : (spare : Bool) (named : List ℕ) (f : Lane) (o : Bool) (s : ℕ) → odd (suc m) f ≡ o → sum m f ≡ s → RowsTo (suc m) named
      → lost_around? spare m named o s ≡ false
      → Sound spare named f (changes_around spare m named o s)
  unfolding lost_around? changes_around
  sound spare [] f o s eo es within ok = sound_none spare f o s eo es ok
  sound spare (r ∷ named) f o s eo es within ok =
      by (lost_around? spare m named o s) refl ok
      (sound spare named f o s eo es within.2)
      (sound spare named (diff f (only r)) (not o) (bit_xor s (weight m r))
      (flip_not r f within.0 within.1 ∙ ap not eo)
      (flip_weight r f within.0 within.1 ∙ ap (λ (x : ℕ). bit_xor x (weight m r)) es)
      within.2)
    where
      by : (t : Bool) → lost_around? spare m named o s ≡ t
          → t && lost_around? spare m named (not o) (bit_xor s (weight m r)) ≡ false
          → (lost_around? spare m named o s ≡ false → Sound spare named f (changes_around spare m named o s))
          → (lost_around? spare m named (not o) (bit_xor s (weight m r)) ≡ false
          → Sound spare named (diff f (only r)) (changes_around spare m named (not o) (bit_xor s (weight m r))))
          → Sound spare (r ∷ named) f
          (λ p. cond t (eqb p r ⊕ changes_around spare m named (not o) (bit_xor s (weight m r)) p) (changes_around spare m named o s p))
      by true e ok as-found changed = sound_flipped spare r named f _ (changed ok)
      by false e ok as-found changed = sound_kept spare r named f _ (as-found e)

  -- ---- where there is a lane that may have been meant, none is lost

  complete_none : (spare : Bool) (f g : Lane) (o : Bool) (s : ℕ) → odd (suc m) f ≡ o → sum m f ≡ s → Valid m g → apart m f g ≤ pick spare 1
      → lost? (settled spare m o s) ≡ false
  complete_none true f g o s eo es v h = rw (← eo, ← es) (near_kept m f g v h)
  complete_none false f g o s eo es v h =
      let same = valid_same m g f (λ j l. sym (⊕-same (f (suc j)) (g (suc j)) (empty (suc m) (diff f g) (omega arith) j l))) v in
      rw (← eo, ← es, same.even, same.sum_zero) refl

  complete : (spare : Bool) (named : List ℕ) (f g : Lane) (o : Bool) (s : ℕ) → odd (suc m) f ≡ o → sum m f ≡ s → RowsTo (suc m) named
      → Valid m g
      → count (suc m) (outside named f g) ≤ pick spare 1
      → lost_around? spare m named o s ≡ false
  unfolding lost_around? among?
  complete spare [] f g o s eo es within v h = complete_none spare f g o s eo es v h
  complete spare (r ∷ named) f g o s eo es within v h =
      by (diff f g r) refl
      (complete spare named f g o s eo es within.2 v)
      (complete spare named (diff f (only r)) g (not o) (bit_xor s (weight m r))
      (flip_not r f within.0 within.1 ∙ ap not eo)
      (flip_weight r f within.0 within.1 ∙ ap (λ (x : ℕ). bit_xor x (weight m r)) es)
      within.2 v)
    where
      -- outside the other rows no more is wrong, once the row is as it was meant
      kept : diff f g r ≡ false → (p : ℕ) → pick (not (among? named p) && diff f g p) 1 ≤ pick (not (eqb p r || among? named p) && diff f g p) 1
      kept e p = go (eqb p r) refl
        where
          go : (t : Bool) → eqb p r ≡ t → pick (not (among? named p) && diff f g p) 1 ≤ pick (not (t || among? named p) && diff f g p) 1
          go true q =
              rw (ap (diff f g) (eqb-true p r q) ∙ e, and-false) (omega arith)
          go false q = omega arith

      flipped : diff f g r ≡ true
          → (p : ℕ) → pick (not (among? named p) && diff (diff f (only r)) g p) 1 ≤ pick (not (eqb p r || among? named p) && diff f g p) 1
      flipped e p = go (eqb p r) refl
        where
          undone : (a b : Bool) → a ⊕ b ≡ true → (a ⊕ true) ⊕ b ≡ false
          undone false true d = refl
          undone true false d = refl
          undone false false d = sym d
          undone true true d = sym d

          go : (t : Bool) → eqb p r ≡ t → pick (not (among? named p) && ((f p ⊕ t) ⊕ g p)) 1 ≤ pick (not (t || among? named p) && diff f g p) 1
          go true q = rw (undone (f p) (g p) (ap (diff f g) (eqb-true p r q) ∙ e), and-false) (omega arith)
          go false q = rw (⊕-zero (f p)) (omega arith)

      by : (t : Bool) → diff f g r ≡ t
          → (count (suc m) (outside named f g) ≤ pick spare 1 → lost_around? spare m named o s ≡ false)
          → (count (suc m) (outside named (diff f (only r)) g) ≤ pick spare 1
          → lost_around? spare m named (not o) (bit_xor s (weight m r)) ≡ false)
          → lost_around? spare m named o s && lost_around? spare m named (not o) (bit_xor s (weight m r)) ≡ false
      by false e as-found changed = rw (as-found (omega (arith, h, count_below (suc m) (outside named f g) (outside (r ∷ named) f g) (kept e))))
      by true e as-found changed =
          rw (changed (omega (arith, h, count_below (suc m) (outside named (diff f (only r)) g) (outside (r ∷ named) f g) (flipped e))))
          (and-false (lost_around? spare m named o s))

  -- ---- in the words of the definition

  module _ (named : List ℕ) (f : Lane) (within : RowsTo (suc m) named) where
    pub around_meant : lane_lost? m named f ≡ false → MeantLane m named f (lane_around m named f)
    around_meant ok =
        let s = sound (spare? named) named f _ _ refl refl within ok in
        record {
          valid = s.valid;
          near =
              rw (count_same (suc m) (outside named f (lane_around m named f)) (λ p. not (among? named p) && lane_changes m named f p)
              (λ j l. ap (λ (b : Bool). not (among? named (suc j)) && b) (⊕-cancel (f (suc j)) (lane_changes m named f (suc j)))))
              s.near;
        }

    pub meant_kept : (g : Lane) → MeantLane m named f g → lane_lost? m named f ≡ false
    meant_kept g h = complete (spare? named) named f g _ _ refl refl within h.valid h.near

  -- ---- never a second

  pub never_second : (named : List ℕ) (f g h : Lane) → length named ≤ 3 → MeantLane m named f g → MeantLane m named f h
      → (j : ℕ) → j < suc m → g (suc j) ≡ h (suc j)
  never_second named f g h few u v =
      near_equal m g h u.valid v.valid
      (omega (
        arith,
        count_three (suc m) (diff g h) (among? named) (outside named f g) (outside named f h) (λ p. far (among? named p) (f p) (g p) (h p)),
        count_among (suc m) named,
        u.near,
        v.near,
        room named few,
      ))
    where
      far : (n f g h : Bool) → pick (g ⊕ h) 1 ≤ pick n 1 + pick (not n && (f ⊕ g)) 1 + pick (not n && (f ⊕ h)) 1
      far true f g h = omega (arith, pick_one (g ⊕ h))
      far false false false h = omega arith
      far false false true false = omega arith
      far false false true true = omega arith
      far false true false false = omega arith
      far false true false true = omega arith
      far false true true false = omega arith
      far false true true true = omega arith

      room : (named : List ℕ) → length named ≤ 3 → length named + pick (spare? named) 1 + pick (spare? named) 1 ≤ 3
      room [] l = omega arith
      room (a ∷ []) l = omega arith
      room (a ∷ b ∷ named) l = omega arith

  -- so the lane that is left is the one that was meant
  pub meant_left : (named : List ℕ) (f g : Lane) → RowsTo (suc m) named → length named ≤ 3 → MeantLane m named f g
      → (j : ℕ) → j < suc m → g (suc j) ≡ lane_around m named f (suc j)
  meant_left named f g within few h = never_second named f g _ few h (around_meant named f within (meant_kept named f within g h))
