-- A sound plan stays sound under asks and turns, and what these do to the waiting list, over the capacity of its line. Assumes nothing.
use Prim.Native.Nat.{ℕ, zero, suc, ◌≤◌, ◌<◌}
use mathlib.Core.Bool.{Bool, true, false, not, cond, ◌&&◌}
use mathlib.Core.Path.{◌≡◌, refl, sym, ◌∙◌}
use mathlib.Core.List.{List, [], ◌∷◌, ◌++◌, append-nil}
use mathlib.Core.Logic.{◌⊎◌, inl, inr, ⊎_elim}
use native.Mathlib.Omega.{arith}
use lib.ListN.{length, drop, length-append}
use lib.Dec.{ltb, eqb, eqb-suc-zero}
use borrow.Author.Tests.{ltb-true, ltb-false, leb-false}
use Rattle.ground.specs.Choice.{if_zero}
use Rattle.ground.specs.Ladder.{◌when◌else◌}
use Rattle.ground.proofs.Bools.{both}
use Rattle.rota.specs.Line.{place, below, none_twice, full}
use Rattle.rota.specs.Plan.{Plan, start}
use Rattle.rota.specs.Asking.{ask_refusal, given, lengthened, ask_place, joined}
use Rattle.rota.specs.Turning.{onward, moved_on}
use Rattle.rota.proofs.Waiting.{below_snoc, once_snoc, place_le, Stands, stands_last, stands_at}

-- ---- the next block

pub onward_cases : (n k : ℕ) → k < n → ((suc k < n) × (onward n k ≡ suc k)) ⊎ ((suc k ≡ n) × (onward n k ≡ 0))
onward_cases n k h = go (ltb (suc k) n) refl
  where
    go : (t : Bool) → ltb (suc k) n ≡ t → ((suc k < n) × (cond t (suc k) 0 ≡ suc k)) ⊎ ((suc k ≡ n) × (cond t (suc k) 0 ≡ 0))
    go true e = inl (ltb-true (suc k) n e, refl)
    go false e = inr (omega (arith, ltb-false (suc k) n e), refl)

onward_lt : (n k : ℕ) → k < n → onward n k < n
onward_lt n k h = ⊎_elim (λ e. rw e.1 e.0) (λ e. rw e.1 (omega arith)) (onward_cases n k h)

module _ (capacity : ℕ) where
  pub record Sound (n : ℕ) (p : Plan) : Type 0 where
    pub inside : p.next < n
    pub few : length p.asks ≤ capacity
    pub low : below n p.asks ≡ true
    pub once : none_twice p.asks ≡ true

  pub start_sound : (n : ℕ) → 1 ≤ n → Sound n start
  unfolding below none_twice
  start_sound n h = record { inside = h; few = omega arith; low = refl; once = refl }

  -- ---- ask

  -- the plan after an ask, refused or not
  unfoldable pub ask_after : ℕ → Plan → ℕ → Plan
  ask_after n plan block = if_zero (ask_refusal capacity n plan block) (joined plan block) plan

  module _ (n : ℕ) (p : Plan) (b : ℕ) where
    pub ask_sound : Sound n p → Sound n (ask_after n p b)
    unfolding ask_after ask_refusal
    ask_sound s = go (ltb b n) refl (place b p.asks) refl (full capacity p.asks) refl
      where
        go : (t : Bool) → ltb b n ≡ t → (k : ℕ) → place b p.asks ≡ k → (u : Bool) → full capacity p.asks ≡ u
            → Sound n (if_zero (6 when not t else 8 when eqb k 0 && u else 0) (record { next = p.next; asks = lengthened k b p.asks }) p)
        go false e k f u g = s
        go true e zero f true g = s
        go true e zero f false g =
            record {
              inside = s.inside;
              few = rw length-append (omega (arith, leb-false capacity (length p.asks) g));
              low = below_snoc n b p.asks s.low e;
              once = once_snoc b p.asks s.once f;
            }
        go true e (suc k) f u g = rw (eqb-suc-zero k) (record { inside = s.inside; few = s.few; low = s.low; once = s.once })

    -- an ask adds at the end, if anywhere
    pub ask_few : Sound n p → ask_refusal capacity n p b ≡ 0 → length (joined p b).asks ≤ capacity
    unfolding ask_after
    ask_few s z = (rw z at ask_sound s).few

    pub ask_adds : (l : List ℕ) × ((ask_after n p b).asks ≡ p.asks ++ l) × ((ask_after n p b).next ≡ p.next)
    unfolding ask_after
    ask_adds = go (ask_refusal capacity n p b) (place b p.asks)
      where
        go : (v k : ℕ) → let q = if_zero v (record { next = p.next; asks = lengthened k b p.asks }) p in
            (l : List ℕ) × (q.asks ≡ p.asks ++ l) × (q.next ≡ p.next)
        go zero zero = (b ∷ [], refl, refl)
        go zero (suc k) = ([], sym (append-nil p.asks), refl)
        go (suc v) k = ([], sym (append-nil p.asks), refl)

    -- an ask that is accepted stands at the place that it is given
    pub ask_stands : (k : ℕ) → ask_refusal capacity n p b ≡ 0 → ask_place p b ≡ suc k → Stands b k (ask_after n p b).asks
    unfolding ask_after
    ask_stands k z e = rw z (go (place b p.asks) refl e)
      where
        go : (j : ℕ) → place b p.asks ≡ j → given j p.asks ≡ suc k → Stands b k (lengthened j b p.asks)
        go zero f e = let z : length p.asks ≡ k = omega arith in rw (← z) (stands_last b p.asks)
        go (suc j) f e = stands_at b p.asks k (f ∙ e)

    -- and that place is one of the line
    pub ask_place_lem : Sound n p → ask_refusal capacity n p b ≡ 0 → (1 ≤ ask_place p b) × (ask_place p b ≤ capacity)
    unfolding ask_refusal
    ask_place_lem s z = go (ltb b n) (place b p.asks) refl (full capacity p.asks) refl z
      where
        go : (t : Bool) (k : ℕ) → place b p.asks ≡ k → (u : Bool) → full capacity p.asks ≡ u
            → (6 when not t else 8 when eqb k 0 && u else 0) ≡ 0 → (1 ≤ given k p.asks) × (given k p.asks ≤ capacity)
        go false k f u g z = absurd (omega arith)
        go true zero f true g z = absurd (omega arith)
        go true zero f false g z = (omega arith, omega (arith, leb-false capacity (length p.asks) g))
        go true (suc k) f u g z = (omega arith, omega (arith, place_le b p.asks, s.few))

  -- ---- turn

  tail_sound : (n k : ℕ) (l : List ℕ) → k < n → length l ≤ capacity → below n l ≡ true → none_twice l ≡ true → Sound n (record { next = k; asks = drop 1 l })
  unfolding below none_twice
  tail_sound n k [] h a b c = record { inside = h; few = a; low = b; once = c }
  tail_sound n k (x ∷ l) h a b c =
      record { inside = h; few = omega arith; low = (both (ltb x n) (below n l) b).1; once = (both (eqb (place x l) 0) (none_twice l) c).1 }

  pub turn_sound : (n : ℕ) (p : Plan) → Sound n p → Sound n (moved_on n p)
  turn_sound n p s = tail_sound n (onward n p.next) p.asks (onward_lt n p.next s.inside) s.few s.low s.once
