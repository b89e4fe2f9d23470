-- Laws of a line over its capacity: what its test tells, what it says, and one block more or less. Assumes nothing.
use Prim.Native.Nat.{suc, ◌+◌, ◌-◌, ◌≤◌, ◌<◌}
use mathlib.Core.Bool.{Bool, true, false, ◌&&◌}
use mathlib.Core.Path.{◌≡◌, refl, sym, ap, ◌∙◌}
use mathlib.Core.List.{List, [], ◌∷◌, ◌++◌, append_assoc}
use native.Mathlib.Omega.{arith}
use lib.ListN.{length, drop, set, replicate, length-take, length-drop, length-append, length-replicate, take-append-drop, replicate-append-replicate}
use lib.Seq.{length-take-le, take-append_seam, drop-append_seam, set-append_seam, append_snoc}
use lib.Dec.{leb}
use Rattle.std.specs.Prelude.{ℕ, zero, Some, None, get_or, take}
use borrow.Author.Tests.{leb-true, leb-false, le-leb, lt-leb}
use Rattle.ground.proofs.Bools.{both}
use Rattle.rota.specs.Line.{below, none_twice, zeros, first_of, asks_of, unused_of, full, sound, line_of, longer, shorter, Tidy}
use Rattle.rota.specs.declared.line.Line.{Line}
use Rattle.rota.proofs.Places.{zeros_replicate, replicate_zeros}

-- two lines with the same parts
line_same : {w v : ℕ} {l m : List ℕ} → w ≡ v → l ≡ m → ◌≡◌ {A = Line} (record { waiting = w; asks = l }) (record { waiting = v; asks = m })
line_same e f i = record { waiting = e i; asks = f i }

module _ (capacity : ℕ) where
  -- ---- the test

  pub record Fit (n : ℕ) (line : Line) : Type 0 where
    pub few : line.waiting ≤ capacity
    pub low : below n (asks_of line) ≡ true
    pub once : none_twice (asks_of line) ≡ true
    pub spare : zeros (unused_of line) ≡ true

  pub sound_fit : (n : ℕ) (line : Line) → sound capacity n line ≡ true → Fit n line
  unfolding sound
  sound_fit n line e =
      let l = asks_of line in
      let z = zeros (unused_of line) in
      let a = both (leb line.waiting capacity) ((below n l && none_twice l) && z) e in
      let b = both (below n l && none_twice l) z a.1 in
      let c = both (below n l) (none_twice l) b.0 in
      record { few = leb-true line.waiting capacity a.0; low = c.0; once = c.1; spare = b.1 }

  pub sound_many : (n : ℕ) (line : Line) → capacity < line.waiting → false ≡ sound capacity n line
  unfolding sound
  sound_many n line h = rw (lt-leb line.waiting capacity h)

  pub sound_is : (n : ℕ) (line : Line) → line.waiting ≤ capacity → (t u : Bool)
      → t ≡ (below n (asks_of line) && none_twice (asks_of line)) → u ≡ zeros (unused_of line) → t && u ≡ sound capacity n line
  unfolding sound
  sound_is n line h t u e f = rw (le-leb line.waiting capacity h, e, f)

  -- ---- a list, and the line that says it

  pub said_long : (l : List ℕ) → length l ≤ capacity → length (line_of capacity l).asks ≡ capacity
  said_long l h = length-append l (replicate (capacity - length l) 0) ∙ omega (arith, length-replicate {A = ℕ} (capacity - length l) 0)

  pub list_said : (l : List ℕ) → asks_of (line_of capacity l) ≡ l
  list_said l = take-append_seam l (replicate (capacity - length l) 0)

  pub said_sound : (n : ℕ) (l : List ℕ) → length l ≤ capacity → below n l ≡ true → none_twice l ≡ true → sound capacity n (line_of capacity l) ≡ true
  unfolding sound
  said_sound n l few low once =
      rw (le-leb (length l) capacity few, list_said l, drop-append_seam l (replicate (capacity - length l) 0), low, once)
      (replicate_zeros (capacity - length l))

  -- one block more
  said_longer : (l : List ℕ) (b : ℕ) → length l < capacity
      → record { waiting = length l + 1; asks = set (line_of capacity l).asks (length l) b } ≡ line_of capacity (l ++ b ∷ [])
  said_longer l b h =
      let n = length-append l (b ∷ []) in
      let e : capacity - length l ≡ suc (capacity - length (l ++ b ∷ [])) = omega arith in
      line_same (sym n)
      (ap (λ (k : ℕ). set (l ++ replicate k 0) (length l) b) e
      ∙ set-append_seam l 0 (replicate (capacity - length (l ++ b ∷ [])) 0) b
      ∙ sym (append_snoc l b (replicate (capacity - length (l ++ b ∷ [])) 0)))

  -- one block less
  said_shorter : (l : List ℕ) → 0 < length l → length l ≤ capacity
      → record { waiting = length l - 1; asks = drop 1 (line_of capacity l).asks ++ 0 ∷ [] } ≡ line_of capacity (drop 1 l)
  said_shorter [] h k = absurd (omega arith)
  said_shorter (a ∷ l) h k =
      let e : (capacity - suc (length l)) + 1 ≡ capacity - length l = omega arith in
      line_same (omega arith)
      (append_assoc l (replicate (capacity - suc (length l)) 0) (0 ∷ [])
      ∙ ap (λ (x : List ℕ). l ++ x) (replicate-append-replicate (capacity - suc (length l)) 1 0 ∙ ap (λ (j : ℕ). replicate j 0) e))

  -- ---- a line of as many places

  module _ (line : Line) (long : length line.asks ≡ capacity) where
    pub full_is : leb capacity line.waiting ≡ full capacity (asks_of line)
    full_is = go (leb capacity line.waiting) refl
      where
        go : (t : Bool) → leb capacity line.waiting ≡ t → t ≡ full capacity (asks_of line)
        go true e = sym (le-leb capacity (length (asks_of line)) (omega (arith, leb-true capacity line.waiting e, length-take line.waiting line.asks)))
        go false e =
            sym (lt-leb capacity (length (asks_of line)) (omega (arith, leb-false capacity line.waiting e, length-take line.waiting line.asks)))

    pub sound_tidy : (n : ℕ) → sound capacity n line ≡ true → Tidy capacity line
    sound_tidy n e =
        let fit = sound_fit n line e in
        let w = length-take-le line.waiting line.asks (omega (arith, fit.few)) in
        let d = length-drop line.waiting line.asks in
        let r : length (unused_of line) ≡ capacity - length (asks_of line) = omega arith in
        line_same w
        (ap (λ (x : List ℕ). asks_of line ++ x) (sym (zeros_replicate (unused_of line) fit.spare ∙ ap (λ (k : ℕ). replicate k 0) r))
        ∙ take-append-drop line.waiting line.asks)

    module _ (tidy : Tidy capacity line) where
      waiting_is : length (asks_of line) ≡ line.waiting
      waiting_is = ap (λ (x : Line). x.waiting) tidy

      pub longer_is : (b : ℕ) → line.waiting < capacity
          → record { waiting = line.waiting + 1; asks = set line.asks line.waiting b } ≡ longer capacity line b
      longer_is b h =
          ap (λ (x : Line). record { waiting = x.waiting + 1; asks = set x.asks x.waiting b }) (sym tidy)
          ∙ said_longer (asks_of line) b (omega (arith, waiting_is))

      pub shorter_is : 0 < line.waiting → record { waiting = line.waiting - 1; asks = drop 1 line.asks ++ 0 ∷ [] } ≡ shorter capacity line
      shorter_is h =
          ap (λ (x : Line). record { waiting = x.waiting - 1; asks = drop 1 x.asks ++ 0 ∷ [] }) (sym tidy)
          ∙ said_shorter (asks_of line) (omega (arith, waiting_is)) (omega (arith, long, length-take line.waiting line.asks))

-- ---- the block at place 1

two_due : (w : ℕ) (l : List ℕ) → 0 < w → 0 < length l → Some (get_or l 0 0) ≡ first_of (take w l)
two_due zero l h k = absurd (omega arith)
two_due (suc w) [] h k = absurd (omega arith)
two_due (suc w) (a ∷ l) h k = refl

pub first_is : (line : Line) → 0 < line.waiting → 0 < length line.asks → Some (get_or line.asks 0 0) ≡ first_of (asks_of line)
first_is line h k = two_due line.waiting line.asks h k

pub none_shorter : (capacity : ℕ) (line : Line) → Tidy capacity line → line.waiting ≡ 0
    → (None ≡ first_of (asks_of line)) × (line ≡ shorter capacity line)
none_shorter capacity line tidy z = (rw z refl, sym (rw z (rw z at tidy)))

pub room : (capacity : ℕ) (line : Line) → length line.asks ≡ capacity → full capacity (asks_of line) ≡ false → line.waiting < capacity
room capacity line long e = leb-false capacity line.waiting (full_is capacity line long ∙ e)
