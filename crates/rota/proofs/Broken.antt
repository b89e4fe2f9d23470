-- The test of a line, and that of a record, fail exactly where they are broken in one of the stated ways. Assumes nothing.
use Prim.Native.Nat.{ℕ, ◌+◌, ◌-◌, ◌≤◌, ◌<◌}
use mathlib.Core.Bool.{false}
use mathlib.Core.Path.{◌≡◌, sym, ap, subst, ◌∙◌}
use mathlib.Core.Logic.{◌⊎◌, inl, inr, ⊎_elim, ◌↔◌}
use native.Mathlib.Omega.{arith}
use lib.ListN.{length, get_or, length-take, length-drop}
use lib.Seq.{get_or-take, get_or-drop}
use Rattle.ground.proofs.Told.{Told, told_same, told_or, told_exactly, ltb_told, leb_told}
use Rattle.rota.specs.Line.{places, asks_of, unused_of, sound}
use Rattle.rota.specs.Record.{unbroken}
use Rattle.rota.specs.Broken.{InUse, waits, BrokenLine, too_many, ask_outside, ask_twice, not_empty, Broken, next_outside, line_broken}
use Rattle.rota.specs.declared.line.Line.{Line}
use Rattle.rota.specs.declared.Rota.{Rota}
use Rattle.rota.proofs.ListTold.{Some, below_told, zeros_told, Twice, twice_told}

-- ---- the places in use

module _ (line : Line) where
  pub used : (k : ℕ) → k < length (asks_of line) → InUse line k
  used k h = let e = length-take line.waiting line.asks in (omega arith, omega arith)

  pub used_inside : (k : ℕ) → InUse line k → k < length (asks_of line)
  used_inside k u = omega (arith, length-take line.waiting line.asks, u.0, u.1)

  pub used_waits : (k : ℕ) → k < line.waiting → get_or (asks_of line) k 0 ≡ waits line k
  used_waits k h = get_or-take line.waiting line.asks k 0 h

  pub some_used : (P : ℕ → Type 0) (k : ℕ) → InUse line k → P (waits line k) → Some P (asks_of line)
  some_used P k u p = record { at = k; inside = used_inside k u; has = subst P (sym (used_waits k u.0)) p }

  pub used_some : (P : ℕ → Type 0) (s : Some P (asks_of line)) → P (waits line s.at)
  used_some P s = subst P (used_waits s.at (used s.at s.inside).0) s.has

-- ---- the ways to break a line

module _ (capacity n : ℕ) (line : Line) where
  abbrev Ways : Type 0
  Ways =
      (capacity < line.waiting) ⊎
      ((Some (λ b. n ≤ b) (asks_of line) ⊎ Twice (asks_of line)) ⊎ Some (λ b. b ≡ 0 → ⊥) (unused_of line))

  twice_broken : Twice (asks_of line) → BrokenLine capacity n line
  twice_broken t =
      let u = used line t.late t.inside in
      ask_twice t.early t.late t.order u
      (sym (used_waits line t.early (omega (arith, t.order, u.0))) ∙ t.same ∙ used_waits line t.late u.0)

  unused_broken : Some (λ b. b ≡ 0 → ⊥) (unused_of line) → BrokenLine capacity n line
  unused_broken s =
      let d = length-drop line.waiting line.asks in
      not_empty (line.waiting + s.at) (omega arith, omega (arith, s.inside))
      (λ z. s.has (get_or-drop line.waiting line.asks s.at 0 ∙ z))

  broken : Ways → BrokenLine capacity n line
  broken =
      ⊎_elim too_many
      (⊎_elim (⊎_elim (λ s. ask_outside s.at (used line s.at s.inside) (used_some line (λ b. n ≤ b) s)) twice_broken) unused_broken)

  ways : BrokenLine capacity n line → Ways
  ways (too_many h) = inl h
  ways (ask_outside k u h) = inr (inl (inl (some_used line (λ b. n ≤ b) k u h)))
  ways (ask_twice k j h u e) =
      inr
      (inl
      (inr
      record {
        early = k;
        late = j;
        order = h;
        inside = used_inside line j u;
        same = used_waits line k (omega (arith, u.0)) ∙ e ∙ sym (used_waits line j u.0);
      }))
  ways (not_empty k u ne) =
      let e : line.waiting + (k - line.waiting) ≡ k = omega (arith, u.0) in
      inr
      (inr
      record {
        at = k - line.waiting;
        inside = omega (arith, length-drop line.waiting line.asks, u.0, u.1);
        has = λ z. ne (sym (get_or-drop line.waiting line.asks (k - line.waiting) 0 ∙ ap (waits line) e) ∙ z);
      })

  pub sound_told : Told (BrokenLine capacity n line) (sound capacity n line)
  unfolding sound
  sound_told =
      told_same broken ways
      (told_or (leb_told line.waiting capacity)
      (told_or (told_or (below_told n (asks_of line)) (twice_told (asks_of line))) (zeros_told (unused_of line))))

-- ---- the record

module _ (n : ℕ) (rota : Rota) where
  pub unbroken_told : Told (Broken n rota) (unbroken n rota)
  unfolding unbroken
  unbroken_told = told_same (⊎_elim next_outside line_broken) ways_of (told_or (ltb_told rota.next n) (sound_told places n rota.line))
    where
      ways_of : Broken n rota → (n ≤ rota.next) ⊎ BrokenLine places n rota.line
      ways_of (next_outside h) = inl h
      ways_of (line_broken b) = inr b

  pub broken_exactly : (unbroken n rota ≡ false) ↔ Broken n rota
  broken_exactly = told_exactly unbroken_told
