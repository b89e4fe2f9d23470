-- What an ask and a turn answer, case by case as the code goes. Assumes nothing.
use Prim.Native.Nat.{ℕ, suc, ◌≤◌, ◌<◌}
use mathlib.Core.Bool.{Bool, true, false}
use mathlib.Core.Path.{◌≡◌, sym, ap, ◌∙◌}
use mathlib.Core.List.{[], ◌∷◌, ◌++◌}
use native.Mathlib.Omega.{arith}
use native.Mathlib.Numerals.{add-one}
use Rattle.std.specs.Prelude.{Ok, Err, Option, Some, None}
use lib.ListN.{length, length-take, length-append}
use lib.Dec.{ltb, eqb-suc-zero}
use borrow.Author.Tests.{ltb-true, lt-ltb, le-ltb}
use Rattle.ground.proofs.Bools.{both}
use Rattle.refusal.specs.declared.Refusal.TheVariants.{BrokenRecord, NoBlock, LineFull}
use Rattle.rota.specs.Line.{places, place_of, first_of, full, asks_of, sound, longer, shorter, Tidy}
use Rattle.rota.specs.Asking.{ask_refusal}
use Rattle.rota.specs.Turning.{onward}
use Rattle.rota.specs.Record.{unbroken, plan_of, ask_number, turn_number}
use Rattle.rota.specs.Calls.{RotaAsks, RotaTurns}
use Rattle.rota.specs.declared.line.Line.{Line}
use Rattle.rota.specs.declared.Rota.{Rota}
use Rattle.rota.proofs.Numbers.{first_or_zero, first_some}
use Rattle.rota.proofs.Places.{placed, not_placed}
use Rattle.rota.proofs.Lines.{Fit, sound_fit, sound_tidy}
use Rattle.rota.proofs.Plans.{Sound}

-- ---- whether a record is broken

module _ (n : ℕ) (r : Rota) where
  pub next_fails : n ≤ r.next → ltb r.next n ≡ unbroken n r
  unfolding unbroken
  next_fails h = rw (le-ltb r.next n h)

  pub unbroken_is : r.next < n → (t : Bool) → t ≡ sound places n r.line → t ≡ unbroken n r
  unfolding unbroken
  unbroken_is h t e = rw (lt-ltb r.next n h) e

-- ---- a record that is broken

module _ (n : ℕ) (r : Rota) (bad : unbroken n r ≡ false) where
  pub ask_broken : (b : ℕ) → RotaAsks n r b (Err BrokenRecord) r
  unfolding ask_number
  ask_broken b = record { number = rw bad; place = rw bad; back = rw bad }

  pub turn_broken : RotaTurns n r (Err BrokenRecord) r
  unfolding turn_number
  turn_broken = record { number = rw bad; first = rw bad; second = rw bad; asked = rw bad; back = rw bad }

-- ---- a record that is not

module _ (n : ℕ) (r : Rota) (ok : unbroken n r ≡ true) where
  parts : (ltb r.next n ≡ true) × (sound places n r.line ≡ true)
  unfolding unbroken
  parts = both (ltb r.next n) (sound places n r.line) ok

  pub next_inside : r.next < n
  next_inside = ltb-true r.next n parts.0

  pub line_fit : Fit places n r.line
  line_fit = sound_fit places n r.line parts.1

  pub plan_fit : Sound places n (plan_of r)
  plan_fit =
      record {
        inside = next_inside;
        few = omega (arith, line_fit.few, length-take r.line.waiting r.line.asks);
        low = line_fit.low;
        once = line_fit.once;
      }

  -- ---- ask

  module _ (b : ℕ) where
    pub ask_outside : n ≤ b → RotaAsks n r b (Err NoBlock) r
    unfolding ask_number ask_refusal
    ask_outside h = let e = le-ltb b n h in record { number = rw (ok, e); place = rw (ok, e); back = rw (ok, e) }

    pub ask_full : b < n → None ≡ place_of b (asks_of r.line) → full places (asks_of r.line) ≡ true → RotaAsks n r b (Err LineFull) r
    unfolding ask_number ask_refusal
    ask_full h e w =
        let l = lt-ltb b n h in
        let z = not_placed b (asks_of r.line) e in
        record { number = rw (ok, l, z, w); place = rw (ok, l, z, w); back = rw (ok, l, z, w) }

  module _ (long : length r.line.asks ≡ places) where
    pub line_tidy : Tidy places r.line
    line_tidy = sound_tidy places r.line long n parts.1

    module _ (b : ℕ) (h : b < n) where
      pub ask_again : (j : ℕ) → Some j ≡ place_of b (asks_of r.line) → RotaAsks n r b (Ok j) r
      unfolding ask_number ask_refusal
      ask_again j f =
          let l = lt-ltb b n h in
          let p = placed j b (asks_of r.line) f in
          let e = p.2 in
          let z = eqb-suc-zero p.0 in
          record {
            number = rw (ok, l, e, z);
            place = rw (ok, l, e, z) p.1;
            back = rw (ok, l, e, z) (ap (λ (q : Line). record { next = r.next; line = q }) (sym line_tidy));
          }

      -- the line after is q
      pub ask_new : (q : Line) → None ≡ place_of b (asks_of r.line) → full places (asks_of r.line) ≡ false → q ≡ longer places r.line b
          → RotaAsks n r b (Ok q.waiting) (record { next = r.next; line = q })
      unfolding ask_number ask_refusal
      ask_new q f w g =
          let l = lt-ltb b n h in
          let e = not_placed b (asks_of r.line) f in
          let s : length (asks_of r.line ++ b ∷ []) ≡ suc (length (asks_of r.line)) =
          length-append (asks_of r.line) (b ∷ []) ∙ add-one (length (asks_of r.line)) in
          record { number = rw (ok, l, e, w); place = rw (ok, l, e, w, g) s; back = rw (ok, l, e, w, g) }

  -- ---- turn

  -- the ask that is served is a, the block after is k, and the line after is q
  pub turn_on : {p : ℕ} {a : Option ℕ} {k : ℕ} {q : Line} → p ≡ r.next → a ≡ first_of (asks_of r.line) → k ≡ onward n r.next
      → q ≡ shorter places r.line
      → RotaTurns n r (Ok (record { patrol = p; ask = a })) (record { next = k; line = q })
  unfolding turn_number
  turn_on d e f g =
      record {
        number = rw ok;
        first = rw (ok, d);
        second = rw (ok, e) (first_or_zero (asks_of r.line));
        asked = rw (ok, e) (first_some (asks_of r.line));
        back = rw (ok, f, g);
      }
