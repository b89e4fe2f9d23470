-- Each promise in numbers, and the answer itself: what equals the call's answer keeps the promise, and what keeps it equals that answer.
-- Assumes nothing.
use Prim.Native.Nat.{ℕ, zero, suc}
use mathlib.Core.Path.{◌≡◌, refl, sym, ap, ◌∙◌}
use mathlib.Core.List.{List, [], ◌∷◌}
use lib.ListN.{length}
use Rattle.std.specs.Prelude.{Result, Err}
use Rattle.ground.specs.Choice.{if_zero}
use Rattle.ground.specs.Ladder.{◌then◌}
use Rattle.block.specs.Verdict.{Said}
use Rattle.block.proofs.Verdicts.{verdict_says}
use Rattle.refusal.specs.declared.Refusal.{Refusal}
use Rattle.refusal.specs.Refusal.{numbered, answered}
use Rattle.layout.specs.declared.Layout.{Layout}
use Rattle.layout.specs.Layout.{shape_of, blocks}
use Rattle.layout.specs.Refusal.{layout_refusal, image_refusal}
use Rattle.rota.specs.declared.Due.{Due}
use Rattle.rota.specs.Line.{asks_of, first_of}
use Rattle.rota.specs.Asking.{ask_place}
use Rattle.rota.specs.Numbers.{place_given}
use Rattle.rota.specs.Record.{plan_of, ask_number, rota_asked, turn_number, rota_turned}
use Rattle.rota.proofs.Numbers as rotaNumbers
use Rattle.store.specs.Image.{gathered}
use Rattle.store.specs.Fresh.{fresh_after}
use Rattle.patrol.specs.declared.Record.{Record}
use Rattle.patrol.specs.Handed.{Formatted}
use Rattle.patrol.specs.declared.Asked.{Asked}
use Rattle.patrol.specs.declared.Turned.{Turned}
use Rattle.patrol.specs.Numbers.{seen_of, unseen, report_first, report_second}
use Rattle.patrol.specs.Format.{formatted, Formats}
use Rattle.patrol.specs.Ask.{with_rota, with_ask, asked, Asks}
use Rattle.patrol.specs.Turn.{with_turn, seen_in, ask_seen, ask_visited, seen, visited, report_by, image_by, turned, turn_after, Turns}
use Rattle.patrol.proofs.Numbers.{reports_told, ask_number_lem, turn_number_lem}

-- ---- format

module _ (image : List ℕ) (layout : Layout) {answer : Formatted} {after : List ℕ} where
  pub formats : answer ≡ formatted image layout → after ≡ fresh_after image layout → Formats image layout answer after
  unfolding formatted
  formats e f = record { number = ap (λ (a : Formatted). a.number) e; back = ap (λ (a : Formatted). a.back) e; leaves = f }

  pub formats_answer : Formats image layout answer after → answer ≡ formatted image layout
  unfolding formatted
  formats_answer p = let number = p.number in let back = p.back in λ i. record { number = number i; back = back i }

-- ---- ask

module _ (r : Record) (block : ℕ) where
  abbrev n : ℕ
  n = blocks r.layout

  -- the answer, by the refusals of the layout and of the rota
  abbrev asked_with : ℕ → ℕ → Asked
  asked_with number later =
      if_zero number
      (record { place = (rotaNumbers.answer_by n r.rota block later).place; back = with_rota r (rotaNumbers.answer_by n r.rota block later).rota })
      (record { place = Err (numbered number); back = r })

  asks_asked : Asks r block (asked r block)
  unfolding asked rota_asked
  asks_asked =
      record {
        number = ask_number_lem r block;
        place = place (layout_refusal r.layout) (ask_number n r.rota block);
        back = back (layout_refusal r.layout) (ask_number n r.rota block);
      }
    where
      place : (number later : ℕ) → place_given (asked_with number later).place ≡ if_zero (number then later) (ask_place (plan_of r.rota) block) 0
      place zero zero = refl
      place zero (suc later) = refl
      place (suc number) later = refl

      back : (number later : ℕ) → (asked_with number later).back ≡ if_zero (number then later) (with_ask r block) r
      back zero zero = refl
      back zero (suc later) = refl
      back (suc number) later = refl

  -- one answer keeps the promise
  pub one_asked : {answer other : Asked} → Asks r block answer → Asks r block other → answer ≡ other
  one_asked {answer} {other} p q =
      let place = rotaNumbers.place_told answer.place other.place (p.number ∙ sym q.number) (p.place ∙ sym q.place) in
      let back = p.back ∙ sym q.back in
      λ i. record { place = place i; back = back i }

  pub asks : {answer : Asked} → answer ≡ asked r block → Asks r block answer
  asks e = rw e asks_asked

  pub asks_answer : {answer : Asked} → Asks r block answer → answer ≡ asked r block
  asks_answer p = one_asked p asks_asked

-- ---- turn

module _ (r : Record) (image : List ℕ) where
  abbrev next : ℕ
  next = r.rota.next

  -- what the rota answers, by its refusal and the list of asks
  abbrev due_with : ℕ → List ℕ → Result Due Refusal
  due_with later l = answered later (record { patrol = next; ask = first_of l })

  -- the answer, by the refusals of the image and of the rota, and that list
  abbrev turned_with : ℕ → ℕ → List ℕ → Turned
  turned_with number later l =
      if_zero number
      (record { report = report_by r.layout image (due_with later l); back = with_rota r (rotaNumbers.turn_by (blocks r.layout) r.rota later).rota })
      (record { report = Err (numbered number); back = r })

  abbrev refused : ℕ
  refused = image_refusal (length image) r.layout

  abbrev late : ℕ
  late = turn_number (blocks r.layout) r.rota

  abbrev waiting : List ℕ
  waiting = asks_of r.rota.line

  -- a visit that is seen says what is to be said
  said_seen : (there : List ℕ) (block : ℕ) → seen_of block (seen r.layout there block) ≡ seen_in r.layout there block
  said_seen there block =
      ap (λ (s : Said). record { block = block; said = s }) (verdict_says (shape_of r.layout) (gathered r.layout block there))

  turns_turned : Turns r image (turned r image) (turn_after r image)
  unfolding turned turn_after rota_turned
  turns_turned =
      record {
        number = turn_number_lem r image;
        first = first refused late waiting;
        second = second refused late waiting;
        back = back refused late waiting;
        leaves = leaves refused late waiting;
      }
    where
      first : (number later : ℕ) (l : List ℕ)
          → report_first (turned_with number later l).report ≡ if_zero (number then later) (seen_in r.layout image next) unseen
      first zero zero l = said_seen image next
      first zero (suc later) l = refl
      first (suc number) later l = refl

      second : (number later : ℕ) (l : List ℕ)
          → report_second (turned_with number later l).report ≡ if_zero (number then later) (ask_seen r.layout image next l) unseen
      second zero zero [] = refl
      second zero zero (a ∷ l) = said_seen (visited r.layout image next) a
      second zero (suc later) l = refl
      second (suc number) later l = refl

      back : (number later : ℕ) (l : List ℕ) → (turned_with number later l).back ≡ if_zero (number then later) (with_turn r) r
      back zero zero l = refl
      back zero (suc later) l = refl
      back (suc number) later l = refl

      leaves : (number later : ℕ) (l : List ℕ)
          → if_zero number (image_by r.layout image (due_with later l)) image
          ≡ if_zero (number then later) (ask_visited r.layout image next l) image
      leaves zero zero [] = refl
      leaves zero zero (a ∷ l) = refl
      leaves zero (suc later) l = refl
      leaves (suc number) later l = refl

  -- one answer and one image keep the promise
  pub one_turned : {answer other : Turned} {after also : List ℕ} → Turns r image answer after → Turns r image other also → (answer ≡ other) × (after ≡ also)
  one_turned {answer} {other} p q =
      let report = reports_told answer.report other.report (p.number ∙ sym q.number) (p.first ∙ sym q.first)
      (p.second ∙ sym q.second) in
      let back = p.back ∙ sym q.back in
      (λ i. record { report = report i; back = back i }, p.leaves ∙ sym q.leaves)

  pub turns : {answer : Turned} {after : List ℕ} → answer ≡ turned r image → after ≡ turn_after r image → Turns r image answer after
  turns e f = rw (e, f) turns_turned

  pub turns_answer : {answer : Turned} {after : List ℕ} → Turns r image answer after → (answer ≡ turned r image) × (after ≡ turn_after r image)
  turns_answer p = one_turned p turns_turned
