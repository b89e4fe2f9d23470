-- A refused call hands back the record that it got and alters no word; a refused format gives the record of zeros. Assumes nothing.
use Prim.Native.Nat.{ℕ, zero, suc}
use mathlib.Core.Path.{◌≡◌, refl, ap, ◌∙◌}
use mathlib.Core.List.{List}
use lib.ListN.{length}
use Rattle.ground.specs.Choice.{if_zero}
use Rattle.ground.specs.Ladder.{◌then◌}
use Rattle.ground.proofs.Choices.{refused_kept}
use Rattle.layout.specs.declared.Layout.{Layout}
use Rattle.layout.specs.Layout.{blocks}
use Rattle.layout.specs.Refusal.{layout_refusal, image_refusal}
use Rattle.rota.specs.Answer.{RotaAsked, RotaTurned}
use Rattle.rota.specs.Numbers.{place_number}
use Rattle.rota.specs.Record.{ask_number, turn_number}
use Rattle.rota.proofs.Numbers as rotaNumbers
use Rattle.store.specs.Fresh.{fresh_after}
use Rattle.patrol.specs.declared.Record.{Record}
use Rattle.patrol.specs.Format.{no_record, formatted}
use Rattle.patrol.specs.Ask.{with_rota, asked_by, asked}
use Rattle.patrol.specs.Turn.{image_by, turned_now, turned_by, turned, turn_after}
use Rattle.patrol.specs.Numbers.{report_number}
use Rattle.patrol.proofs.Numbers.{ask_number_lem, turn_number_lem}

pub format_unchanged : (image : List ℕ) (layout : Layout) → ((formatted image layout).number ≡ 0 → ⊥)
    → ((formatted image layout).back ≡ no_record) × (fresh_after image layout ≡ image)
unfolding formatted fresh_after
format_unchanged image layout ne =
    (refused_kept (image_refusal (length image) layout) _ no_record ne, refused_kept (image_refusal (length image) layout) _ image ne)

module _ (r : Record) where
  pub ask_unchanged : (block : ℕ) → (place_number (asked r block).place ≡ 0 → ⊥) → (asked r block).back ≡ r
  unfolding asked
  ask_unchanged block ne =
      go (layout_refusal r.layout) (ask_number (blocks r.layout) r.rota block) refl (λ z. ne (ask_number_lem r block ∙ z))
    where
      go : (number later : ℕ) → ask_number (blocks r.layout) r.rota block ≡ later → (number then later ≡ 0 → ⊥) → (asked_by r block number).back ≡ r
      go zero zero e some = absurd (some refl)
      go zero (suc later) e some =
          ap (λ (a : RotaAsked). with_rota r a.rota) (rotaNumbers.ask_refused_lem (blocks r.layout) r.rota block later e)
      go (suc number) later e some = refl

  pub turn_unchanged : (image : List ℕ) → (report_number (turned r image).report ≡ 0 → ⊥) → ((turned r image).back ≡ r) × (turn_after r image ≡ image)
  unfolding turned turn_after
  turn_unchanged image ne =
      go (image_refusal (length image) r.layout) (turn_number (blocks r.layout) r.rota) refl (λ z. ne (turn_number_lem r image ∙ z))
    where
      go : (number later : ℕ) → turn_number (blocks r.layout) r.rota ≡ later → (number then later ≡ 0 → ⊥)
          → ((turned_by r image number).back ≡ r) × (if_zero number (image_by r.layout image (turned_now r).due) image ≡ image)
      go zero zero e some = absurd (some refl)
      go zero (suc later) e some =
          let kept = rotaNumbers.turn_refused_lem (blocks r.layout) r.rota later e in
          (ap (λ (a : RotaTurned). with_rota r a.rota) kept, ap (λ (a : RotaTurned). image_by r.layout image a.due) kept)
      go (suc number) later e some = (refl, refl)
