-- `file::reading::read_header` meets its contract: refused by the frame, by the body, or the layout that the bytes name. Assumes nothing.
use Prim.Native.Nat.{ℕ, ◌-◌}
use mathlib.Core.Path.{◌≡◌, refl, sym, ◌∙◌}
use mathlib.Core.List.{List}
use lib.ListN.{length}
use Rattle.refusal.proofs.Answered.{number_some, passed_on}
use Rattle.layout.specs.declared.Layout.{Layout}
use Rattle.layout.specs.Layout.{layout_of}
use Rattle.file.specs.Bytes.{layout_in}
use Rattle.file.specs.Refusal.{frame_refusal, body_refusal, file_refusal}
use Rattle.file.proofs.BigEndian.{pair_std}
use Rattle.file.proofs.Headers.{tells_refused, tells_accepted}
use Rattle.file.proofs.Ladder.{frame_stands, frame_passed}
use Rattle.file.proofs.reading.read_header.Goals as goal

-- shape, interleave and groups tell a layout
same_layout : {a b c d e f : ℕ} → a ≡ d → b ≡ e → c ≡ f → layout_of a b c ≡ layout_of d e f
same_layout {a} {b} {c} p q r = rw (p, q, r) refl

-- with a frame, a file is refused as the body and the layout that its bytes name
body_stands : {layout : Layout} {body : ℕ} (bytes : List ℕ) → 0 ≡ frame_refusal bytes → layout ≡ layout_in bytes
    → body ≡ body_refusal (length bytes - 9) layout
    → body ≡ file_refusal bytes
body_stands bytes passes named checked = rw named at checked ∙ sym (frame_passed bytes (sym passes))

pub returns-in_err-check_frame : goal.returns-in_err-check_frame
returns-in_err-check_frame c =
    rw (passed_on c.from_residual.ensures.1)
    (tells_refused _ _ (frame_stands c.args.bytes.now _ c.in_err-check_frame.ensures (number_some _)))

pub returns-in_err-check_body : goal.returns-in_err-check_body
returns-in_err-check_body c =
    let named = same_layout c.from.ensures c.from-2.ensures (c.from-3.ensures ∙ c.from_be_bytes.ensures ∙ pair_std _ _) in
    rw (passed_on c.from_residual-in_err-check_body.ensures.1)
    (tells_refused _ _ (body_stands c.args.bytes.now c.in_ok-check_frame.ensures named c.in_err-check_body.ensures))

pub returns : goal.returns
returns c =
    let named = same_layout c.from.ensures c.from-2.ensures (c.from-3.ensures ∙ c.from_be_bytes.ensures ∙ pair_std _ _) in
    rw named
    (tells_accepted _ (sym (body_stands c.args.bytes.now c.in_ok-check_frame.ensures named c.in_ok-check_body.ensures)))
