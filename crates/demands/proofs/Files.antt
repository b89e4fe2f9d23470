-- The demand on files holds, whatever is lent. Assumes nothing.
use Prim.Native.Nat.{ℕ, zero, suc, ◌≤◌}
use native.Mathlib.Omega.{arith}
use mathlib.Core.Path.{◌≡◌, refl, ap, ◌∙◌}
use mathlib.Core.List.{List, append-nil}
use native.Mathlib.Decide.{ℕ_discrete}
use lib.ListN.{length, take, drop}
use lib.Seq.{take_at, drop_at}
use Rattle.ground.specs.Rules.{InOrder}
use Rattle.ground.proofs.Rules.{ruled}
use Rattle.ground.proofs.Choices.{refused_kept}
use Rattle.ground.proofs.InOrder.{in_order, given_some, given_first}
use Rattle.layout.specs.declared.Layout.{Layout}
use Rattle.layout.specs.Layout.{layout_of}
use Rattle.refusal.specs.Refusal.{answer_number}
use Rattle.refusal.proofs.Answered.{number_of_numbered}
use Rattle.file.specs.Header.{Header}
use Rattle.file.specs.Written.{Written}
use Rattle.file.specs.Bytes.{file_of, file_into, layout_in, image_in}
use Rattle.file.specs.Refusal.{file_refusal, read_refusal, write_refusal}
use Rattle.file.specs.Reason.{file_rules, read_rules, write_rules}
use Rattle.file.specs.Header.{header_of, HeaderRead, ReadsFile}
use Rattle.file.specs.Written.{written_bytes, WritesFile}
use Rattle.file.proofs.Ladder.{file_known, file_first}
use Rattle.file.proofs.RoundTrip.{length_file}
use Rattle.file.proofs.FileReads.{read_first}
use Rattle.file.proofs.FileWrites.{write_first}
use Rattle.text.specs.Page.{end_to_end}
use Rattle.report.specs.Lines.{refusal_line}
use Rattle.report.specs.Report.{image_report, report_of, Inspects}
use Rattle.demands.specs.Files.{FileRefusing, FileReading, FileWriting, FileReported, FileDemand}

module _ (bytes : List ℕ) where
  pub file_in_order : InOrder (file_rules bytes) (file_refusal bytes)
  file_in_order = in_order (file_rules bytes) (file_refusal bytes) tt (file_first bytes)

  pub file_refuses : (header : Header) → HeaderRead bytes header → FileRefusing bytes header
  file_refuses header r =
      record {
        ruled = rw r.number file_in_order;
        named = λ none. r.layout ∙ rw (file_in_order.accepted.1 none);
        bare = λ ne. r.layout ∙ refused_kept (file_refusal bytes) (layout_in bytes) (layout_of 0 0 0) (λ e. ne (r.number ∙ e));
      }

  refused_line : (number : ℕ) → (number ≡ 0 → ⊥) → file_refusal bytes ≡ number → end_to_end (report_of bytes) ≡ refusal_line number
  unfolding report_of header_of end_to_end
  refused_line zero ne e = absurd (ne refl)
  refused_line (suc number) ne e =
      let known : suc number ≤ 14 = omega (arith, file_known bytes) in
      rw (e, number_of_numbered (suc number) known (λ z. omega arith)) (append-nil (refusal_line (suc number)))

  pub accepted_lines : file_refusal bytes ≡ 0 → report_of bytes ≡ image_report (image_in bytes) (layout_in bytes)
  unfolding report_of header_of
  accepted_lines e = rw e

  pub file_reported : (out : List ℕ) (end : ℕ) (left : List ℕ) → Inspects bytes out end left → FileReported bytes (take end left)
  file_reported out end left r =
      record {
        refused = λ number g.
            r.whole
            ∙ refused_line number (given_some (file_rules bytes) number tt g) (given_first (file_refusal bytes) number (file_rules bytes) (file_first bytes) g);
        accepted = λ none. r.whole ∙ ap end_to_end (accepted_lines (file_in_order.accepted.1 none));
        whole = r.whole;
      }

-- ---- reading into an image

pub file_reads : (bytes image : List ℕ) (header : Header) (kept after : List ℕ) → ReadsFile bytes image header kept after
    → FileReading bytes image header kept after
file_reads bytes image header kept after r =
    let number = read_refusal bytes (length image) in
    let order = in_order (read_rules bytes (length image)) number tt (read_first bytes (length image)) in
    record {
      ruled = rw r.answers.number order;
      read = λ none. let z = order.accepted.1 none in (r.answers.layout ∙ rw z, r.leaves ∙ rw z);
      unchanged = λ ne.
          let some : number ≡ 0 → ⊥ = λ z. ne (r.answers.number ∙ z) in
          (r.answers.layout ∙ refused_kept number _ _ some, r.leaves ∙ refused_kept number _ _ some);
      keeps = r.keeps;
    }

-- ---- writing

-- the bytes of a file that was written, and those past it
pub written_file : (image : List ℕ) (layout : Layout) (buffer : List ℕ) {answer : Written} {kept after : List ℕ}
    → WritesFile image layout buffer answer kept after
    → write_refusal (length image) layout (length buffer) ≡ 0
    → (written_bytes answer ≡ length (file_of layout image)) × (take (written_bytes answer) after ≡ file_of layout image)
    × (drop (written_bytes answer) after ≡ drop (written_bytes answer) buffer)
written_file image layout buffer {answer} {kept} {after} w z =
    let file = file_of layout image in
    let count : written_bytes answer ≡ length file = w.bytes ∙ rw z in
    let left : after ≡ file_into layout image buffer = w.leaves ∙ rw z in (
      count,
      rw (left, count) (take_at file (drop (length file) buffer) (length file) refl),
      rw (left, count) (drop_at file (drop (length file) buffer) (length file) refl),
    )

pub file_writes : (image : List ℕ) (layout : Layout) (buffer : List ℕ) (answer : Written) (kept after : List ℕ)
    → WritesFile image layout buffer answer kept after
    → FileWriting image layout buffer answer kept after
file_writes image layout buffer answer kept after w =
    let number = write_refusal (length image) layout (length buffer) in
    let rules = ruled (write_rules image layout buffer) number tt (write_first image layout buffer) in
    record {
      ruled = rw w.number rules;
      count = λ none. (written_file image layout buffer w (rules.accepted.1 none)).0 ∙ length_file layout image;
      file = λ none. (written_file image layout buffer w (rules.accepted.1 none)).1;
      past = past;
      unchanged = λ ne. let some = kept_so ne in (w.bytes ∙ refused_kept number _ 0 some, w.leaves ∙ refused_kept number _ buffer some);
      keeps = w.keeps;
    }
  where
    kept_so : (answer_number answer ≡ 0 → ⊥) → write_refusal (length image) layout (length buffer) ≡ 0 → ⊥
    kept_so ne z = ne (w.number ∙ z)

    past : drop (written_bytes answer) after ≡ drop (written_bytes answer) buffer
    past = elim (ℕ_discrete (write_refusal (length image) layout (length buffer)) 0) [
      | yes z ↦ (written_file image layout buffer w z).2
      | no some ↦ ap (drop (written_bytes answer)) (w.leaves ∙ refused_kept _ _ buffer some)
    ]

pub file_demand : FileDemand
file_demand =
    record { header = file_refuses; read = file_reads; write = file_writes; report = file_reported; past = λ bytes out end left r. r.past }
