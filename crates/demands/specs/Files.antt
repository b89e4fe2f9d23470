-- The demand on files: 11, 10, 9, 10, 1, 2, 3 and 4 are checked in this order and the first that applies wins. A refusal prints one line,
-- `refused` and the number, and any other file the report of its image, whole. To be read into an image, it is checked for 4 once more.
-- An image that is to be written is checked for 1, 2, 3, 4, 11 and 12. Refused, nothing that was lent is changed. Assumes nothing.
use Rattle.std.specs.Prelude.{ℕ, ◌+◌, ◌*◌, ◌≡◌, List, length, take, drop}
use Rattle.ground.specs.Rules.{NoneOf, FirstGiven, Ruled, InOrder}
use Rattle.layout.specs.declared.Layout.{Layout}
use Rattle.layout.specs.Layout.{layout_of}
use Rattle.refusal.specs.Refusal.{answer_number}
use Rattle.file.specs.Header.{Header}
use Rattle.file.specs.Written.{Written}
use Rattle.file.specs.Bytes.{file_of, layout_in, image_in}
use Rattle.file.specs.Reason.{file_rules, read_rules, write_rules}
use Rattle.file.specs.Header.{header_layout, HeaderRead, ReadsFile}
use Rattle.file.specs.Written.{written_bytes, WritesFile}
use Rattle.text.specs.Page.{end_to_end}
use Rattle.report.specs.Lines.{refusal_line}
use Rattle.report.specs.Report.{image_report, report_of, Inspects}

-- the header: its number goes by the rules; it names the layout of the bytes where none applies, and else one of zeros
pub record FileRefusing (bytes : List ℕ) (header : Header) : Type 1 where
  pub ruled : InOrder (file_rules bytes) (answer_number header)
  pub named : NoneOf (file_rules bytes) → header_layout header ≡ layout_in bytes
  pub bare : (answer_number header ≡ 0 → ⊥) → header_layout header ≡ layout_of 0 0 0

-- reading a file into an image: likewise, with the image's length; the image is the one that the file holds where no rule applies, and else stays;
-- the file stays
pub record FileReading (bytes image : List ℕ) (header : Header) (kept after : List ℕ) : Type 1 where
  pub ruled : InOrder (read_rules bytes (length image)) (answer_number header)
  pub read : NoneOf (read_rules bytes (length image)) → (header_layout header ≡ layout_in bytes) × (after ≡ image_in bytes)
  pub unchanged : (answer_number header ≡ 0 → ⊥) → (header_layout header ≡ layout_of 0 0 0) × (after ≡ image)
  pub keeps : kept ≡ bytes

-- writing an image: its number goes by the rules; the bytes that it answers are the file where no rule applies, and those past them stay;
-- refused, it answers no bytes, so that every one stays; the image stays
pub record FileWriting (image : List ℕ) (layout : Layout) (buffer : List ℕ) (answer : Written) (kept after : List ℕ) : Type 1 where
  pub ruled : Ruled (write_rules image layout buffer) (answer_number answer)
  pub count : NoneOf (write_rules image layout buffer) → written_bytes answer ≡ 9 + 4 * length image
  pub file : NoneOf (write_rules image layout buffer) → take (written_bytes answer) after ≡ file_of layout image
  pub past : drop (written_bytes answer) after ≡ drop (written_bytes answer) buffer
  pub unchanged : (answer_number answer ≡ 0 → ⊥) → (written_bytes answer ≡ 0) × (after ≡ buffer)
  pub keeps : kept ≡ image

-- what is answered of a file: the whole report, that is the line of its refusal, or the report of its image
pub record FileReported (bytes answered : List ℕ) : Type 1 where
  pub refused : (number : ℕ) → FirstGiven number (file_rules bytes) → answered ≡ refusal_line number
  pub accepted : NoneOf (file_rules bytes) → answered ≡ end_to_end (image_report (image_in bytes) (layout_in bytes))
  pub whole : answered ≡ end_to_end (report_of bytes)

-- the demand: of every outcome that the promises of read_header, read_file, write_file and inspect allow, whatever is lent
pub record FileDemand : Type 1 where
  pub header : (bytes : List ℕ) (header : Header) → HeaderRead bytes header → FileRefusing bytes header
  pub read : (bytes image : List ℕ) (header : Header) (kept after : List ℕ) → ReadsFile bytes image header kept after
      → FileReading bytes image header kept after
  pub write : (image : List ℕ) (layout : Layout) (buffer : List ℕ) (answer : Written) (kept after : List ℕ)
      → WritesFile image layout buffer answer kept after
      → FileWriting image layout buffer answer kept after
  pub report : (bytes out : List ℕ) (end : ℕ) (left : List ℕ) → Inspects bytes out end left → FileReported bytes (take end left)
  pub past : (bytes out : List ℕ) (end : ℕ) (left : List ℕ) → Inspects bytes out end left → drop end left ≡ drop end out
