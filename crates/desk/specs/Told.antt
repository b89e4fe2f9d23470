-- Where the bytes of a file are known, those of its report follow what the output held. Assumes nothing.
use Rattle.std.specs.Prelude.{ℕ, List, Option, IfSome}
use Rattle.std.specs.Io.KnownBytes.{Appends}
use Rattle.text.specs.Page.{end_to_end}
use Rattle.report.specs.Report.{report_of}

abbrev pub TellsFile : Option (List ℕ) → Option (List ℕ) → Option (List ℕ) → Type 0
TellsFile input old new = IfSome input (λ bytes. Appends old new (end_to_end (report_of bytes)))
