-- One result: two outcomes that keep the promise of a public function are equal. Assumes nothing.
use Prim.Native.Nat.{ℕ}
use mathlib.Core.Path.{◌≡◌}
use mathlib.Core.List.{List}
use Rattle.std.specs.Prelude.{Result}
use Rattle.ground.proofs.Same.{same}
use Rattle.refusal.specs.declared.Refusal.{Refusal}
use Rattle.block.specs.declared.Verdict.{Verdict}
use Rattle.layout.specs.declared.Layout.{Layout}
use Rattle.patrol.specs.declared.Record.{Record}
use Rattle.patrol.specs.declared.Report.{Report}
use Rattle.store.specs.Answer.{Stored}
use Rattle.words.specs.Answers.{NumbersAnswer, SpellsAnswer, SpellsStored, SpellsCount, SpellsReport}
use Rattle.words.specs.Files.{SpellsHeader}
use Rattle.words.specs.Records.{HoldsRecord, SpellsRecord}

-- ---- answers

-- of whatever call: an ask, a turn, a read of a file, ..
pub one_number : {A : Type 0} (answer : Result A Refusal) (m n : ℕ) → NumbersAnswer answer m → NumbersAnswer answer n → m ≡ n
one_number answer m n e f = same e f

pub one_answer_words : (answer : Result Verdict Refusal) (a b : List ℕ) → SpellsAnswer answer a → SpellsAnswer answer b → a ≡ b
one_answer_words answer a b e f = same e f

pub one_stored_words : (answer : Stored) (a b : List ℕ) → SpellsStored answer a → SpellsStored answer b → a ≡ b
one_stored_words answer a b e f = same e f

pub one_count_words : (answer : Result ℕ Refusal) (a b : List ℕ) → SpellsCount answer a → SpellsCount answer b → a ≡ b
one_count_words answer a b e f = same e f

pub one_report_words : (answer : Result Report Refusal) (a b : List ℕ) → SpellsReport answer a → SpellsReport answer b → a ≡ b
one_report_words answer a b e f = same e f

pub one_header_words : (header : Result Layout Refusal) (a b : List ℕ) → SpellsHeader header a → SpellsHeader header b → a ≡ b
one_header_words header a b e f = same e f

-- ---- records

pub one_record_of : (words : List ℕ) (r q : Record) → HoldsRecord words r → HoldsRecord words q → r ≡ q
one_record_of words r q e f = same e f

pub one_record_words : (r : Record) (a b : List ℕ) → SpellsRecord r a → SpellsRecord r b → a ≡ b
one_record_words r a b e f = same e f
