-- One result: two outcomes that satisfy the promise of a public function are equal, answer and every lent word.
-- One theorem for each public function, crate by crate, of the name that the function's contract cites. Assumes nothing.
use Prim.Native.Nat.{ℕ, ◌+◌, ◌*◌, ◌<◌}
use mathlib.Core.Path.{◌≡◌, refl, sym, ap, ◌∙◌}
use mathlib.Core.List.{List}
use mathlib.Core.Logic.{⊎_elim}
use native.Mathlib.Omega.{arith}
use lib.ListN.{length}
use Rattle.std.specs.Prelude.{Result, Ok, Err}
use Rattle.lane.proofs.Rows.{split_below}
use Rattle.refusal.specs.declared.Refusal.{Refusal}
use Rattle.refusal.specs.Refusal.{answer_number}
use Rattle.refusal.proofs.Answered.{refusal_told, number_some}
use Rattle.ground.specs.Least.{IsLeast}
use Rattle.ground.proofs.Same.{same}
use Rattle.shape.specs.declared.Shape.{Shape}
use Rattle.shape.specs.declared.Shape.TheVariants.{Two}
use Rattle.shape.specs.Shape.{before, CountsBefore, CountsRows, CountsWords}
use Rattle.block.specs.declared.Verdict.{Verdict}
use Rattle.block.specs.Block.{Encodes}
use Rattle.sums.specs.declared.Finding.{Finding}
use Rattle.sums.specs.Sums.{Looks}
use Rattle.block.specs.Sums.{Decides, MendsLanes, CopiesData}
use Rattle.block.proofs.Verdicts.{said_told}
use Rattle.layout.specs.declared.Layout.{Layout}
use Rattle.layout.specs.declared.Site.{Site}
use Rattle.layout.specs.Layout.{CountsBlocks, CountsGroupWords}
use Rattle.stored.specs.Stored.{ComplementsBlock, ComplementsImage}
use Rattle.layout.specs.Refusal.{Checks, ChecksImage}
use Rattle.layout.specs.Site.{Locates}
use Rattle.layout.proofs.Sites.{checks_is, checks_image_is, locates_is}
use Rattle.store.specs.Answer.{Answer, Stored}
use Rattle.store.specs.Fresh.{Clears}
use Rattle.store.specs.Write.{Writes}
use Rattle.store.specs.Read.{Reads}
use Rattle.store.specs.Visit.{Visits, VisitsAccepted}
use Rattle.store.proofs.Answers.{answers_one, stored_one}
use Rattle.rota.specs.declared.Rota.{Rota}
use Rattle.rota.specs.declared.Due.{Due}
use Rattle.rota.specs.Calls.{IsFresh, RotaAsks, RotaTurns}
use Rattle.rota.proofs.Numbers as rotaNumbers
use Rattle.patrol.specs.declared.Record.{Record}
use Rattle.patrol.specs.declared.Asked.{Asked}
use Rattle.patrol.specs.declared.Turned.{Turned}
use Rattle.patrol.specs.declared.Formatted.{Formatted}
use Rattle.patrol.specs.Format.{formatted_as, Formats}
use Rattle.patrol.specs.Ask.{Asks}
use Rattle.patrol.specs.Turn.{Turns}
use Rattle.patrol.proofs.Promises.{one_asked, one_turned}

-- ---- ground

pub one_least : (m n : ℕ) {a b : ℕ} → IsLeast m n a → IsLeast m n b → a ≡ b
one_least m n p q = same p q

-- ---- shape

pub one_rows_before : (shape : Shape) {a b : ℕ} → CountsBefore shape a → CountsBefore shape b → a ≡ b
one_rows_before shape p q = same p q

pub one_rows : (shape : Shape) {a b : ℕ} → CountsRows shape a → CountsRows shape b → a ≡ b
one_rows shape p q = same p q

pub one_words : (shape : Shape) {a b : ℕ} → CountsWords shape a → CountsWords shape b → a ≡ b
one_words shape p q = same p q

-- ---- stored

pub one_complement_block : (block : List ℕ) {a b : List ℕ} → ComplementsBlock block a → ComplementsBlock block b → a ≡ b
one_complement_block block p q = same p q

pub one_complement_image : (image : List ℕ) (layout : Layout) {a b : List ℕ} → ComplementsImage image layout a → ComplementsImage image layout b → a ≡ b
one_complement_image image layout p q = same p q

-- ---- sums

pub one_look : (shape : Shape) (list : List ℕ) (at s : ℕ) (lent : List ℕ) {m n : Finding} {a b : List ℕ} → Looks shape list at s lent m a
    → Looks shape list at s lent n b → (m ≡ n) × (a ≡ b)
one_look shape list at s lent p q =
    ⊎_elim (λ h. (same (p.there h).0 (q.there h).0, same (p.there h).1 (q.there h).1))
    (λ h.
    let no : at + before shape * s < length list → ⊥ = λ l. omega arith in
    (same (p.missing no).0 (q.missing no).0, same (p.missing no).1 (q.missing no).1))
    (split_below (at + before shape * s) (length list))

pub one_beside : (list : List ℕ) (at : ℕ) (lent : List ℕ) {m n : Finding} {a b : List ℕ} → Looks Two list at 1 lent m a → Looks Two list at 1 lent n b
    → (m ≡ n) × (a ≡ b)
one_beside list at lent p q = one_look Two list at 1 lent p q

-- ---- block

pub one_encode : (shape : Shape) (list : List ℕ) {a b : List ℕ} → Encodes shape list a → Encodes shape list b → a ≡ b
one_encode shape list p q = same p q

pub one_decide : (shape : Shape) (sums : List ℕ) {v w : Verdict} → Decides shape sums v → Decides shape sums w → v ≡ w
one_decide shape sums {v} {w} p q = said_told v w (same p q)

pub one_mend : (shape : Shape) (block sums : List ℕ) {a b : List ℕ} → MendsLanes shape block sums a → MendsLanes shape block sums b → a ≡ b
one_mend shape block sums p q = same p q

pub one_data_into : (shape : Shape) (list : List ℕ) (at s : ℕ) (buffer : List ℕ) {a b : List ℕ} → CopiesData shape list at s buffer a
    → CopiesData shape list at s buffer b → a ≡ b
one_data_into shape list at s buffer p q =
    ⊎_elim (λ h. same (p.there h) (q.there h))
    (λ h. let no : at + before shape * s < length list → ⊥ = λ l. omega arith in same (p.missing no) (q.missing no))
    (split_below (at + before shape * s) (length list))

pub one_data_of : (shape : Shape) (block buffer : List ℕ) {a b : List ℕ} → CopiesData shape block 0 1 buffer a → CopiesData shape block 0 1 buffer b → a ≡ b
one_data_of shape block buffer p q = one_data_into shape block 0 1 buffer p q

-- ---- layout

pub one_group_words : (layout : Layout) {a b : ℕ} → CountsGroupWords layout a → CountsGroupWords layout b → a ≡ b
one_group_words layout p q = same p q

pub one_blocks : (layout : Layout) {a b : ℕ} → CountsBlocks layout a → CountsBlocks layout b → a ≡ b
one_blocks layout p q = same p q

pub one_check : (layout : Layout) {a b : Result (Unit {0}) Refusal} → Checks layout a → Checks layout b → a ≡ b
one_check layout p q = checks_is layout p ∙ sym (checks_is layout q)

pub one_check_image : (layout : Layout) (len : ℕ) {a b : Result (Unit {0}) Refusal} → ChecksImage len layout a → ChecksImage len layout b → a ≡ b
one_check_image layout len p q = checks_image_is layout len p ∙ sym (checks_image_is layout len q)

pub one_locate : (layout : Layout) (len block : ℕ) {a b : Result Site Refusal} → Locates len layout block a → Locates len layout block b → a ≡ b
one_locate layout len block p q = locates_is len layout block p ∙ sym (locates_is len layout block q)

-- ---- store

-- a call that answers nothing but whether it is done
done_told : (a b : Stored) → answer_number a ≡ answer_number b → a ≡ b
done_told (Ok x) (Ok y) e = refl
done_told (Ok x) (Err n) e = absurd (number_some n (sym e))
done_told (Err m) (Ok y) e = absurd (number_some m e)
done_told (Err m) (Err n) e = ap Err (refusal_told m n e)

pub one_fresh : (image : List ℕ) (layout : Layout) {a b : Stored} {after after' : List ℕ}
    → Clears image layout a after → Clears image layout b after' → (a ≡ b) × (after ≡ after')
one_fresh image layout {a} {b} p q = (done_told a b (same p.answers q.answers), same p.leaves q.leaves)

pub one_write : (image : List ℕ) (layout : Layout) (block : ℕ) (list : List ℕ) {a b : Stored} {after after' : List ℕ}
    → Writes image layout block list a after → Writes image layout block list b after' → (a ≡ b) × (after ≡ after')
one_write image layout block list {a} {b} p q = (stored_one a b p.answers q.answers, same p.leaves q.leaves)

pub one_read : (image : List ℕ) (layout : Layout) (block : ℕ) (buffer : List ℕ) {a b : Answer} {kept kept' after after' : List ℕ}
    → Reads image layout block buffer a kept after → Reads image layout block buffer b kept' after' → (a ≡ b) × (kept ≡ kept') × (after ≡ after')
one_read image layout block buffer {a} {b} p q =
    (answers_one a b p.answers q.answers, same p.keeps q.keeps, same p.leaves q.leaves)

pub one_visit : (image : List ℕ) (layout : Layout) (block : ℕ) {a b : Answer} {after after' : List ℕ}
    → Visits image layout block a after → Visits image layout block b after' → (a ≡ b) × (after ≡ after')
one_visit image layout block {a} {b} p q = (answers_one a b p.answers q.answers, same p.leaves q.leaves)

pub one_visit_accepted : (image : List ℕ) (layout : Layout) (block : ℕ) {a b : Verdict} {after after' : List ℕ}
    → VisitsAccepted image layout block a after → VisitsAccepted image layout block b after' → (a ≡ b) × (after ≡ after')
one_visit_accepted image layout block {a} {b} p q = (said_told a b (same p.says q.says), same p.leaves q.leaves)

-- ---- rota

pub one_rota_fresh : {a b : Rota} → IsFresh a → IsFresh b → a ≡ b
one_rota_fresh p q = same p q

pub one_rota_ask : (n : ℕ) (rota : Rota) (block : ℕ) {a b : Result ℕ Refusal} {after after' : Rota}
    → RotaAsks n rota block a after → RotaAsks n rota block b after' → (a ≡ b) × (after ≡ after')
one_rota_ask n rota block p q = rotaNumbers.one_asked n rota block p q

pub one_rota_turn : (n : ℕ) (rota : Rota) {a b : Result Due Refusal} {after after' : Rota}
    → RotaTurns n rota a after → RotaTurns n rota b after' → (a ≡ b) × (after ≡ after')
one_rota_turn n rota p q = rotaNumbers.one_turned n rota p q

-- ---- patrol

pub one_format : (image : List ℕ) (layout : Layout) {a b : Formatted} {after after' : List ℕ}
    → Formats image layout (formatted_as a) after → Formats image layout (formatted_as b) after' → (a ≡ b) × (after ≡ after')
one_format image layout {a} {b} p q =
    let done = done_told a.done b.done (same p.number q.number) in
    let back = same p.back q.back in
    (λ i. record { done = done i; back = back i }, same p.leaves q.leaves)

pub one_ask : (r : Record) (block : ℕ) {a b : Asked} → Asks r block a → Asks r block b → a ≡ b
one_ask r block p q = one_asked r block p q

pub one_turn : (r : Record) (image : List ℕ) {a b : Turned} {after after' : List ℕ}
    → Turns r image a after → Turns r image b after' → (a ≡ b) × (after ≡ after')
one_turn r image p q = one_turned r image p q
