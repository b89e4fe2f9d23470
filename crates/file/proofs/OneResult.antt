-- One result: two outcomes that satisfy the promise of a function on a file are equal, answer and every lent word and byte. Assumes nothing.
use Prim.Native.Nat.{ℕ}
use mathlib.Core.Path.{◌≡◌}
use mathlib.Core.List.{List}
use lib.ListN.{length}
use Rattle.ground.proofs.Same.{same}
use Rattle.layout.specs.declared.Layout.{Layout}
use Rattle.std.specs.Prelude.{Result}
use Rattle.refusal.specs.declared.Refusal.{Refusal}
use Rattle.file.specs.Bytes.{layout_in, CountsFileWords}
use Rattle.file.specs.Refusal.{read_refusal}
use Rattle.file.specs.Header.{HeaderRead, ReadsFile}
use Rattle.file.specs.Written.{WritesFile}
use Rattle.file.proofs.Headers.{header_is, tells_is}
use Rattle.file.proofs.FileWrites.{file_answer}

pub one_header : (bytes : List ℕ) {a b : Result Layout Refusal} → HeaderRead bytes a → HeaderRead bytes b → a ≡ b
one_header bytes {a} {b} p q = same (header_is bytes a p) (header_is bytes b q)

pub one_count : (len : ℕ) {a b : ℕ} → CountsFileWords len a → CountsFileWords len b → a ≡ b
one_count len p q = same p q

pub one_file_read : (bytes image : List ℕ) {a b : Result Layout Refusal} {kept kept' after after' : List ℕ}
    → ReadsFile bytes image a kept after
    → ReadsFile bytes image b kept' after'
    → (a ≡ b) × (kept ≡ kept') × (after ≡ after')
one_file_read bytes image {a} {b} p q =
    let header = tells_is (read_refusal bytes (length image)) (layout_in bytes) in
    (same (header a p.answers) (header b q.answers), same p.keeps q.keeps, same p.leaves q.leaves)

pub one_file_write : (image : List ℕ) (layout : Layout) (buffer : List ℕ) {a b : Result ℕ Refusal} {kept kept' after after' : List ℕ}
    → WritesFile image layout buffer a kept after
    → WritesFile image layout buffer b kept' after'
    → (a ≡ b) × (kept ≡ kept') × (after ≡ after')
one_file_write image layout buffer p q =
    (same (file_answer image layout buffer p) (file_answer image layout buffer q), same p.keeps q.keeps, same p.leaves q.leaves)
