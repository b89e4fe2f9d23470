-- The library's big-endian numbers are those of a file. Assumes nothing.
use Prim.Native.Nat.{ℕ, zero, suc, ◌+◌, ◌-◌, ◌*◌, ◌/◌, ◌%◌, ◌<◌, ◌^◌}
use mathlib.Core.Path.{◌≡◌, refl, ap, ◌∙◌}
use mathlib.Core.List.{List, [], ◌∷◌}
use native.Mathlib.Omega.{arith}
use lib.ListN.{length, get_or, drop, take}
use Rattle.std.proofs.lemmas.List.{get_or-drop, take_rest}
use Rattle.std.proofs.Math.Nat.{add_assoc}
use Rattle.std.specs.Int.{w16, w32, from_be_bytes, to_be_bytes}
use Rattle.std.specs.Simd.{first_chunks}
use Rattle.file.specs.BigEndian.{pair_of, pair_bytes, word_of, word_bytes, word_at}

pub pair_std : (a b : ℕ) → from_be_bytes w16 (a ∷ b ∷ []) ≡ pair_of a b
pair_std a b = omega arith

pub word_std : (a b c d : ℕ) → from_be_bytes w32 (a ∷ b ∷ c ∷ d ∷ []) ≡ word_of a b c d
word_std a b c d = omega arith

pub pair_bytes_std : (n : ℕ) → n < 2 ^ 16 → to_be_bytes w16 n ≡ pair_bytes n
pair_bytes_std n small = let high : n / 256 % 256 ≡ n / 256 = omega arith in rw high

pub word_bytes_std : (n : ℕ) → n < 2 ^ 32 → to_be_bytes w32 n ≡ word_bytes n
word_bytes_std n small = let high : n / 16777216 % 256 ≡ n / 16777216 = omega arith in rw high

-- the number of a slice's four bytes from a place on
word_taken : (bytes : List ℕ) → from_be_bytes w32 (take 4 bytes) ≡ word_at bytes 0
word_taken [] = refl
word_taken (a ∷ []) = word_std a 0 0 0
word_taken (a ∷ b ∷ []) = word_std a b 0 0
word_taken (a ∷ b ∷ c ∷ []) = word_std a b c 0
word_taken (a ∷ b ∷ c ∷ d ∷ rest) = word_std a b c d

-- a word past the front of a list
pub word_dropped : (n : ℕ) (bytes : List ℕ) (at : ℕ) → word_at (drop n bytes) at ≡ word_at bytes (n + at)
word_dropped n bytes at =
    let past = λ (k : ℕ). get_or-drop n bytes k 0 in
    rw (past at, past (at + 1), past (at + 2), past (at + 3), ← add_assoc n at 1, ← add_assoc n at 2, ← add_assoc n at 3)

-- the number of chunk k of four bytes
word_chunk : (bytes : List ℕ) (n k : ℕ) → k < n → from_be_bytes w32 (get_or (first_chunks 4 n bytes) k []) ≡ word_at bytes (4 * k)
word_chunk bytes zero k h = absurd (omega arith)
word_chunk bytes (suc n) zero h = word_taken bytes
word_chunk bytes (suc n) (suc k) h =
    let next : 4 + 4 * k ≡ 4 * suc k = omega arith in
    word_chunk (drop 4 bytes) n k (omega arith) ∙ word_dropped 4 bytes (4 * k) ∙ ap (word_at bytes) next

-- the number of chunk k of the bytes after the first few
pub word_after : (bytes : List ℕ) (skip n k : ℕ) (chunks : List (List ℕ)) → k < n → chunks ≡ first_chunks 4 n (take (length bytes - skip) (drop skip bytes))
    → from_be_bytes w32 (get_or chunks k []) ≡ word_at bytes (skip + 4 * k)
word_after bytes skip n k chunks h is =
    ap (λ (chunks : List (List ℕ)). from_be_bytes w32 (get_or chunks k [])) (is ∙ ap (first_chunks 4 n) (take_rest bytes skip))
    ∙ word_chunk (drop skip bytes) n k h
    ∙ word_dropped skip bytes (4 * k)
