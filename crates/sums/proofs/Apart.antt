-- Rows s apart, four a turn: what the turns make of them, and that the words after the last turn are the sums. Assumes nothing.
use Prim.Native.Nat.{ℕ, zero, suc, ◌+◌, ◌*◌, ◌/◌, ◌^◌, ◌≤◌, ◌<◌}
use mathlib.Core.Bool.{true}
use mathlib.Core.Path.{◌≡◌, refl, ap₂, ◌∙◌}
use mathlib.Core.List.{List, [], ◌∷◌}
use native.Mathlib.Nat.{zero-mul, add-mul, mul-le-mul_right}
use native.Mathlib.Numerals.{add-one}
use native.Mathlib.Omega.{arith}
use lib.Bits.{bit_xor}
use lib.Dec.{lit≤}
use lib.ListN.{get_or, set, replicate}
use Rattle.lane.specs.Bit.{bit}
use Rattle.lane.proofs.Bits.{xor_swap, xor_assoc}
use Rattle.ground.specs.Stores.{stores}
use Rattle.shape.specs.declared.Shape.{Shape}
use Rattle.shape.specs.declared.Shape.TheVariants.{One, Two}
use Rattle.shape.specs.Shape.{before, rows}
use Rattle.sums.specs.Sums.{lying, sums_of}
use Rattle.sums.specs.Inner.{xor_rows, high_digits}
use Rattle.sums.proofs.RowSums.{Made, none, one, upto, same, ◌xor◌, agree?, agreed, sums_are}
use Rattle.sums.proofs.Lying.{placed, placed_fits, placed_lies}

-- the rows r + 1 of the first q turns; rows 1 to 4 q + 3, as turn q has them before its fourth row; and these of the first q turns together
unfoldable pub column : (ℕ → ℕ) → (r q : ℕ) → ℕ
column w r zero = zero
column w r (suc q) = bit_xor (column w r q) (w (suc (4 * q + r)))

unfoldable pub up_to : (ℕ → ℕ) → ℕ → ℕ
up_to w q = bit_xor (bit_xor (bit_xor (column w 3 q) (column w 0 (suc q))) (column w 1 (suc q))) (column w 2 (suc q))

unfoldable pub stair : (ℕ → ℕ) → ℕ → ℕ
stair w zero = zero
stair w (suc q) = bit_xor (stair w q) (up_to w q)

-- the place and the words after q turns
pub record Turned (words : List ℕ) (at s q i e00 e01 e10 e11 d2 : ℕ) (upto : List ℕ) : Type 0 where
  pub place : i ≡ at + 4 * q * s
  pub c00 : e00 ≡ column (placed words at s) 3 q
  pub c01 : e01 ≡ column (placed words at s) 0 q
  pub c10 : e10 ≡ column (placed words at s) 1 q
  pub c11 : e11 ≡ column (placed words at s) 2 q
  pub second : d2 ≡ stair (placed words at s) q
  pub stored : upto ≡ stores (replicate 18 0) (λ q. q) (up_to (placed words at s)) q

-- the columns together are all rows so far
up_to_all : (w : ℕ → ℕ) (q : ℕ) → up_to w q ≡ xor_rows (λ p. true) (4 * q + 3) w
unfolding up_to column xor_rows
up_to_all w zero = refl
up_to_all w (suc q) =
    let k : ℕ = 4 * q + 3 in
    let e1 : suc (4 * suc q + 0) ≡ suc (suc k) = omega arith in
    let e2 : suc (4 * suc q + 1) ≡ suc (suc (suc k)) = omega arith in
    let e3 : suc (4 * suc q + 2) ≡ suc (suc (suc (suc k))) = omega arith in
    let end : 4 * suc q + 3 ≡ suc (suc (suc (suc k))) = omega arith in
    apart (column w 3 q) (column w 0 (suc q)) (column w 1 (suc q)) (column w 2 (suc q)) _ _ _ _ ∙ rw (up_to_all w q, e1, e2, e3, end)
  where
    apart : (a b c d x y z u : ℕ) → bit_xor (bit_xor (bit_xor (bit_xor a x) (bit_xor b y)) (bit_xor c z)) (bit_xor d u)
        ≡ bit_xor (bit_xor (bit_xor (bit_xor (bit_xor (bit_xor (bit_xor a b) c) d) x) y) z) u
    apart a b c d x y z u =
        rw (xor_swap a x b y, xor_swap (bit_xor a b) (bit_xor x y) c z, xor_swap (bit_xor (bit_xor a b) c) (bit_xor (bit_xor x y) z) d u) (simp xor_assoc)

-- the rows that each of these is made of
module _ {w : ℕ → ℕ} {n : ℕ} where
  unfoldable columns : (r q : ℕ) → Made n w (column w r q)
  unfolding column
  columns r zero = none
  columns r (suc q) = columns r q xor one (suc (4 * q + r))

  unfoldable to : (q : ℕ) → Made n w (up_to w q)
  to q = same (up_to_all w q) (upto (4 * q + 3))

  unfoldable stairs : (q : ℕ) → Made n w (stair w q)
  unfolding stair
  stairs zero = none
  stairs (suc q) = stairs q xor to q

pub few_turns : (shape : Shape) → rows shape / 4 ≤ 18
few_turns One = lit≤ tt
few_turns Two = lit≤ tt

module _ {words : List ℕ} {at s : ℕ} where
  pub none_turned : Turned words at s 0 at 0 0 0 0 0 (replicate 18 0)
  unfolding column stair stores
  none_turned = record { place = omega (arith, zero-mul s); c00 = refl; c01 = refl; c10 = refl; c11 = refl; second = refl; stored = refl }

  pub turn_more : {q i e00 e01 e10 e11 d2 : ℕ} {upto : List ℕ} → Turned words at s q i e00 e01 e10 e11 d2 upto
      → let a01 : ℕ = bit_xor e01 (get_or words i 0) in
      let a10 : ℕ = bit_xor e10 (get_or words (i + s) 0) in
      let a11 : ℕ = bit_xor e11 (get_or words (i + 2 * s) 0) in
      let prefix : ℕ = bit_xor (bit_xor (bit_xor e00 a01) a10) a11 in
      Turned words at s (q + 1) (i + 4 * s) (bit_xor e00 (get_or words (i + 3 * s) 0)) a01 a10 a11 (bit_xor d2 prefix) (set upto q prefix)
  unfolding column up_to stair stores
  turn_more {q} {i} t =
      let n00 = put 3 (i + 3 * s) t.c00 (omega arith) in
      let n01 = put 0 i t.c01 (omega arith) in
      let n10 = put 1 (i + s) t.c10 (omega arith) in
      let n11 = put 2 (i + 2 * s) t.c11 (omega arith) in
      rw add-one (record { place = omega (arith, add-mul (4 * q) 4 s); c00 = n00; c01 = n01; c10 = n10; c11 = n11; second = cc; stored = cc })
    where
      -- row r + 1 of the turn, to its column
      put : (r j : ℕ) {e : ℕ} → e ≡ column (placed words at s) r q → j ≡ i + r * s → bit_xor e (get_or words j 0) ≡ column (placed words at s) r (suc q)
      put r j e p = ap₂ (λ (a k : ℕ). bit_xor a (get_or words k 0)) e (omega (arith, add-mul (4 * q) r s, t.place))

  -- the words after the last turn are the sums, by computing
  pub apart_sums : ((k : ℕ) → get_or words k 0 < 2 ^ 32) → (shape : Shape) {q i e00 e01 e10 e11 d2 : ℕ} {upto high : List ℕ} → q ≡ rows shape / 4
      → Turned words at s q i e00 e01 e10 e11 d2 upto → high ≡ high_digits shape upto
      → bit_xor e01 e11 ∷ bit_xor e10 e11 ∷ d2 ∷ get_or high 0 0 ∷ get_or high 1 0 ∷ get_or high 2 0 ∷ get_or high 3 0
      ∷ bit_xor (bit_xor (bit_xor e01 e11) e00) e10 ∷ []
      ≡ sums_of shape (lying shape words at s)
  unfolding agree? bit stores columns to stairs
  apart_sums fits One last t high =
      rw (t.c00, t.c01, t.c10, t.c11, t.second, high, t.stored, last)
      (sums_are One _ _ (placed_fits words at s fits) (placed_lies One words at s) (agreed (bit 0) (columns 0 4 xor columns 2 4) refl)
      (agreed (bit 1) (columns 1 4 xor columns 2 4) refl) (agreed (bit 2) (stairs 4) refl)
      (agreed (bit 3) (to 1 xor to 3) refl) (agreed (bit 4) none refl) (agreed (bit 5) none refl)
      (agreed (bit 6) none refl) (agreed (λ p. true) (columns 0 4 xor columns 2 4 xor columns 3 4 xor columns 1 4) refl))
  apart_sums fits Two last t high =
      rw (t.c00, t.c01, t.c10, t.c11, t.second, high, t.stored, last)
      (sums_are Two _ _ (placed_fits words at s fits) (placed_lies Two words at s) (agreed (bit 0) (columns 0 18 xor columns 2 18) refl)
      (agreed (bit 1) (columns 1 18 xor columns 2 18) refl) (agreed (bit 2) (stairs 18) refl)
      (agreed (bit 3) (to 1 xor to 5 xor to 9 xor to 13 xor (to 3 xor to 11 xor (to 7 xor to 15))) refl)
      (agreed (bit 4) (to 3 xor to 11 xor (to 7 xor to 15)) refl) (agreed (bit 5) (to 7 xor to 15) refl) (agreed (bit 6) (to 15 xor to 17) refl)
      (agreed (λ p. true) (columns 0 18 xor columns 2 18 xor columns 3 18 xor columns 1 18) refl))

-- ---- where the rows of a turn lie

module _ (s q : ℕ) where
  -- its fourth row is no farther than the last row
  pub within : (shape : Shape) → q < rows shape / 4 → 4 * q * s + 3 * s ≤ before shape * s
  within shape h = let e = mul-le-mul_right s (low shape h) in omega (arith, add-mul (4 * q) 3 s)
    where
      low : (shape : Shape) → q < rows shape / 4 → 4 * q + 3 ≤ before shape
      low One h = omega arith
      low Two h = omega arith

  pub before_few : (shape : Shape) → before shape * s ≤ 72 * s
  before_few One = mul-le-mul_right s (lit≤ tt)
  before_few Two = mul-le-mul_right s (lit≤ tt)
