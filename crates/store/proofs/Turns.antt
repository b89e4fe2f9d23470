-- What is copied of rows: none, four more, all at once where they are neighbours; and what of that is gathered or scattered. Assumes nothing.
use Prim.Native.Nat.{ℕ, suc, ◌+◌, ◌*◌, ◌/◌, ◌≤◌}
use mathlib.Core.List.{List}
use mathlib.Core.Path.{◌≡◌, refl, ap, fun_ext}
use native.Mathlib.Nat.{one-mul, add-mul}
use native.Mathlib.Numerals.{towards_suc}
use native.Mathlib.Numerals.{add-one}
use native.Mathlib.Omega.{arith}
use lib.ListN.{get_or, set}
use Rattle.ground.specs.Stores.{stores}
use Rattle.shape.specs.declared.Shape.{Shape}
use Rattle.shape.specs.declared.Shape.TheVariants.{One, Two}
use Rattle.shape.specs.Shape.{before, rows}
use Rattle.stored.specs.Stored.{complemented}
use Rattle.layout.specs.declared.Site.{Site}
use Rattle.store.specs.declared.copies.Places.{Places}
use Rattle.store.specs.Inner.{Lies, copied, places_of, stride_read, stride_write, put}

-- neighbours lie in the list to the last
pub beside_inside : (len : ℕ) (shape : Shape) (places : Places) → Lies len (rows shape) places → places.s ≡ 1 → places.at + rows shape ≤ len
beside_inside len shape places there e = let last = rw e at (there.1 (before shape) (omega arith)) in omega arith

-- rows are whole turns
pub whole_turns : (shape : Shape) → 4 * (rows shape / 4) ≡ rows shape
whole_turns One = refl
whole_turns Two = refl

along : (places : Places) (turn j : ℕ) → places.at + 4 * turn * places.s + j * places.s ≡ places.at + (4 * turn + j) * places.s
along places turn j = omega (arith, add-mul (4 * turn) j places.s)

next : (places : Places) (turn : ℕ) → places.at + 4 * turn * places.s + places.s ≡ places.at + (4 * turn + 1) * places.s
next places turn = simp one-mul at (along places turn 1)

module _ (given : List ℕ) (read : Places) (list : List ℕ) (written : Places) where
  pub none_copied : list ≡ copied given read list written 0
  unfolding copied stores
  none_copied = refl

  -- a turn
  pub four_copied : (turn : ℕ) {l : List ℕ} → l ≡ copied given read list written (4 * turn)
      → let i = read.at + 4 * turn * read.s in
      let k = written.at + 4 * turn * written.s in
      set (set (set (set l k (get_or given i 0)) (k + written.s) (get_or given (i + read.s) 0)) (k + 2 * written.s) (get_or given (i + 2 * read.s) 0))
      (k + 3 * written.s)
      (get_or given (i + 3 * read.s) 0)
      ≡ copied given read list written (4 * (turn + 1))
  unfolding copied stores
  four_copied turn e =
      let more : 4 * (turn + 1) ≡ suc (suc (suc (suc (4 * turn)))) = omega arith in
      rw (more, e, next written turn, along written turn 2, along written turn 3, next read turn, along read turn 2, along read turn 3) (simp towards_suc)

  -- a row of neighbours
  pub one_copied : (j : ℕ) {l : List ℕ} → read.s ≡ 1 → written.s ≡ 1 → l ≡ copied given read list written j
      → set l (written.at + j) (get_or given (read.at + j) 0) ≡ copied given read list written (j + 1)
  unfolding copied stores
  one_copied j e f is =
      let p : written.at + j ≡ written.at + j * written.s = rw f (omega arith) in
      let q : read.at + j ≡ read.at + j * read.s = rw e (omega arith) in
      rw (is, p, q, add-one j) refl

-- ---- the array's rows are its first words

abbrev in_array : Places
in_array = record { at = 0; s = 1 }

module _ (site : Site) {places : Places} (is : places ≡ places_of site) (image block : List ℕ) {after : List ℕ} where
  pub gathered_first : after ≡ copied image places block in_array (rows site.shape) → after ≡ stride_read image site.at site.s block (rows site.shape)
  unfolding copied stride_read
  gathered_first e =
      rw (e, is) (ap (λ (f : ℕ → ℕ). stores block f (λ k. get_or image (site.at + k * site.s) 0) (rows site.shape)) (fun_ext (λ k. omega arith)))

  pub scattered_first : (code : List ℕ) → block ≡ complemented code → after ≡ copied block in_array image places (rows site.shape)
      → after ≡ put site.shape image site.at site.s code
  unfolding copied stride_write
  scattered_first code stored e =
      let first : (k : ℕ) → 0 + k * 1 ≡ k = λ k. omega arith in
      rw (e, is, stored)
      (ap (λ (f : ℕ → ℕ). stores image (λ k. site.at + k * site.s) (λ k. get_or (complemented code) (f k) 0) (rows site.shape)) (fun_ext first))
