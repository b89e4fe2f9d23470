-- The front of a buffer that is filled read by read. Assumes nothing.
use Rattle.std.proofs.Common.{◌≡◌, ℕ, ◌+◌, ◌-◌, ◌≤◌, List, ◌++◌, length, take, drop, Option, sym, ap, subst, ◌∙◌, drop_at, length-take-le}
use lib.Seq.{take-add, take-append-le}
use borrow.Rule.Slice.PartMut.{put_mid, post_of, take_put}
use Rattle.std.specs.Io.KnownBytes.{Consumes}
use Rattle.std.proofs.KnownBytes.{Consumes-trans}

-- what was filled, and then what was read after it
front_more : (at more : ℕ) (xs ys : List ℕ) → at ≤ length xs → more ≤ length ys
    → take (at + more) (put_mid at (length xs - at) xs ys) ≡ take at xs ++ take more ys
front_more at more xs ys within fits =
    let room = length xs - at in
    let rest = post_of at room xs in
    take-add at more (put_mid at room xs ys) ∙ ap (λ l. l ++ take more (drop at (put_mid at room xs ys))) (take_put at room xs ys within)
    ∙ ap (λ l. take at xs ++ take more l) (drop_at (take at xs) (ys ++ rest) at (length-take-le at xs within))
    ∙ ap (λ l. take at xs ++ l) (take-append-le more ys rest fits)

-- what was taken by the earlier reads and by one more is what stands there
pub taken_more : (a b c : Option (List ℕ)) (at more : ℕ) (xs ys : List ℕ) → at ≤ length xs → more ≤ length ys
    → Consumes a b (take at xs) → Consumes b c (take more ys)
    → Consumes a c (take (at + more) (put_mid at (length xs - at) xs ys))
taken_more a b c at more xs ys within fits before read =
    subst (Consumes a c) (sym (front_more at more xs ys within fits)) (Consumes-trans a b c _ _ before read)
