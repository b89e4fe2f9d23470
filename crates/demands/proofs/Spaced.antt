-- Flips that lie apart in the store lie apart in the memory: an index is a row of one block, and its lane there is its bit. Assumes nothing.
use Prim.Native.Nat.{ℕ, suc}
use mathlib.Core.Path.{◌≡◌, refl, sym, ap, ◌∙◌, subst}
use mathlib.Core.List.{List, ◌∷◌, ◌++◌}
use native.Mathlib.Omega.{arith}
use lib.ListN.{length}
use Rattle.layout.specs.declared.Layout.{Layout}
use Rattle.layout.specs.Refusal.{image_refusal}
use Rattle.layout.proofs.Ladder.{geometry, image_layout}
use Rattle.rota.specs.Patrol.{Spaced}
use Rattle.rota.specs.Steps.{other}
use Rattle.rota.specs.Touches.{flip as flips}
use Rattle.demands.specs.Steps.{Step, flip, fresh, step_after, after, turns}
use Rattle.demands.specs.Demand3.{RowOf, FlipsSpaced}
use Rattle.demands.proofs.Index.{block_at, rows_past, row_below, index_at}
use Rattle.demands.proofs.Parts.{parts_turns, whole_step}
use Rattle.demands.proofs.Simulated.{memory}
use Rattle.demands.proofs.Order.{parts_of}

module _ (image : List ℕ) (layout : Layout) (fits : image_refusal (length image) layout ≡ 0) where
  row_of : (at : ℕ) → RowOf layout (block_at layout at) at
  row_of at =
      let first = (geometry layout (image_layout layout (length image) fits)).s_first in
      (suc (rows_past layout at), omega arith, row_below layout at, sym (index_at layout first at))

  pub parts_spaced : (steps : List Step) → FlipsSpaced image layout steps → Spaced (memory (length image) layout fits) (parts_of image layout steps)
  unfolding turns
  parts_spaced steps spaced pre mid post f h e same =
      let start = fresh image layout in
      let later = whole_step (other (flips h)) (flip h.0 h.1) refl steps start (pre ++ other (flips f) ∷ mid) post e in
      let earlier = whole_step (other (flips f)) (flip f.0 f.1) refl later.front start pre mid later.front_is in
      let between = step_after (flip f.0 f.1) (after earlier.front start) in
      let whole : steps ≡ earlier.front ++ flip f.0 h.1 ∷ earlier.tail ++ flip h.0 h.1 ∷ later.tail =
      later.split
      ∙ ap (λ (l : List Step). l ++ flip h.0 h.1 ∷ later.tail)
      (earlier.split ∙ ap (λ (u : ℕ × ℕ). earlier.front ++ flip f.0 u.1 ∷ earlier.tail) same) in
      let enough = spaced earlier.front earlier.tail later.tail f.0 h.0 h.1 (block_at layout h.0) whole
      (subst (λ (block : ℕ). RowOf layout block f.0) (ap (λ (u : ℕ × ℕ). u.0) same) (row_of f.0))
      (row_of h.0) in
      rw (← earlier.tail_is, parts_turns earlier.tail between) (omega (arith, enough))
