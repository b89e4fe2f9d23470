-- What is stored, and of a dead image, for a caller in C. Assumes nothing.
use Prim.Native.Nat.{ℕ}
use mathlib.Core.Path.{◌≡◌, refl, sym, ap, subst, ◌∙◌}
use mathlib.Core.List.{List, ◌∷◌}
use lib.ListN.{length}
use Rattle.layout.specs.declared.Layout.{Layout}
use Rattle.block.specs.Verdict.{Said, said_words}
use Rattle.store.specs.Answer.{answer_said}
use Rattle.store.specs.Read.{read_answer, read_buffer}
use Rattle.store.specs.Visit.{visit_answer, visit_after}
use Rattle.store.proofs.Promises.{reads, visits}
use Rattle.patrol.specs.Format.{Formats, formatted}
use Rattle.patrol.proofs.Promises.{formats, turns}
use Rattle.words.specs.Records.{record_of}
use Rattle.foldgrebe.specs.Calls.{FormatCall, ReadCall, VisitCall}
use Rattle.demands.specs.StoredForm.{Dead, LostWhole}
use Rattle.demands.proofs.StoredForm.{stored_form}
use Rattle.callers.specs.Stored.{lost_whole, CallerStored}
use Rattle.callers.proofs.Answers.{read_said, visit_said, turn_said}
use Rattle.callers.proofs.Demands.{caller_demand_2}

-- the words of what is said
whole_words : (said : Said) → LostWhole said → said_words said ≡ lost_whole
whole_words said l = rw (l.verdict, l.even, l.beyond)

formats_so : {image after words : List ℕ} {layout : Layout} {number : ℕ} → FormatCall image layout number after words
    → Formats image layout (formatted image layout) after
formats_so {image} {layout = layout} c = formats image layout refl c.leaves

-- what a visit and a read tell, where the words are those of a block that is lost whole
module _ {image : List ℕ} {layout : Layout} {block number : ℕ} where
  visited_whole : {after verdict : List ℕ} (c : VisitCall image layout block number after verdict)
      → LostWhole (answer_said (visit_answer image layout block)) × (visit_after image layout block ≡ image)
      → (verdict ≡ lost_whole) × (after ≡ image)
  visited_whole c d = ((visit_said c).1 ∙ whole_words _ d.0, c.leaves ∙ d.1)

  read_whole : {buffer kept after verdict : List ℕ} (c : ReadCall image layout block buffer number kept after verdict)
      → LostWhole (answer_said (read_answer image layout block buffer)) × (read_buffer image layout block buffer ≡ buffer)
      → (verdict ≡ lost_whole) × (kept ≡ image) × (after ≡ buffer)
  read_whole c d = ((read_said c).1 ∙ whole_words _ d.0, c.keeps, c.leaves ∙ d.1)

dead_visited : {image after verdict : List ℕ} {layout : Layout} {block number : ℕ} → Dead (length image) image
    → VisitCall image layout block number after verdict
    → number ≡ 0
    → (verdict ≡ lost_whole) × (after ≡ image)
dead_visited {image} {after} {verdict} {layout} {block} dead c z =
    visited_whole c (stored_form.dead_visit image layout block _ _ dead (visits image layout block refl refl) (sym (visit_said c).0 ∙ z))

pub caller_stored : CallerStored
caller_stored =
    record {
      fresh_ones = λ c block p. stored_form.fresh_ones _ _ _ _ (formats_so c) block p;
      fresh_zeros = λ c block p. stored_form.fresh_zeros _ _ _ _ (formats_so c) block p;
      dead_block = λ {image} {after} {verdict} {layout} {block} fits dead c z.
          visited_whole c (stored_form.dead_block image layout block _ _ fits dead (visits image layout block refl refl) (sym (visit_said c).0 ∙ z));
      dead_block_read = λ {image} {buffer} {kept} {after} {verdict} {layout} {block} fits dead c z.
          read_whole c
          (stored_form.dead_block_read image layout block buffer _ _ _ fits dead (reads image layout block buffer refl refl) (sym (read_said c).0 ∙ z));
      dead_visit = dead_visited;
      dead_read = λ {image} {buffer} {kept} {after} {verdict} {layout} {block} dead c z.
          read_whole c (stored_form.dead_read image layout block buffer _ _ _ dead (reads image layout block buffer refl refl) (sym (read_said c).0 ∙ z));
      dead_turn = λ {lent} {image} {words} {after} {report} dead c z.
          let r = record_of lent in
          let w = turns r image refl refl in
          let d = stored_form.dead_turn r image _ _ dead w (sym (turn_said c).0 ∙ z) in
          let v : VisitCall image r.layout r.rota.next _ _ _ = record { answers = refl; leaves = refl; says = refl } in
          let t = caller_demand_2.turn c z v in
          let first = dead_visited dead v t.accepted in (
            t.first ∙ ap (λ (said : List ℕ). r.rota.next ∷ said) first.0,
            λ block rest e.
                let still = subst (λ (l : List ℕ). Dead (length l) l) (sym first.1) dead in
                let u : VisitCall (visit_after image r.layout r.rota.next) r.layout block _ _ _ =
                record { answers = refl; leaves = refl; says = refl } in
                let a = t.asked block rest e u in
                a.1 ∙ ap (λ (said : List ℕ). block ∷ said) (dead_visited still u a.0).0,
            c.leaves ∙ sym w.leaves ∙ d.2,
          );
    }
