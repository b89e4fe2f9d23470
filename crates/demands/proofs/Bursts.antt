-- A burst of at most s neighbouring words, or 4·s bytes, is mended whole, and one more can lose a block. Assumes nothing.
use Prim.Native.Nat.{ℕ, suc, ◌+◌, ◌*◌, ◌<◌}
use mathlib.Core.Path.{◌≡◌, refl, sym, ap, subst, ◌∙◌}
use mathlib.Core.List.{List}
use mathlib.Core.Logic.{◌⊎◌, inl}
use native.Mathlib.Nat.{zero-mul, zero-div, zero-mod, one-le-mul}
use native.Mathlib.Omega.{arith}
use lib.ListN.{length}
use Rattle.shape.proofs.Sizes.{rows_least}
use Rattle.layout.specs.declared.Layout.{Layout}
use Rattle.layout.specs.Layout.{shape_of, rows_of, blocks, index}
use Rattle.layout.proofs.Ladder.{geometry, image_layout}
use Rattle.store.specs.Read.{Reads, read_answer, read_buffer}
use Rattle.store.specs.Refusal.{data_refusal}
use Rattle.store.proofs.Promises.{reads}
use Rattle.patrol.specs.Handed.{Formatted}
use Rattle.patrol.specs.Format.{Formats}
use Rattle.demands.specs.Steps.{read, turns}
use Rattle.demands.specs.Demand3.{store}
use Rattle.demands.specs.Burst.{AllValid, words_from, Burst, Struck, Comes, OnTheWay, ReadsStruck, RowsPair, Changed, flipped_in, Loses, Bursts}
use Rattle.demands.proofs.AllValid.{fresh_valid, write_valid}
use Rattle.demands.proofs.Demand3.{demand_3}
use Rattle.demands.proofs.Numbers.{read_number}
use Rattle.demands.proofs.NearWas.{
  burst_none,
  NearWas,
  AsWas,
  burst_leaves,
  wider_leaves,
  border_leaves,
  order_leaves,
  order_restores,
  visit_kept,
  visit_accepted,
  read_kept,
}
use Rattle.demands.proofs.Rounds.{round, turns_kept, round_read}
use Rattle.demands.proofs.TooMany.{other_bool, burst_lost, more_burst, flipped_lost}

struck_near : (layout : Layout) (image spoiled : List ℕ) (struck : Struck layout image spoiled) → NearWas layout image struck.valid spoiled
struck_near layout image spoiled struck =
    burst_leaves layout image struck.valid struck.reach spoiled struck.short struck.burst

-- what is left on the way
way_left : (layout : Layout) (image now : List ℕ) (way : OnTheWay layout image now)
    → NearWas layout image way.struck.valid now
    × ((block : ℕ) → block < blocks layout → Comes block way.done ⊎ AsWas layout image way.struck.valid block way.spoiled
    → AsWas layout image way.struck.valid block now)
way_left layout image now way =
    order_leaves layout image way.struck.valid way.done way.spoiled now (struck_near layout image way.spoiled way.struck) way.visits

-- ---- a read that demand 3 speaks of

read_right : (image : List ℕ) (layout : Layout) → ReadsStruck image layout
read_right image layout steps one words spaced none before rest named block buffer e now way answer kept left p z =
    let was = (store image layout before).image in
    let all = way.struck.valid in
    let near = (way_left layout was now way).0 in
    let passed : data_refusal (length was) named block (length buffer) ≡ 0 =
    ap (λ (n : ℕ). data_refusal n named block (length buffer)) (sym near.size) ∙ sym p.answers.number ∙ z in
    let number = read_number was named block buffer ∙ passed in
    let ours : named ≡ layout = one before rest (read named block buffer) e number in
    let said = read_answer was named block buffer in
    let filled = read_buffer was named block buffer in
    let unspoiled = reads was named block buffer {answer = said} {after = filled} refl refl in
    let right = demand_3.reads_right image layout steps one words spaced none before rest named block buffer e said was filled unspoiled number in
    let same = burst_leaves layout was all (words_from 0 0) was (omega arith) (burst_none (words_from 0 0) was all.words) in
    let quiet =
    read_kept layout was all was same block buffer said was filled (subst (λ (l : Layout). Reads was l block buffer said was filled) ours unspoiled) number in
    let got =
    read_kept layout was all now near block buffer answer kept left (subst (λ (l : Layout). Reads now l block buffer answer kept left) ours p) z in (
      got.0,
      got.1 ∙ sym quiet.1 ∙ right.1,
    )

-- ---- one more

index_first : (layout : Layout) → index layout 0 1 ≡ 0
index_first layout =
    let s = layout.s in
    omega (
      arith,
      ap (λ (n : ℕ). n * rows_of layout * s) (zero-div s),
      zero-mul (rows_of layout),
      ap (λ (n : ℕ). n * s) (zero-mul (rows_of layout)),
      zero-mul s,
      zero-mod s,
    )

fresh_lost : (image : List ℕ) (layout : Layout) (answer : Formatted) (after : List ℕ) → Formats image layout answer after → answer.number ≡ 0
    → Loses layout 0 (flipped_in 0 (suc layout.s) 0 after)
fresh_lost image layout answer after p z =
    let g = geometry layout (image_layout layout (length image) (sym p.number ∙ z)) in
    subst (λ (at : ℕ). Loses layout 0 (flipped_in 0 (suc layout.s) at after)) (index_first layout)
    (flipped_lost layout after (fresh_valid image layout answer after p z) 0 0 0 (one-le-mul g.g_first g.s_first)
    (omega (arith, rows_least (shape_of layout)))
    (omega arith))

else_kept : (layout : Layout) (image spoiled : List ℕ) (all : AllValid layout image)
    (start : ℕ) → Burst (words_from (suc layout.s) start) image spoiled
    → ((block k i : ℕ) → RowsPair layout k → i < 32 → index layout block (suc k) ≡ start → Changed i start image spoiled
    → Changed i (start + layout.s) image spoiled
    → ⊥)
    → NearWas layout image all spoiled
else_kept layout image spoiled all start burst lone =
    wider_leaves layout image all start spoiled burst (λ block k i pair low same u v. lone block k i pair low same (other_bool _ _ u) (other_bool _ _ v))

pub bursts : Bursts
unfolding turns
bursts =
    record {
      fresh_valid = fresh_valid;
      write_valid = write_valid;
      restored = λ layout image spoiled struck order after every v.
          order_restores layout image struck.valid order spoiled after (struck_near layout image spoiled struck) every v;
      visited = λ layout image now way block inside comes. (way_left layout image now way).1 block inside (inl comes);
      none_lost = λ layout image now way. visit_kept layout image way.struck.valid now (way_left layout image now way).0;
      accepted = λ layout image now way. visit_accepted layout image way.struck.valid now (way_left layout image now way).0;
      reads = λ layout image now way. read_kept layout image way.struck.valid now (way_left layout image now way).0;
      reads_right = read_right;
      round = λ image layout before spark since sparked enough. round image layout before spark since sparked (omega (arith, enough));
      turns_none_lost = turns_kept;
      round_reads = round_read;
      too_many = λ layout image spoiled all block k i inside pair low.
          burst_lost layout image all block k i inside (omega (arith, pair)) low spoiled;
      tight = λ layout image all block k i inside pair low. (
        more_burst layout image all block k i inside pair low,
        flipped_lost layout image all block k i inside pair low,
      );
      tight_fresh = fresh_lost;
      no_gap_words = λ layout at i n start more. omega (arith, more.0);
      no_gap_bytes = λ layout place at i n start more. omega (arith, more.0);
      else_kept = λ layout image spoiled all start burst lone order after every v.
          order_restores layout image all order spoiled after (else_kept layout image spoiled all start burst lone) every v;
      border = λ layout image spoiled all block burst order after every v.
          order_restores layout image all order spoiled after (border_leaves layout image all block spoiled burst) every v;
      bytes_from_word = λ place s word n at i four few hit. (omega (arith, hit.0), omega (arith, hit.1));
      bytes_from_any = λ place s start n at i four few hit. (omega (arith, hit.0), omega (arith, hit.1));
      bytes_more = λ s word some. ((omega arith, omega arith), (omega arith, omega arith));
    }
