-- The block of an object, split. Assumes nothing.
use Prim.Native.Nat.{ℕ, ◌<◌}
use native.Mathlib.Omega.{arith}
use mathlib.Core.Path.{◌≡◌, refl, sym, ◌∙◌, ap, subst}
use mathlib.Core.Logic.{⊎_elim}
use mathlib.Core.Bool.{Bool, true, false, cond, not}
use mathlib.Core.List.{List}
use Rattle.std.specs.Prelude.{Some, None}
use lib.Dec.{eqb}
use lib.ListN.{length, get_or, replicate, length-replicate}
use Rattle.laws.specs.Tests.{◌and◌}
use Rattle.laws.specs.Ladder.{ladder}
use Rattle.laws.proofs.LadderLaws.{broken, passed, top}
use Rattle.constants.specs.Ids.{id_count}
use Rattle.wire.specs.declared.form.Row.{Row}
use Rattle.event_value.specs.Events.{events_len}
use Rattle.locmaf_read_index.specs.declared.index.Indexed.{Indexed}
use Rattle.locmaf_read_index.specs.Places.{index_len}
use Rattle.track.specs.declared.Track.{Track}
use Rattle.share_words.specs.Share.{prft_at}
use Rattle.locmaf_read_index.specs.declared.index.Indexed.TheVariants.{Clean, Stray, Cut}
use Rattle.locmaf_read_index.specs.Index.{Index, index_at, Indexable}
use Rattle.locmaf_read_block.specs.Entries.{Entry, entries_at, readable, lawful, says}
use Rattle.locmaf_read_index.specs.Held.{answer_of, Tells}
use Rattle.laws.specs.Options.{is_some}
use Rattle.locmaf_read_index.proofs.AnswerLaws.{blank-zeros, index-answer, answer-clean, answer-stray, answer-cut}
use Rattle.locmaf_read_index.proofs.SaysLaws.{index-says}
use Rattle.locmaf_read_said.specs.Said.{says_in, Telling}
use Rattle.locmaf_read_index.proofs.LongLaws.{index-length}
use Rattle.locmaf_read_said.proofs.TellingLaws.{telling, telling-says, stands-says}
use Rattle.locmaf_read_head.specs.declared.head.Place.{Place}
use Rattle.locmaf_read_head.specs.Ids.{ids_ok, stands_in, block_number}
use Rattle.receiver.specs.Object.{is_delta, block_at, block_end, tuples, reads, entries, saying}
use Rattle.receiver.specs.Receive.{ids_right, split_rungs}
use Rattle.receiver.specs.Judge.{Judgeable, Split, SplitAs}
use Rattle.locmaf_read_head.proofs.IdLaws.{ids-says}

-- one step of the two
module _ (F : List Row) (o s : List ℕ) where
  split-cut : reads F o ≡ false → 12 ≡ ladder (split_rungs F o s) (λ k. k) 0
  unfolding split_rungs
  split-cut e = broken _ _ _ _ _ e

  split-stray : reads F o ≡ true → ids_right F o s ≡ false → 13 ≡ ladder (split_rungs F o s) (λ k. k) 0
  unfolding split_rungs
  split-stray e h = passed _ _ _ _ _ e (broken _ _ _ _ _ h)

  split_done : reads F o ≡ true → ids_right F o s ≡ true → 0 ≡ ladder (split_rungs F o s) (λ k. k) 0
  unfolding split_rungs
  split_done e h = passed _ _ _ _ _ e (passed _ _ _ _ _ h (top _ _))

  -- what the tuples say of the two tests
  module _ (es : List Entry) (q : tuples F o ≡ Some es) where
    reads-is : reads F o ≡ readable F es
    unfolding reads
    reads-is = rw q

    pub entries-is : entries F o ≡ es
    unfolding entries
    entries-is = rw q

    ids-stray : lawful es ≡ false → ids_right F o s ≡ false
    unfolding ids_right ◌and◌
    ids-stray e = rw (entries-is, e)

    ids-clean : lawful es ≡ true → ids_right F o s ≡ ids_ok (is_delta F o) (not (eqb (get_or s prft_at 0) 0)) (λ id. is_some (saying F o id))
    unfolding ids_right ◌and◌
    ids-clean e = let z : lawful (entries F o) ≡ true = ap lawful entries-is ∙ e in rw z

  reads_none : tuples F o ≡ None → reads F o ≡ false
  unfolding reads
  reads_none q = rw q

  not-zero : (k : ℕ) (index events : List ℕ) → (k ≡ 0 → ⊥) → k ≡ 0 → Split F o index events
  not-zero k index events n e = absurd (n e)

-- ---- the index of the block, by the place that the head gave

pub record Noted (F : List Row) (o s : List ℕ) (t : Track) (p : Place) (x : Index) : Type 0 where
  pub head : Judgeable F o s t p
  pub is : x ≡ index_at F o (block_at F o) (block_end F o) (replicate index_len 0) (replicate events_len 0)

module _ {F : List Row} {o s : List ℕ} {t : Track} {p : Place} (j : Judgeable F o s t p) {index events : List ℕ}
    (a : index ≡ replicate index_len 0) (b : events ≡ replicate events_len 0) where
  -- what `index` is lent
  pub indexable : Indexable o p.at p.end index events
  unfolding block_end
  indexable =
      let e : p.end ≡ block_end F o = ap (λ (q : Place). q.end) j.place in
      let f : p.at ≡ block_at F o = ap (λ (q : Place). q.at) j.place in
      record {
        inside = omega (arith, j.inside);
        block = omega (arith, j.block);
        room = ap length a ∙ length-replicate {A = ℕ} index_len 0;
        list = ap length b ∙ length-replicate {A = ℕ} events_len 0;
      }

  -- and what it leaves
  pub noted : {x : Index} → x ≡ index_at F o p.at p.end index events → Noted F o s t p x
  noted e =
      record {
        head = j;
        is =
            e
            ∙ ap (λ (q : Place). index_at F o q.at q.end index events) j.place
            ∙ ap (λ (w : List ℕ). index_at F o (block_at F o) (block_end F o) w events) a
            ∙ ap (index_at F o (block_at F o) (block_end F o) (replicate index_len 0)) b;
      }

  -- words as long as those that were lent
  pub events-long : (after : List ℕ) → length after ≡ length events → length after ≡ events_len
  events-long after e = e ∙ ap length b ∙ length-replicate {A = ℕ} events_len 0

-- ---- what it answers

module _ {F : List Row} {o s : List ℕ} {t : Track} {p : Place} {x : Index} (n : Noted F o s t p x) where
  words-zeros : length {A = ℕ} (replicate index_len 0) ≡ index_len
  words-zeros = length-replicate {A = ℕ} index_len 0

  pub words_long : length x.words ≡ index_len
  words_long =
      ap (λ (y : Index). length y.words) n.is
      ∙ index-length F o (block_at F o) (block_end F o) (replicate index_len 0) (replicate events_len 0)
      ∙ words-zeros

  answered : x.answer ≡ answer_of F (tuples F o)
  unfolding tuples
  answered =
      ap (λ (y : Index). y.answer) n.is
      ∙ index-answer F o (block_at F o) (block_end F o) (replicate index_len 0) (replicate events_len 0) n.head.inside words-zeros (blank-zeros index_len)

  -- something in the block is cut
  pub split-twelve : (index events : List ℕ) → x.answer ≡ Cut → SplitAs F o s 12 index events
  split-twelve index events e =
      record {
        answered =
            split-cut F o s
            (⊎_elim (reads_none F o s) (λ (u : (es : List Entry) × (tuples F o ≡ Some es) × (readable F es ≡ false)). reads-is F o s u.0 u.1 ∙ u.2)
            (answer-cut F (tuples F o) (sym answered ∙ e)));
        split = not-zero F o s 12 index events (λ z. omega arith);
      }

  -- an id is unknown or stands twice
  pub split-thirteen : (index events : List ℕ) → x.answer ≡ Stray → SplitAs F o s 13 index events
  split-thirteen index events e =
      let u = answer-stray F (tuples F o) (sym answered ∙ e) in
      record {
        answered = split-stray F o s (reads-is F o s u.0 u.1 ∙ u.2) (ids-stray F o s u.0 u.1 u.3);
        split = not-zero F o s 13 index events (λ z. omega arith);
      }

  -- all is read
  module _ (clean : x.answer ≡ Clean) where
    read : (es : List Entry) × (tuples F o ≡ Some es) × (readable F es ≡ true) × (lawful es ≡ true)
    read = answer-clean F (tuples F o) (sym answered ∙ clean)

    at_block : entries_at F o (block_at F o) (block_end F o) ≡ Some read.0
    unfolding tuples
    at_block = read.1

    split-says : says_in F o x.words ≡ saying F o
    split-says =
        ap (λ (y : Index). says_in F o y.words) n.is
        ∙ telling-says F o (block_at F o) (block_end F o) (replicate index_len 0) (replicate events_len 0) read.0 n.head.inside words-zeros
        (blank-zeros index_len) at_block read.2 read.3
        ∙ ap (says F) (sym (entries-is F o s read.0 read.1))

    split-telling : Telling F o x.words
    split-telling =
        subst (λ (y : Index). Telling F o y.words) (sym n.is)
        (telling F o (block_at F o) (block_end F o) (replicate index_len 0) (replicate events_len 0) read.0 n.head.inside words-zeros
        (blank-zeros index_len) at_block read.2 read.3)

    list-told : Tells F o (block_end F o) x.words (replicate events_len 0) x.events 25 (saying F o 25)
    list-told =
        let a = index-says F o (block_at F o) (block_end F o) (replicate index_len 0) (replicate events_len 0) read.0 n.head.inside words-zeros
        (blank-zeros index_len) at_block read.2 read.3 25 in
        let b : Tells F o (block_end F o) x.words (replicate events_len 0) x.events 25 (says F read.0 25) =
        subst (λ (y : Index). Tells F o (block_end F o) y.words (replicate events_len 0) y.events 25 (says F read.0 25)) (sym n.is) a in
        subst (λ (us : List Entry). Tells F o (block_end F o) x.words (replicate events_len 0) x.events 25 (says F us 25))
        (sym (entries-is F o s read.0 read.1)) b

    stands : (id : ℕ) → id < id_count → (id ≡ 25 → ⊥) → stands_in x.words id ≡ is_some (saying F o id)
    stands id lt m = stands-says F o x.words split-telling id lt m ∙ ap (λ f. is_some (f id)) split-says

    -- the ids by the index are those that the object says
    pub ids-are : ids_ok p.delta (not (eqb (get_or s prft_at 0) 0)) (stands_in x.words) ≡ ids_right F o s
    ids-are =
        ap (λ (u : Place). ids_ok u.delta (not (eqb (get_or s prft_at 0) 0)) (stands_in x.words)) n.head.place
        ∙ ids-says (is_delta F o) (not (eqb (get_or s prft_at 0) 0)) (stands_in x.words) (λ id. is_some (saying F o id))
        (stands 10 (omega arith) (λ z. omega arith))
        (stands 14 (omega arith) (λ z. omega arith))
        (stands 18 (omega arith) (λ z. omega arith))
        (stands 20 (omega arith) (λ z. omega arith))
        (stands 22 (omega arith) (λ z. omega arith))
        (stands 23 (omega arith) (λ z. omega arith))
        (stands 24 (omega arith) (λ z. omega arith))
        (stands 27 (omega arith) (λ z. omega arith))
        ∙ sym (ids-clean F o s read.0 read.1 read.3)

    -- ids that may not stand together
    pub split-forbidden : (index events : List ℕ) → ids_right F o s ≡ false → SplitAs F o s 13 index events
    split-forbidden index events e =
        record {
          answered = split-stray F o s (reads-is F o s read.0 read.1 ∙ read.2) e;
          split = not-zero F o s 13 index events (λ z. omega arith);
        }

    -- all is right
    pub split-zero : length x.events ≡ events_len → ids_right F o s ≡ true → SplitAs F o s 0 x.words x.events
    split-zero long e =
        record {
          answered = split_done F o s (reads-is F o s read.0 read.1 ∙ read.2) e;
          split = λ _. record { telling = split-telling; says = split-says; list = list-told; long = long };
        }

  -- the number by what the index answered, and by the ids that stand
  pub split-is : length x.events ≡ events_len → (k : ℕ)
      → k ≡ block_number x.answer (ids_ok p.delta (not (eqb (get_or s prft_at 0) 0)) (stands_in x.words))
      → SplitAs F o s k x.words x.events
  split-is long k e = subst (λ (z : ℕ). SplitAs F o s z x.words x.events) (sym e) (go x.answer refl)
    where
      right : Bool
      right = ids_ok p.delta (not (eqb (get_or s prft_at 0) 0)) (stands_in x.words)

      read_all : x.answer ≡ Clean → (b : Bool) → right ≡ b → SplitAs F o s (cond b 0 13) x.words x.events
      read_all q true r = split-zero q long (sym (ids-are q) ∙ r)
      read_all q false r = split-forbidden q _ _ (sym (ids-are q) ∙ r)

      go : (i : Indexed) → x.answer ≡ i → SplitAs F o s (block_number i right) x.words x.events
      go Cut q = split-twelve _ _ q
      go Stray q = split-thirteen _ _ q
      go Clean q = read_all q right refl
