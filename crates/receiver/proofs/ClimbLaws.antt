-- An object judged step by step: its block, its set, its values. Assumes nothing.
use Prim.Native.Nat.{ℕ, ◌≤◌}
use native.Mathlib.Omega.{arith}
use mathlib.Core.Path.{◌≡◌, sym, ◌∙◌, ap, subst}
use mathlib.Core.Bool.{Bool, true}
use mathlib.Core.List.{List, ◌++◌, append_assoc}
use borrow.Author.Rules.{part_to_end}
use lib.ListN.{length}
use Rattle.std.specs.Prelude.{Result, Err}
use Rattle.laws.specs.Ladder.{Hold}
use Rattle.laws.proofs.LadderLaws.{number_of, Numbered, all_hold, climbed-on, stopped-on}
use Rattle.refusal.specs.declared.Refusal.{Refusal}
use Rattle.refusal.specs.Numbers.{number_of as refusal_number}
use Rattle.refusal.proofs.NumberLaws.{number-some}
use Rattle.wire.specs.declared.form.Row.{Row}
use Rattle.track.specs.declared.Track.{Track}
use Rattle.field_table.specs.Lines.{set_len}
use Rattle.field_set.specs.Lawful.{lawful as lawful_set}
use Rattle.share_words.specs.Share.{set_at}
use Rattle.slots.specs.Share.{track_of}
use Rattle.locmaf_read_said.specs.Said.{Says, says_in}
use Rattle.locmaf_read_set.specs.Read.{new_words, field_rungs, set_rungs, ReadAs}
use Rattle.locmaf_read_head.specs.declared.head.Place.{Place}
use Rattle.slots.proofs.ShareLaws.{lent}
use Rattle.reference.proofs.OpenLaws.{reference-long}
use Rattle.receiver.specs.declared.judge.Judged.{Judged}
use Rattle.receiver.specs.Object.{is_delta, saying}
use Rattle.receiver.specs.Receive.{track, reference, split_rungs, value_rungs, judge_rungs}
use Rattle.receiver.specs.Judge.{Judgeable, Split, SplitAs, read_rungs, BlockReadAs, JudgedAs}
use Rattle.receiver.proofs.JudgeLaws.{iv-small, delta-good, judged-none}

-- no step answers 0 where it refuses
split-numbered : (F : List Row) (o s : List ℕ) → Numbered (split_rungs F o s)
unfolding split_rungs
split-numbered F o s = ((λ e. omega arith), ((λ e. omega arith), tt))

set-numbered : (t : Track) (delta : Bool) (r : List ℕ) (says : Says) → Numbered (set_rungs t delta r says)
unfolding set_rungs field_rungs
set-numbered t delta r says =
    ((λ e. omega arith), ((λ e. omega arith), ((λ e. omega arith), ((λ e. omega arith), ((λ e. omega arith), ((λ e. omega arith), tt))))))

read-numbered : (F : List Row) (o s : List ℕ) → Numbered (read_rungs F o s)
unfolding split_rungs
read-numbered F o s = ((λ e. omega arith), ((λ e. omega arith), set-numbered (track F o s) (is_delta F o) (reference F o s) (saying F o)))

-- the track is the share's
pub own-track : {F : List Row} {o s : List ℕ} {t : Track} {p : Place} → Judgeable F o s t p → Judgeable F o s (track_of s) p
own-track {F} {o} {s} {t} {p} j = subst (λ (u : Track). Judgeable F o s u p) j.track j

module _ {F : List Row} {o s : List ℕ} {t : Track} {p : Place} (j : Judgeable F o s t p) {k : ℕ} {index ev : List ℕ} (sa : SplitAs F o s k index ev) where
  -- the block can't be split
  pub refuses-split : (e x : List ℕ) → (k ≡ 0 → ⊥) → BlockReadAs F o s t p k index e x
  refuses-split e x n =
      record {
        answered =
            sa.answered
            ∙ stopped-on (split_rungs F o s) (set_rungs (track F o s) (is_delta F o) (reference F o s) (saying F o)) (λ i. i) 0
            (λ z. n (sa.answered ∙ z));
        read = λ z. absurd (n z);
      }

  -- it can
  module _ (z : k ≡ 0) where
    pub split-of : Split F o index ev
    split-of = sa.split z

    split-holds : Hold (split_rungs F o s)
    split-holds = all_hold (split_rungs F o s) (split-numbered F o s) (sym sa.answered ∙ z)

    -- what `read_set` is lent
    pub set-lent : (length (lent s) ≡ set_len) × (t.iv_size ≤ 16) × (p.delta ≡ true → lawful_set t (lent s) ≡ true)
    set-lent =
        let d : p.delta ≡ is_delta F o = ap (λ (q : Place). q.delta) j.place in
        rw (part_to_end s set_at) (reference-long s j.share, iv-small j, λ e. delta-good j (sym d ∙ e))

    module _ {n : ℕ} {x : List ℕ}
        (rd : ReadAs (set_rungs t p.delta (lent s) (says_in F o index)) (new_words t p.delta (lent s) (says_in F o index) 0) n x) where
      rungs-are : set_rungs t p.delta (lent s) (says_in F o index) ≡ set_rungs t (is_delta F o) (reference F o s) (saying F o)
      rungs-are =
          ap (λ (q : Place). set_rungs t q.delta (lent s) (says_in F o index)) j.place
          ∙ ap (λ (r : List ℕ). set_rungs t (is_delta F o) r (says_in F o index)) (part_to_end s set_at)
          ∙ ap (set_rungs t (is_delta F o) (reference F o s)) split-of.says

      read_is : n ≡ number_of (set_rungs t (is_delta F o) (reference F o s) (saying F o))
      read_is = rd.answered ∙ ap number_of rungs-are

      track-is : n ≡ number_of (set_rungs (track F o s) (is_delta F o) (reference F o s) (saying F o))
      track-is = read_is ∙ ap (λ (u : Track). number_of (set_rungs u (is_delta F o) (reference F o s) (saying F o))) j.track

      set_holds : n ≡ 0 → Hold (set_rungs t (is_delta F o) (reference F o s) (saying F o))
      set_holds y = all_hold _ (set-numbered t (is_delta F o) (reference F o s) (saying F o)) (sym read_is ∙ y)

      set-words : n ≡ 0 → x ≡ new_words t (is_delta F o) (reference F o s) (saying F o) 0
      set-words y =
          rd.stored y
          ∙ ap (λ (q : Place). new_words t q.delta (lent s) (says_in F o index) 0) j.place
          ∙ ap (λ (r : List ℕ). new_words t (is_delta F o) r (says_in F o index) 0) (part_to_end s set_at)
          ∙ ap (λ (f : Says). new_words t (is_delta F o) (reference F o s) f 0) split-of.says

      -- the number is the set's, and both lists of words are what was left in them
      pub read_of : {e y : List ℕ} → e ≡ ev → y ≡ x → BlockReadAs F o s t p n index e y
      read_of a b =
          record {
            answered =
                track-is
                ∙ climbed-on (split_rungs F o s) (set_rungs (track F o s) (is_delta F o) (reference F o s) (saying F o)) (λ i. i) 0 split-holds;
            read =
                λ y.
                record { head = j; split = subst (λ (l : List ℕ). Split F o index l) (sym a) split-of; hold = set_holds y; words = b ∙ set-words y };
          }

-- the values' rules come last
values-last : (F : List Row) (o s : List ℕ) → number_of (read_rungs F o s ++ value_rungs F o s) ≡ number_of (judge_rungs F o s)
values-last F o s = ap number_of (append_assoc (split_rungs F o s) (set_rungs (track F o s) (is_delta F o) (reference F o s) (saying F o)) (value_rungs F o s))

module _ {F : List Row} {o s : List ℕ} {t : Track} {p : Place} {n : ℕ} {index ev x : List ℕ} (b : BlockReadAs F o s t p n index ev x) where
  -- a rule of the block or of its set is broken
  pub refuses-read : (r : Refusal) (ws w : List ℕ) → refusal_number r ≡ n → JudgedAs (judge_rungs F o s) F o s (Err r) ws w
  refuses-read r ws w e =
      judged-none F o s (judge_rungs F o s) r ws w
      (e ∙ b.answered ∙ stopped-on (read_rungs F o s) (value_rungs F o s) (λ i. i) 0 (λ y. number-some r (e ∙ b.answered ∙ y)) ∙ values-last F o s)

  -- none is, and the rest is the values'
  pub judged-on : n ≡ 0 → (a : Result Judged Refusal) (ws w : List ℕ) → JudgedAs (value_rungs F o s) F o s a ws w → JudgedAs (judge_rungs F o s) F o s a ws w
  judged-on y a ws w h =
      let k : Hold (read_rungs F o s) = all_hold (read_rungs F o s) (read-numbered F o s) (sym b.answered ∙ y) in
      record {
        answered = h.answered ∙ climbed-on (read_rungs F o s) (value_rungs F o s) (λ i. i) 0 k ∙ values-last F o s;
        ready = h.ready;
      }
