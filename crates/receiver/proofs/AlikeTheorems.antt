-- A full object forgets, and the order of the tuples changes nothing. Assumes nothing.
use Prim.Native.Nat.{ℕ, ◌+◌, ◌%◌, ◌^◌, ◌<◌}
use native.Mathlib.Omega.{arith}
use mathlib.Core.Path.{◌≡◌, refl, sym, ◌∙◌, ap, subst}
use mathlib.Core.Bool.{Bool, true, false, cond, not, ◌&&◌, ◌||◌, beq, false≢true}
use mathlib.Core.List.{List, [], ◌∷◌, ◌++◌, Permᴰ}
use Rattle.std.specs.Prelude.{Option, Some, None}
use borrow.Author.Tests.{not-true}
use lib.Dec.{eqb}
use lib.ListN.{length, get_or, take}
use lib.Seq.{get_or-take, take-take}
use Rattle.laws.specs.Tests.{◌and◌}
use Rattle.laws.specs.Ladder.{Rung, ◌else◌, ladder, Hold}
use Rattle.laws.proofs.LadderLaws.{ladder-seen, Numbered, all_hold, climbed, nonzero, numbered, hold-front, hold-back, agree}
use Rattle.laws.proofs.TestLaws.{left, right, and_left, and_right}
use Rattle.wire.specs.declared.form.Row.{Row}
use Rattle.track.specs.declared.Track.{Track}
use Rattle.track.specs.Track.{narrow}
use Rattle.slots.specs.declared.lawful.Side.TheVariants.{Receiver}
use Rattle.share_words.specs.Share.{accepted_at, held_at, prft_at, last_at}
use Rattle.slots.specs.Share.{asked, track_of, is_open, lawful as lawful_share}
use Rattle.slots.specs.Table.{Out, out}
use Rattle.slots.specs.Calls.{opened_rungs}
use Rattle.locmaf_read_block.specs.Entries.{Entry, readable, lawful, says}
use Rattle.laws.specs.Options.{on_option, is_some}
use Rattle.locmaf_read_block.proofs.Order.{readable-perm, lawful-perm, says-perm}
use Rattle.prft_value.specs.declared.Prft.{Prft}
use Rattle.locmaf_read_said.specs.Said.{Says}
use Rattle.field_rules.specs.Fields.{numbers}
use Rattle.locmaf_read_set.specs.Read.{field_rungs, set_rungs, new_words}
use Rattle.locmaf_read_head.specs.Ids.{ids_ok}
use Rattle.locmaf_read_times.specs.Bmdt.{bmdt_of}
use Rattle.locmaf_read_times.specs.Prft.{prft_of}
use Rattle.locmaf_read_events.specs.Values.{listed}
use Rattle.locmaf_read_times.proofs.BmdtLaws.{bmdt-sent}
use Rattle.locmaf_read_times.proofs.PrftFacts.{full-alone}
use Rattle.answers.specs.Took.{Took, refused}
use Rattle.slots.proofs.ShareParts.{same-track}
use Rattle.reference.specs.Kept.{prft_words, beside_words, expected_after, last_after, reference_words, kept_words}
use Rattle.field_set.specs.Lawful.{has}
use Rattle.effective.specs.Expected.{next_time, expected_by}
use Rattle.counters.specs.Protected.{last_protected}
use Rattle.counters.specs.Follow.{derived_fit, with_derived}
use Rattle.receiver.specs.Object.{is_delta, head_rungs, tuples, reads, entries, saying, payload}
use Rattle.receiver.specs.Receive.{reference, bmdt, prft, events, told_set, left_out, ivs_fit, new_set, held_ok, ids_right, split_rungs, value_rungs, sequence, accepted, refusing, done, receive_rungs, receiving}
use Rattle.receiver.specs.Laws.{FullForgets, AnyOrder}
use Rattle.receiver.proofs.SaidLaws.{head-inside, one_number}
use Rattle.receiver.proofs.SameLaws.{early, late, two-parts, Same, same-late, same-took, words-full, rules-full}
use Rattle.receiver.proofs.SplitLaws.{entries-is}
use Rattle.receiver.proofs.LeftLaws.{full-fits, full-set}

-- ---- the ladder

-- no rung refuses with 0
pub receive-numbered : (F : List Row) (o output s : List ℕ) → Numbered (receive_rungs F o output s)
unfolding nonzero ◌and◌ receive_rungs head_rungs split_rungs set_rungs field_rungs value_rungs
receive-numbered F o output s = numbered (receive_rungs F o output s) refl

-- where the number is 0, no rule is broken, and what is done is done
module _ (F : List Row) (o output s : List ℕ) (z : (receiving F o output s).answer.number ≡ 0) where
  pub done-holds : Hold (receive_rungs F o output s)
  unfolding receiving
  done-holds =
      all_hold (receive_rungs F o output s) (receive-numbered F o output s)
      (sym (ladder-seen (λ (a : Out Took). a.answer.number) (receive_rungs F o output s) (refusing output s) (done F o output s)) ∙ z)

  pub done-is : receiving F o output s ≡ done F o output s
  unfolding receiving
  done-is = climbed (refusing output s) (done F o output s) (receive_rungs F o output s) done-holds

-- the ids are right where the first part of the ladder holds
early-head : (F : List Row) (o s : List ℕ) → Hold (early F o s) → Hold (head_rungs F o)
early-head F o s h =
    hold-front (head_rungs F o) ((held_ok F o s else 11) ∷ split_rungs F o s)
    (hold-back (opened_rungs Receiver s) (head_rungs F o ++ ((held_ok F o s else 11) ∷ split_rungs F o s)) h)

early-ids : (F : List Row) (o s : List ℕ) → Hold (early F o s) → ids_right F o s ≡ true
unfolding split_rungs
early-ids F o s h =
    let behind : List Rung = (held_ok F o s else 11) ∷ split_rungs F o s in
    (hold-back (head_rungs F o) behind (hold-back (opened_rungs Receiver s) (head_rungs F o ++ behind) h)).1.1.0

-- ---- a full object forgets

-- its ids don't go by what is kept
ids-full : (delta kept kept' : Bool) (at : ℕ → Bool) → delta ≡ false → ids_ok delta kept at ≡ ids_ok delta kept' at
unfolding ids_ok
ids-full delta kept kept' at d = rw d

-- id 10 stands, and id 27 doesn't
ids-stand : (delta kept : Bool) (at : ℕ → Bool) → delta ≡ false → ids_ok delta kept at ≡ true → (at 10 ≡ true) × (at 27 ≡ false)
unfolding ids_ok
ids-stand delta kept at d e =
    let full = and_right (at 18 || not (at 22 || at 24)) _ (and_right (beq (at 18) (at 20)) _ e) in
    let plain : (not (at 27) && (at 10 && at 14)) ≡ true = rw d at full in
    (and_left (at 10) (at 14) (and_right (not (at 27)) _ plain), not-true (at 27) (and_left (not (at 27)) _ plain))

some_is : (x : Option (List ℕ)) → is_some x ≡ true → (zs : List ℕ) × (x ≡ Some zs)
some_is None e = absurd (false≢true e)
some_is (Some zs) e = (zs, refl)

none_is : (x : Option (List ℕ)) → is_some x ≡ false → x ≡ None
none_is None e = refl
none_is (Some zs) e = absurd (false≢true (sym e))

-- what it leaves doesn't go by what was kept
kept_full : (delta : Bool) (s s' : List ℕ) (bytes : ℕ) {n n' : ℕ} {p p' : Prft} {w w' : List ℕ} → delta ≡ false
    → take accepted_at s ≡ take accepted_at s' → n ≡ n' → p ≡ p' → w ≡ w' → kept_words delta n p w bytes s ≡ kept_words delta n' p' w' bytes s'
unfolding kept_words expected_after last_after
kept_full delta s s' bytes d e a b c =
    rw d
    (λ j.
    let t = same-track s s' e j in
    e j ++ (a j ∷ reference_words (prft_words (b j)) (beside_words (expected_by (next_time t (c j))) (last_protected t (c j) bytes)) (c j)))

words-forgot : (t t' : Track) (delta : Bool) (r r' : List ℕ) (said : Says) (b b' : ℕ) → delta ≡ false → t ≡ t' → b ≡ b'
    → new_words t delta r said b ≡ new_words t' delta r' said b'
words-forgot t t' delta r r' said b b' d e q = rw (d, e, q) (words-full t' said r r' b')

rules-forgot : (t t' : Track) (delta : Bool) (r r' : List ℕ) (said : Says) → delta ≡ false → t ≡ t' → said 27 ≡ None
    → set_rungs t delta r said ≡ set_rungs t' delta r' said
rules-forgot t t' delta r r' said d e q = rw (d, e) (rules-full t' said r r' q)

time-forgot : (delta : Bool) (said : Says) (s s' : List ℕ) → delta ≡ false → prft_of delta said s ≡ prft_of delta said s'
time-forgot delta said s s' d = rw d (full-alone said s s')

module _ (F : List Row) (o s s' : List ℕ) (d : is_delta F o ≡ false) (h : lawful_share Receiver s ≡ true) (h' : lawful_share Receiver s' ≡ true)
    (e : take held_at s ≡ take held_at s') where
  first-same : (k : ℕ) → k < held_at → get_or s k 0 ≡ get_or s' k 0
  first-same k lt = sym (get_or-take held_at s k 0 lt) ∙ ap (λ (l : List ℕ). get_or l k 0) e ∙ get_or-take held_at s' k 0 lt

  track-same : track_of s ≡ track_of s'
  track-same =
      λ j.
      narrow
      (asked (first-same 0 (omega arith) j) (first-same 1 (omega arith) j) (first-same 2 (omega arith) j) (first-same 3 (omega arith) j)
      (first-same 4 (omega arith) j) (first-same 5 (omega arith) j) (first-same 6 (omega arith) j) (first-same 7 (omega arith) j))

  open-same : is_open s ≡ is_open s'
  unfolding is_open
  open-same = ap (λ (k : ℕ). not (eqb k 0)) (first-same 0 (omega arith))

  count_same : sequence F o s ≡ sequence F o s'
  unfolding sequence
  count_same = ap (λ (k : ℕ). (k + 1) % 2 ^ 32) (first-same 8 (omega arith))

  front_same : take accepted_at s ≡ take accepted_at s'
  front_same = sym (take-take accepted_at held_at s (omega arith)) ∙ ap (take accepted_at) e ∙ take-take accepted_at held_at s' (omega arith)

  held_same : held_ok F o s ≡ held_ok F o s'
  unfolding held_ok
  held_same = rw d

  ids-same : ids_right F o s ≡ ids_right F o s'
  unfolding ids_right
  ids-same = ap (λ (b : Bool). lawful (entries F o) and b) (ids-full (is_delta F o) _ _ _ d)

  early-same : early F o s ≡ early F o s'
  unfolding split_rungs
  early-same =
      λ j.
      ((h ∙ sym h') j else 18)
      ∷ (open-same j else 2)
      ∷ (head_rungs F o ++ ((held_same j else 11) ∷ (reads F o else 12) ∷ (ids-same j else 13) ∷ []))

  start-same : (z : ℕ) → saying F o 10 ≡ Some (z ∷ []) → bmdt F o s ≡ bmdt F o s'
  unfolding bmdt
  start-same z q = rw q (bmdt-sent (track_of s) z [] (reference F o s) ∙ sym (bmdt-sent (track_of s') z [] (reference F o s')))

  forgot : Hold (early F o s) → Same F o o s s'
  unfolding ids_right prft told_set events
  forgot k =
      let ids = ids-stand (is_delta F o) _ _ d (right _ _ (early-ids F o s k)) in
      let ten = some_is (saying F o 10) ids.0 in
      let one = one_number F o (head-inside F o (early-head F o s k)) ten.0 ten.1 in
      let start : bmdt F o s ≡ bmdt F o s' = start-same one.0 (ten.1 ∙ ap Some one.1) in
      let told : told_set F o s ≡ told_set F o s' =
      words-forgot (track_of s) (track_of s') (is_delta F o) (reference F o s) (reference F o s') (saying F o) _ _ d track-same start in
      record {
        clock = track-same;
        start = start;
        time = time-forgot (is_delta F o) (saying F o) s s' d;
        list = refl;
        listed = refl;
        named = refl;
        told = told;
        ivs = full-fits F o s d ∙ sym (full-fits F o s' d);
        words = full-set F o s d ∙ told ∙ sym (full-set F o s' d);
        rules =
            rules-forgot (track_of s) (track_of s') (is_delta F o) (reference F o s) (reference F o s') (saying F o) d track-same
            (none_is (saying F o 27) ids.1);
        rest = refl;
        count = count_same;
      }

  accepted-same : Hold (early F o s) → accepted F o s ≡ accepted F o s'
  unfolding accepted
  accepted-same k =
      let a = forgot k in
      kept_full (is_delta F o) s s' (length (payload F o)) d front_same count_same (ap (λ x. x.prft) a.time) a.words

  answers-same : (output : List ℕ) → (receiving F o output s).answer ≡ (receiving F o output s').answer
  unfolding receiving
  answers-same output =
      ladder-seen (λ (a : Out Took). a.answer) (receive_rungs F o output s) (refusing output s) (done F o output s)
      ∙ ap (λ (rs : List Rung). ladder rs (refused output) (done F o output s).answer) (two-parts F o output s)
      ∙ agree (refused output) (early F o s) (late F o output s) (late F o output s') (done F o output s).answer (done F o output s').answer
      (λ k. λ j. ladder (same-late F o o s s' (forgot k) output j) (refused output) (same-took F o o s s' (forgot k) output j))
      ∙ ap (λ (rs : List Rung). ladder (rs ++ late F o output s') (refused output) (done F o output s').answer) early-same
      ∙ ap (λ (rs : List Rung). ladder rs (refused output) (done F o output s').answer) (sym (two-parts F o output s'))
      ∙ sym (ladder-seen (λ (a : Out Took). a.answer) (receive_rungs F o output s') (refusing output s') (done F o output s'))

-- on shares that differ in their references alone a full object is answered alike, and where it is accepted it leaves them equal
pub full-forgets : FullForgets
full-forgets F o output s s' d l l' h h' e =
    let same = answers-same F o s s' d h h' e output in
    record {
      answers = same;
      words =
          λ z.
          let z' : (receiving F o output s').answer.number ≡ 0 = sym (ap (λ (a : Took). a.number) same) ∙ z in
          let holds : Hold (early F o s ++ late F o output s) = subst Hold (two-parts F o output s) (done-holds F o output s z) in
          ap (λ (a : Out Took). a.words) (done-is F o output s z)
          ∙ accepted-same F o s s' d h h' e (hold-front (early F o s) (late F o output s) holds)
          ∙ sym (ap (λ (a : Out Took). a.words) (done-is F o output s' z'));
    }

-- ---- any order is read

module _ (F : List Row) (o o' s : List ℕ) (es us : List Entry) (hr : head_rungs F o ≡ head_rungs F o') (hd : is_delta F o ≡ is_delta F o')
    (hp : payload F o ≡ payload F o') (t : tuples F o ≡ Some es) (t' : tuples F o' ≡ Some us) (p : Permᴰ es us) where
  reads_turned : reads F o ≡ reads F o'
  unfolding reads
  reads_turned = ap (λ x. on_option x (readable F) false) t ∙ readable-perm F p ∙ sym (ap (λ x. on_option x (readable F) false) t')

  lawful-turned : lawful (entries F o) ≡ lawful (entries F o')
  lawful-turned = ap lawful (entries-is F o s es t) ∙ lawful-perm p ∙ sym (ap lawful (entries-is F o' s us t'))

  -- lawful entries say the same
  says-turned : lawful (entries F o) ≡ true → saying F o ≡ saying F o'
  says-turned e = ap (says F) (entries-is F o s es t) ∙ says-perm F p (sym (ap lawful (entries-is F o s es t)) ∙ e) ∙ sym (ap (says F) (entries-is F o' s us t'))

  held-turned : held_ok F o s ≡ held_ok F o' s
  unfolding held_ok
  held-turned = ap (λ (b : Bool). not b || not (eqb (get_or s held_at 0) 0)) hd

  ids-turned : ids_right F o s ≡ ids_right F o' s
  unfolding ids_right ◌and◌
  ids-turned = go (lawful (entries F o)) refl
    where
      kept : Bool
      kept = not (eqb (get_or s prft_at 0) 0)

      go : (b : Bool) → lawful (entries F o) ≡ b → ids_right F o s ≡ ids_right F o' s
      go true e = λ j. lawful-turned j and ids_ok (hd j) kept (λ id. is_some (says-turned e j id))
      go false e = rw (e, sym lawful-turned ∙ e)

  early-turned : early F o s ≡ early F o' s
  unfolding split_rungs
  early-turned = λ j. opened_rungs Receiver s ++ (hr j ++ ((held-turned j else 11) ∷ (reads_turned j else 12) ∷ (ids-turned j else 13) ∷ []))

  turned : Hold (early F o s) → Same F o o' s s
  unfolding ids_right bmdt prft events told_set left_out ivs_fit new_set sequence
  turned k =
      let q = says-turned (left _ _ (early-ids F o s k)) in
      let told : told_set F o s ≡ told_set F o' s
      = λ j. new_words (track_of s) (hd j) (reference F o s) (q j) (bmdt_of (track_of s) (q j 10) (reference F o s)) in
      let gone : left_out F o s ≡ left_out F o' s = λ j. hd j && (not (is_some (q j 9)) && (has 9 (reference F o s) && has 9 (told j))) in
      record {
        clock = refl;
        start = λ j. bmdt_of (track_of s) (q j 10) (reference F o s);
        time = λ j. prft_of (hd j) (q j) s;
        list = λ j. listed F (q j 25);
        listed = λ j. numbers (q j 25);
        named = λ j. numbers (q j 23);
        told = told;
        ivs = λ j. not (gone j) || derived_fit (track_of s) (get_or s last_at 0) (reference F o s) (told j) (length (hp j));
        words = λ j. cond (gone j) (with_derived (track_of s) (get_or s last_at 0) (reference F o s) (told j) (length (hp j))) (told j);
        rules = λ j. set_rungs (track_of s) (hd j) (reference F o s) (q j);
        rest = hp;
        count = refl;
      }

  accepted-turned : Hold (early F o s) → accepted F o s ≡ accepted F o' s
  unfolding accepted
  accepted-turned k = let a = turned k in λ j. kept_words (hd j) (a.count j) (a.time j).prft (a.words j) (length (hp j)) s

-- the order of the tuples changes nothing, be the ids lawful or not
pub any_order : AnyOrder
unfolding receiving
any_order F o o' output s es us hr hd hp t t' p =
    let one : (k : Hold (early F o s)) → Same F o o' s s = turned F o o' s es us hr hd hp t t' p in
    ap (λ (rs : List Rung). ladder rs (refusing output s) (done F o output s)) (two-parts F o output s)
    ∙ agree (refusing output s) (early F o s) (late F o output s) (late F o' output s) (done F o output s) (done F o' output s)
    (λ k. λ j.
    ladder (same-late F o o' s s (one k) output j) (refusing output s)
    (out (same-took F o o' s s (one k) output j) (accepted-turned F o o' s es us hr hd hp t t' p k j)))
    ∙ ap (λ (rs : List Rung). ladder (rs ++ late F o' output s) (refusing output s) (done F o' output s)) (early-turned F o o' s es us hr hd hp t t' p)
    ∙ ap (λ (rs : List Rung). ladder rs (refusing output s) (done F o' output s)) (sym (two-parts F o' output s))
