-- What each return of a call on a share shows. Assumes nothing.
use Prim.Native.Nat.{ℕ}
use native.Mathlib.Omega.{arith}
use mathlib.Core.Path.{◌≡◌, refl, sym, ◌∙◌, ap}
use mathlib.Core.Bool.{Bool, true, false, not, ◌&&◌, ◌||◌}
use mathlib.Core.List.{List, ◌∷◌, ◌++◌}
use Rattle.std.specs.Prelude.{Ok, Err}
use lib.Dec.{eqb}
use lib.ListN.{length, get_or}
use Rattle.laws.specs.Ladder.{◌else◌, ladder}
use Rattle.laws.proofs.LadderLaws.{broken, passed, Numbered, all_hold, climbed-on, stopped-on}
use Rattle.refusal.specs.declared.Refusal.{Refusal}
use Rattle.refusal.specs.declared.Refusal.TheVariants.{NotOpen, NoReference, UnlawfulTable}
use Rattle.refusal.specs.Numbers.{number_of}
use Rattle.refusal.proofs.NumberLaws.{number-some}
use Rattle.wire.specs.declared.form.Row.{Row}
use Rattle.track.specs.declared.Track.{Track}
use Rattle.track.specs.Track.{lawful as lawful_track}
use Rattle.slots.specs.declared.lawful.Side.TheVariants.{Receiver}
use Rattle.share_words.specs.Share.{share_len, track_at, held_at}
use Rattle.slots.specs.Share.{asked_of, lawful}
use Rattle.slots.specs.Table.{Out}
use Rattle.slots.proofs.CallLaws.{shut, ajar}
use Rattle.locmaf_read_set.specs.Read.{set_rungs, field_rungs}
use Rattle.locmaf_read_head.specs.declared.head.Place.{Place}
use Rattle.locmaf_read_head.specs.Head.{head_of}
use Rattle.answers.specs.Took.{Took}
use Rattle.reference.proofs.OpenLaws.{opened-facts}
use Rattle.receiver.specs.declared.judge.Judged.{Judged}
use Rattle.receiver.specs.Object.{is_delta, head_rungs}
use Rattle.receiver.specs.Receive.{held_ok, split_rungs, value_rungs, judge_rungs, room_rungs, refusing, written, taken, done, receive_rungs, receiving}
use Rattle.receiver.specs.Judge.{Judgeable, JudgedAs}
use Rattle.receiver.specs.Opened.{OpenedAs}
use Rattle.receiver.proofs.HeadRungs.{head-stopped, head_opened}

none-held : (d e : Bool) → (d && e) ≡ true → (not d || not e) ≡ false
none-held true true h = refl
none-held true false h = sym h
none-held false e h = sym h

some-held : (d e : Bool) → (d && e) ≡ false → (not d || not e) ≡ true
some-held true true h = sym h
some-held true false h = refl
some-held false e h = refl

module _ (F : List Row) (o s : List ℕ) where
  -- ---- before its block is read

  pub opened-unlawful : lawful Receiver s ≡ false → OpenedAs F o s (Err UnlawfulTable)
  unfolding receiving receive_rungs
  opened-unlawful h output = broken _ 18 _ _ _ h

  module _ (h : lawful Receiver s ≡ true) where
    pub opened-closed : get_or s track_at 0 ≡ 0 → OpenedAs F o s (Err NotOpen)
    unfolding receiving receive_rungs
    opened-closed e output = passed _ 18 _ _ _ h (broken _ 2 _ _ _ (shut s e))

    module _ (e : get_or s track_at 0 ≡ 0 → ⊥) where
      pub opened-headless : (r : Refusal) → head_of F o ≡ Err r → OpenedAs F o s (Err r)
      unfolding receiving receive_rungs
      opened-headless r q output =
          let z = head-stopped F o r q in
          passed _ 18 _ _ _ h (passed _ 2 _ _ _ (ajar s e)
          (ap (refusing output s) (sym z) ∙ stopped-on (head_rungs F o) _ (refusing output s) _ (λ u. number-some r (sym z ∙ u))))

      module _ (p : Place) (q : head_of F o ≡ Ok p) where
        kind-is : p.delta ≡ is_delta F o
        kind-is = ap (λ (z : Place). z.delta) (head_opened F o p q).place

        held-false : p.delta && eqb (get_or s held_at 0) 0 ≡ true → held_ok F o s ≡ false
        unfolding held_ok
        held-false k = none-held (is_delta F o) (eqb (get_or s held_at 0) 0) (ap (λ (z : Bool). z && eqb (get_or s held_at 0) 0) (sym kind-is) ∙ k)

        held-true : p.delta && eqb (get_or s held_at 0) 0 ≡ false → held_ok F o s ≡ true
        unfolding held_ok
        held-true k = some-held (is_delta F o) (eqb (get_or s held_at 0) 0) (ap (λ (z : Bool). z && eqb (get_or s held_at 0) 0) (sym kind-is) ∙ k)

        -- the rungs from the reference on
        climbs-head : (output : List ℕ) {r : Out Took}
            → r ≡ ladder ((held_ok F o s else 11) ∷ (judge_rungs F o s ++ room_rungs F o output s)) (refusing output s) (done F o output s)
            → r ≡ receiving F o output s
        unfolding receiving receive_rungs
        climbs-head output d =
            passed _ 18 _ _ _ h (passed _ 2 _ _ _ (ajar s e)
            (d ∙ climbed-on (head_rungs F o) _ (refusing output s) (done F o output s) (head_opened F o p q).hold))

        pub opened-unheld : p.delta && eqb (get_or s held_at 0) 0 ≡ true → OpenedAs F o s (Err NoReference)
        opened-unheld k output = climbs-head output (broken _ 11 _ _ _ (held-false k))

        pub opened-held : p.delta && eqb (get_or s held_at 0) 0 ≡ false → length s ≡ share_len → OpenedAs F o s (Ok p)
        opened-held k l =
            let z = head_opened F o p q in
            record {
              judgeable =
                  record {
                    share = l;
                    lawful = h;
                    opened = ajar s e;
                    held = held-true k;
                    track = refl;
                    place = z.place;
                    inside = z.inside;
                    block = z.block;
                  };
              goes_on = λ output. climbs-head output (passed _ 11 _ _ _ (held-true k) refl);
            }

  -- the share of an object that goes on is open
  pub track-lawful : {t : Track} {p : Place} → Judgeable F o s t p → lawful_track (asked_of s) ≡ true
  track-lawful j = (opened-facts Receiver s j.lawful j.opened).track

  -- ---- its block

  -- none of its rungs refuses with 0
  numbered : Numbered (judge_rungs F o s)
  unfolding split_rungs set_rungs field_rungs value_rungs
  numbered =
      let r12 : ◌≡◌ {A = ℕ} 12 0 → ⊥ = λ z. omega arith in
      let r13 : ◌≡◌ {A = ℕ} 13 0 → ⊥ = λ z. omega arith in
      let r14 : ◌≡◌ {A = ℕ} 14 0 → ⊥ = λ z. omega arith in
      let r15 : ◌≡◌ {A = ℕ} 15 0 → ⊥ = λ z. omega arith in
      let r16 : ◌≡◌ {A = ℕ} 16 0 → ⊥ = λ z. omega arith in
      let r21 : ◌≡◌ {A = ℕ} 21 0 → ⊥ = λ z. omega arith in
      (r12, (r13, (r14, (r15, (r14, (r15, (r14, (r15, (r15, (r16, (r21, tt)))))))))))

  module _ (output : List ℕ) where
    pub judged-stops : (r : Refusal) (ws x : List ℕ) → JudgedAs (judge_rungs F o s) F o s (Err r) ws x → refusing output s (number_of r) ≡ taken F o output s
    judged-stops r ws x h =
        ap (refusing output s) h.answered
        ∙ stopped-on (judge_rungs F o s) (room_rungs F o output s) (refusing output s) (done F o output s) (λ z. number-some r (h.answered ∙ z))

    pub judged-climbs : (j : Judged) (ws x : List ℕ) → JudgedAs (judge_rungs F o s) F o s (Ok j) ws x → written F o output s ≡ taken F o output s
    judged-climbs j ws x h =
        climbed-on (judge_rungs F o s) (room_rungs F o output s) (refusing output s) (done F o output s)
        (all_hold (judge_rungs F o s) numbered (sym h.answered))
