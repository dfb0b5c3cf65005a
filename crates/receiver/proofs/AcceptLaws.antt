-- What is written for an object whose number is 0, and what stands in the share then. Assumes nothing.
use Prim.Native.Nat.{ℕ, ◌+◌, ◌-◌, ◌%◌, ◌≤◌}
use native.Mathlib.Omega.{arith}
use mathlib.Core.Path.{◌≡◌, refl, sym, ◌∙◌, ap, subst}
use mathlib.Core.Bool.{true, false}
use mathlib.Core.List.{List, ◌++◌}
use Rattle.std.specs.Prelude.{Ok}
use borrow.Author.Tests.{leb-true}
use lib.ListN.{length, get_or, take, drop}
use lib.Seq.{slice}
use Rattle.laws.specs.Writes.{Wrote}
use Rattle.laws.proofs.LadderLaws.{broken, passed, top}
use Rattle.laws.proofs.SliceLaws.{slice-lent, slice-to-end}
use Rattle.laws.proofs.WriteLaws.{wrote-front}
use Rattle.wire.specs.declared.form.Row.{Row}
use Rattle.track.specs.declared.Track.{Track}
use Rattle.track.specs.Track.{u32}
use Rattle.field_set.specs.Lawful.{lawful as lawful_set}
use Rattle.slots.specs.declared.lawful.Side.TheVariants.{Receiver}
use Rattle.share_words.specs.Share.{accepted_at}
use Rattle.slots.specs.Table.{out}
use Rattle.event_value.specs.Events.{events_of}
use Rattle.cmaf_write_front.specs.Front.{front}
use Rattle.cmaf_write_front.specs.Writable.{Writable}
use Rattle.locmaf_read_head.specs.declared.head.Place.{Place}
use Rattle.answers.specs.Took.{took}
use Rattle.answers.specs.Answered.{AnsweredAs}
use Rattle.answers.specs.Room.{fits}
use Rattle.reference.specs.Kept.{kept_words}
use Rattle.reference.proofs.OpenLaws.{opened-facts}
use Rattle.receiver.specs.declared.judge.Judged.{Judged}
use Rattle.receiver.specs.Object.{is_delta, block_end, payload}
use Rattle.receiver.specs.Receive.{track, prft, brands, new_set, sequence, chunk, accepted, refusing, done, written}
use Rattle.receiver.specs.Judge.{Judgeable, Ready}
use Rattle.receiver.proofs.JudgeLaws.{end-inside, payload-long}

module _ (F : List Row) (o s : List ℕ) (t : Track) (p : Place) (a : Judgeable F o s t p) where
  -- the payload stands behind the block
  end_is : p.end ≡ block_end F o
  end_is = ap (λ (z : Place). z.end) a.place

  -- as it is told
  rest-long : p.end + (length o - p.end) ≡ length o
  rest-long = let h = end-inside a in omega arith

  behind-is : slice p.end (p.end + (length o - p.end)) o ≡ payload F o
  unfolding payload
  behind-is =
      slice-to-end p.end (p.end + (length o - p.end)) o (sym rest-long)
      ∙ ap (λ (z : ℕ). drop z o) end_is

  pub count_small : get_or s accepted_at 0 ≤ u32
  count_small = leb-true _ _ (opened-facts Receiver s a.lawful a.opened).accepted

  pub sequence-is : (get_or s accepted_at 0 + 1) % 4294967296 ≡ sequence F o s
  unfolding sequence
  sequence-is = refl

  module _ (j : Judged) (ws x : List ℕ) (r : Ready F o s j ws x) where
    -- the new set is lawful on the track that is lent
    pub set-good : lawful_set t x ≡ true
    set-good = ap (λ (u : Track). lawful_set u x) a.track ∙ r.good

    -- the brands as they are lent
    pub brands-lent : take (j.brands.at + j.brands.len - j.brands.at) (drop j.brands.at o) ≡ brands F o s
    brands-lent = slice-lent j.brands.at (j.brands.at + j.brands.len) o (omega arith) r.inside ∙ r.named

    module _ {names : List ℕ} (e : names ≡ brands F o s) where
      pub writable : Writable t x (length o - p.end) j.prft o ws j.events names
      writable =
          subst (λ (z : Track). Writable z x (length o - p.end) j.prft o ws j.events names) (sym a.track)
          (subst (λ (z : ℕ). Writable (track F o s) x z j.prft o ws j.events names) (sym (payload-long a))
          (subst (λ (z : List ℕ). Writable (track F o s) x (length (payload F o)) j.prft o ws j.events z) (sym e) r.writable))

      abbrev fronted : ℕ → List ℕ
      fronted q = front t q x (length o - p.end) j.prft (events_of o ws j.events) names

      front-is : fronted (sequence F o s) ≡ chunk F o s
      unfolding chunk
      front-is = λ i. front (a.track i) (sequence F o s) (r.words i) (payload-long a i) (r.time i) (r.list i) (e i)

      -- its length is the same, whatever the sequence number
      pub long-is : (n : ℕ) → ((q : ℕ) → n ≡ length (fronted q)) → n ≡ length (chunk F o s)
      long-is n h = h (sequence F o s) ∙ ap length front-is

      pub need-is : (n q : ℕ) → n ≡ length (chunk F o s) → q ≡ sequence F o s → n ≡ length (fronted q)
      need-is n q h u = h ∙ ap length (sym (ap fronted u ∙ front-is))

      pub done-is : (output : List ℕ) (q n : ℕ) (after kept : List ℕ) → q ≡ sequence F o s → Wrote output 0 (fronted q) after n
          → kept ≡ kept_words p.delta q j.prft x (length o - p.end) s
          → AnsweredAs (done F o output s) o (Ok (record { front = n; payload = record { at = p.end; len = length o - p.end } })) after kept
      unfolding accepted
      done-is output q n after kept u f g =
          let w : fronted q ≡ chunk F o s = ap fronted u ∙ front-is in
          let l : n ≡ length (chunk F o s) = (wrote-front f).0 ∙ ap length w in
          let d : p.delta ≡ is_delta F o = ap (λ (z : Place). z.delta) a.place in
          let y : after ≡ chunk F o s ++ drop (length (chunk F o s)) output = (wrote-front f).1 ∙ (λ i. w i ++ drop (length (w i)) output) in
          let z : kept ≡ kept_words (is_delta F o) (sequence F o s) (prft F o s).prft (new_set F o s) (length (payload F o)) s =
          g ∙ (λ i. kept_words (d i) (u i) (r.time i) (r.words i) (payload-long a i) s) in
          record { so = λ i. out (took 0 (l i) (behind-is i) (y i)) (z i); inside = omega (arith, rest-long) }

-- there is room for so many bytes, or there isn't
module _ (F : List Row) (o s output : List ℕ) (n : ℕ) (e : n ≡ length (chunk F o s)) where
  pub short : fits n (length output) ≡ false → refusing output s 17 ≡ written F o output s
  short h = broken _ 17 _ _ _ (ap (λ (z : ℕ). fits z (length output)) (sym e) ∙ h)

  pub long-enough : fits n (length output) ≡ true → done F o output s ≡ written F o output s
  long-enough h = passed _ 17 _ _ _ (ap (λ (z : ℕ). fits z (length output)) (sym e) ∙ h) (top _ _)
