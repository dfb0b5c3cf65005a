-- The encoder's object, read by our receiver with room: what it gives, and what is left in the receiver's share. Assumes nothing.
use Prim.Native.Nat.{ℕ, ◌^◌, ◌<◌}
use native.Mathlib.Omega.{arith}
use mathlib.Core.Path.{◌≡◌, refl, sym, ◌∙◌, ap, ap₂}
use mathlib.Core.Bool.{Bool, true, false, cond}
use mathlib.Core.List.{List, [], ◌++◌}
use borrow.Author.Tests.{le-leb, not-true}
use lib.Dec.{eqb}
use lib.ListN.{length, get_or, drop}
use lib.Seq.{take-append_seam}
use Rattle.laws.specs.Tests.{all_le}
use Rattle.laws.specs.Ladder.{Hold}
use Rattle.wire.specs.declared.form.Form.TheVariants.{Rfc9000}
use Rattle.wire.proofs.SizeLaws.{limit-most}
use Rattle.track.specs.declared.Track.{Track}
use Rattle.field_table.specs.Lines.{bmdt_at}
use Rattle.track.specs.Track.{iv_ok, lawful as lawful_track}
use Rattle.slots.specs.declared.lawful.Side.TheVariants.{Encoder, Receiver}
use Rattle.share_words.specs.Share.{accepted_at, held_at}
use Rattle.slots.specs.Share.{asked_of, track_of, set_ok, lawful as lawful_share}
use Rattle.slots.specs.Table.{Out}
use Rattle.slots.proofs.ShareParts.{same-track}
use Rattle.answers.specs.Took.{Took}
use Rattle.reference.proofs.OpenLaws.{opened-facts, held-facts}
use Rattle.reference.proofs.AcceptedLaws.{accepted-lawful}
use Rattle.reference.proofs.KeptLaws.{kept-reference}
use Rattle.prft_value.specs.declared.Prft.{Prft}
use Rattle.event_value.specs.Events.{Event}
use Rattle.cmaf_write_front.specs.Front.{front as chunk_front}
use Rattle.cmaf_read_chunk.specs.Accepted.{bmdt, prft, brands, boxes, payload, fields, accept_rungs}
use Rattle.encoder.specs.Encode.{kept, encoding}
use Rattle.cmaf_read_chunk.proofs.ChunkFacts.{fields-bmdt}
use Rattle.encoder.proofs.EncodeLaws.{iv-right}
use Rattle.encoder.proofs.Theorems.{Passed, bmdt-small, set-kept, last-fits, prft-kept}
use Rattle.counters.specs.Protected.{last_protected, last_fits}
use Rattle.receiver.specs.Receive.{held_ok, sequence, chunk, accepted, done}
use Rattle.meaning.specs.Meaning.{meaning_of, unbranded}
use Rattle.cmaf_read_facts.specs.Given.{F, Given}
use Rattle.cmaf_read_facts.proofs.Gives.{chunk-gives}
use Rattle.meant.specs.BySet.{styp_by, meaning_by}
use Rattle.meant.proofs.Means.{means-by-set}
use Rattle.reread.specs.Read.{ReadAs}
use Rattle.rebuilt.specs.Chunk.{chunk_of}
use Rattle.rebuilt.specs.Says.{SaysBack}
use Rattle.rebuilt.proofs.WholeFront.{front-is}
use Rattle.rebuilt.proofs.BytesHold.{front-bytes}
use Rattle.rebuilt_set.proofs.FrontSaid.{front-says}
use Rattle.rebuilt_rules.proofs.FrontAccepts.{front-accepted}
use Rattle.demands.specs.Codec.{ours, gave}
use Rattle.demands.specs.Two.{Send, is_delta, object, Sends, Paired, Roomy, carried, got, RoundTrip}
use Rattle.demands.proofs.Encoded.{sends-passed, becomes}
use Rattle.demands.proofs.Received.{read, also-open, got-is}
use Rattle.demands.proofs.Same.{same_object}

-- what an object is made of, with names that a delta doesn't carry
given-names : {t : Track} {w bs names : List ℕ} {p : Prft} {es : List Event} (delta : Bool) → Given t w p es names bs → Given t w p es (cond delta [] names) bs
unfolding all_le
given-names true g =
    record {
      set = g.set;
      prft = g.prft;
      boxed = g.boxed;
      few = g.few;
      names-few = omega arith;
      fours = refl;
      bytes = (refl, g.bytes.1);
      short = g.short;
      list-short = g.list-short;
    }
given-names false g = g

module _ (p : Send) (s s' room : List ℕ) (pair : Paired s s') (low : all_le 255 p.chunk ≡ true) (h : Sends p s) where
  abbrev t : Track
  t = track_of s

  abbrev c : List ℕ
  c = p.chunk

  abbrev o : List ℕ
  o = object p s

  abbrev n : ℕ
  n = sequence F o s'

  abbrev names : List ℕ
  names = cond (is_delta p s) [] (brands c)

  -- the chunk that is handed out
  abbrev rebuilt : List ℕ
  rebuilt = chunk_of t n (fields t c) (prft c) (boxes c) names (payload c)

  -- ---- what is known of both chunks

  ok : Passed F p.wish c p.room s
  ok = sends-passed p s h

  back : ReadAs o s s' c (is_delta p s)
  back = read p s s' pair low h

  track-right : lawful_track (asked_of s) ≡ true
  track-right = (opened-facts Encoder s pair.beside.encoder-lawful ok.opened).track

  iv : iv_ok t.protection t.iv_size ≡ true
  iv = iv-right s track-right

  given : Given t (fields t c) (prft c) (boxes c) names (payload c)
  given = given-names (is_delta p s) (chunk-gives t c low iv ok.accepted (bmdt-small F s c p.wish ok.fits))

  few : n < 2 ^ 32
  unfolding sequence
  few = omega arith

  held : Hold (accept_rungs F t rebuilt)
  held = front-accepted (asked_of s) n (fields t c) (prft c) (boxes c) names (payload c) track-right given

  said : SaysBack t rebuilt (fields t c) (prft c) (boxes c) names (payload c)
  said = front-says (asked_of s) n (fields t c) (prft c) (boxes c) names (payload c) track-right given

  -- ---- the head

  head-is : chunk F o s' ≡ chunk_front t n (fields t c) (length (payload c)) (prft c) (boxes c) names
  unfolding chunk
  head-is = rw (← same-track s s' pair.beside.parameters, back.set, back.time, back.list, back.names, back.rest)

  -- without brands
  unbranded-is : (d : Bool) → meaning_by t (fields t c) (prft c) (boxes c) (cond d [] (brands c)) (payload c)
      ≡ cond d (unbranded (meaning_by t (fields t c) (prft c) (boxes c) (brands c) (payload c)))
      (meaning_by t (fields t c) (prft c) (boxes c) (brands c) (payload c))
  unfolding meaning_by unbranded styp_by
  unbranded-is true = refl
  unbranded-is false = refl

  meaning-is : meaning_of t rebuilt ≡ carried p s (meaning_of t c)
  meaning-is =
      means-by-set t rebuilt (front-bytes (asked_of s) n (fields t c) (prft c) (boxes c) names (payload c) track-right given) iv held
      ∙ rw (said.set, said.time, said.list, said.brands-are, said.rest) (unbranded-is (is_delta p s))
      ∙ ap (carried p s) (sym (means-by-set t c low iv ok.accepted))

  -- ---- the reference

  kept_same : drop held_at (accepted F o s') ≡ drop held_at (kept F p.wish c p.room s)
  unfolding accepted kept
  kept_same =
      rw (back.kind, back.time, back.set, back.rest)
      (sym
      (kept-reference (is_delta p s) (get_or s accepted_at 0) n (prft c) (fields t c) (length (payload c)) s s' pair.beside.encoder-long pair.beside.receiver-long
      pair.beside.parameters pair.reference))

  held-too : is_delta p s ≡ true → eqb (get_or s' held_at 0) 0 ≡ false
  unfolding held_ok
  held-too e = not-true _ (rw (back.kind, e) at back.held)

  -- the set that the receiver keeps is the chunk's, so that its share stays lawful
  kept-lawful : lawful_share Receiver (accepted F o s') ≡ true
  unfolding accepted
  kept-lawful =
      let f = opened-facts Receiver s' pair.beside.receiver-lawful (also-open p s s' pair low h) in
      let good : set_ok (track_of s') (fields t c) ≡ true =
      rw (← same-track s s' pair.beside.parameters) (set-kept F p.wish c p.room s pair.beside.encoder-long ok low) in
      let kept : last_fits (track_of s') (fields t c) (last_protected (track_of s') (fields t c) (length (payload c))) ≡ true =
      rw (← same-track s s' pair.beside.parameters) (last-fits F p.wish c p.room s pair.beside.encoder-long ok low) in
      rw (back.kind, back.time, back.set, back.rest)
      (accepted-lawful s' pair.beside.receiver-long (is_delta p s) n (prft c) (fields t c) (length (payload c)) Receiver (also-open p s s' pair low h) f
      (le-leb n 0xffff_ffff (omega (arith, few))) (λ e. (held-facts (track_of s') s' f.reference (held-too e)).0)
      (prft-kept F p.wish c p.room s pair.beside.encoder-long ok (limit-most Rfc9000) low) kept good)

  -- ---- with room

  module _ (roomy : Roomy p s s' room) where
    got-done : got ours p s s' room ≡ done F o room s'
    got-done = got-is p s s' pair low h room roomy

    gave-chunk : gave (got ours p s s' room).answer ≡ rebuilt
    gave-chunk =
        ap (λ (a : Out Took). gave a.answer) got-done
        ∙ ap₂ (λ (x y : List ℕ). x ++ y) (take-append_seam (chunk F o s') (drop (length (chunk F o s')) room) ∙ head-is) back.rest
        ∙ front-is t n (fields t c) (prft c) (boxes c) names (payload c)

    start-same : bmdt c ≡ bmdt rebuilt
    start-same = sym (fields-bmdt t c) ∙ ap (λ (l : List ℕ). get_or l bmdt_at 0) (sym said.set) ∙ fields-bmdt t rebuilt

    names_same : is_delta p s ≡ false → brands c ≡ brands rebuilt
    names_same e = sym (said.brands-are ∙ ap (λ (d : Bool). cond d [] (brands c)) e)

    pub trip : RoundTrip ours p s s' room
    trip =
        record {
          done = ap (λ (a : Out Took). a.answer.number) got-done;
          long = ap (λ (a : Out Took). a.answer.front) got-done;
          meaning = ap (meaning_of t) gave-chunk ∙ meaning-is;
          part = ap (λ (a : Out Took). a.answer.payload) got-done ∙ back.rest;
          reference = ap (λ (a : Out Took). drop held_at a.words) got-done ∙ kept_same ∙ sym (ap (drop held_at) (becomes p s h).words);
          again =
              ap (λ (l : List ℕ). (encoding F p.wish l p.room s).answer) gave-chunk
              ∙ sym
              (same_object p.wish c rebuilt s p.room (sym said.set) (sym said.time) (sym said.list) (sym said.rest) start-same names_same
              ok.accepted held);
        }

    pub trip-lawful : lawful_share Receiver (got ours p s s' room).words ≡ true
    trip-lawful = ap (λ (a : Out Took). lawful_share Receiver a.words) got-done ∙ kept-lawful
