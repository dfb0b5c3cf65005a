-- Where our receiver reads the encoder's object as it should: under the same parameters and reference; and a full object under the same parameters, whatever the
-- reference is. Assumes nothing.
use Prim.Native.Nat.{ℕ}
use native.Mathlib.Omega.{arith}
use mathlib.Core.Path.{◌≡◌, sym, ◌∙◌, ap, subst}
use mathlib.Core.Bool.{true, false}
use mathlib.Core.List.{List}
use lib.ListN.{length, drop}
use Rattle.laws.specs.Tests.{all_le}
use Rattle.slots.specs.declared.lawful.Side.TheVariants.{Encoder, Receiver}
use Rattle.share_words.specs.Share.{held_at}
use Rattle.slots.specs.Share.{track_of}
use Rattle.slots.specs.Table.{Out}
use Rattle.slots.proofs.ShareParts.{joined, joined-long, joined-front, joined-reference, joined-parameters, joined-lawful}
use Rattle.answers.specs.Took.{Took}
use Rattle.encoder.specs.Encode.{encoding}
use Rattle.receiver.specs.Laws.{Alike}
use Rattle.answers.specs.Refusals.{dropped_by}
use Rattle.receiver.specs.Receive.{chunk, receiving}
use Rattle.receiver.proofs.Theorems.{receive-refuses}
use Rattle.receiver.proofs.AlikeTheorems.{done-is, full-forgets}
use Rattle.meaning.specs.Meaning.{meaning_of}
use Rattle.cmaf_read_facts.specs.Given.{F}
use Rattle.demands.specs.Codec.{ours, gave}
use Rattle.demands.specs.Two.{Send, is_delta, object, Sends, Roomy, Beside, Paired, Short, sent, got, RoundTrip}
use Rattle.demands.proofs.Encoded.{sends-passed, becomes}
use Rattle.demands.proofs.Received.{read, received, got-is, short}
use Rattle.demands.proofs.Trips.{trip}
use Rattle.demands.proofs.Shares.{trip-paired}

-- the object of the chunk on the receiver's share s': with room it is read as it should, and leaves the shares paired; without, it can be given again
pub record Reads (p : Send) (s s' : List ℕ) : Type 0 where
  pub trips : (room : List ℕ) → Roomy p s s' room → RoundTrip ours p s s' room
  pub pairs : (room : List ℕ) → Roomy p s s' room → Paired (sent ours p s).words (got ours p s s' room).words
  pub shorts : (room : List ℕ) → (Roomy p s s' room → ⊥) → Short s' (got ours p s s' room)

module _ (p : Send) (s s' : List ℕ) (low : all_le 255 p.chunk ≡ true) (h : Sends p s) where
  pub paired-reads : Paired s s' → Reads p s s'
  paired-reads pair =
      record {
        trips = λ room r. trip p s s' room pair low h r;
        pairs = λ room r. trip-paired p s s' room pair low h r;
        shorts = λ room n. short p s s' pair low h room n;
      }

  -- ---- a full object

  module _ (b : Beside s s') (full : is_delta p s ≡ false) where
    abbrev o : List ℕ
    o = object p s

    -- the receiver's share as it would be with the encoder's reference
    abbrev j : List ℕ
    j = joined s' s

    pair : Paired s j
    pair =
        let l = b.encoder-long in
        let l' = b.receiver-long in
        record {
          beside =
              record {
                encoder-long = l;
                receiver-long = joined-long s s' l l';
                encoder-lawful = b.encoder-lawful;
                receiver-lawful =
                    joined-lawful s s' l l' Receiver Encoder b.parameters (sends-passed p s h).opened b.encoder-lawful b.receiver-lawful;
                parameters = b.parameters ∙ sym (joined-parameters s s' l l');
              };
          reference = sym (joined-reference s s' l l');
        }

    -- a full object forgets: it is answered there as here
    alike : (room : List ℕ) → Alike (receiving F o room s') (receiving F o room j)
    alike room =
        full-forgets F o room s' j ((read p s j pair low h).kind ∙ full) b.receiver-long pair.beside.receiver-long b.receiver-lawful
        pair.beside.receiver-lawful (sym (joined-front s s' b.encoder-long b.receiver-long))

    here : (room : List ℕ) → got ours p s s' room ≡ receiving F o room s'
    here room = ap (λ (l : List ℕ). receiving F l room s') (becomes p s h).gives

    same : (room : List ℕ) → (got ours p s s' room).answer ≡ (got ours p s j room).answer
    same room =
        ap (λ (a : Out Took). a.answer) (here room) ∙ (alike room).answers ∙ sym (ap (λ (a : Out Took). a.answer) (received p s j pair low h room))

    -- the front is as long
    long_same : length (chunk F o j) ≡ length (chunk F o s')
    long_same =
        let room : List ℕ = chunk F o j in
        let there = received p s j pair low h room in
        let done = got-is p s j pair low h room (omega arith) in
        let zero : (receiving F o room s').answer.number ≡ 0 =
        ap (λ (a : Took). a.number) (alike room).answers ∙ ap (λ (a : Out Took). a.answer.number) (sym there ∙ done) in
        sym (ap (λ (a : Out Took). a.answer.front) (sym there ∙ done))
        ∙ sym (ap (λ (a : Took). a.front) (alike room).answers)
        ∙ ap (λ (a : Out Took). a.answer.front) (done-is F o room s' zero)

    roomy-there : (room : List ℕ) → Roomy p s s' room → Roomy p s j room
    roomy-there room r = omega (arith, long_same)

    words_same : (room : List ℕ) → Roomy p s s' room → (got ours p s s' room).words ≡ (got ours p s j room).words
    words_same room r =
        let there = received p s j pair low h room in
        let zero : (receiving F o room s').answer.number ≡ 0 =
        ap (λ (a : Took). a.number) (alike room).answers
        ∙ ap (λ (a : Out Took). a.answer.number) (sym there ∙ got-is p s j pair low h room (roomy-there room r)) in
        ap (λ (a : Out Took). a.words) (here room) ∙ (alike room).words zero ∙ sym (ap (λ (a : Out Took). a.words) there)

    full-trip : (room : List ℕ) → Roomy p s s' room → RoundTrip ours p s s' room
    full-trip room r =
        let t = trip p s j room pair low h (roomy-there room r) in
        let e = same room in
        record {
          done = ap (λ (a : Took). a.number) e ∙ t.done;
          long = ap (λ (a : Took). a.front) e ∙ t.long ∙ long_same;
          meaning = ap (λ (a : Took). meaning_of (track_of s) (gave a)) e ∙ t.meaning;
          part = ap (λ (a : Took). a.payload) e ∙ t.part;
          reference = ap (drop held_at) (words_same room r) ∙ t.reference;
          again = ap (λ (a : Took). (encoding F p.wish (gave a) p.room s).answer) e ∙ t.again;
        }

    full-short : (room : List ℕ) → (Roomy p s s' room → ⊥) → Short s' (got ours p s s' room)
    full-short room n =
        let there = short p s j pair low h room (λ r. n (omega (arith, long_same))) in
        let e = same room in
        let number : (got ours p s s' room).answer.number ≡ 17 = ap (λ (a : Took). a.number) e ∙ there.number in
        let refused = receive-refuses F (gave (sent ours p s).answer) room s' (λ z. omega (arith, z, number)) in
        record {
          number = number;
          nothing = ap gave e ∙ there.nothing;
          words = refused.kept (ap dropped_by number);
        }

    pub full-reads : Reads p s s'
    full-reads =
        record {
          trips = full-trip;
          pairs = λ room r.
              subst (λ (z : List ℕ). Paired (sent ours p s).words z) (sym (words_same room r)) (trip-paired p s j room pair low h (roomy-there room r));
          shorts = full-short;
        }
