-- Paired shares stay paired when an object is read; they become so again when both sides start a group; and shares that were opened alike are. Assumes nothing.
use Prim.Native.Nat.{ℕ, ◌<◌}
use mathlib.Core.Path.{◌≡◌, refl, sym, ◌∙◌, ap, subst}
use mathlib.Core.Bool.{Bool, true}
use mathlib.Core.List.{List}
use lib.ListN.{length, take, drop, replicate, length-replicate}
use Rattle.laws.specs.Tests.{all_le}
use Rattle.laws.specs.Gate.{gate}
use Rattle.laws.specs.Ladder.{ladder}
use Rattle.laws.proofs.LadderLaws.{climbs-all}
use Rattle.track.specs.declared.Asked.{Asked}
use Rattle.wire.specs.declared.form.Form.TheVariants.{Rfc9000}
use Rattle.slots.specs.declared.lawful.Side.{Side}
use Rattle.slots.specs.declared.lawful.Side.TheVariants.{Encoder, Receiver}
use Rattle.share_words.specs.Share.{accepted_at, held_at, share_len, fresh, table_len, slot_count}
use Rattle.slots.specs.Table.{Out, itself, on_share}
use Rattle.slots.specs.Calls.{opening, grouping}
use Rattle.slots.proofs.StaysLawful.{open-keeps, group-keeps, open-stays-lawful, group-stays-lawful, fresh-lawful}
use Rattle.slots.proofs.TableLaws.{left_there, zero-share}
use Rattle.slots.proofs.ShareParts.{dropped-parameters, dropped-reference, group-leaves}
use Rattle.answers.specs.Took.{Took}
use Rattle.reference.proofs.KeptLaws.{kept-parameters}
use Rattle.encoder.specs.Encode.{encode_rungs, refusing, kept, done, encoding}
use Rattle.encoder.proofs.Theorems.{encode-keeps, encode-stays-lawful}
use Rattle.receiver.specs.Receive.{receive_rungs, accepted, receiving, refusing as refusing_object, done as done_object}
use Rattle.receiver.proofs.Theorems.{receive-keeps, refusal-either}
use Rattle.cmaf_read_facts.specs.Given.{F}
use Rattle.demands.specs.Codec.{ours, gave}
use Rattle.demands.specs.Two.{Send, Sends, Roomy, Beside, Paired, sent, got, opened_at}
use Rattle.demands.proofs.Trips.{trip, trip-lawful}

-- ---- no call changes the parameters

module _ (s : List ℕ) (l : length s ≡ share_len) where
  abbrev Same : Out Took → Type 0
  Same a = take accepted_at a.words ≡ take accepted_at s

  encode-parameters : (wish : Bool) (c room : List ℕ) → Same (encoding F wish c room s)
  unfolding encoding kept
  encode-parameters wish c room =
      climbs-all Same (refusing room s) (encode_rungs F wish c room s) (done F wish c room s) (λ k. refl) (λ h. kept-parameters _ _ _ _ _ s l)

  pub receive-parameters : (o room : List ℕ) → Same (receiving F o room s)
  unfolding receiving accepted
  receive-parameters o room =
      climbs-all Same (refusing_object room s) (receive_rungs F o room s) (done_object F o room s)
      (λ k. refusal-either s (λ x. take accepted_at x ≡ take accepted_at s) k refl (dropped-parameters s l)) (λ h. kept-parameters _ _ _ _ _ s l)

-- ---- after a chunk, and after an object

-- whatever the receiver's share is
pub encoded-long : (p : Send) (s : List ℕ) → length s ≡ share_len → length (sent ours p s).words ≡ share_len
encoded-long p s l = (encode-keeps F p.wish p.chunk p.room).keeps s l

module _ (p : Send) (s s' room : List ℕ) (pair : Paired s s') (low : all_le 255 p.chunk ≡ true) (h : Sends p s) (r : Roomy p s s' room) where
  pub trip-paired : Paired (sent ours p s).words (got ours p s s' room).words
  trip-paired =
      let b = pair.beside in
      let o : List ℕ = gave (sent ours p s).answer in
      record {
        beside =
            record {
              encoder-long = encoded-long p s b.encoder-long;
              receiver-long = (receive-keeps F o room).keeps s' b.receiver-long;
              encoder-lawful = encode-stays-lawful Rfc9000 p.wish p.chunk p.room s low b.encoder-long b.encoder-lawful;
              receiver-lawful = trip-lawful p s s' room pair low h r;
              parameters =
                  encode-parameters s b.encoder-long p.wish p.chunk p.room
                  ∙ b.parameters
                  ∙ sym (receive-parameters s' b.receiver-long o room);
            };
        reference = sym (trip p s s' room pair low h r).reference;
      }

-- ---- a group starts

pub group-paired : (s s' : List ℕ) → Beside s s' → Paired (grouping Encoder s).words (grouping Receiver s').words
group-paired s s' b =
    let l = b.encoder-long in
    let l' = b.receiver-long in
    let e = group-leaves s l Encoder b.encoder-lawful in
    let e' = group-leaves s' l' Receiver b.receiver-lawful in
    record {
      beside =
          record {
            encoder-long = (group-keeps Encoder).keeps s l;
            receiver-long = (group-keeps Receiver).keeps s' l';
            encoder-lawful = (group-stays-lawful Encoder).keeps s l b.encoder-lawful;
            receiver-lawful = (group-stays-lawful Receiver).keeps s' l' b.receiver-lawful;
            parameters =
                ap (take accepted_at) e ∙ dropped-parameters s l ∙ b.parameters ∙ sym (ap (take accepted_at) e' ∙ dropped-parameters s' l');
          };
      reference = ap (drop held_at) e ∙ dropped-reference s l ∙ sym (ap (drop held_at) e' ∙ dropped-reference s' l');
    }

-- ---- opened alike

-- on a fresh share both sides do the same, and with bad parameters nothing
open-same : (a : Asked) → (opening Encoder a fresh).words ≡ (opening Receiver a fresh).words
unfolding opening on_share ladder gate
open-same a = rw (fresh-lawful Encoder, fresh-lawful Receiver)

fresh-paired : (a : Asked) → Paired (opening Encoder a fresh).words (opening Receiver a fresh).words
fresh-paired a =
    let long : length fresh ≡ share_len = length-replicate {A = ℕ} share_len 0 in
    record {
      beside =
          record {
            encoder-long = (open-keeps Encoder a).keeps fresh long;
            receiver-long = (open-keeps Receiver a).keeps fresh long;
            encoder-lawful = (open-stays-lawful Encoder a).keeps fresh long (fresh-lawful Encoder);
            receiver-lawful = (open-stays-lawful Receiver a).keeps fresh long (fresh-lawful Receiver);
            parameters = ap (take accepted_at) (open-same a);
          };
      reference = ap (drop held_at) (open-same a);
    }

pub opened-is : (side : Side) (a : Asked) (i : ℕ) → i < slot_count → opened_at side a i ≡ (opening side a fresh).words
opened-is side a i h =
    left_there itself (opening side a) (open-keeps side a) (replicate table_len 0) i (length-replicate {A = ℕ} table_len 0) h
    ∙ ap (λ (s : List ℕ). (opening side a s).words) (zero-share i h)

-- in any slot of either table
pub opened-paired : (a : Asked) (i j : ℕ) → i < slot_count → j < slot_count → Paired (opened_at Encoder a i) (opened_at Receiver a j)
opened-paired a i j h k =
    subst (λ (z : List ℕ). Paired z (opened_at Receiver a j)) (sym (opened-is Encoder a i h))
    (subst (λ (z : List ℕ). Paired (opening Encoder a fresh).words z) (sym (opened-is Receiver a j k)) (fresh-paired a))
