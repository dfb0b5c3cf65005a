-- Our receiver on the encoder's object, under the same parameters and reference: no rule but that of the room refuses it. Assumes nothing.
use Prim.Native.Nat.{ℕ}
use native.Mathlib.Omega.{arith}
use mathlib.Core.Path.{◌≡◌, refl, sym, ◌∙◌, ap}
use mathlib.Core.Bool.{Bool, true, false}
use mathlib.Core.List.{List, [], ◌∷◌, ◌++◌, append_assoc}
use borrow.Author.Tests.{le-leb, leb-true}
use lib.Dec.{leb}
use lib.ListN.{length}
use Rattle.laws.specs.Tests.{all_le}
use Rattle.laws.specs.Ladder.{Rung, ◌else◌, ladder, Hold}
use Rattle.laws.proofs.LadderLaws.{broken, climbed, climbed-on, hold-append}
use Rattle.slots.specs.declared.lawful.Side.TheVariants.{Receiver}
use Rattle.slots.specs.Share.{is_open}
use Rattle.slots.specs.Table.{Out}
use Rattle.slots.specs.Calls.{opened_rungs}
use Rattle.slots.proofs.ShareParts.{same_word}
use Rattle.answers.specs.Took.{Took}
use Rattle.encoder.specs.Object.{front}
use Rattle.receiver.specs.Object.{head_rungs}
use Rattle.answers.specs.Refusals.{after_refusal}
use Rattle.receiver.specs.Receive.{held_ok, judge_rungs, room_rungs, receive_rungs, chunk, receiving, refusing, done}
use Rattle.cmaf_read_facts.specs.Given.{F}
use Rattle.reread.specs.Read.{ReadAs}
use Rattle.reread.proofs.ObjectRead.{object-reads}
use Rattle.demands.specs.Codec.{ours, gave}
use Rattle.demands.specs.Two.{Send, is_delta, object, Sends, Roomy, Paired, Short, got}
use Rattle.demands.proofs.Encoded.{sends-passed, becomes}

module _ (p : Send) (s s' : List ℕ) (pair : Paired s s') (low : all_le 255 p.chunk ≡ true) (h : Sends p s) where
  abbrev o : List ℕ
  o = object p s

  -- what the reader has is what the writer had
  pub read : ReadAs o s s' p.chunk (is_delta p s)
  unfolding front
  read =
      let b = pair.beside in
      object-reads p.wish p.chunk s s' p.room low b.encoder-long b.receiver-long b.encoder-lawful b.receiver-lawful
      (record { parameters = b.parameters; reference = pair.reference }) (becomes p s h).done

  pub also-open : is_open s' ≡ true
  unfolding is_open
  also-open = rw (← same_word s s' pair.beside.parameters 0 (omega arith)) (sends-passed p s h).opened

  -- every rung but that of the room
  abbrev early : List Rung
  early = opened_rungs Receiver s' ++ (head_rungs F o ++ ((held_ok F o s' else 11) ∷ judge_rungs F o s'))

  early-hold : Hold early
  early-hold = (pair.beside.receiver-lawful, (also-open, hold-append (head_rungs F o) _ read.heads (read.held, read.judged)))

  module _ (room : List ℕ) where
    only-room : receiving F o room s' ≡ ladder (room_rungs F o room s') (refusing room s') (done F o room s')
    unfolding receiving receive_rungs
    only-room =
        ap (λ (rs : List Rung). ladder (opened_rungs Receiver s' ++ rs) (refusing room s') (done F o room s'))
        (sym (append_assoc (head_rungs F o) ((held_ok F o s' else 11) ∷ judge_rungs F o s') (room_rungs F o room s')))
        ∙ sym (climbed-on early (room_rungs F o room s') (refusing room s') (done F o room s') early-hold)

    pub received : got ours p s s' room ≡ receiving F o room s'
    received = ap (λ (l : List ℕ). receiving F l room s') (becomes p s h).gives

    -- with room it is read
    pub got-is : Roomy p s s' room → got ours p s s' room ≡ done F o room s'
    got-is r = received ∙ only-room ∙ climbed (refusing room s') (done F o room s') (room_rungs F o room s') (le-leb _ _ r, tt)

    -- without, it can be given again
    pub short : (Roomy p s s' room → ⊥) → Short s' (got ours p s s' room)
    unfolding after_refusal
    short n =
        let e : got ours p s s' room ≡ refusing room s' 17 =
        received ∙ only-room ∙ sym (broken _ 17 [] (refusing room s') (done F o room s') (by (leb (length (chunk F o s')) (length room)) refl)) in
        record {
          number = ap (λ (a : Out Took). a.answer.number) e;
          nothing = ap (λ (a : Out Took). gave a.answer) e;
          words = ap (λ (a : Out Took). a.words) e;
        }
      where
        by : (b : Bool) → leb (length (chunk F o s')) (length room) ≡ b → b ≡ false
        by true e = absurd (n (leb-true _ _ e))
        by false e = refl
