-- Our encoder: a chunk that no rule refuses becomes, given room, the object that the rules define, and of any other nothing is sent. Assumes nothing.
use Prim.Native.Nat.{ℕ}
use mathlib.Core.Path.{◌≡◌, ◌∙◌, ap}
use mathlib.Core.List.{List, [], ◌∷◌, ◌++◌}
use borrow.Author.Tests.{le-leb}
use lib.ListN.{length, drop}
use lib.Seq.{take-append_seam}
use Rattle.laws.specs.Ladder.{Rung, ◌else◌, Hold}
use Rattle.laws.proofs.LadderLaws.{climbed, hold-front, hold-back, hold-append}
use Rattle.slots.specs.Share.{track_of}
use Rattle.slots.specs.Table.{Out}
use Rattle.answers.specs.Took.{Took}
use Rattle.cmaf_read_chunk.specs.Accepted.{accept_rungs, payload}
use Rattle.encoder.specs.Object.{fits_ok}
use Rattle.encoder.specs.Encode.{refusing, last_rungs, chunk_rungs, encode_rungs, done, encoding}
use Rattle.encoder.proofs.Theorems.{Passed, passed, done-passed, encode-refuses}
use Rattle.cmaf_read_facts.specs.Given.{F}
use Rattle.demands.specs.Codec.{ours, gave}
use Rattle.demands.specs.Two.{Send, object_front, Sends, Becomes, Unsent, sent}

module _ (p : Send) (s : List ℕ) where
  abbrev accepting : List Rung
  accepting = accept_rungs F (track_of s) p.chunk

  abbrev fitting : List Rung
  fitting = (fits_ok F s p.chunk p.wish else 9) ∷ []

  -- the rungs of its ladder are those of the rules, and that of the room
  sends-hold : Sends p s → Hold (encode_rungs F p.wish p.chunk p.room s)
  unfolding encode_rungs chunk_rungs last_rungs
  sends-hold h =
      let late : Hold (accepting ++ fitting) = h.hold.1.1 in
      let fits : Hold fitting = hold-back accepting fitting late in
      (h.hold.0, (h.hold.1.0, hold-append accepting _ (hold-front accepting fitting late) (fits.0, (le-leb _ _ h.room, tt))))

  pub sends-passed : Sends p s → Passed F p.wish p.chunk p.room s
  sends-passed h = passed F p.wish p.chunk p.room s (sends-hold h)

  passed-sends : Passed F p.wish p.chunk p.room s → Sends p s
  passed-sends q =
      record { hold = (q.lawful-share, (q.opened, hold-append accepting fitting q.accepted (q.fits, tt))); room = q.room }

  pub sent_is : Sends p s → sent ours p s ≡ done F p.wish p.chunk p.room s
  unfolding encoding
  sent_is h =
      climbed (refusing p.room s) (done F p.wish p.chunk p.room s) (encode_rungs F p.wish p.chunk p.room s) (sends-hold h)

  pub becomes : Sends p s → Becomes p s (sent ours p s)
  becomes h =
      record {
        done = ap (λ (a : Out Took). a.answer.number) (sent_is h);
        long = ap (λ (a : Out Took). a.answer.front) (sent_is h);
        gives =
            ap (λ (a : Out Took). gave a.answer) (sent_is h)
            ∙ ap (λ (l : List ℕ). l ++ payload p.chunk) (take-append_seam (object_front p s) (drop (length (object_front p s)) p.room));
        part = ap (λ (a : Out Took). a.answer.payload) (sent_is h);
        words = ap (λ (a : Out Took). a.words) (sent_is h);
      }

  pub unsent : (Sends p s → ⊥) → Unsent p s (sent ours p s)
  unsent n =
      let refused : (sent ours p s).answer.number ≡ 0 → ⊥ = λ e. n (passed-sends (done-passed F p.wish p.chunk p.room s e)) in
      let r = encode-refuses F p.wish p.chunk p.room s refused in
      record { refused = refused; nothing = rw (r.front, r.payload); words = r.kept }
