-- What is known of a chunk that was encoded: all that its object is made of, and what a delta goes by. Every law on its object starts here. Assumes nothing.
use Prim.Native.Nat.{ℕ, ◌-◌, ◌^◌, ◌≤◌}
use mathlib.Core.Path.{◌≡◌}
use mathlib.Core.Bool.{Bool, true, false, not}
use mathlib.Core.List.{List}
use lib.Dec.{eqb}
use lib.ListN.{length, get_or, drop}
use Rattle.constants.specs.Maxima.{block_most}
use Rattle.laws.specs.Tests.{all_le}
use Rattle.wire.specs.declared.form.Form.TheVariants.{Rfc9000}
use Rattle.laws.specs.Options.{is_some}
use Rattle.block_items.specs.Events.{AllSayable}
use Rattle.track.specs.Track.{iv_ok}
use Rattle.track.proofs.TrackLaws.{ranges}
use Rattle.slots.specs.declared.lawful.Side.TheVariants.{Encoder}
use Rattle.share_words.specs.Share.{held_at, prft_at, set_at, share_len}
use Rattle.slots.specs.Share.{asked_of, track_of}
use Rattle.reference.proofs.OpenLaws.{opened-facts, held-facts, reference-long}
use Rattle.cmaf_read_chunk.specs.Accepted.{bmdt, prft, brands, boxes, events, payload, fields}
use Rattle.locmaf_write_tuples.specs.Items.{bytes_of}
use Rattle.locmaf_write_block.specs.Changes.{Writable}
use Rattle.encoder.specs.Object.{block_items, gives_delta}
use Rattle.encoder.specs.Encode.{encoding}
use Rattle.encoder.proofs.Theorems.{done-passed, delta-held, bmdt-small, block-fits}
use Rattle.encoder.proofs.FitLaws.{times-fit, gives_fits, delta-prft}
use Rattle.cmaf_read_chunk.proofs.ChunkFacts.{fields-bmdt}
use Rattle.encoder.proofs.EncodeLaws.{iv-right}
use Rattle.cmaf_read_facts.specs.Given.{F, Given}
use Rattle.cmaf_read_facts.proofs.Gives.{chunk-gives}
use Rattle.reread.proofs.EventsRead.{all-sayable}

pub record Known (s c : List ℕ) (delta : Bool) : Type 0 where
  pub given : Given (track_of s) (fields (track_of s) c) (prft c) (boxes c) (brands c) (payload c)
  pub small : bmdt c ≤ 2 ^ 62 - 1
  -- the sets that are written, and written against
  pub sets : Writable (track_of s) delta (drop set_at s) (fields (track_of s) c)
  pub iv : iv_ok (track_of s).protection (track_of s).iv_size ≡ true
  -- a delta has a reference, and a `prft` only where the reference has one
  pub held : delta ≡ true → eqb (get_or s held_at 0) 0 ≡ false
  pub prft-held : delta ≡ true → (prft c).stands ≡ true → not (eqb (get_or s prft_at 0) 0) ≡ true
  -- every number fits, and the block is short
  pub fits : is_some (block_items F s c delta) ≡ true
  pub sayable : AllSayable F (events (track_of s) c)
  pub few : length (bytes_of F (block_items F s c delta)) ≤ block_most

-- of every chunk that the encoder takes
pub known : (wish : Bool) (c s room : List ℕ) → all_le 255 c ≡ true → length s ≡ share_len → (encoding F wish c room s).answer.number ≡ 0
    → Known s c (gives_delta F s c wish)
unfolding events
known wish c s room low long zero =
    let h = done-passed F wish c room s zero in
    let o = opened-facts Encoder s h.lawful-share h.opened in
    let small = bmdt-small F s c wish h.fits in
    let g = chunk-gives (track_of s) c low (iv-right s o.track) h.accepted small in
    let fits = gives_fits F s c wish h.fits in
    record {
      given = g;
      small = small;
      sets =
          record {
            old-words = reference-long s long;
            new-words = g.set.long;
            old = λ e. (held-facts (track_of s) s o.reference (delta-held F s c wish e)).1;
            new = g.set.is_lawful;
            iv = (ranges (asked_of s) o.track).iv-size;
          };
      iv = iv-right s o.track;
      held = delta-held F s c wish;
      prft-held = delta-prft F s c wish;
      fits = fits;
      sayable =
          all-sayable (track_of s) (bmdt c) (boxes c) g.boxed (times-fit F s c (gives_delta F s c wish) fits)
          (rw (fields-bmdt (track_of s) c) at g.list-short);
      few = block-fits Rfc9000 wish c room s low long zero;
    }
