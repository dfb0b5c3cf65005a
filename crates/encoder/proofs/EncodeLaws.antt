-- What each return of a call on a share shows. Assumes nothing.
use Prim.Native.Nat.{ℕ, ◌≤◌, ◌<◌}
use mathlib.Core.Path.{◌≡◌, sym, ◌∙◌, ap, subst}
use mathlib.Core.Bool.{Bool, true, false}
use mathlib.Core.List.{List}
use Rattle.std.specs.Prelude.{Result, Ok, Err}
use borrow.Author.Tests.{lt-leb}
use lib.ListN.{length, get_or}
use Rattle.constants.specs.Maxima.{number_most}
use Rattle.laws.specs.Tests.{◌and◌, all_le}
use Rattle.laws.specs.Ladder.{ladder, Hold}
use Rattle.laws.proofs.LadderLaws.{broken, all_hold, ladder-append, climbed-on, stopped-on}
use Rattle.laws.proofs.TestLaws.{right}
use Rattle.refusal.specs.declared.Refusal.{Refusal}
use Rattle.refusal.specs.Numbers.{number_of, number_in}
use Rattle.refusal.proofs.NumberLaws.{number-some}
use Rattle.wire.specs.declared.form.Row.{Row}
use Rattle.track.specs.declared.Track.{Track}
use Rattle.track.specs.Track.{iv_ok, lawful as lawful_track}
use Rattle.track.proofs.TrackLaws.{ranges}
use Rattle.field_table.specs.Lines.{bmdt_at}
use Rattle.field_set.specs.Lawful.{lawful as lawful_set}
use Rattle.slots.specs.declared.lawful.Side.TheVariants.{Encoder}
use Rattle.share_words.specs.Share.{share_len}
use Rattle.slots.specs.Share.{asked_of, track_of}
use Rattle.slots.specs.Calls.{opened_rungs, open_in}
use Rattle.slots.proofs.AnswerLaws.{by, by_answer, answered_ok}
use Rattle.reference.proofs.OpenLaws.{opened-facts}
use Rattle.cmaf_read_chunk.specs.declared.read.Chunk.{Chunk}
use Rattle.cmaf_read_chunk.specs.Accepted.{bmdt, payload, fields, accept_rungs}
use Rattle.cmaf_read_chunk.specs.Chunks.{ReadAs, Accepted}
use Rattle.cmaf_read_chunk.proofs.LawfulSet.{chunk-lawful}
use Rattle.encoder.specs.Object.{fits_ok}
use Rattle.encoder.specs.Encode.{refusing, last_rungs, chunk_rungs, encode_rungs, done, encoding, on_open, on_accepted}
use Rattle.encoder.specs.Planned.{BrandBytes, OnShare, Encodable}
use Rattle.cmaf_read_chunk.proofs.ChunkFacts.{fields-long, fields-bmdt, payload-length}
use Rattle.cmaf_read_facts.proofs.Gives.{chunk-sizes}
use Rattle.effective.proofs.SumLaws.{sizes-sized}
use Rattle.encoder.proofs.ChunkLaws.{accept-numbered, brands-sized}

-- ---- the track of a share

pub iv-right : (s : List ℕ) → lawful_track (asked_of s) ≡ true → iv_ok (track_of s).protection (track_of s).iv_size ≡ true
unfolding lawful_track
iv-right s e = right _ _ (right _ _ (right _ _ (right _ _ (right _ _ (right _ _ e)))))

-- a chunk whose BMDT is past its maximum fits no object
late-unfit : (F : List Row) (s c : List ℕ) (wish : Bool) → number_most < bmdt c → fits_ok F s c wish ≡ false
unfolding fits_ok ◌and◌
late-unfit F s c wish h = rw (lt-leb (bmdt c) number_most h)

module _ (F : List Row) (wish : Bool) (c output s : List ℕ) where
  -- ---- a chunk on an open share

  module _ (t : Track) (o : OnShare F t s c) where
    track-lawful-of : lawful_track (asked_of s) ≡ true
    track-lawful-of = (opened-facts Encoder s o.lawful-share o.opened).track

    pub iv-small : t.iv_size ≤ 16
    iv-small = subst (λ (u : Track). u.iv_size ≤ 16) (sym o.track-is) (ranges (asked_of s) track-lawful-of).iv-size

    iv-fits : iv_ok t.protection t.iv_size ≡ true
    iv-fits = subst (λ (u : Track). iv_ok u.protection u.iv_size ≡ true) (sym o.track-is) (iv-right s track-lawful-of)

    module _ {a : Result Chunk Refusal} {ws x : List ℕ} (r : ReadAs F t c a ws x) where
      number_is : number_in a ≡ ladder (accept_rungs F (track_of s) c) (λ n. n) 0
      number_is = r.answered ∙ ap (λ (u : Track). ladder (accept_rungs F u c) (λ n. n) 0) o.track-is

      -- it isn't accepted
      pub chunk-stops : (w : Refusal) → a ≡ Err w → refusing output s (number_of w) ≡ on_open F wish c output s
      unfolding chunk_rungs
      chunk-stops w e =
          let n = ap number_in (sym e) ∙ number_is in
          ap (refusing output s) n
          ∙ stopped-on (accept_rungs F (track_of s) c) (last_rungs F wish c output s) (refusing output s) (done F wish c output s) (λ z. number-some w (n ∙ z))

      module _ (k : Chunk) (e : a ≡ Ok k) where
        holds : Hold (accept_rungs F t c)
        holds = all_hold (accept_rungs F t c) (accept-numbered F t c) (sym r.answered ∙ ap number_in e)

        -- it is: the rest
        pub chunk-climbs : on_accepted F wish c output s ≡ on_open F wish c output s
        unfolding chunk_rungs
        chunk-climbs =
            climbed-on (accept_rungs F (track_of s) c) (last_rungs F wish c output s) (refusing output s) (done F wish c output s)
            (all_hold (accept_rungs F (track_of s) c) (accept-numbered F (track_of s) c) (sym number_is ∙ ap number_in e))

        first-is : get_or x bmdt_at 0 ≡ bmdt c
        first-is = ap (λ (w : List ℕ). get_or w bmdt_at 0) (r.taken k e).set_is ∙ fields-bmdt t c

        -- its BMDT is past the maximum
        pub chunk-late : number_most < get_or x bmdt_at 0 → refusing output s 9 ≡ on_open F wish c output s
        unfolding last_rungs
        chunk-late h = broken _ 9 _ _ _ (late-unfit F s c wish (subst (λ (n : ℕ). number_most < n) first-is h)) ∙ chunk-climbs

        -- it isn't
        pub encodable : all_le 255 c ≡ true → get_or x bmdt_at 0 ≤ number_most → Encodable F t s c k ws x
        encodable b h =
            let g : Accepted F t c k ws x = r.taken k e in
            let q = ap (λ (y : Chunk). y.brands.len) g.chunk-is in
            let m : bmdt c ≤ number_most = subst (λ (n : ℕ). n ≤ number_most) first-is h in
            let y = chunk-sizes F t c b iv-fits holds in
            let p : length (payload c) ≡ k.payload.len = payload-length c ∙ sym (ap (λ (v : Chunk). v.payload.len) g.chunk-is) in
            record {
              on-share = o;
              accepted = g;
              set_long = ap length g.set_is ∙ fields-long F t c holds iv-small;
              lawful-set = ap (lawful_set t) g.set_is ∙ chunk-lawful F t c b iv-fits holds m;
              sized = rw (g.set_is, ← p) (sizes-sized t (fields t c) (length (payload c)) y.0 y.1);
              brand-bytes = subst BrandBytes (sym q) (brands-sized F t c holds);
            }

  -- ---- a chunk on a share

  share-by : (r : Result (Unit {0}) ℕ) → r ≡ open_in Encoder s → by (opened_rungs Encoder s) tt (refusing output s) (on_open F wish c output s) r ≡ encoding F wish c output s
  unfolding open_in encoding encode_rungs
  share-by r e =
      by_answer (opened_rungs Encoder s) tt (refusing output s) (on_open F wish c output s) r e
      ∙ sym (ladder-append (opened_rungs Encoder s) (chunk_rungs F wish c output s) (refusing output s) (done F wish c output s))

  -- it isn't open
  pub share-shut : {k : ℕ} → Err k ≡ open_in Encoder s → refusing output s k ≡ encoding F wish c output s
  share-shut {k} e = share-by (Err k) e

  -- it is
  module _ {o : Unit {0}} (e : Ok o ≡ open_in Encoder s) where
    pub share-open : on_open F wish c output s ≡ encoding F wish c output s
    share-open = share-by (Ok o) e

    lawful-open : Hold (opened_rungs Encoder s)
    unfolding open_in
    lawful-open = (answered_ok (opened_rungs Encoder s) tt o e).0

    pub track-lawful : lawful_track (asked_of s) ≡ true
    track-lawful = (opened-facts Encoder s lawful-open.0 lawful-open.1.0).track

    pub on-share-is : length s ≡ share_len → (t : Track) → t ≡ track_of s → OnShare F t s c
    on-share-is l t d = record { share = l; lawful-share = lawful-open.0; opened = lawful-open.1.0; track-is = d }
