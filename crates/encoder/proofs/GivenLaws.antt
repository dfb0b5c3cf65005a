-- What is known of a chunk that can be encoded: what was handed on of it, and its set and the reference as they are lent. Assumes nothing.
use Prim.Native.Nat.{ℕ, ◌≤◌}
use native.Mathlib.Omega.{arith}
use mathlib.Core.Path.{◌≡◌, sym, ◌∙◌, ap, ap₂, subst}
use mathlib.Core.Bool.{Bool, true, ◌&&◌}
use mathlib.Core.List.{List}
use borrow.Author.Tests.{ne_eqb}
use borrow.Author.Rules.{part_to_end}
use lib.Dec.{leb}
use lib.ListN.{length, get_or, drop}
use Rattle.constants.specs.Maxima.{number_most}
use Rattle.field_table.specs.Lines.{bmdt_at}
use Rattle.laws.proofs.TestLaws.{left, right}
use Rattle.wire.specs.declared.form.Row.{Row}
use Rattle.track.specs.declared.Track.{Track}
use Rattle.track.proofs.TrackLaws.{ranges, lawful-iv}
use Rattle.field_set.specs.Lawful.{lawful}
use Rattle.field_rules.proofs.SetLaws.{words-start}
use Rattle.slots.specs.declared.lawful.Side.TheVariants.{Encoder}
use Rattle.share_words.specs.Share.{last_at, set_at}
use Rattle.slots.specs.Share.{asked_of, track_of, expected_in}
use Rattle.effective.specs.declared.expected.Expected.{Expected}
use Rattle.effective.specs.Expected.{next_time, expected_by}
use Rattle.counters.specs.Follow.{ivs_follow, Behind}
use Rattle.reference.proofs.OpenLaws.{Opened, opened-facts, held-facts, expected-there, last-there, lawful-there, reference-long}
use Rattle.slots.proofs.ShareLaws.{lent}
use Rattle.cmaf_read_shape.specs.Parts.{body_of, end_of}
use Rattle.cmaf_read_shape.proofs.PartLaws.{body-in}
use Rattle.cmaf_read_shape.proofs.TopLaws.{top_in, styp-inside}
use Rattle.event_value.specs.Events.{events_of}
use Rattle.locmaf_write_events.specs.Records.{all_sent, sent_of, list_bytes}
use Rattle.cmaf_read_set.specs.Set.{chunk_set}
use Rattle.cmaf_read_chunk.specs.declared.read.Chunk.{Chunk}
use Rattle.cmaf_read_chunk.specs.Accepted.{top, bmdt, prft, brands, events, payload, fields}
use Rattle.locmaf_write_block.specs.declared.cells.Basis.{Basis}
use Rattle.locmaf_write_block.specs.Changes.{basis_of, Writable}
use Rattle.locmaf_write_block.specs.Fields.{Kept}
use Rattle.encoder.specs.Object.{leaves_out}
use Rattle.encoder.specs.Planned.{brands_at, Recorded, Encodable, Held, Leaves}

-- the set has BMDT
start_is : (t : Track) (c : List ℕ) → get_or (fields t c) bmdt_at 0 ≡ bmdt c
unfolding fields chunk_set bmdt
start_is t c = words-start _ _ _

-- a lawful set keeps its maximum
start_small : (t : Track) (x : List ℕ) → lawful t x ≡ true → leb (get_or x bmdt_at 0) number_most ≡ true
unfolding lawful
start_small t x h = left _ _ (right _ _ (right _ _ h))

-- what was kept of weighing against the reference as it is lent, and against the share's
module _ {F : List Row} {t : Track} (s : List ℕ) {x kept : List ℕ} {delta follow : Bool} {b : Basis} (e : b ≡ basis_of t delta follow (lent s) x) where
  kept-is : Kept F t b.delta b.follow (lent s) x kept ≡ Kept F t delta follow (drop set_at s) x kept
  kept-is = ap (λ (q : Basis). Kept F t q.delta q.follow (lent s) x kept) e ∙ ap (λ (r : List ℕ). Kept F t delta follow r x kept) (part_to_end s set_at)

  pub kept-share : Kept F t b.delta b.follow (lent s) x kept → Kept F t delta follow (drop set_at s) x kept
  kept-share = subst (λ (T : Type 0). T) kept-is

  pub kept-lent : Kept F t delta follow (drop set_at s) x kept → Kept F t b.delta b.follow (lent s) x kept
  kept-lent = subst (λ (T : Type 0). T) (sym kept-is)

-- a basis is that of its own kind of object
pub basis-own : {t : Track} {delta follow : Bool} {r x : List ℕ} {b : Basis} → Writable t delta r x → b ≡ basis_of t delta follow r x
    → Writable t b.delta r x × (b ≡ basis_of t b.delta b.follow r x)
basis-own {t} {delta} {follow} {r} {x} {b} w e =
    let d : b.delta ≡ delta = ap (λ (q : Basis). q.delta) e in
    let f : b.follow ≡ follow = ap (λ (q : Basis). q.follow) e in
    (subst (λ (y : Bool). Writable t y r x) (sym d) w, e ∙ (λ j. basis_of t (sym d j) (sym f j) r x))

module _ {F : List Row} {t : Track} {s c : List ℕ} {k : Chunk} {ws x : List ℕ} (h : Encodable F t s c k ws x) where
  -- the parts of what was handed on

  pub prft-is : k.prft ≡ prft c
  prft-is = ap (λ (q : Chunk). q.prft) h.accepted.chunk-is

  events-is : k.events ≡ (top c).events
  events-is = ap (λ (q : Chunk). q.events) h.accepted.chunk-is

  brands-is : k.brands ≡ body_of (top c).styp
  brands-is = ap (λ (q : Chunk). q.brands) h.accepted.chunk-is

  -- what stands in the `styp` lies in the chunk
  pub brands-inside : end_of k.brands ≤ length c
  brands-inside = rw brands-is (omega (arith, (body-in (top c).styp).ends, (styp-inside (top_in c)).within))

  -- the brands are those in it
  pub brands-are : brands_at c k.brands ≡ brands c
  unfolding brands
  brands-are = ap (brands_at c) brands-is

  -- BMDT
  pub bmdt-is : get_or x bmdt_at 0 ≡ bmdt c
  bmdt-is = ap (λ (w : List ℕ). get_or w bmdt_at 0) h.accepted.set_is ∙ start_is t c

  pub bmdt-small : leb (bmdt c) number_most ≡ true
  bmdt-small = ap (λ (n : ℕ). leb n number_most) (sym bmdt-is) ∙ start_small t x h.lawful-set

  -- the events are those that their words say
  pub events-are : sent_of t (get_or x bmdt_at 0) c ws k.events ≡ events t c
  unfolding events
  events-are = ap₂ (all_sent t) bmdt-is (ap (events_of c ws) events-is ∙ h.accepted.listed.boxes-are)

  pub recorded : Recorded F t (get_or x bmdt_at 0) c ws k.events k.list
  recorded =
      let l = h.accepted.listed in
      record {
        words = rw events-is l.words;
        inside = rw events-is l.inside;
        list-is = l.list-is ∙ ap (list_bytes F) (sym events-are);
        short = l.short;
      }

  -- the share
  facts : Opened Encoder s
  facts = opened-facts Encoder s h.on-share.lawful-share h.on-share.opened

  -- what the share has as expected is what is expected behind the set that is lent
  pub expected-is : {e : Expected} → e ≡ expected_in s → e ≡ expected_by (next_time t (lent s))
  expected-is q =
      q
      ∙ expected-there Encoder s h.on-share.share h.on-share.lawful-share h.on-share.opened
      ∙ (λ j. expected_by (next_time (sym h.on-share.track-is j) (sym (part_to_end s set_at) j)))

  -- the sets can be written: in a delta there is a reference
  pub writable : (delta : Bool) → Held delta s → Writable t delta (lent s) x
  writable delta held =
      record {
        old-words = rw (part_to_end s set_at) (reference-long s h.on-share.share);
        new-words = h.set_long;
        old =
            λ d.
            rw (part_to_end s set_at, h.on-share.track-is)
            (held-facts (track_of s) s facts.reference (ne_eqb _ _ (held d))).1;
        new = h.lawful-set;
        iv = rw h.on-share.track-is (ranges (asked_of s) facts.track).iv-size;
      }

  -- whatever goes by the sets as they are lent goes by the chunk and the share
  pub same-sets : {A : Type 0} (f : Track → Bool → Bool → List ℕ → List ℕ → A) {delta follow : Bool} {b : Basis} → b ≡ basis_of t delta follow (lent s) x
      → f t b.delta b.follow (lent s) x ≡ f (track_of s) delta follow (drop set_at s) (fields (track_of s) c)
  same-sets f {delta} {follow} {b} e =
      ap (λ (q : Basis). f t q.delta q.follow (lent s) x) e
      ∙ ap (λ (r : List ℕ). f t delta follow r x) (part_to_end s set_at)
      ∙ ap (f t delta follow (drop set_at s)) h.accepted.set_is
      ∙ ap (λ (u : Track). f u delta follow (drop set_at s) (fields u c)) h.on-share.track-is

  -- whether the IVs are left out is what the chunk and the share say
  pub leaves-is : (delta : Bool) {follow : Bool} → Leaves t delta s x follow → follow ≡ leaves_out F s c delta
  unfolding leaves_out
  leaves-is delta y =
      y (length (payload c))
      ∙ ap (λ (w : List ℕ). delta && ivs_follow t (get_or s last_at 0) (drop set_at s) w (length (payload c))) h.accepted.set_is
      ∙ ap (λ (u : Track). delta && ivs_follow u (get_or s last_at 0) (drop set_at s) (fields u c) (length (payload c))) h.on-share.track-is

  -- a set behind the reference, if there is one
  pub behind : Behind t (get_or s last_at 0) (drop set_at s) x
  behind =
      record {
        old-words = reference-long s h.on-share.share;
        new-words = h.set_long;
        old = λ o. rw h.on-share.track-is (lawful-there Encoder s h.on-share.share h.on-share.lawful-share h.on-share.opened o);
        new = h.lawful-set;
        iv = rw h.on-share.track-is (lawful-iv (asked_of s) facts.track);
        small = last-there Encoder s h.on-share.share h.on-share.lawful-share h.on-share.opened;
      }
