-- The values of an object and its sums, once its block is split and its set is read. Assumes nothing.
use Prim.Native.Nat.{ℕ, ◌-◌, ◌%◌, ◌≤◌, ◌<◌}
use native.Mathlib.Omega.{arith}
use mathlib.Core.Path.{◌≡◌, refl, sym, ◌∙◌, ap, subst}
use mathlib.Core.Bool.{Bool, true, false, ◌&&◌}
use mathlib.Core.List.{List}
use Rattle.std.specs.Prelude.{Option, Some, None, Ok, Err}
use Rattle.refusal.specs.declared.Refusal.{Refusal}
use Rattle.refusal.specs.Numbers.{number_of}
use borrow.Author.Tests.{leb-true}
use lib.Dec.{leb}
use lib.ListN.{length, get_or, replicate, length-replicate, length-drop, set as store}
use Rattle.constants.specs.Maxima.{brand_bytes_most, events_most, event_bytes_most, payload_most, number_most}
use Rattle.locmaf_read_index.specs.Places.{number_at, many_at}
use Rattle.laws.specs.Tests.{◌and◌, all_le}
use Rattle.laws.specs.Ladder.{Rung, ladder, Hold}
use Rattle.laws.proofs.LadderLaws.{broken, passed, top}
use Rattle.laws.proofs.TestLaws.{left, and_left, and_right}
use Rattle.wire.specs.declared.form.Row.{Row}
use Rattle.track.specs.declared.Track.{Track}
use Rattle.field_table.specs.Lines.{set_len}
use Rattle.field_set.specs.Lawful.{lawful as lawful_set}
use Rattle.laws.specs.Options.{on_option}
use Rattle.event_value.specs.Events.{events_of, EventsFit, events_len}
use Rattle.cmaf_write_front.specs.Writable.{Writable}
use Rattle.effective.specs.Sizes.{Sized}
use Rattle.prft_value.specs.Prft.{Headed}
use Rattle.cmaf_write_prelude.specs.Branded.{Branded}
use Rattle.cmaf_write_senc.proofs.ProtectableLaws.{lawful-protectable}
use Rattle.locmaf_read_said.specs.Said.{Says, scalar_in}
use Rattle.field_rules.specs.Fields.{numbers}
use Rattle.locmaf_read_set.specs.Read.{count_of, field_of, new_words, set_rungs}
use Rattle.locmaf_read_said.proofs.TellingLaws.{scalar-says}
use Rattle.field_rules.proofs.SetLaws.{words-bmdt}
use Rattle.locmaf_read_set.proofs.NewSetLaws.{taken-facts, new-lawful, new-long}
use Rattle.locmaf_read_head.specs.declared.head.Place.{Place}
use Rattle.locmaf_read_times.specs.declared.prft.Told.{Told}
use Rattle.locmaf_read_times.specs.Bmdt.{bmdt_of}
use Rattle.slots.specs.declared.lawful.Side.TheVariants.{Receiver}
use Rattle.share_words.specs.Share.{last_at}
use Rattle.slots.specs.Share.{expected_in}
use Rattle.effective.specs.Expected.{next_time, expected_by}
use Rattle.locmaf_read_times.specs.Prft.{prft_of}
use Rattle.locmaf_read_events.specs.Events.{EventsRead}
use Rattle.locmaf_read_events.specs.Values.{all_fit, boxes}
use Rattle.told_sizes.specs.Sums.{Summable}
use Rattle.counters.specs.Follow.{Behind}
use Rattle.locmaf_read_events.proofs.ValueLaws.{EventsTold, said-count, said-size, said-told}
use Rattle.told_sizes.proofs.SumLaws.{lawful-summable}
use Rattle.effective.proofs.SumLaws.{sizes-sized}
use Rattle.byte_parts.specs.declared.Part.{Part}
use Rattle.receiver.specs.declared.judge.Judged.{Judged}
use Rattle.receiver.specs.Object.{is_delta, block_end, saying, payload}
use Rattle.receiver.specs.Receive.{track, reference, bmdt, prft, events, brands, told_set, new_set, values_ok, sums_ok, ivs_fit, value_rungs}
use Rattle.receiver.specs.Judge.{part_in, sums_in, Judgeable, Split, Ready, JudgedAs}
use Rattle.locmaf_read_times.proofs.PrftFacts.{prft-says, prft-headed}
use Rattle.reference.proofs.OpenLaws.{reference-long, expected-there, last-there, lawful-there}
use Rattle.receiver.proofs.ShareFacts.{iv-most, iv-right, delta-lawful, kept_small}
use Rattle.receiver.proofs.SaidLaws.{raw-bytes}
use Rattle.receiver.proofs.BrandLaws.{BrandsTold, brands-told, brands-fours}
use Rattle.receiver.proofs.LeftLaws.{Like, new-like}

-- ---- two tests, one after the other

pub first-held : (a b c : Bool) → a ≡ true → c ≡ b → c ≡ (a and b)
unfolding ◌and◌
first-held a b c e h = rw e h

-- ---- the rules of the values

module _ (F : List Row) (o s : List ℕ) where
  -- all but the events
  abbrev pub plain_ok : Bool
  plain_ok =
      leb (bmdt F o s) number_most
      && ((prft F o s).ok
      && (leb (length (payload F o)) payload_most
      && (leb (length (brands F o s)) brand_bytes_most && (leb (length (events F o s)) events_most && leb (length (numbers (saying F o 25))) event_bytes_most))))

  -- one by one
  record Plain : Type 0 where
    start : bmdt F o s ≤ number_most
    told : (prft F o s).ok ≡ true
    carried : length (payload F o) ≤ payload_most
    named : length (brands F o s) ≤ brand_bytes_most
    few : length (events F o s) ≤ events_most
    small : length (numbers (saying F o 25)) ≤ event_bytes_most

  plain-facts : plain_ok ≡ true → Plain
  plain-facts e =
      let e₂ = and_right (leb (bmdt F o s) number_most) _ e in
      let e₃ = and_right (prft F o s).ok _ e₂ in
      let e₄ = and_right (leb (length (payload F o)) payload_most) _ e₃ in
      let e₅ = and_right (leb (length (brands F o s)) brand_bytes_most) _ e₄ in
      record {
        start = leb-true _ _ (and_left (leb (bmdt F o s) number_most) _ e);
        told = and_left (prft F o s).ok _ e₂;
        carried = leb-true _ _ (and_left (leb (length (payload F o)) payload_most) _ e₃);
        named = leb-true _ _ (and_left (leb (length (brands F o s)) brand_bytes_most) _ e₄);
        few = leb-true _ _ (and_left (leb (length (events F o s)) events_most) _ e₅);
        small = leb-true _ _ (and_right (leb (length (events F o s)) events_most) _ e₅);
      }

  pub values-broken : plain_ok ≡ false → values_ok F o s ≡ false
  unfolding values_ok ◌and◌
  values-broken e = rw e

  values-fit : plain_ok ≡ true → values_ok F o s ≡ all_fit (track F o s) (bmdt F o s) (events F o s)
  unfolding values_ok ◌and◌
  values-fit e = rw e

  -- the number of the first that is broken
  pub fifteen : values_ok F o s ≡ false → 15 ≡ ladder (value_rungs F o s) (λ k. k) 0
  unfolding value_rungs
  fifteen e = broken _ _ _ _ _ e

  pub sixteen : values_ok F o s ≡ true → sums_ok F o s ≡ false → 16 ≡ ladder (value_rungs F o s) (λ k. k) 0
  unfolding value_rungs
  sixteen e h = passed _ _ _ _ _ e (broken _ _ _ _ _ h)

  pub twenty-one : values_ok F o s ≡ true → sums_ok F o s ≡ true → ivs_fit F o s ≡ false → 21 ≡ ladder (value_rungs F o s) (λ k. k) 0
  unfolding value_rungs
  twenty-one e h i = passed _ _ _ _ _ e (passed _ _ _ _ _ h (broken _ _ _ _ _ i))

  nothing : values_ok F o s ≡ true → sums_ok F o s ≡ true → ivs_fit F o s ≡ true → 0 ≡ ladder (value_rungs F o s) (λ k. k) 0
  unfolding value_rungs
  nothing e h i = passed _ _ _ _ _ e (passed _ _ _ _ _ h (passed _ _ _ _ _ i (top _ _)))

  -- of a refusal its number is asked alone
  pub judged-none : (rungs : List Rung) (r : Refusal) (ws x : List ℕ) → number_of r ≡ ladder rungs (λ i. i) 0 → JudgedAs rungs F o s (Err r) ws x
  judged-none rungs r ws x h = record { answered = h; ready = λ j e. let z : ◌≡◌ {A = ℕ} 0 1 = cc in absurd (omega (arith, z)) }

-- ---- what is lent

module _ {F : List Row} {o s : List ℕ} {t : Track} {p : Place} (j : Judgeable F o s t p) where
  -- what the share has as expected is what is expected behind the reference
  pub lent-expected : expected_in s ≡ expected_by (next_time t (reference F o s))
  lent-expected = rw j.track (expected-there Receiver s j.share j.lawful j.opened)

  pub end-inside : p.end ≤ length o
  end-inside =
      let e : p.end ≡ block_end F o = ap (λ (q : Place). q.end) j.place in
      omega (arith, j.inside)

  pub payload-long : length o - p.end ≡ length (payload F o)
  unfolding payload
  payload-long = ap (λ (q : Place). length o - q.end) j.place ∙ sym (length-drop (block_end F o) o)

  -- the size of IVs
  pub iv-small : t.iv_size ≤ 16
  iv-small = rw j.track (iv-most s j.share j.lawful j.opened)

  -- a delta is read against a lawful set
  pub delta-good : is_delta F o ≡ true → lawful_set t (reference F o s) ≡ true
  delta-good = rw j.track (delta-lawful s j.share j.lawful j.opened F o j.held)

-- ---- what the code works out before its first test: BMDT, the `prft`, and where the brands stand

pub record Worked (F : List Row) (o s : List ℕ) (t : Track) (p : Place) (index ev : List ℕ) (b : ℕ) (r : Told) (q : Part) : Type 0 where
  pub head : Judgeable F o s t p
  pub split : Split F o index ev
  pub start : leb (bmdt_of t (scalar_in index 10) (reference F o s)) number_most ≡ true → b ≡ bmdt_of t (scalar_in index 10) (reference F o s)
  pub told : r ≡ prft_of p.delta (scalar_in index) s
  pub named : q ≡ part_in index 23

-- and the words of the set that were read
pub record Gathered (F : List Row) (o s : List ℕ) (t : Track) (x : List ℕ) : Type 0 where
  pub hold : Hold (set_rungs t (is_delta F o) (reference F o s) (saying F o))
  pub words : x ≡ new_words t (is_delta F o) (reference F o s) (saying F o) 0
  pub bytes : all_le 255 o ≡ true

size_of : (m : Option (List ℕ)) → on_option m length 0 ≡ length (numbers m)
size_of None = refl
size_of (Some zs) = refl

module _ {F : List Row} {o s : List ℕ} {t : Track} {p : Place} {index ev : List ℕ} {b : ℕ} {r : Told} {q : Part} (w : Worked F o s t p index ev b r q) where
  scalar-said : (id : ℕ) → id % 2 ≡ 0 → scalar_in index id ≡ saying F o id
  scalar-said id e = scalar-says F o index id e ∙ ap (λ (f : Says). f id) w.split.says

  bmdt-said : bmdt_of t (scalar_in index 10) (reference F o s) ≡ bmdt F o s
  unfolding bmdt
  bmdt-said = rw (scalar-said 10 refl, w.head.track)

  bmdt-is : plain_ok F o s ≡ true → b ≡ bmdt F o s
  bmdt-is ok =
      let small : leb (bmdt F o s) number_most ≡ true = and_left (leb (bmdt F o s) number_most) _ ok in
      w.start (ap (λ (n : ℕ). leb n number_most) bmdt-said ∙ small) ∙ bmdt-said

  prft-is : r ≡ prft F o s
  unfolding prft
  prft-is =
      w.told
      ∙ ap (λ (u : Place). prft_of u.delta (scalar_in index) s) w.head.place
      ∙ prft-says (is_delta F o) s (scalar_in index) (saying F o) (scalar-said 18 refl) (scalar-said 20 refl) (scalar-said 22 refl) (scalar-said 24 refl)

  brands-are : BrandsTold o q (brands F o s)
  brands-are = rw (w.named, ← ap (λ (f : Says). numbers (f 23)) w.split.says) (brands-told F o index w.split.telling)

  events-many : length (events F o s) ≡ get_or index (many_at 25) 0
  unfolding events
  events-many = said-count F o (block_end F o) index (replicate events_len 0) ev w.head.inside (saying F o 25) w.split.list

  events-size : length (numbers (saying F o 25)) ≡ get_or index (number_at 25) 0
  events-size =
      sym (size_of (saying F o 25))
      ∙ said-size F o (block_end F o) index (replicate events_len 0) ev w.head.inside (saying F o 25) w.split.list

  -- the code's test of all but the events
  pub plain-is : (leb (bmdt_of t (scalar_in index 10) (reference F o s)) number_most
      && (r.ok && (leb (length o - p.end) payload_most && (leb q.len brand_bytes_most && (leb (get_or index (many_at 25) 0) events_most && leb (get_or index (number_at 25) 0) event_bytes_most)))))
      ≡ plain_ok F o s
  plain-is = rw (bmdt-said, prft-is, payload-long w.head, brands-are.long, events-many, events-size)

  -- it holds
  module _ (ok : plain_ok F o s ≡ true) where
    plain : Plain F o s
    plain = plain-facts F o s ok

    told : EventsTold F t b o ev (get_or index (many_at 25) 0) (get_or index (number_at 25) 0) (saying F o 25)
    told =
        said-told F o (block_end F o) index (replicate events_len 0) ev w.head.inside (saying F o 25) w.split.list t b (length-replicate {A = ℕ} events_len 0)
        (omega (arith, plain.few, events-many)) (omega (arith, plain.small, events-size))

    -- the events, as `events_ok` is lent them
    pub events-lent : EventsFit o ev (get_or index (many_at 25) 0)
    events-lent = told.inside

    pub payload-most : length o - p.end ≤ payload_most
    payload-most = omega (arith, plain.carried, payload-long w.head)

    module _ {z : Bool} {ws : List ℕ} (read : EventsRead t b o ev (get_or index (many_at 25) 0) z ws) where
      -- the values are in range where its events are
      pub fit_is : z ≡ values_ok F o s
      unfolding events
      fit_is =
          read.answered
          ∙ told.tests
          ∙ ap (λ (u : Track). all_fit u b (events F o s)) w.head.track
          ∙ ap (λ (n : ℕ). all_fit (track F o s) n (events F o s)) (bmdt-is ok)
          ∙ sym (values-fit F o s ok)

      boxes-are : events_of o ws (get_or index (many_at 25) 0) ≡ boxes (track F o s) (bmdt F o s) (events F o s)
      unfolding events
      boxes-are =
          ap (λ (v : List ℕ). events_of o v (get_or index (many_at 25) 0)) read.stored
          ∙ told.built
          ∙ ap (λ (u : Track). boxes u b (events F o s)) w.head.track
          ∙ ap (λ (n : ℕ). boxes (track F o s) n (events F o s)) (bmdt-is ok)

  -- ---- the words of the new set

  module _ {x : List ℕ} (g : Gathered F o s t x) where
    raw : (zs : List ℕ) → saying F o 9 ≡ Some zs → all_le 255 zs ≡ true
    raw zs e = raw-bytes F o g.bytes zs e

    long : length (reference F o s) ≡ set_len
    long = reference-long s w.head.share

    new-words : (n : ℕ) → length (new_words t (is_delta F o) (reference F o s) (saying F o) n) ≡ set_len
    new-words =
        new-long t (is_delta F o) (reference F o s) (saying F o) long (delta-good w.head)
        (taken-facts t (is_delta F o) (reference F o s) (saying F o) g.hold) (iv-small w.head)

    pub some_words : 0 < length x
    some_words = let n : length x ≡ set_len = ap length g.words ∙ new-words 0 in omega arith

    stored : store x 0 b ≡ new_words t (is_delta F o) (reference F o s) (saying F o) b
    stored =
        ap (λ (v : List ℕ). store v 0 b) g.words
        ∙ words-bmdt 0 b (count_of t (is_delta F o) (reference F o s) (saying F o)) (field_of t (is_delta F o) (reference F o s) (saying F o))

    stored-long : length (store x 0 b) ≡ set_len
    stored-long = ap length stored ∙ new-words b

    module _ (ok : plain_ok F o s ≡ true) where
      -- they are those that the object tells
      pub stored-set : store x 0 b ≡ told_set F o s
      unfolding told_set
      stored-set =
          stored
          ∙ ap (λ (u : Track). new_words u (is_delta F o) (reference F o s) (saying F o) b) w.head.track
          ∙ ap (new_words (track F o s) (is_delta F o) (reference F o s) (saying F o)) (bmdt-is ok)

      stored-lawful : lawful_set t (store x 0 b) ≡ true
      stored-lawful =
          let m : b ≤ number_most = omega (arith, (plain-facts F o s ok).start, bmdt-is ok) in
          ap (lawful_set t) stored
          ∙ new-lawful t (is_delta F o) (reference F o s) (saying F o) g.hold b m (iv-small w.head) long (delta-good w.head) raw

      -- what `sums_ok` is lent
      pub stored-summable : Summable (store x 0 b)
      stored-summable = lawful-summable t (store x 0 b) stored-long stored-lawful

      -- what IVs that are left out follow from
      pub stored-behind : Behind t (get_or s last_at 0) (reference F o s) (store x 0 b)
      stored-behind =
          record {
            old-words = long;
            new-words = stored-long;
            old =
                λ e.
                ap (λ (u : Track). lawful_set u (reference F o s)) w.head.track
                ∙ lawful-there Receiver s w.head.share w.head.lawful w.head.opened e;
            new = stored-lawful;
            iv = rw w.head.track (iv-right s w.head.share w.head.lawful w.head.opened);
            small = last-there Receiver s w.head.share w.head.lawful w.head.opened;
          }

      -- the code's test of the sums is the rules'
      pub sums-are : sums_in t (store x 0 b) (length o - p.end) ≡ sums_ok F o s
      unfolding sums_ok
      sums-are = λ i. sums_in (w.head.track i) (stored-set i) (payload-long w.head i)

      -- ---- all is right

      -- the new set, IVs that were left out among it
      new : Like (track F o s) (told_set F o s) (new_set F o s) (length (payload F o))
      new = new-like F o s (ap length (sym stored-set) ∙ stored-long) (sym (λ i. lawful_set (w.head.track i) (stored-set i)) ∙ stored-lawful)

      headed : Headed r.prft
      unfolding prft
      headed =
          let k = kept_small s w.head.share w.head.lawful w.head.opened in
          rw prft-is (prft-headed (is_delta F o) (saying F o) s k.0 k.1 (plain-facts F o s ok).told)

      branded : Branded (brands F o s)
      branded =
          record {
            few = (plain-facts F o s ok).named;
            fours = brands-fours t (is_delta F o) (reference F o s) (saying F o) g.hold;
          }

      module _ {y : Bool} {ws : List ℕ} (read : EventsRead t b o ev (get_or index (many_at 25) 0) y ws) (sums : sums_ok F o s ≡ true) where
        -- it has a last size
        sized : Sized (new_set F o s) (length (payload F o))
        unfolding sums_ok
        sized = sizes-sized (track F o s) (new_set F o s) (length (payload F o)) (new.sizes ∙ left _ _ sums) (plain-facts F o s ok).carried

        -- and a front can be written from it
        writable : Writable (track F o s) (new_set F o s) (length (payload F o)) r.prft o ws (get_or index (many_at 25) 0) (brands F o s)
        writable =
            record {
              set = lawful-protectable (track F o s) (new_set F o s) new.long (iv-most s w.head.share w.head.lawful w.head.opened) new.good;
              sized = sized;
              prft = headed;
              events = read.fits;
              brands = branded;
            }

        -- no rule is broken, and all is ready
        pub accepts : values_ok F o s ≡ true → ivs_fit F o s ≡ true → {z : List ℕ} → z ≡ new_set F o s
            → JudgedAs (value_rungs F o s) F o s (Ok (record { prft = r.prft; events = get_or index (many_at 25) 0; brands = q })) ws z
        accepts fit ivs {z} e =
            record {
              answered = nothing F o s fit sums ivs;
              ready =
                  λ j h.
                  let same : record { prft = r.prft; events = get_or index (many_at 25) 0; brands = q } ≡ j = cc in
                  subst (λ (a : Judged). Ready F o s a ws z) same
                  (record {
                    words = e;
                    time = ap (λ (u : Told). u.prft) prft-is;
                    list = boxes-are ok read;
                    inside = brands-are.inside;
                    named = brands-are.named;
                    good = rw e new.good;
                    writable = rw e writable;
                  });
            }
