-- What is known of one field of the set that is written, from its line of the table and lawful sets. Assumes nothing.
use Prim.Native.Nat.{ℕ, suc, ◌+◌, ◌≤◌, ◌<◌}
use native.Mathlib.Omega.{arith}
use mathlib.Core.Path.{◌≡◌, refl, sym, ◌∙◌, ap}
use mathlib.Core.Bool.{Bool, true, false}
use mathlib.Core.List.{List, [], ◌∷◌}
use borrow.Author.Tests.{leb-true, ltb-true}
use lib.Dec.{leb, ltb}
use lib.ListN.{length, get_or}
use lib.Seq.{slice, slice-cons}
use Rattle.laws.specs.Tests.{◌and◌}
use Rattle.laws.proofs.TestLaws.{left, right}
use Rattle.laws.proofs.SliceLaws.{slice-none}
use Rattle.runs.specs.Run.{first}
use Rattle.track.specs.declared.Track.{Track}
use Rattle.field_table.specs.declared.lines.Want.TheVariants.{One}
use Rattle.field_table.specs.declared.lines.Line.{Line}
use Rattle.field_table.specs.declared.lines.Measure.{Measure}
use Rattle.field_table.specs.Lines.{lines, spare, line_count, set_len, every, wanted, Small}
use Rattle.constants.specs.Ids.{id_count}
use Rattle.constants.specs.Maxima.{subsamples_most}
use Rattle.field_set.specs.Lawful.{measure_of, lawful}
use Rattle.field_table.proofs.LineLaws.{line-count, every-at, shaped}
use Rattle.field_set.proofs.LawfulLaws.{lawful-facts}
use Rattle.field_rules.specs.Fields.{stood, old_values}
use Rattle.field_rules.specs.Words.{was_of}
use Rattle.field_rules.proofs.RoomLaws.{wanted_room}
use Rattle.locmaf_write_block.specs.declared.cells.Basis.{Basis}
use Rattle.locmaf_write_block.specs.Changes.{Based, ChunkLine, Measured}

-- every line has a low id and room for at most as many values as there are subsamples
unfoldable short : Line → Bool
short l = ltb l.id id_count and leb l.room subsamples_most

all_short : every short lines ≡ true
unfolding every short lines ◌and◌
all_short = refl

-- the lengths of a lawful set: of the new one, and of the old one where there is one
lawful-new : (t : Track) (x : List ℕ) → length x ≡ set_len → t.iv_size ≤ 16 → lawful t x ≡ true → Measured (measure_of t x) x
lawful-new t x long iv e =
    let f = lawful-facts t x e in
    record { long = long; small = record { count = f.count; ivs = omega arith; sum = omega (arith, f.subsamples) }; sum = f.subsamples }

lawful-old : (t : Track) (delta : Bool) (r : List ℕ) → length r ≡ set_len → t.iv_size ≤ 16 → (delta ≡ true → lawful t r ≡ true) → Measured (was_of t delta r) r
lawful-old t true r long iv h = lawful-new t r long iv (h refl)
lawful-old t false r long iv h =
    record { long = long; small = record { count = omega arith; ivs = omega arith; sum = omega arith }; sum = omega arith }

module _ {t : Track} {b : Basis} {r x : List ℕ} (h : Based t b r x) where
  was-is : b.was ≡ was_of t b.delta r
  was-is = ap (λ (z : Basis). z.was) h.1

  now-is : b.now ≡ measure_of t x
  now-is = ap (λ (z : Basis). z.now) h.1

  pub measured-old : Measured b.was r
  measured-old = rw was-is (lawful-old t b.delta r h.0.old-words h.0.iv h.0.old)

  measured-new : Measured b.now x
  measured-new = rw now-is (lawful-new t x h.0.new-words h.0.iv h.0.new)

-- the values of a line lie in a set's words
pub record Within (l : Line) (m : Measure) (w : List ℕ) : Type 0 where
  pub region : l.place + 1 + l.room ≤ length w
  pub small : Small m
  pub room : wanted l.want m ≤ l.room

within-at : (i : ℕ) → i < line_count → (m : Measure) (w : List ℕ) → Measured m w → Within (get_or lines i spare) m w
within-at i lt m w h =
    record { region = omega (arith, (shaped i lt).inside, h.long); small = h.small; room = wanted_room i lt m h.small h.sum }

pub within : {l : Line} {m : Measure} {w : List ℕ} → ChunkLine l → Measured m w → Within l m w
within {l} {m} {w} k h = rw k.found (within-at k.number (omega (arith, k.below)) m w h)

-- the id of a line is low
pub line_low : {l : Line} → ChunkLine l → l.id < id_count
unfolding short
line_low k = rw k.found (ltb-true _ _ (left _ _ (every-at short lines k.number spare all_short (omega (arith, line-count, k.below)))))

-- a line with room for one value has one, which lies in a set's words
pub line-single : {l : Line} {m : Measure} {r : List ℕ} (x : List ℕ) → ChunkLine l → Measured m r → length x ≡ set_len → l.room ≡ 1
    → (l.place + 2 ≤ length r) × ((l.place + 2 ≤ length x) × (l.want ≡ One))
line-single {l} x k h long e =
    let one : l.room ≡ 1 → l.want ≡ One = rw k.found (shaped k.number (omega (arith, k.below))).single in
    let w = (within k h).region in
    (omega (arith, w, e), (omega (arith, w, e, h.long, long), one e))

-- a field of the table, in both sets
pub record Field (t : Track) (b : Basis) (r x : List ℕ) (l : Line) : Type 0 where
  pub there : l.place + 1 + l.room ≤ length r
  pub here : l.place + 1 + l.room ≤ length x
  pub old : Small b.was
  pub new : Small b.now
  pub was-is : b.was ≡ was_of t b.delta r
  pub now-is : b.now ≡ measure_of t x
  pub old-room : wanted l.want b.was ≤ l.room
  pub new-room : wanted l.want b.now ≤ l.room
  pub single : l.room ≡ 1 → l.want ≡ One
  pub few : l.room ≤ subsamples_most
  pub low : l.id < id_count

-- it is known by its line
pub field-of : (t : Track) (b : Basis) (r x : List ℕ) (i : ℕ) (l : Line)
    → Based t b r x → (i < line_count) × (l ≡ get_or lines i spare) → Field t b r x l
unfolding short
field-of t b r x i l h k =
    let lt : i < line_count = k.0 in
    let s = every-at short lines i spare all_short (omega (arith, line-count)) in
    let o = within-at i lt b.was r (measured-old h) in
    let n = within-at i lt b.now x (measured-new h) in
    rw k.1
    (record {
      there = o.region;
      here = n.region;
      old = o.small;
      new = n.small;
      was-is = was-is h;
      now-is = now-is h;
      old-room = o.room;
      new-room = n.room;
      single = (shaped i lt).single;
      few = leb-true _ _ (right _ _ s);
      low = ltb-true _ _ (left _ _ s);
    })

-- of the lines that a chunk has
pub chunk-field : (t : Track) (b : Basis) (r x : List ℕ) (l : Line) → Based t b r x → ChunkLine l → Field t b r x l
chunk-field t b r x l h k = field-of t b r x k.number l h (omega (arith, k.below), k.found)

-- ---- old values

module _ (held : Bool) (r : List ℕ) (was : Measure) (l : Line) where
  -- they are those of the reference, or none
  old-some : stood held r l ≡ true → old_values held r was l ≡ slice (l.place + 1) (l.place + 1 + wanted l.want was) r
  unfolding old_values
  old-some e = rw e

  old-none : stood held r l ≡ false → old_values held r was l ≡ []
  unfolding old_values
  old-none e = rw e

  -- the one old value of a field, or what an absent one counts as
  module _ (base : ℕ) (one : l.want ≡ One) where
    pub first_some : l.place + 2 ≤ length r → stood held r l ≡ true → get_or r (l.place + 1) 0 ≡ first base (old_values held r was l)
    unfolding wanted
    first_some room e =
        let s : slice (l.place + 1) (l.place + 1 + 1) r ≡ get_or r (l.place + 1) 0 ∷ slice (suc (l.place + 1)) (l.place + 1 + 1) r =
        slice-cons (l.place + 1) (l.place + 1 + 1) r 0 (omega arith) (omega arith) in
        rw (old-some e, one, s)

    pub first-none : stood held r l ≡ false → base ≡ first base (old_values held r was l)
    first-none e = rw (old-none e)

module _ {l : Line} {was : Measure} {r : List ℕ} (f : Within l was r) (held : Bool) where
  -- how many there are to go by: as many as there were, or none
  pub olds-some : (n : ℕ) → n ≡ wanted l.want was → stood held r l ≡ true
      → (l.place + 1 + n ≤ length r) × (old_values held r was l ≡ slice (l.place + 1) (l.place + 1 + n) r)
  olds-some n e s = (omega (arith, f.region, f.room), old-some held r was l s ∙ rw e)

  pub olds-none : stood held r l ≡ false
      → (l.place + 1 + 0 ≤ length r) × (old_values held r was l ≡ slice (l.place + 1) (l.place + 1 + 0) r)
  olds-none s = (
    omega (arith, f.region),
    old-none held r was l s ∙ sym (slice-none (l.place + 1) (l.place + 1 + 0) r (omega arith)),
  )
