-- What an object says of one field of a set x, whichever it is: in a delta against the reference's set r, in a full object against nothing.
use Rattle.std.specs.Prelude.{ℕ, ◌+◌, ◌-◌, ◌*◌, ◌≤◌, ◌<◌, ◌≡◌, Bool, true, cond, not, ◌&&◌, List, [], ◌∷◌, eqb, length, get_or, Some}
use Rattle.std.proofs.Math.Seq.{slice}
use Rattle.laws.specs.Tests.{same}
use Rattle.constants.specs.Maxima.{subsamples_most}
use Rattle.wire.specs.declared.form.Row.{Row}
use Rattle.wire.specs.declared.zigzag.Coding.{Coding}
use Rattle.wire.specs.Zigzag.{code_of}
use Rattle.runs.specs.Run.{first}
use Rattle.block_items.specs.Items.{run}
use Rattle.track.specs.declared.Track.{Track}
use Rattle.field_table.specs.declared.lines.Line.{Line}
use Rattle.field_table.specs.declared.lines.Measure.{Measure}
use Rattle.field_table.specs.Lines.{lines, spare, set_len, line_count, wanted, absent_value, Small}
use Rattle.field_set.specs.Lawful.{measure_of, lawful}
use Rattle.field_rules.specs.Fields.{coding_for, coding_of, is_ivs, stood, old_values}
use Rattle.field_rules.specs.Words.{was_of}
use Rattle.locmaf_write_block.specs.declared.cells.Change.{Change}
use Rattle.locmaf_write_block.specs.declared.cells.Change.TheVariants.{Omitted, Deleted, Sent}
use Rattle.locmaf_write_block.specs.declared.cells.Basis.{Basis}
use Rattle.locmaf_write_tuples.specs.Items.{Items, nothing, number_item, run_item, wide_bytes, pair_most}

-- ==== The rules

-- how many lines of the table a chunk's set can have: all but the last, id 16's. 02, order 9: "no accepted chunk reaches the encoder's case for id 16. Show that, and
-- take the case out." (D142)
abbrev pub chunk_lines : ℕ
chunk_lines = line_count - 1

abbrev pub on_change : {A : Type 0} → Change → A → A → A
on_change Omitted f z = z
on_change Deleted f z = z
on_change Sent f z = f

module _ (t : Track) (delta : Bool) (r x : List ℕ) (l : Line) where
  -- the field stands in the set, and its values
  abbrev pub stands : Bool
  stands = not (eqb (get_or x l.place 0) 0)

  abbrev pub news : List ℕ
  news = slice (l.place + 1) (l.place + 1 + wanted l.want (measure_of t x)) x

  -- the values that it had
  abbrev pub olds : List ℕ
  olds = old_values delta r (was_of t delta r) l

  -- 01: "Id 5 is zigzag, other values plain", and in a delta distances: "A scalar's delta is against the previous value; if absent then, ids 2, 4, 6, 8 count as
  -- trex, 12 as 0 and 16 as the parameter. List elements count as 0 where the reference has none."
  unfoldable pub sent_items : List Row → Items
  sent_items F =
      let coding = coding_of (coding_for delta) l.absent in
      let base = absent_value t l.absent in
      cond (is_ivs l.want) (Some (run l.id (wide_bytes news) ∷ []))
      (cond (eqb l.room 1) (number_item l.id (code_of F coding (first base olds) (first 0 news)))
      (run_item F coding l.id base olds news))

-- `follow` says that the IVs follow from the reference's
module _ (t : Track) (delta follow : Bool) (r x : List ℕ) (l : Line) where
  -- the object has nothing to say of a field that stands: 01: "A present field equal to the reference's is omitted" (D66). 01's "Id 9, where the track is cenc and
  -- there are samples, always stands in the object" is amended by 02, order 6: "if each IV follows, .. id 9 is omitted" (D150).
  abbrev pub omits : Bool
  omits = stood delta r l && cond (is_ivs l.want) follow (same (olds t delta r x l) (news t delta r x l))

  -- 01: "a vanished one is listed in id 27"
  unfoldable pub change_of : Change
  change_of = cond (stands t delta r x l) (cond omits Omitted Sent) (cond (stood delta r l) Deleted Omitted)

  unfoldable pub line_items : List Row → Items
  line_items F = on_change change_of (sent_items t delta r x l F) nothing

-- ==== What only mirrors the code

-- the lengths that the fields go by
abbrev pub basis_of : Track → Bool → Bool → List ℕ → List ℕ → Basis
basis_of t delta follow r x = record { delta = delta; follow = follow; was = was_of t delta r; now = measure_of t x }

-- what is lent: lawful sets
pub record Writable (t : Track) (delta : Bool) (r x : List ℕ) : Type 0 where
  pub old-words : length r ≡ set_len
  pub new-words : length x ≡ set_len
  pub old : delta ≡ true → lawful t r ≡ true
  pub new : lawful t x ≡ true
  pub iv : t.iv_size ≤ 16

-- what is lent, and the lengths that go with it
abbrev pub Based : Track → Basis → List ℕ → List ℕ → Type 0
Based t b r x = Writable t b.delta r x × (b ≡ basis_of t b.delta b.follow r x)

-- a line that a chunk's set can have, by its number
pub record ChunkLine (l : Line) : Type 0 where
  pub number : ℕ
  pub below : number < chunk_lines
  pub found : l ≡ get_or lines number spare

-- the words of a set, and lengths by which its values lie in them
pub record Measured (m : Measure) (w : List ℕ) : Type 0 where
  pub long : length w ≡ set_len
  pub small : Small m
  pub sum : m.sum ≤ subsamples_most

-- the item of a list of k numbers, with what code found for its parameters
abbrev pub list_item : List Row → Coding → Basis → List ℕ → List ℕ → Line → ℕ → ℕ → Items
list_item F c b r x l k base =
    run_item F c l.id base (old_values b.delta r b.was l) (slice (l.place + 1) (l.place + 1 + k) x)

-- the item of a field that is sent as numbers, one or a list of k
unfoldable pub coded_item : List Row → Coding → Basis → List ℕ → List ℕ → Line → ℕ → ℕ → Items
coded_item F c b r x l k base =
    cond (eqb l.room 1)
    (number_item l.id (code_of F c (first base (old_values b.delta r b.was l)) (get_or x (l.place + 1) 0)))
    (list_item F c b r x l k base)

-- the most bytes of a field: no list is longer than that of the subsamples
abbrev pub line_most : ℕ
line_most = pair_most + 8 * subsamples_most
