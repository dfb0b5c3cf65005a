-- How long a block can be. Assumes nothing.
use Prim.Native.Nat.{ℕ, suc, ◌+◌, ◌*◌, ◌/◌, ◌≤◌, zero-le}
use native.Mathlib.Nat.{mul-le-mul}
use native.Mathlib.Omega.{arith}
use mathlib.Core.Path.{◌≡◌}
use mathlib.Core.Bool.{Bool, true, false, cond}
use mathlib.Core.List.{List, [], ◌∷◌, ◌++◌}
use borrow.Author.Tests.{leb-true}
use lib.Dec.{eqb}
use lib.ListN.{length, get_or, take, length-append, length-take, length-drop}
use lib.Seq.{slice}
use Rattle.constants.specs.Maxima.{samples_most, subsamples_most}
use Rattle.laws.specs.Tests.{sum}
use Rattle.laws.proofs.TestLaws.{left, right}
use Rattle.wire.specs.declared.form.Row.{Row}
use Rattle.wire.specs.declared.zigzag.Coding.{Coding}
use Rattle.wire.specs.declared.zigzag.Coding.TheVariants.{Plain}
use Rattle.std.specs.Prelude.{Option, Some, None}
use Rattle.wire.specs.Form.{longest}
use Rattle.wire.specs.Varint.{encode}
use Rattle.wire.specs.Zigzag.{code_of}
use Rattle.wire.proofs.SizeLaws.{encode-size, size-longest}
use Rattle.runs.specs.Run.{first, run_of, measured}
use Rattle.block_items.specs.Items.{Item, run, enc_item, enc_block}
use Rattle.block_items.specs.Events.{Event, enc_text, enc_event, enc_events}
use Rattle.track.specs.declared.Track.{Track}
use Rattle.prft_value.specs.declared.Prft.{Prft}
use Rattle.field_table.specs.declared.lines.Line.{Line}
use Rattle.field_table.specs.Lines.{lines, line_count, wanted, count_at, absent_value}
use Rattle.field_set.specs.Lawful.{values_of, measure_of, lawful}
use Rattle.field_rules.specs.Fields.{coding_for, coding_of, is_ivs}
use Rattle.locmaf_write_events.specs.Records.{text_bytes, record_bytes, list_bytes, times_fit}
use Rattle.locmaf_write_block.specs.declared.cells.Change.{Change}
use Rattle.locmaf_write_block.specs.declared.cells.Change.TheVariants.{Omitted, Deleted, Sent}
use Rattle.locmaf_write_tuples.specs.Items.{Items, nothing, ◌before◌, items_if, number_item, on_measured, run_item, wide_bytes, bytes_of, pair_most}
use Rattle.locmaf_write_block.specs.Changes.{chunk_lines, on_change, news, olds, change_of, sent_items, line_items, line_most}
use Rattle.locmaf_write_block.specs.Fields.{is_deleted, gone_of, before_bmdt, before_count, lines_items, bmdt_if, bmdt_items, count_items, field_items, deletion_items, gone_most}
use Rattle.locmaf_write_prft.specs.Prft.{times_items, unless_items, version_items, flags_items}
use Rattle.locmaf_write_block.proofs.WideLaws.{wide-length}
use Rattle.locmaf_write_tuples.proofs.TupleLaws.{run-most as numbers-most}
use Rattle.encoder.specs.Object.{brand_items, event_items}

-- ---- items

-- at most so many bytes
abbrev pub Most : List Row → ℕ → Items → Type 0
Most F n is = length (bytes_of F is) ≤ n

-- the most bytes of the lines below BMDT's id and below the count's, by their rooms; and of the fields, with all that follows each part
abbrev low_most : ℕ
low_most = 3240

abbrev middle_most : ℕ
middle_most = 2616

abbrev after_middle : ℕ
after_middle = pair_most + line_most

abbrev after_low : ℕ
after_low = pair_most + (middle_most + after_middle)

abbrev pub fields_most : ℕ
fields_most = low_most + after_low

module _ (F : List Row) (eight : longest F ≤ 8) where
  varint-most : (v : ℕ) → length (encode F v) ≤ 8
  varint-most v = omega (arith, encode-size F v, size-longest F v)

  block-append : (xs ys : List Item) → length (enc_block F (xs ++ ys)) ≡ length (enc_block F xs) + length (enc_block F ys)
  unfolding enc_block
  block-append [] ys = omega arith
  block-append (x ∷ xs) ys =
      omega (arith, length-append (enc_item F x) (enc_block F (xs ++ ys)), length-append (enc_item F x) (enc_block F xs), block-append xs ys)

  pub before-most : (m n : ℕ) (a b : Items) → Most F m a → Most F n b → Most F (m + n) (a before b)
  unfolding ◌before◌ enc_block
  before-most m n None b h k = zero-le
  before-most m n (Some xs) None h k = zero-le
  before-most m n (Some xs) (Some ys) h k = omega (arith, block-append xs ys)

  if-most : (n : ℕ) (b : Bool) (is : Items) → Most F n is → Most F n (items_if b is)
  unfolding items_if enc_block
  if-most n true is h = h
  if-most n false is h = zero-le

  number-most : (id : ℕ) (c : Option ℕ) → Most F pair_most (number_item id c)
  unfolding number_item enc_block enc_item
  number-most id (Some z) =
      omega (arith, length-append (encode F id ++ encode F z) [], length-append (encode F id) (encode F z), varint-most id, varint-most z)
  number-most id None = zero-le

  -- of three, by two tests
  either : (n : ℕ) (a b : Bool) (u v w : Items) → Most F n u → Most F n v → Most F n w → Most F n (cond a u (cond b v w))
  either n true b u v w p q s = p
  either n false true u v w p q s = q
  either n false false u v w p q s = s

  wider : (n : ℕ) (is : Items) → Most F pair_most is → Most F (pair_most + n) is
  wider n is h = omega arith

  bytes_most : (n id : ℕ) (bs : List ℕ) → length bs ≤ n → Most F (pair_most + n) (Some (run id bs ∷ []))
  unfolding enc_block enc_item
  bytes_most n id bs h =
      omega (
        arith,
        length-append (encode F id ++ (encode F (length bs) ++ bs)) [],
        length-append (encode F id) (encode F (length bs) ++ bs),
        length-append (encode F (length bs)) bs,
        varint-most id,
        varint-most (length bs),
      )

  -- ---- lists of numbers

  run-most : (coding : Coding) (n id base : ℕ) (old new : List ℕ) → length new ≤ n → Most F (pair_most + 8 * n) (run_item F coding id base old new)
  unfolding run_item enc_block
  run-most coding n id base old new h = go (measured F coding base old new)
    where
      go : (k : Option ℕ) → Most F (pair_most + 8 * n) (on_measured k (Some (run id (run_of F coding base old new) ∷ [])))
      go (Some j) = bytes_most (8 * n) id (run_of F coding base old new) (omega (arith, numbers-most F eight coding base old new))
      go None = zero-le

  -- ---- a field

  module _ (t : Track) (delta follow : Bool) (r x : List ℕ) where
    news-length : (l : Line) → length (news t delta r x l) ≤ wanted l.want (measure_of t x)
    news-length l =
        omega (
          arith,
          length-drop (l.place + 1) (take (l.place + 1 + wanted l.want (measure_of t x)) x),
          length-take (l.place + 1 + wanted l.want (measure_of t x)) x,
        )

    sent-most : (l : Line) → wanted l.want (measure_of t x) ≤ l.room → Most F (pair_most + 8 * l.room) (sent_items t delta r x l F)
    unfolding sent_items
    sent-most l h =
        let n : length (news t delta r x l) ≤ l.room = omega (arith, news-length l) in
        let coded : Option ℕ =
        code_of F (coding_of (coding_for delta) l.absent) (first (absent_value t l.absent) (olds t delta r x l)) (first 0 (news t delta r x l)) in
        either (pair_most + 8 * l.room) (is_ivs l.want) (eqb l.room 1) _ _ _
        (bytes_most (8 * l.room) l.id (wide_bytes (news t delta r x l)) (omega (arith, wide-length (news t delta r x l))))
        (wider (8 * l.room) (number_item l.id coded) (number-most l.id coded))
        (run-most (coding_of (coding_for delta) l.absent) l.room l.id (absent_value t l.absent) (olds t delta r x l) (news t delta r x l) n)

    line-most : (l : Line) → wanted l.want (measure_of t x) ≤ l.room → Most F (pair_most + 8 * l.room) (line_items t delta follow r x l F)
    unfolding line_items enc_block
    line-most l h = go (change_of t delta follow r x l)
      where
        go : (ch : Change) → Most F (pair_most + 8 * l.room) (on_change ch (sent_items t delta r x l F) nothing)
        go Omitted = zero-le
        go Deleted = zero-le
        go Sent = sent-most l h

    -- ---- the fields of a run of lines

    -- room for what is wanted, in each
    abbrev Roomy : List Line → Type 0
    Roomy [] = Unit {0}
    Roomy (l ∷ ls) = (wanted l.want (measure_of t x) ≤ l.room) × Roomy ls

    abbrev most_of : List Line → ℕ
    most_of [] = 0
    most_of (l ∷ ls) = pair_most + 8 * l.room + most_of ls

    lines-most : (ls : List Line) → Roomy ls → Most F (most_of ls) (lines_items F t delta follow r x ls)
    unfolding lines_items enc_block
    lines-most [] h = zero-le
    lines-most (l ∷ ls) h =
        before-most (pair_most + 8 * l.room) (most_of ls) (line_items t delta follow r x l F) (lines_items F t delta follow r x ls) (line-most l h.0) (lines-most ls h.1)

    gone-length : (ls : List Line) → length (gone_of t delta follow r x ls) ≤ length ls
    unfolding gone_of
    gone-length [] = zero-le
    gone-length (l ∷ ls) = go (is_deleted (change_of t delta follow r x l)) (gone-length ls)
      where
        go : (b : Bool) → length (gone_of t delta follow r x ls) ≤ length ls
            → length (cond b (l.id ∷ gone_of t delta follow r x ls) (gone_of t delta follow r x ls)) ≤ suc (length ls)
        go true h = omega arith
        go false h = omega arith

    -- ids 1 to 15, and id 27
    module _ (good : lawful t x ≡ true) (iv : t.iv_size ≤ 16) where
      few : get_or x count_at 0 ≤ samples_most
      unfolding lawful
      few = leb-true _ _ (left _ _ good)

      sums : sum (values_of 11 (get_or x count_at 0) x) ≤ subsamples_most
      unfolding lawful
      sums = leb-true _ _ (left _ _ (right _ _ (right _ _ (right _ _ good))))

      ivs : get_or x count_at 0 * (t.iv_size / 8) ≤ 128
      ivs = let w : t.iv_size / 8 ≤ 2 = omega arith in omega (arith, mul-le-mul few w)

      low : Roomy (slice 0 before_bmdt lines)
      unfolding lines wanted
      low =
          let n = few in
          let k = ivs in (
            omega arith,
            (omega arith, (omega arith, (omega arith, (omega arith, (omega arith, (omega arith, (omega arith, (omega (arith, k), tt)))))))),
          )

      middle : Roomy (slice before_bmdt before_count lines)
      unfolding lines wanted
      middle = let n = few in let k = sums in (omega (arith, n), (omega arith, (omega (arith, k), tt)))

      high : Roomy (slice before_count chunk_lines lines)
      unfolding lines wanted
      high = let k = sums in (omega (arith, k), tt)

      pub fields-most : Most F fields_most (field_items F t delta follow r x)
      unfolding field_items bmdt_if bmdt_items count_items lines
      fields-most =
          before-most low_most after_low _ _ (lines-most (slice 0 before_bmdt lines) low)
          (before-most pair_most (middle_most + after_middle) _ _ (if-most pair_most _ _ (number-most 10 _))
          (before-most middle_most after_middle _ _ (lines-most (slice before_bmdt before_count lines) middle)
          (before-most pair_most line_most _ _ (if-most pair_most _ _ (number-most 14 _)) (lines-most (slice before_count chunk_lines lines) high))))

    pub deletions-most : Most F gone_most (deletion_items F t delta follow r x)
    unfolding deletion_items lines
    deletions-most = if-most gone_most _ _ (run-most Plain line_count 27 0 [] (gone_of t delta follow r x lines) (gone-length lines))

  -- ---- the `prft`

  module _ (delta : Bool) (s : List ℕ) (p : Prft) where
    pub times-most : Most F (pair_most + pair_most) (times_items F delta s p)
    unfolding times_items
    times-most = before-most pair_most pair_most _ _ (if-most pair_most _ _ (number-most 18 _)) (if-most pair_most _ _ (number-most 20 _))

    pub version-most : Most F pair_most (version_items F delta s p)
    unfolding version_items unless_items
    version-most = if-most pair_most _ _ (number-most 22 _)

    pub flags-most : Most F pair_most (flags_items F delta s p)
    unfolding flags_items unless_items
    flags-most = if-most pair_most _ _ (number-most 24 _)

  -- ---- brands and events

  pub brands-most : (n : ℕ) (delta : Bool) (names : List ℕ) → length names ≤ n → Most F (pair_most + n) (brand_items delta names)
  unfolding brand_items
  brands-most n delta names h = if-most (pair_most + n) _ _ (bytes_most n 23 names h)

  text-bytes : (bs : List ℕ) → length (enc_text F bs) ≤ text_bytes F (length bs)
  unfolding enc_text text_bytes
  text-bytes bs = omega (arith, length-append (encode F (length bs)) bs, encode-size F (length bs))

  event-bytes : (e : Event) → length (enc_event F e) ≤ record_bytes F e
  unfolding enc_event record_bytes
  event-bytes e =
      let g : List ℕ = enc_text F e.message in
      let f : List ℕ = encode F e.id ++ g in
      let d : List ℕ = encode F e.duration ++ f in
      let c : List ℕ = encode F e.time ++ d in
      let b : List ℕ = encode F e.timescale ++ c in
      let a : List ℕ = enc_text F e.value ++ b in
      omega (
        arith,
        length-append (enc_text F e.scheme) a,
        length-append (enc_text F e.value) b,
        length-append (encode F e.timescale) c,
        length-append (encode F e.time) d,
        length-append (encode F e.duration) f,
        length-append (encode F e.id) g,
        text-bytes e.scheme,
        text-bytes e.value,
        encode-size F e.timescale,
        encode-size F e.time,
        encode-size F e.duration,
        encode-size F e.id,
        text-bytes e.message,
      )

  list-bytes : (es : List Event) → length (enc_events F es) ≤ list_bytes F es
  unfolding enc_events list_bytes
  list-bytes [] = zero-le
  list-bytes (e ∷ es) = omega (arith, length-append (enc_event F e) (enc_events F es), event-bytes e, list-bytes es)

  pub events-most : (n : ℕ) (es : List Event) → list_bytes F es ≤ n → Most F (pair_most + n) (event_items F es)
  unfolding event_items enc_block
  events-most n [] h = zero-le
  events-most n (e ∷ es) h = go (times_fit F (e ∷ es))
    where
      go : (b : Bool) → Most F (pair_most + n) (cond b (Some (run 25 (enc_events F (e ∷ es)) ∷ [])) None)
      go true = bytes_most n 25 (enc_events F (e ∷ es)) (omega (arith, list-bytes (e ∷ es)))
      go false = zero-le
