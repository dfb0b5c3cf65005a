-- What the fields are read from: what a call that takes a field is lent, and what is said of the line. Assumes nothing.
use Prim.Native.Nat.{ℕ, ◌≤◌, ◌<◌}
use native.Mathlib.Nat.{le_refl}
use native.Mathlib.Omega.{arith}
use mathlib.Core.Path.{◌≡◌, refl, sym, ◌∙◌, ap}
use mathlib.Core.Bool.{Bool, true, false, false≢true}
use mathlib.Core.List.{List, []}
use Rattle.std.specs.Prelude.{Option, Some, None}
use borrow.Author.Tests.{eqb-false, eq-eqb, ne_eqb}
use lib.ListN.{length, get_or}
use Rattle.wire.specs.declared.form.Row.{Row}
use Rattle.wire.specs.declared.zigzag.Coding.{Coding}
use Rattle.track.specs.declared.Track.{Track}
use Rattle.field_table.specs.declared.lines.Line.{Line}
use Rattle.field_table.specs.declared.lines.Measure.{Measure}
use Rattle.field_table.specs.Lines.{lines, spare, set_len, wanted, Small, line_count}
use Rattle.field_set.specs.Lawful.{region_ok, measure_of, lawful}
use Rattle.field_set.proofs.LawfulLaws.{lawful-facts, region-at}
use Rattle.locmaf_read_said.specs.declared.said.Word.{Word}
use Rattle.locmaf_read_said.specs.declared.said.Word.TheVariants.{Omitted, Deleted, Sent}
use Rattle.locmaf_read_said.specs.Said.{Saying, omitted, deleted, sent, saying, saying_of, word_in, says_in, Marked, AllMarked}
use Rattle.laws.specs.Tests.{among}
use Rattle.field_rules.specs.Fields.{numbers, coding_for, stood}
use Rattle.locmaf_read_field.specs.declared.cells.Cell.{Cell}
use Rattle.locmaf_read_field.specs.Cells.{Came, right, cell_of, said, TakenAs, Clear, TakenIf, Spans, Takeable}
use Rattle.locmaf_read_field.proofs.RoomLaws.{takeable}
use Rattle.locmaf_read_field.proofs.TakeLaws.{take_none, take-deleted}
use Rattle.locmaf_read_field.proofs.MarkedLaws.{kinded, said-is, spans, marked-omitted, marked-deleted, marked-sent}
use Rattle.locmaf_read_said.specs.declared.against.Against.{Against}
use Rattle.field_rules.specs.Words.{was_of}
use Rattle.field_rules.proofs.RoomLaws.{wanted_room}
use Rattle.locmaf_read_index.specs.Places.{stands_at}
use Rattle.locmaf_read_said.proofs.TellingLaws.{brand-bytes}
use Rattle.locmaf_read_set.specs.Read.{came_of, stands_by, stands, word_stands, stays_in, brands_in, brands_fit, Readable, Measured, ClearFrom}
use Rattle.locmaf_read_set.proofs.ClearLaws.{clear-line}

-- the lengths of a lawful reference are small
pub was-small : (t : Track) (delta : Bool) (r : List ℕ) → t.iv_size ≤ 16 → (delta ≡ true → lawful t r ≡ true) → Small (was_of t delta r)
was-small t true r iv h =
    let f = lawful-facts t r (h refl) in
    record { count = f.count; ivs = omega arith; sum = omega (arith, f.subsamples) }
was-small t false r iv h = record { count = omega arith; ivs = omega arith; sum = omega arith }

-- and its regions are lawful by them
pub was-lawful : (t : Track) (delta : Bool) (r : List ℕ) (i : ℕ) → i < line_count → (delta ≡ true → lawful t r ≡ true) → delta ≡ true
    → region_ok (was_of t delta r) (get_or lines i spare) r ≡ true
was-lawful t true r i lt h e = region-at (measure_of t r) r i (lawful-facts t r (h refl)).regions lt
was-lawful t false r i lt h e = absurd (false≢true e)

-- a word says that its line stands where what is said of it does
word-stands : (F : List Row) (o : List ℕ) (end : ℕ) (index gone : List ℕ) (id : ℕ) (b : Bool) (s : Saying) → Marked F o end index gone [] [] id s
    → word_stands (word_in index gone id) b ≡ stands_by s b
word-stands F o end index gone id b omitted h = rw (marked-omitted F o end index gone [] [] id h)
word-stands F o end index gone id b deleted h = rw (marked-deleted F o end index gone [] [] id h)
word-stands F o end index gone id b (sent zs) h = rw (marked-sent F o end index gone [] [] id zs h)

-- a field that doesn't stand is right, and leaves no word
unstored : (F : List Row) (o : List ℕ) (t : Track) (coding : Coding) (held : Bool) (r : List ℕ) (was : Measure) (l : Line) (m : Measure) (x : List ℕ)
    (word : Word) → word_stands word (stood held r l) ≡ false → TakenAs (cell_of t coding held r was l m (said F o l word)) l.place x right x
unstored F o t coding held r was l m x Omitted e = take_none F o t coding held r was l m Omitted x right refl e refl
unstored F o t coding held r was l m x Deleted e = take-deleted F o t coding held r was l m Deleted x right refl refl
unstored F o t coding held r was l m x (Sent s) e = absurd (false≢true (sym e))

-- brands are some of four bytes each where the words say it
pub brands-marked : (F : List Row) (o index gone : List ℕ) → AllMarked F o index gone (says_in F o index) → brands_in index ≡ brands_fit (says_in F o index 23)
unfolding brands_fit saying_of
brands-marked F o index gone h = go (says_in F o index 23) (among 23 (numbers (says_in F o index 27))) (h.each 23 (omega arith) (λ z. omega arith))
  where
    unmarked : get_or index (stands_at 23) 0 ≡ 0 → brands_in index ≡ true
    unmarked z = rw (eq-eqb (get_or index (stands_at 23) 0) 0 z)

    go : (m : Option (List ℕ)) (b : Bool) → Marked F o (length o) index gone [] [] 23 (saying m b) → brands_in index ≡ brands_fit m
    go None true t = unmarked t.0
    go None false t = unmarked t.0
    go (Some bs) b t = rw (ne_eqb (get_or index (stands_at 23) 0) 0 (λ z. omega (arith, t.first)), (brand-bytes F o index bs t).2)

module _ (F : List Row) (o index gone : List ℕ) (t : Track) (a : Against) (r : List ℕ) (h : Readable F o index gone t a r) where
  was-is : a.was ≡ was_of t a.held r
  was-is = ap (λ (x : Against). x.was) h.against

  coding-is : a.coding ≡ coding_for a.held
  coding-is = ap (λ (x : Against). x.coding) h.against

  module _ (i : ℕ) (lt : i < line_count) where
    mark_of : Marked F o (length o) index gone [] [] (get_or lines i spare).id (saying_of (says_in F o index) (get_or lines i spare).id)
    mark_of = let k = kinded i lt in h.marked.each (get_or lines i spare).id k.small (eqb-false _ _ k.plain)

    -- a line's mark is that of what is said of it
    pub stands-is : stays_in index gone a.held r (get_or lines i spare) ≡ stands t a.held r (says_in F o index) (get_or lines i spare)
    unfolding stays_in stands
    stands-is = word-stands F o (length o) index gone (get_or lines i spare).id (stood a.held r (get_or lines i spare))
        (saying_of (says_in F o index) (get_or lines i spare).id) mark_of

    module _ (l : Line) (el : l ≡ get_or lines i spare) where
      -- what a call of `take` is lent
      pub lent-line : (x : List ℕ) (m : Measure) → Measured m → length x ≡ set_len → Takeable l a.held r x a.was m
      lent-line x m mm ex =
          rw (el, was-is)
          (takeable i lt a.held r x (was_of t a.held r) m h.words ex (was-small t a.held r h.iv h.lawful) mm.small mm.few
          (was-lawful t a.held r i lt h.lawful))

      module _ (word : Word) (ew : word ≡ word_in index gone l.id) where
        pub lent-word : Spans F o l word
        lent-word =
            rw (ew, el)
            (spans F o (length o) index gone [] [] (get_or lines i spare) (kinded i lt) (le_refl (length o))
            (saying_of (says_in F o index) (get_or lines i spare).id) mark_of)

        -- and the field that it takes
        taken_is : (m : Measure)
            → cell_of t a.coding a.held r a.was l m (said F o l word) ≡ came_of t a.held r (says_in F o index) m (get_or lines i spare)
        unfolding came_of
        taken_is m =
            rw (
              ew,
              el,
              coding-is,
              was-is,
              said-is F o (length o) index gone [] [] (get_or lines i spare) (kinded i lt) (saying_of (says_in F o index) (get_or lines i spare).id) mark_of,
            )

        -- so it takes that of the line
        pub line_taken : (m : Measure) → Measured m → (x : List ℕ) (c : Cell) (y : List ℕ)
            → TakenIf (Clear l (wanted l.want m) x) (cell_of t a.coding a.held r a.was l m (said F o l word)) l.place x c y
            → TakenIf (ClearFrom i x) (came_of t a.held r (says_in F o index) m (get_or lines i spare)) (get_or lines i spare).place x c y
        line_taken m mm x c y k =
            record {
              answered = k.answered ∙ ap (λ (z : Came). z.cell) (taken_is m);
              taken = λ z. rw (taken_is m, ap (λ (z : Line). z.place) el) at (k.taken (rw el (clear-line i lt _ (wanted_room i lt m mm.small mm.few) x z)));
              long = k.long;
            }

    -- a line whose field doesn't stand has nothing to take
    pub skipped : stays_in index gone a.held r (get_or lines i spare) ≡ false → (m : Measure) (x : List ℕ)
        → TakenAs (came_of t a.held r (says_in F o index) m (get_or lines i spare)) (get_or lines i spare).place x right x
    unfolding stays_in
    skipped e m x =
        rw (← taken_is (get_or lines i spare) refl (word_in index gone (get_or lines i spare).id) refl m)
        (unstored F o t a.coding a.held r a.was (get_or lines i spare) m x (word_in index gone (get_or lines i spare).id) e)
