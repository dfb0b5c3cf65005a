-- The set that an object tells of: the chunk's own, but where IVs are left out, zeros in their room. Assumes nothing.
use Prim.Native.Nat.{ℕ, ◌+◌, ◌*◌, ◌/◌, ◌≤◌, ◌<◌}
use native.Mathlib.Omega.{arith}
use mathlib.Core.Path.{◌≡◌, refl, sym, ◌∙◌, ap}
use mathlib.Core.Logic.{◌⊎◌, inl, inr}
use mathlib.Core.Bool.{Bool, true, false, false≢true, cond, not, ◌&&◌, ◌||◌, and-false}
use mathlib.Core.List.{List}
use borrow.Author.Tests.{eqb-true, leb-true}
use borrow.Table.Steps.{cases}
use lib.Dec.{eqb, leb}
use lib.ListN.{length, get_or, replicate, length-replicate}
use lib.Seq.{sets, slice}
use Rattle.std.specs.Prelude.{Some, None}
use Rattle.laws.specs.Tests.{◌and◌, sum, same}
use Rattle.laws.proofs.TestLaws.{either, zeros-le, all_zero-zeros}
use Rattle.track.specs.declared.Track.{Track}
use Rattle.field_table.specs.declared.lines.Want.{Want}
use Rattle.field_table.specs.declared.lines.Want.TheVariants.{Ivs, One, LessOne, Count, Sum}
use Rattle.field_table.specs.declared.lines.Line.{Line}
use Rattle.field_table.specs.Lines.{lines, spare, line_for, every, wanted, ivs_at, subsamples_at, bmdt_at, set_len, line_count, u64, Small}
use Rattle.field_table.proofs.LineLaws.{line-count, every-at}
use Rattle.field_set.specs.Lawful.{has, count_in, values_of, measure_of, lawful}
use Rattle.field_set.proofs.LawfulLaws.{lawful-facts}
use Rattle.field_rules.specs.Fields.{is_ivs, stood}
use Rattle.field_rules.proofs.RoomLaws.{wanted_room}
use Rattle.field_rules.proofs.SetWords.{field_in}
use Rattle.counters.specs.Follow.{iv_words}
use Rattle.counters.proofs.OutsideLaws.{sets-there}
use Rattle.counters.proofs.BesideLaws.{beside-word, beside-slice, beside-count, beside-counts, beside-length}
use Rattle.counters.proofs.IvsLaws.{ivs-in}
use Rattle.counters.proofs.RoomLaws.{beside-lawful}
use Rattle.locmaf_write_block.specs.Changes.{stands, news, olds}
use Rattle.reread.proofs.FieldRead.{told_field}

-- the set y is what is told of the set x: lawful, of the same lengths, with each field as it is told
pub record Told (t : Track) (delta follow : Bool) (r x y : List ℕ) : Type 0 where
  pub long : length y ≡ set_len
  pub good : lawful t y ≡ true
  pub start : get_or y bmdt_at 0 ≡ get_or x bmdt_at 0
  pub same : measure_of t y ≡ measure_of t x
  pub field : (i : ℕ) → i < line_count → field_in t y (get_or lines i spare) ≡ told_field t delta follow r x (get_or lines i spare)

-- ---- no IVs are left out

-- every field is told as it is
told-as : (t : Track) (delta follow : Bool) (r x : List ℕ) (l : Line) → follow ≡ false → field_in t x l ≡ told_field t delta follow r x l
told-as t delta follow r x l e = rw (e, no (stands t delta r x l) (is_ivs l.want) (stood delta r l) _)
  where
    no : (a v o s : Bool) → (a && (v && (o && cond v false s))) ≡ false
    no true true true s = refl
    no true true false s = refl
    no true false o s = refl
    no false v o s = refl

pub told-all : (t : Track) (delta follow : Bool) (r x : List ℕ) → length x ≡ set_len → lawful t x ≡ true → follow ≡ false → Told t delta follow r x x
told-all t delta follow r x long good e =
    record { long = long; good = good; start = refl; same = refl; field = λ i lt. told-as t delta follow r x (get_or lines i spare) e }

-- ---- they are

-- the field of IVs stands at their place, and every other has its region outside of their room
placed : Line → Bool
placed l = cond (is_ivs l.want) (eqb l.place ivs_at) (leb (l.place + 1 + l.room) ivs_at || leb subsamples_at l.place)

-- computed over the table
all_placed : every placed lines ≡ true
unfolding every placed lines ◌and◌
all_placed = refl

-- a length of IVs
is-ivs : (w : Want) → is_ivs w ≡ true → w ≡ Ivs
is-ivs Ivs e = refl
is-ivs One e = absurd (false≢true e)
is-ivs LessOne e = absurd (false≢true e)
is-ivs Count e = absurd (false≢true e)
is-ivs Sum e = absurd (false≢true e)

-- where IVs stand
pub has-nine : (w : List ℕ) → has 9 w ≡ not (eqb (get_or w ivs_at 0) 0)
unfolding has lines line_for
has-nine w = refl

module _ (t : Track) (r x : List ℕ) (long : length x ≡ set_len) (good : lawful t x ≡ true) (iv : t.iv_size ≤ 16) (old : has 9 r ≡ true) (new : has 9 x ≡ true) where
  -- so many words
  abbrev much : ℕ
  much = count_in x * iv_words t

  abbrev vs : List ℕ
  vs = replicate much 0

  abbrev pub y : List ℕ
  y = sets x (ivs_at + 1) vs

  many : length vs ≡ much
  many = length-replicate much 0

  room : ivs_at + 1 + length vs ≤ subsamples_at
  room = omega (arith, many, (ivs-in t x good new).room)

  same_count : count_in y ≡ count_in x
  same_count = beside-count x vs room

  same-counts : values_of 11 (count_in y) y ≡ values_of 11 (count_in x) x
  same-counts = ap (λ (n : ℕ). values_of 11 n y) same_count ∙ beside-counts x vs room (count_in x)

  same-measure : measure_of t y ≡ measure_of t x
  same-measure = λ j. record { count = same_count j; ivs = t.iv_size / 8; sum = sum (same-counts j) }

  -- the lengths of the fields keep their room
  small : Small (measure_of t x)
  small = let f = lawful-facts t x good in record { count = f.count; ivs = omega arith; sum = omega (arith, f.subsamples) }

  -- a field by its region: the room of the IVs has zeros, and every other is as it was
  module _ (l : Line) (fits : wanted l.want (measure_of t x) ≤ l.room) where
    others : is_ivs l.want ≡ false → (l.place + 1 + l.room ≤ ivs_at) ⊎ (subsamples_at ≤ l.place) → field_in t y l ≡ told_field t true true r x l
    others v a =
        rw (v, and-false (stands t true r x l), same-measure, beside-word x vs room l.place (mark a), beside-slice x vs room (l.place + 1) (l.place + 1 + wanted l.want (measure_of t x)) (values a))
      where
        mark : (l.place + 1 + l.room ≤ ivs_at) ⊎ (subsamples_at ≤ l.place) → (l.place ≤ ivs_at) ⊎ (subsamples_at ≤ l.place)
        mark (inl h) = inl (omega arith)
        mark (inr h) = inr h

        values : (l.place + 1 + l.room ≤ ivs_at) ⊎ (subsamples_at ≤ l.place)
            → (l.place + 1 + wanted l.want (measure_of t x) ≤ ivs_at + 1) ⊎ (subsamples_at ≤ l.place + 1)
        values (inl h) = inl (omega (arith, fits))
        values (inr h) = inr (omega arith)

    -- as many words as IVs have
    ivs-much : l.want ≡ Ivs → wanted l.want (measure_of t x) ≡ much
    unfolding wanted
    ivs-much w = ap (λ (q : Want). wanted q (measure_of t x)) w

    ivs-told : is_ivs l.want ≡ true → l.place ≡ ivs_at → field_in t y l ≡ told_field t true true r x l
    ivs-told v p =
        let w : l.want ≡ Ivs = is-ivs l.want v in
        let n : wanted l.want (measure_of t x) ≡ much = ivs-much w in
        let u : wanted l.want (measure_of t y) ≡ much = ap (wanted l.want) same-measure ∙ n in
        let m : get_or y l.place 0 ≡ get_or x l.place 0 = beside-word x vs room l.place (inl (omega arith)) in
        let on : not (eqb (get_or x l.place 0) 0) ≡ true = ap (λ (q : ℕ). not (eqb (get_or x q 0) 0)) p ∙ sym (has-nine x) ∙ new in
        let was : not (eqb (get_or r l.place 0) 0) ≡ true = ap (λ (q : ℕ). not (eqb (get_or r q 0) 0)) p ∙ sym (has-nine r) ∙ old in
        let s : slice (l.place + 1) (l.place + 1 + wanted l.want (measure_of t y)) y ≡ vs =
        (λ z. slice (p z + 1) (p z + 1 + u z) y) ∙ ap (λ (q : ℕ). slice (ivs_at + 1) (ivs_at + 1 + q) y) (sym many) ∙ sets-there x vs (ivs_at + 1) (omega (arith, room, long)) in
        (λ z. cond (not (eqb (m z) 0)) (Some (s z)) None)
        ∙ ap (λ (b : Bool). cond b (Some vs) None) on
        ∙ sym (λ z. cond (on z && (v z && (was z && cond (v z) true (same (olds t true r x l) (news t true r x l))))) (Some (replicate (n z) 0)) (field_in t x l))

    told : placed l ≡ true → field_in t y l ≡ told_field t true true r x l
    unfolding placed
    told e =
        cases (is_ivs l.want) (λ v. ivs-told v (eqb-true _ _ (rw v at e)))
        (λ v.
        others v
        (either _ (leb (l.place + 1 + l.room) ivs_at) (leb subsamples_at l.place) (λ q. inl (leb-true _ _ q)) (λ q. inr (leb-true _ _ q)) (rw v at e)))

  pub told-left : Told t true true r x y
  told-left =
      record {
        long = beside-length x vs room ∙ long;
        good = beside-lawful t x vs long good new many (zeros-le u64 vs (all_zero-zeros much));
        start = beside-word x vs room 0 (inl (omega arith));
        same = same-measure;
        field =
            λ i lt.
            told (get_or lines i spare) (wanted_room i lt (measure_of t x) small (lawful-facts t x good).subsamples)
            (every-at placed lines i spare all_placed (omega (arith, line-count)));
      }
