-- The field of a line by what is said of it: what its lengths go by, which tests it can fail, how long it is and within what bound its values
-- are. Assumes nothing.
use Prim.Native.Nat.{ℕ, zero, suc, ◌+◌, ◌-◌, ◌*◌, ◌^◌, ◌≤◌, ◌<◌}
use native.Mathlib.Nat.{add-sub_cancel_left}
use native.Mathlib.Omega.{arith}
use mathlib.Core.Path.{◌≡◌, refl, sym, ◌∙◌, ap}
use mathlib.Core.Logic.{◌⊎◌, inl, inr}
use mathlib.Core.Bool.{Bool, true, false, false≢true, cond, not, ◌&&◌, ◌||◌}
use mathlib.Core.List.{List, [], ◌∷◌}
use borrow.Author.Tests.{eqb-true, eqb-false, le-leb, not-true}
use lib.Dec.{eqb}
use lib.ListN.{length, get_or, take, drop, replicate, length-take, length-drop, length-replicate}
use lib.Seq.{length-slice, get_or-drop}
use Rattle.laws.specs.Tests.{◌and◌, all_le, among}
use Rattle.laws.specs.Bytes.{de, Bytes}
use Rattle.laws.proofs.TestLaws.{both, and_left, and_right, one-le, zeros-le, all_zero-zeros}
use Rattle.laws.proofs.BytesLaws.{bytes_take, bytes_drop, de-lt, bytes-are}
use Rattle.wire.specs.declared.zigzag.Coding.{Coding}
use Rattle.runs.specs.declared.Misread.{Misread}
use Rattle.runs.specs.declared.Misread.TheVariants.{Misfit, Outside}
use Rattle.std.specs.Prelude.{Option, Some, None, Result, Ok, Err}
use Rattle.wire.specs.Zigzag.{reached}
use Rattle.wire.proofs.ZigzagLaws.{reached-most}
use Rattle.runs.specs.Run.{Filled, first, rest, stop, more}
use Rattle.laws.specs.Options.{is_some, on_option}
use Rattle.locmaf_read_block.specs.Numbers.{steps_f}
use Rattle.track.specs.declared.Track.{Track}
use Rattle.field_table.specs.declared.lines.Want.{Want}
use Rattle.field_table.specs.declared.lines.Want.TheVariants.{One, LessOne, Count, Ivs, Sum}
use Rattle.field_table.specs.declared.lines.Line.{Line}
use Rattle.field_table.specs.declared.lines.Measure.{Measure}
use Rattle.field_table.specs.Lines.{every, lines, spare, set_len, wanted, absent_value, line_count, subsamples_line}
use Rattle.field_set.specs.Lawful.{in_use, lawful, measure_of}
use Rattle.field_table.proofs.LineLaws.{line-count, every-at, shaped}
use Rattle.field_set.proofs.RegionLaws.{used}
use Rattle.field_set.proofs.LawfulLaws.{Region, lawful-region}
use Rattle.locmaf_read_field.specs.declared.cells.Cell.{Cell}
use Rattle.locmaf_read_said.specs.Said.{Says, Saying, omitted, deleted, sent, unsent, saying, saying_of}
use Rattle.field_rules.specs.Fields.{numbers, Held, coding_for, coding_of, is_ivs, packed, stood, old_values}
use Rattle.locmaf_read_field.specs.Cells.{Came, well, misfit, beyond, filled_as, carried, sent_one, sent_list, cell_of}
use Rattle.field_rules.specs.Words.{measure, was_of}
use Rattle.locmaf_read_set.specs.Read.{came_of, stands_by, stands}

-- ---- what lengths go by

-- a field goes by the wanted length alone
cell-wanted : (t : Track) (coding : Coding) (held : Bool) (r : List ℕ) (was : Measure) (l : Line) (m m' : Measure)
    → wanted l.want m ≡ wanted l.want m' → (s : Saying) → cell_of t coding held r was l m s ≡ cell_of t coding held r was l m' s
unfolding cell_of
cell-wanted t coding held r was l m m' e omitted = rw e
cell-wanted t coding held r was l m m' e deleted = refl
cell-wanted t coding held r was l m m' e (sent zs) = rw e

-- all lengths but those of ids 13 and 15 go by the count
wanted-early : (w : Want) (t : Track) (n j k : ℕ) → (w ≡ Sum → ⊥) → wanted w (measure t n k) ≡ wanted w (measure t n j)
unfolding wanted
wanted-early One t n j k h = refl
wanted-early LessOne t n j k h = refl
wanted-early Count t n j k h = refl
wanted-early Ivs t n j k h = refl
wanted-early Sum t n j k h = absurd (h refl)

module _ (t : Track) (delta : Bool) (r : List ℕ) (says : Says) where
  -- so their fields don't go by the sum
  pub came-early : (n j k : ℕ) (l : Line) → (l.want ≡ Sum → ⊥)
      → came_of t delta r says (measure t n k) l ≡ came_of t delta r says (measure t n j) l
  unfolding came_of
  came-early n j k l h =
      cell-wanted t (coding_for delta) delta r (was_of t delta r) l (measure t n k) (measure t n j) (wanted-early l.want t n j k h)
      (saying_of says l.id)

-- ---- a value that was reached, and a list of them

-- a list that was stepped through to the end has as many values as numbers, all within the bound
steps-fit : (coding : Coding) (base bound : ℕ) (zs old : List ℕ) → (steps_f coding base bound old zs).answer ≡ Ok tt
    → (length (steps_f coding base bound old zs).values ≡ length zs) × (all_le bound (steps_f coding base bound old zs).values ≡ true)
unfolding steps_f all_le
steps-fit coding base bound [] old d = (refl, refl)
steps-fit coding base bound (z ∷ zs) old d =
    go (reached coding (first base old) bound z) refl (steps_f coding base bound (rest old) zs) (steps-fit coding base bound zs (rest old)) d
  where
    go : (x : Option ℕ) → reached coding (first base old) bound z ≡ x → (f : Filled)
        → (f.answer ≡ (Ok tt) → (length f.values ≡ length zs) × (all_le bound f.values ≡ true))
        → (on_option x (λ v. more v f) (stop (Err Outside))).answer ≡ Ok tt
        → (length (on_option x (λ v. more v f) (stop (Err Outside))).values ≡ suc (length zs))
        × (all_le bound (on_option x (λ v. more v f) (stop (Err Outside))).values ≡ true)
    go (Some v) q f ih e = let h = ih e in (ap suc h.0, both _ _ (le-leb v bound (reached-most coding (first base old) bound z v q)) h.1)
    go None q f ih e = let no : ◌≡◌ {A = ℕ} 0 1 = cc in absurd (omega arith)

-- ---- the ways in which a field comes out

module _ (t : Track) (coding : Coding) (held : Bool) (r : List ℕ) (was : Measure) (l : Line) (m : Measure) where
  -- what is shown of each of them
  record Ways (P : Saying → Came → Type 0) : Type 0 where
    absent : stood held r l ≡ false → P omitted (well None)
    left : stood held r l ≡ true → is_ivs l.want ≡ true → P omitted (well (Some (replicate (wanted l.want m) 0)))
    kept : stood held r l ≡ true → is_ivs l.want ≡ false → wanted l.want was ≡ wanted l.want m
        → P omitted (well (Some (old_values held r was l)))
    changed : stood held r l ≡ true → (wanted l.want was ≡ wanted l.want m → ⊥) → P omitted (misfit l.want)
    struck : P deleted (well None)
    one : (zs : List ℕ) (v : ℕ) → l.room ≡ 1 → v ≤ l.bound → P (sent zs) (well (Some (v ∷ [])))
    past : (zs : List ℕ) → P (sent zs) beyond
    raw : (zs : List ℕ) → is_ivs l.want ≡ true → length zs ≡ 8 * wanted l.want m
        → P (sent zs) (well (Some (packed (wanted l.want m) zs)))
    list : (zs vs : List ℕ) → length vs ≡ wanted l.want m → all_le l.bound vs ≡ true → P (sent zs) (well (Some vs))
    long : (zs : List ℕ) → (l.room ≡ 1 → ⊥) → P (sent zs) (misfit l.want)

  module _ (P : Saying → Came → Type 0) (h : Ways P) where
    -- a field that is carried on, a single value, a list
    carried-way : stood held r l ≡ true → P omitted (carried l.want (wanted l.want was) (wanted l.want m) (old_values held r was l))
    unfolding carried
    carried-way e = go (is_ivs l.want) refl (eqb (wanted l.want was) (wanted l.want m)) refl
      where
        go : (a : Bool) → is_ivs l.want ≡ a → (b : Bool) → eqb (wanted l.want was) (wanted l.want m) ≡ b
            → P omitted (cond a (well (Some (replicate (wanted l.want m) 0))) (cond b (well (Some (old_values held r was l))) (misfit l.want)))
        go true p b q = h.left e p
        go false p true q = h.kept e p (eqb-true _ _ q)
        go false p false q = h.changed e (eqb-false _ _ q)

    one_way : (coded : Coding) (old : ℕ) (zs : List ℕ) → l.room ≡ 1 → P (sent zs) (sent_one coded old l.bound (first 0 zs))
    unfolding sent_one
    one_way coded old zs e = go (reached coded old l.bound (first 0 zs)) refl
      where
        go : (x : Option ℕ) → reached coded old l.bound (first 0 zs) ≡ x → P (sent zs) (on_option x (λ v. well (Some (v ∷ []))) beyond)
        go (Some v) q = h.one zs v e (reached-most coded old l.bound (first 0 zs) v q)
        go None q = h.past zs

    list-way : (coded : Coding) (base : ℕ) (olds zs : List ℕ) → (l.room ≡ 1 → ⊥)
        → P (sent zs) (sent_list coded base l.bound l.want (wanted l.want m) olds zs)
    unfolding sent_list
    list-way coded base olds zs n = go (is_ivs l.want) refl (eqb (length zs) (8 * wanted l.want m)) refl (eqb (length zs) (wanted l.want m)) refl
      where
        f : Filled
        f = steps_f coded base l.bound olds zs

        filled : length zs ≡ wanted l.want m → (a : Result (Unit {0}) Misread) → f.answer ≡ a → P (sent zs) (filled_as a f.values)
        filled e (Ok tt) q = let s = steps-fit coded base l.bound zs olds q in h.list zs f.values (s.0 ∙ e) s.1
        filled e (Err Misfit) q = h.past zs
        filled e (Err Outside) q = h.past zs

        go : (a : Bool) → is_ivs l.want ≡ a → (b : Bool) → eqb (length zs) (8 * wanted l.want m) ≡ b
            → (c : Bool) → eqb (length zs) (wanted l.want m) ≡ c
            → P (sent zs)
            (cond a (cond b (well (Some (packed (wanted l.want m) zs))) (misfit l.want)) (cond c (filled_as f.answer f.values) (misfit l.want)))
        go true p true q c d = h.raw zs p (eqb-true _ _ q)
        go true p false q c d = h.long zs n
        go false p b q true d = filled (eqb-true _ _ d) f.answer refl
        go false p b q false d = h.long zs n

    -- so it is shown of the field
    cell-ways : (s : Saying) → P s (cell_of t coding held r was l m s)
    unfolding cell_of
    cell-ways omitted = go (stood held r l) refl
      where
        go : (b : Bool) → stood held r l ≡ b
            → P omitted (cond b (carried l.want (wanted l.want was) (wanted l.want m) (old_values held r was l)) (well None))
        go true e = carried-way e
        go false e = h.absent e
    cell-ways deleted = h.struck
    cell-ways (sent zs) = go (eqb l.room 1) refl
      where
        base : ℕ
        base = absent_value t l.absent

        coded : Coding
        coded = coding_of coding l.absent

        olds : List ℕ
        olds = old_values held r was l

        go : (b : Bool) → eqb l.room 1 ≡ b
            → P (sent zs)
            (cond b (sent_one coded (first base olds) l.bound (first 0 zs)) (sent_list coded base l.bound l.want (wanted l.want m) olds zs))
        go true e = one_way coded (first base olds) zs (eqb-true _ _ e)
        go false e = list-way coded base olds zs (eqb-false _ _ e)

-- ---- tests that a field can't fail

-- of a list that goes by the sum, or a single value
abbrev Late : Line → Type 0
Late l = (l.want ≡ Sum) ⊎ ((l.room ≡ 1) × (l.want ≡ One))

-- a length that goes by the sum is asked after it
misfit-late : (w : Want) → w ≡ Sum → (misfit w).cell.first ≡ true
misfit-late w e = rw e

-- a single value is always one
one_same : (w : Want) (m m' : Measure) → w ≡ One → wanted w m ≡ wanted w m'
unfolding wanted
one_same w m m' e = rw e

module _ (t : Track) (coding : Coding) (held : Bool) (r : List ℕ) (was : Measure) (l : Line) (m : Measure) where
  -- so neither has a length that is asked before the sum
  late-cell : Late l → (s : Saying) → (cell_of t coding held r was l m s).cell.first ≡ true
  late-cell e =
      cell-ways t coding held r was l m (λ s x. x.cell.first ≡ true)
      (record {
        absent = λ _. refl;
        left = λ _ _. refl;
        kept = λ _ _ _. refl;
        changed = λ _ n. changed e n;
        struck = refl;
        one = λ _ _ _ _. refl;
        past = λ _. refl;
        raw = λ _ _ _. refl;
        list = λ _ _ _ _. refl;
        long = λ _ n. long e n;
      })
    where
      changed : Late l → (wanted l.want was ≡ wanted l.want m → ⊥) → (misfit l.want).cell.first ≡ true
      changed (inl q) n = misfit-late l.want q
      changed (inr q) n = absurd (n (one_same l.want was m q.1))

      long : Late l → (l.room ≡ 1 → ⊥) → (misfit l.want).cell.first ≡ true
      long (inl q) n = misfit-late l.want q
      long (inr q) n = absurd (n q.0)

  -- a list that goes by the count has no length that is asked after it
  count-second : l.want ≡ Count → (s : Saying) → (cell_of t coding held r was l m s).cell.second ≡ true
  count-second e =
      cell-ways t coding held r was l m (λ s x. x.cell.second ≡ true)
      (record {
        absent = λ _. refl;
        left = λ _ _. refl;
        kept = λ _ _ _. refl;
        changed = λ _ _. rw e;
        struck = refl;
        one = λ _ _ _ _. refl;
        past = λ _. refl;
        raw = λ _ _ _. refl;
        list = λ _ _ _ _. refl;
        long = λ _ _. rw e;
      })

-- which they are, by a test
is_sum : Want → Bool
is_sum One = false
is_sum LessOne = false
is_sum Count = false
is_sum Ivs = false
is_sum Sum = true

sum_is : (w : Want) → is_sum w ≡ true → w ≡ Sum
unfolding is_sum
sum_is One e = absurd (false≢true e)
sum_is LessOne e = absurd (false≢true e)
sum_is Count e = absurd (false≢true e)
sum_is Ivs e = absurd (false≢true e)
sum_is Sum e = refl

late : Line → Bool
late l = is_sum l.want || eqb l.room 1

-- computed over the last four lines of the table, ids 12, 13, 15 and 16
all-late : every late (drop (subsamples_line + 1) lines) ≡ true
unfolding every late is_sum lines ◌and◌
all-late = refl

late-at : (i : ℕ) → subsamples_line + 1 ≤ i → i < line_count → Late (get_or lines i spare)
unfolding late
late-at i a b = go (is_sum (get_or lines i spare).want) refl test
  where
    test : late (get_or lines i spare) ≡ true
    test =
        let n : subsamples_line + 1 + (i - (subsamples_line + 1)) ≡ i = omega arith in
        let k : length (drop (subsamples_line + 1) lines) ≡ line_count - (subsamples_line + 1) = length-drop (subsamples_line + 1) lines ∙ rw line-count in
        ap late (sym (get_or-drop (subsamples_line + 1) lines (i - (subsamples_line + 1)) spare ∙ ap (λ (x : ℕ). get_or lines x spare) n))
        ∙ every-at late (drop (subsamples_line + 1) lines) (i - (subsamples_line + 1)) spare all-late (omega arith)

    go : (c : Bool) → is_sum (get_or lines i spare).want ≡ c → (c || eqb (get_or lines i spare).room 1) ≡ true → Late (get_or lines i spare)
    go true q e = inl (sum_is _ q)
    go false q e = let one : (get_or lines i spare).room ≡ 1 = eqb-true _ _ e in inr (one, (shaped i b).single one)

-- whose lengths go by the count
eleven-count : (get_or lines subsamples_line spare).want ≡ Count
unfolding lines
eleven-count = refl

module _ (t : Track) (delta : Bool) (r : List ℕ) (says : Says) (m : Measure) where
  -- the lengths of ids 12 to 16 are not asked before the sum
  pub late-first : (i : ℕ) → subsamples_line + 1 ≤ i → i < line_count → (came_of t delta r says m (get_or lines i spare)).cell.first ≡ true
  unfolding came_of
  late-first i a b = late-cell t (coding_for delta) delta r (was_of t delta r) (get_or lines i spare) m (late-at i a b) _

  -- that of id 11 is not asked after it
  pub second-eleven : (came_of t delta r says m (get_or lines subsamples_line spare)).cell.second ≡ true
  unfolding came_of
  second-eleven = count-second t (coding_for delta) delta r (was_of t delta r) (get_or lines subsamples_line spare) m eleven-count _

-- ---- how long a field is

-- a field that doesn't stand has no values
pub no_field : {A : Type 0} {vs : List ℕ} → ◌≡◌ {A = Held} None (Some vs) → A
no_field e = let no : ◌≡◌ {A = ℕ} 0 1 = cc in absurd (omega arith)

-- and one that stands has its own
pub same-field : {ws vs : List ℕ} → ◌≡◌ {A = Held} (Some ws) (Some vs) → ws ≡ vs
same-field e = cc

-- the words of eight bytes, a single value, and what the reference has
length-packed : (k : ℕ) (bs : List ℕ) → length (packed k bs) ≡ k
unfolding packed
length-packed zero bs = refl
length-packed (suc k) bs = ap suc (length-packed k (drop 8 bs))

one_wanted : (w : Want) (m : Measure) → w ≡ One → 1 ≡ wanted w m
unfolding wanted
one_wanted w m e = rw e

olds-length : (held : Bool) (r : List ℕ) (was : Measure) (l : Line) → stood held r l ≡ true → l.place + 1 + wanted l.want was ≤ length r
    → length (old_values held r was l) ≡ wanted l.want was
unfolding old_values
olds-length held r was l e h =
    rw e (length-slice (l.place + 1) (l.place + 1 + wanted l.want was) r h ∙ add-sub_cancel_left (l.place + 1) (wanted l.want was))

module _ (t : Track) (coding : Coding) (held : Bool) (r : List ℕ) (was : Measure) (l : Line) (m : Measure) (single : l.room ≡ 1 → l.want ≡ One)
    (there : stood held r l ≡ true → l.place + 1 + wanted l.want was ≤ length r) where
  -- the values of a field that stands are as many as are wanted
  pub cell-length : (s : Saying) (vs : List ℕ) → (cell_of t coding held r was l m s).field ≡ Some vs → length vs ≡ wanted l.want m
  cell-length =
      cell-ways t coding held r was l m (λ s x. (vs : List ℕ) → x.field ≡ Some vs → length vs ≡ wanted l.want m)
      (record {
        absent = λ _ _ d. no_field d;
        left = λ _ _ vs d. ap length (sym (same-field d)) ∙ length-replicate {A = ℕ} (wanted l.want m) 0;
        kept = λ e i q vs d. ap length (sym (same-field d)) ∙ olds-length held r was l e (there e) ∙ q;
        changed = λ _ _ _ d. no_field d;
        struck = λ _ d. no_field d;
        one = λ zs v n _ vs d. ap length (sym (same-field d)) ∙ one_wanted l.want m (single n);
        past = λ _ _ d. no_field d;
        raw = λ zs i n vs d. ap length (sym (same-field d)) ∙ length-packed (wanted l.want m) zs;
        list = λ zs ws n _ vs d. ap length (sym (same-field d)) ∙ n;
        long = λ _ _ _ d. no_field d;
      })

-- the mark of a field that stood, and what was in use of it
stood-used : (held : Bool) (r : List ℕ) (was : Measure) (l : Line) → stood held r l ≡ true
    → wanted l.want was ≡ in_use (get_or r l.place 0) (wanted l.want was)
stood-used held r was l e =
    used _ _ (eqb-false _ _ (not-true (eqb (get_or r l.place 0) 0) (and_right held (not (eqb (get_or r l.place 0) 0)) e)))

-- the reference's lengths are those of its words
was-is : (t : Track) (delta : Bool) (r : List ℕ) → delta ≡ true → was_of t delta r ≡ measure_of t r
was-is t delta r e = rw e

module _ (t : Track) (delta : Bool) (r : List ℕ) (words : length r ≡ set_len) (good : delta ≡ true → lawful t r ≡ true) (i : ℕ) (h : i < line_count) where
  -- the region of a field that stood
  stood-region : stood delta r (get_or lines i spare) ≡ true → Region (was_of t delta r) (get_or lines i spare) r
  stood-region e = let d : delta ≡ true = and_left delta _ e in rw (was-is t delta r d) (lawful-region t r i (good d) h)

  -- and its values lie in the reference
  stood-there : stood delta r (get_or lines i spare) ≡ true
      → (get_or lines i spare).place + 1 + wanted (get_or lines i spare).want (was_of t delta r) ≤ length r
  stood-there e = omega (arith, (stood-region e).room, stood-used delta r (was_of t delta r) (get_or lines i spare) e, (shaped i h).inside)

  -- of the lines of the table
  pub came-length : (says : Says) (m : Measure) (vs : List ℕ) → (came_of t delta r says m (get_or lines i spare)).field ≡ Some vs
      → length vs ≡ wanted (get_or lines i spare).want m
  unfolding came_of
  came-length says m vs e =
      cell-length t (coding_for delta) delta r (was_of t delta r) (get_or lines i spare) m (shaped i h).single stood-there
      (saying_of says (get_or lines i spare).id) vs e

-- ---- within what bound its values are

-- a word of eight bytes
word-le : (bs : List ℕ) → Bytes bs → length bs ≡ 8 → de bs ≤ 0xffff_ffff_ffff_ffff
word-le bs h e = let lt : de bs < 256 ^ 8 = rw e at (de-lt bs h) in omega arith

-- and a row of them
packed-le : (k : ℕ) (bs : List ℕ) → Bytes bs → length bs ≡ 8 * k → all_le 0xffff_ffff_ffff_ffff (packed k bs) ≡ true
unfolding packed all_le
packed-le zero bs h e = refl
packed-le (suc k) bs h e =
    let n : length (take 8 bs) ≡ 8 = omega (arith, length-take 8 bs) in
    let d : length (drop 8 bs) ≡ 8 * k = omega (arith, length-drop 8 bs) in
    both _ _ (le-leb (de (take 8 bs)) 0xffff_ffff_ffff_ffff (word-le (take 8 bs) (bytes_take 8 bs h) n)) (packed-le k (drop 8 bs) (bytes_drop 8 bs h) d)

-- what is said are bytes, where the field is of words of eight
abbrev Raw : Line → Saying → Type 0
Raw l s = (zs : List ℕ) → s ≡ sent zs → is_ivs l.want ≡ true → all_le 255 zs ≡ true

module _ (t : Track) (coding : Coding) (held : Bool) (r : List ℕ) (was : Measure) (l : Line) (m : Measure)
    (wide : is_ivs l.want ≡ true → l.bound ≡ 0xffff_ffff_ffff_ffff)
    (there : stood held r l ≡ true → all_le l.bound (old_values held r was l) ≡ true) where
  -- the values of a field that stands are within its bound
  cell-bound : (s : Saying) → Raw l s → (vs : List ℕ) → (cell_of t coding held r was l m s).field ≡ Some vs → all_le l.bound vs ≡ true
  cell-bound =
      cell-ways t coding held r was l m (λ s x. Raw l s → (vs : List ℕ) → x.field ≡ Some vs → all_le l.bound vs ≡ true)
      (record {
        absent = λ _ _ _ d. no_field d;
        left = λ _ _ _ vs d. held_by (same-field d) (zeros-le l.bound _ (all_zero-zeros (wanted l.want m)));
        kept = λ e i q _ vs d. held_by (same-field d) (there e);
        changed = λ _ _ _ _ d. no_field d;
        struck = λ _ _ d. no_field d;
        one = λ zs v n h _ vs d. held_by (same-field d) (one-le l.bound v h);
        past = λ _ _ _ d. no_field d;
        raw = λ zs i n b vs d. held_by (same-field d) (rw (wide i) (packed-le (wanted l.want m) zs (bytes-are zs (b zs refl i)) n));
        list = λ zs ws n h _ vs d. held_by (same-field d) h;
        long = λ _ _ _ _ d. no_field d;
      })
    where
      held_by : {ws vs : List ℕ} → ws ≡ vs → all_le l.bound ws ≡ true → all_le l.bound vs ≡ true
      held_by e h = ap (all_le l.bound) (sym e) ∙ h

-- id 9 alone is of words of eight bytes
raw_line : Line → Bool
raw_line l = not (is_ivs l.want) || (eqb l.id 9 && eqb l.bound 0xffff_ffff_ffff_ffff)

-- computed over the table
all_raw : every raw_line lines ≡ true
unfolding every raw_line lines ◌and◌
all_raw = refl

-- and what that says of a line
pub raw_at : (i : ℕ) → i < line_count → is_ivs (get_or lines i spare).want ≡ true
    → ((get_or lines i spare).id ≡ 9) × ((get_or lines i spare).bound ≡ 0xffff_ffff_ffff_ffff)
unfolding raw_line
raw_at i h e =
    let test : (eqb (get_or lines i spare).id 9 && eqb (get_or lines i spare).bound 0xffff_ffff_ffff_ffff) ≡ true
    = rw e at (every-at raw_line lines i spare all_raw (omega (arith, line-count))) in
    (eqb-true _ _ (and_left _ _ test), eqb-true _ _ (and_right (eqb (get_or lines i spare).id 9) _ test))

-- what is said of an id that is sent
sent-says : (says : Says) (id : ℕ) (zs : List ℕ) → saying_of says id ≡ sent zs → says id ≡ Some zs
unfolding saying_of
sent-says says id zs e = go (says id) refl e
  where
    unsent-not : (b : Bool) → unsent b ≡ sent zs → ⊥
    unsent-not true q = let no : ◌≡◌ {A = ℕ} 0 1 = cc in absurd (omega arith)
    unsent-not false q = let no : ◌≡◌ {A = ℕ} 0 1 = cc in absurd (omega arith)

    go : (o : Option (List ℕ)) → says id ≡ o → saying o (among id (numbers (says 27))) ≡ sent zs → says id ≡ Some zs
    go (Some ws) q d = let same : ws ≡ zs = cc in q ∙ ap Some same
    go None q d = absurd (unsent-not (among id (numbers (says 27))) d)

module _ (t : Track) (delta : Bool) (r : List ℕ) (words : length r ≡ set_len) (good : delta ≡ true → lawful t r ≡ true) (i : ℕ) (h : i < line_count) where
  -- what the reference has is within its bound
  stood-within : stood delta r (get_or lines i spare) ≡ true
      → all_le (get_or lines i spare).bound (old_values delta r (was_of t delta r) (get_or lines i spare)) ≡ true
  unfolding old_values
  stood-within e =
      let l = get_or lines i spare in
      let u : wanted l.want (was_of t delta r) ≡ in_use (get_or r l.place 0) (wanted l.want (was_of t delta r)) =
      stood-used delta r (was_of t delta r) l e in
      rw (e, u) (stood-region t delta r words good i h e).values

  -- the values of a field that stands are as many as are wanted, and within its bound
  pub came-fits : (says : Says) → ((zs : List ℕ) → says 9 ≡ Some zs → all_le 255 zs ≡ true) → (m : Measure) (vs : List ℕ)
      → (came_of t delta r says m (get_or lines i spare)).field ≡ Some vs
      → (length vs ≡ wanted (get_or lines i spare).want m) × (all_le (get_or lines i spare).bound vs ≡ true)
  unfolding came_of
  came-fits says bytes m vs e = (
    came-length t delta r words good i h says m vs e,
    cell-bound t (coding_for delta) delta r (was_of t delta r) (get_or lines i spare) m (λ w. (raw_at i h w).1) stood-within
        (saying_of says (get_or lines i spare).id)
        (λ zs q w. bytes zs (ap says (sym (raw_at i h w).0) ∙ sent-says says (get_or lines i spare).id zs q)) vs e,
  )

-- ---- that it stands

-- nothing is wrong
abbrev Good : Cell → Type 0
Good c = (c.first ≡ true) × (c.second ≡ true) × (c.within ≡ true)

-- a length that is not the required one is wrong
misfit-bad : (w : Want) → Good (misfit w).cell → ⊥
misfit-bad One g = false≢true g.0
misfit-bad LessOne g = false≢true g.0
misfit-bad Count g = false≢true g.0
misfit-bad Ivs g = false≢true g.0
misfit-bad Sum g = false≢true g.1

-- a field that came out right stands exactly where it is sent, or omitted and stood
module _ (t : Track) (coding : Coding) (held : Bool) (r : List ℕ) (was : Measure) (l : Line) (m : Measure) where
  cell-stands : (s : Saying) → Good (cell_of t coding held r was l m s).cell → stands_by s (stood held r l) ≡ is_some (cell_of t coding held r was l m s).field
  cell-stands =
      cell-ways t coding held r was l m (λ s x. Good x.cell → stands_by s (stood held r l) ≡ is_some x.field)
      (record {
        absent = λ e _. e;
        left = λ e _ _. e;
        kept = λ e _ _ _. e;
        changed = λ _ _ g. absurd (misfit-bad l.want g);
        struck = λ _. refl;
        one = λ _ _ _ _ _. refl;
        past = λ _ g. absurd (false≢true g.2);
        raw = λ _ _ _ _. refl;
        list = λ _ _ _ _ _. refl;
        long = λ _ _ g. absurd (misfit-bad l.want g);
      })

module _ (t : Track) (delta : Bool) (r : List ℕ) (says : Says) (m : Measure) (l : Line) where
  -- of any line
  pub came-stands : (came_of t delta r says m l).cell.first ≡ true → (came_of t delta r says m l).cell.second ≡ true
      → (came_of t delta r says m l).cell.within ≡ true → stands t delta r says l ≡ is_some (came_of t delta r says m l).field
  unfolding came_of stands
  came-stands a b c = cell-stands t (coding_for delta) delta r (was_of t delta r) l m (saying_of says l.id) (a, b, c)
