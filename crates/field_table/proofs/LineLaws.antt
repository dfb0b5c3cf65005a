-- The table of lines: what is computed over all of it, and what that says of each line. Assumes nothing.
use Prim.Native.Nat.{ℕ, zero, suc, ◌+◌, ◌-◌, ◌^◌, ◌≤◌, ◌<◌, zero-le}
use native.Mathlib.Nat.{not-suc-le-zero, le_of_suc-le-suc, zero-add}
use native.Mathlib.Numerals.{add-one}
use native.Mathlib.Omega.{arith}
use mathlib.Core.Path.{◌≡◌, refl, sym, ◌∙◌, ap}
use mathlib.Core.Bool.{Bool, true, false, false≢true, not, cond, ◌||◌}
use mathlib.Core.List.{List, [], ◌∷◌, map}
use borrow.Author.Tests.{eqb-true, eq-eqb, ne_eqb, leb-true}
use lib.Dec.{eqb, leb}
use lib.ListN.{length, get_or, drop, replicate, drop_of_length-le, length-map, length-replicate, get_or-map, get_or-eq_default}
use lib.Seq.{drop-cons}
use Rattle.laws.specs.Tests.{◌and◌}
use Rattle.laws.proofs.ListLaws.{get_d-in}
use Rattle.laws.proofs.TestLaws.{left, right, both}
use Rattle.field_table.specs.declared.lines.Want.{Want}
use Rattle.field_table.specs.declared.lines.Want.TheVariants.{One, LessOne, Count, Ivs, Sum}
use Rattle.field_table.specs.declared.lines.Line.{Line}
use Rattle.field_table.specs.declared.lines.Measure.{Measure}
use Rattle.field_table.specs.Lines.{lines, spare, set_len, place_of, line_number, every, wanted, line_count}

-- a number is none of those below n, as the last arm of a match knows it
abbrev pub None : ℕ → ℕ → Type 0
None zero i = Unit {0}
None (suc n) i = None n i × (i ≡ n → ⊥)

-- and so it is n or more
pub from-none : (n i : ℕ) → None n i → n ≤ i
from-none zero i h = zero-le
from-none (suc n) i h = let e : i ≡ n → ⊥ = h.1 in omega (arith, from-none n i h.0)

-- the lines of the table
pub line-count : length lines ≡ line_count
unfolding lines
line-count = refl

-- the words of a set that are all zeros are as many as a set's
pub zeros-long : {x : List ℕ} → x ≡ replicate set_len 0 → length x ≡ set_len
zeros-long e = ap length e ∙ length-replicate {A = ℕ} set_len 0

-- a line under its number
pub line-is : (k : ℕ) {i : ℕ} {r : Line} → i ≡ k → r ≡ get_or lines k spare → r ≡ get_or lines i spare
line-is k e h = rw e h

-- past the table
pub line-past : (i : ℕ) {r : Line} → line_count ≤ i → r ≡ spare → r ≡ get_or lines i spare
line-past i h e = e ∙ sym (get_or-eq_default lines spare {n = i} (omega (arith, line-count)))

-- the place of a line under its number
pub place_is : (k : ℕ) {i v : ℕ} → i ≡ k → v ≡ place_of k → v ≡ place_of i
place_is k e h = rw e h

-- past the table
pub place-past : (i : ℕ) → line_count ≤ i → set_len ≡ place_of i
unfolding place_of
place-past i h =
    sym
    (get_or-eq_default (map (λ (l : Line). l.place) lines) set_len {n = i} (omega (arith, line-count, length-map lines (λ (l : Line). l.place))))

-- the place is that of the line
pub place-of : (i : ℕ) → i < line_count → place_of i ≡ (get_or lines i spare).place
unfolding place_of
place-of i h =
    let k : i < length (map (λ (l : Line). l.place) lines) = omega (arith, line-count, length-map lines (λ (l : Line). l.place)) in
    get_d-in (map (λ (l : Line). l.place) lines) i set_len spare.place k ∙ get_or-map (λ (l : Line). l.place) lines i spare

-- the id of a line under its number
pub id-is : (k : ℕ) {i v : ℕ} → i ≡ k → v ≡ (get_or lines k spare).id → v ≡ (get_or lines i spare).id
id-is k e h = rw e h

-- past the table
pub id-past : (i : ℕ) → line_count ≤ i → 0 ≡ (get_or lines i spare).id
id-past i h = rw (get_or-eq_default lines spare {n = i} (omega (arith, line-count)))

-- the line at a number and those after it
pub line-here : (i : ℕ) → i < line_count → drop i lines ≡ get_or lines i spare ∷ drop (i + 1) lines
line-here i h = let k : i < length lines = omega (arith, line-count) in rw add-one (drop-cons lines i spare k)

-- no line is left
pub no_lines : (i : ℕ) → line_count ≤ i → drop i lines ≡ []
no_lines i h = let k : length lines ≤ i = omega (arith, line-count) in drop_of_length-le lines k

-- what is wanted is known under another name
pub want_is : (v : Want) {w : Want} (m : Measure) → w ≡ v → wanted v m ≡ wanted w m
want_is v m e = rw e

-- what every line passes, the one at an index does
pub every-at : (p : Line → Bool) (ls : List Line) (i : ℕ) (d : Line) → every p ls ≡ true → i < length ls → p (get_or ls i d) ≡ true
unfolding every
every-at p [] i d e h = absurd (not-suc-le-zero h)
every-at p (l ∷ ls) zero d e h = left _ _ e
every-at p (l ∷ ls) (suc i) d e h = every-at p ls i d (right _ _ e) (le_of_suc-le-suc h)

-- and every line passes what each of them does
pub every_holds : (p : Line → Bool) (ls : List Line) → ((i : ℕ) → i < length ls → p (get_or ls i spare) ≡ true) → every p ls ≡ true
unfolding every
every_holds p [] h = refl
every_holds p (l ∷ ls) h = both _ _ (h 0 (omega arith)) (every_holds p ls (λ i lt. h (suc i) (omega arith)))

-- the ids of a run of lines ascend from lo on
unfoldable pub ascends : ℕ → List Line → Bool
ascends lo [] = true
ascends lo (l ∷ ls) = leb lo l.id and ascends (suc l.id) ls

pub lines-ascend : ascends 0 lines ≡ true
unfolding ascends lines ◌and◌
lines-ascend = refl

pub ascends-at : (lo : ℕ) (ls : List Line) → ascends lo ls ≡ true → (i : ℕ) → i < length ls → lo ≤ (get_or ls i spare).id
unfolding ascends
ascends-at lo [] a i lt = absurd (not-suc-le-zero lt)
ascends-at lo (l ∷ ls) a zero lt = leb-true _ _ (left _ _ a)
ascends-at lo (l ∷ ls) a (suc i) lt =
    let low : lo ≤ l.id = leb-true _ _ (left _ _ a) in omega (arith, ascends-at (suc l.id) ls (right _ _ a) i (omega arith))

-- a line whose region lies in a run of words of that length, whose bound is a row of ones, and which has one value where it has room for one
pub record Shaped (l : Line) (length : ℕ) : Type 0 where
  pub inside : l.place + 1 + l.room ≤ length
  pub bits : ℕ
  pub ones : l.bound ≡ 2 ^ bits - 1
  pub single : l.room ≡ 1 → l.want ≡ One

-- a row of at most k ones
unfoldable ones : ℕ → ℕ → Bool
ones zero b = eqb b 0
ones (suc k) b = eqb b (2 ^ suc k - 1) || ones k b

-- a number that is a row of ones
record Ones (b : ℕ) : Type 0 where
  bits : ℕ
  same : b ≡ 2 ^ bits - 1

-- a row of ones by its test
ones-are : (k b : ℕ) → ones k b ≡ true → Ones b
unfolding ones
ones-are zero b e = record { bits = 0; same = eqb-true b 0 e }
ones-are (suc k) b e = go (eqb b (2 ^ suc k - 1)) refl e (ones-are k b)
  where
    go : (t : Bool) → eqb b (2 ^ suc k - 1) ≡ t → (t || ones k b) ≡ true → (ones k b ≡ true → Ones b) → Ones b
    go true q h less = record { bits = suc k; same = eqb-true b (2 ^ suc k - 1) q }
    go false q h less = less h

-- one value is wanted
unfoldable is_one : Want → Bool
is_one One = true
is_one LessOne = false
is_one Count = false
is_one Ivs = false
is_one Sum = false

-- by its test
one-is : (w : Want) → is_one w ≡ true → w ≡ One
unfolding is_one
one-is One e = refl
one-is LessOne e = absurd (false≢true e)
one-is Count e = absurd (false≢true e)
one-is Ivs e = absurd (false≢true e)
one-is Sum e = absurd (false≢true e)

-- a line's shape as a test
unfoldable keeps : ℕ → Line → Bool
keeps n l = leb (l.place + 1 + l.room) n and ones 64 l.bound and (not (eqb l.room 1) || is_one l.want)

-- a line's shape by its test
shape_of : (n : ℕ) (l : Line) → keeps n l ≡ true → Shaped l n
unfolding keeps
shape_of n l e =
    let o : Ones l.bound = ones-are 64 l.bound (left _ _ (right _ _ e)) in
    record {
      inside = leb-true _ _ (left _ _ e);
      bits = o.bits;
      ones = o.same;
      single = λ h. one-is l.want (rw (eq-eqb l.room 1 h) at (right _ _ (right _ _ e)));
    }

-- computed over the table
all_keep : every (keeps set_len) lines ≡ true
unfolding every keeps ones is_one lines ◌and◌
all_keep = refl

-- every line's region lies in a set's words, and its bound is a row of ones
pub shaped : (i : ℕ) → i < line_count → Shaped (get_or lines i spare) set_len
shaped i h = shape_of set_len (get_or lines i spare) (every-at (keeps set_len) lines i spare all_keep (omega (arith, line-count)))

-- regions that follow one another without a gap from a place up to an end
unfoldable pub tiles : ℕ → List Line → ℕ → Bool
tiles at [] end = eqb at end
tiles at (l ∷ ls) end = eqb l.place at and tiles (at + 1 + l.room) ls end

-- BMDT and the count take the first two words of a set, and the regions the others
pub tiled : tiles 2 lines set_len ≡ true
unfolding tiles lines ◌and◌
tiled = refl

-- so that the region after a line's begins where that one ends
tiles-next : (at end : ℕ) (ls : List Line) (i : ℕ) (d : Line) → tiles at ls end ≡ true → i < length ls
    → get_or (map (λ (l : Line). l.place) ls) (suc i) end ≡ (get_or ls i d).place + 1 + (get_or ls i d).room
unfolding tiles
tiles-next at end [] i d e h = absurd (not-suc-le-zero h)
tiles-next at end (l ∷ []) zero d e h =
    let p : l.place ≡ at = eqb-true _ _ (left _ _ e) in
    let q : at + 1 + l.room ≡ end = eqb-true _ _ (right _ _ e) in
    rw p (sym q)
tiles-next at end (l ∷ n ∷ ls) zero d e h =
    let p : l.place ≡ at = eqb-true _ _ (left _ _ e) in
    let q : n.place ≡ at + 1 + l.room = eqb-true _ _ (left _ _ (right _ _ e)) in
    rw p q
tiles-next at end (l ∷ ls) (suc i) d e h = tiles-next (at + 1 + l.room) end ls i d (right _ _ e) (le_of_suc-le-suc h)

pub place-next : (i : ℕ) → i < line_count → place_of (i + 1) ≡ (get_or lines i spare).place + 1 + (get_or lines i spare).room
unfolding place_of
place-next i h = rw (add-one i) (tiles-next 2 set_len lines i spare tiled (omega (arith, line-count)))

-- looking for the line of an id: those before the one at i are of other ids
pub record Seeking (id i : ℕ) : Type 0 where
  pub high : i ≤ line_count
  pub rest : i + line_number id (drop i lines) ≡ line_number id lines

pub seek-start : (id : ℕ) → Seeking id 0
seek-start id = record { high = omega arith; rest = zero-add (line_number id lines) }

module _ (id i : ℕ) (h : Seeking id i) where
  -- none is of that id
  pub seek-end : line_count ≤ i → line_count ≡ line_number id lines
  unfolding line_number
  seek-end le =
      let e : i ≡ line_count = omega (arith, h.high) in
      let z : i + 0 ≡ line_number id lines = rw (no_lines i le) at h.rest in
      omega arith

  module _ (lt : i < line_count) (l : Line) (el : l ≡ get_or lines i spare) where
    here-is : line_number id (drop i lines) ≡ cond (eqb l.id id) 0 (suc (line_number id (drop (i + 1) lines)))
    unfolding line_number
    here-is = rw (line-here i lt, ← el)

    -- this one is
    pub seek_found : l.id ≡ id → i ≡ line_number id lines
    seek_found e =
        let z : line_number id (drop i lines) ≡ 0 = here-is ∙ rw (eq-eqb l.id id e) in
        omega (arith, h.rest)

    -- this one isn't
    pub seek-next : (l.id ≡ id → ⊥) → Seeking id (i + 1)
    seek-next n =
        let z : line_number id (drop i lines) ≡ suc (line_number id (drop (i + 1) lines)) = here-is ∙ rw (ne_eqb l.id id n) in
        record { high = omega arith; rest = omega (arith, h.rest) }
