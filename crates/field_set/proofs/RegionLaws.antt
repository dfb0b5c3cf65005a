-- The region of a line, and the loop over all lines. Assumes nothing.
use Prim.Native.Nat.{ℕ, zero, suc, ◌+◌, ◌-◌, ◌^◌, ◌≤◌, ◌<◌, zero-le}
use native.Mathlib.Nat.{add-zero, le_refl}
use native.Mathlib.Numerals.{add-one}
use native.Mathlib.Omega.{arith}
use mathlib.Core.Path.{◌≡◌, refl, sym, ◌∙◌, ap}
use mathlib.Core.Bool.{Bool, true, false, ◌&&◌, ◌||◌}
use mathlib.Core.List.{List, ◌∷◌}
use borrow.Author.Tests.{eqb-true, eq-eqb, ne_eqb, leb-true, le-leb, lt-leb}
use lib.Dec.{eqb, leb}
use lib.Bits.{bit_or}
use lib.ListN.{length, get_or, drop}
use lib.Seq.{slice, slice-cons}
use Rattle.laws.specs.Tests.{◌and◌, all_zero, all_le, all_bits}
use Rattle.laws.proofs.SliceLaws.{slice-none, slice-join}
use Rattle.laws.proofs.TestLaws.{right, both, and_left, and-next, and-end, and_assoc, same_test, all_zero-append, bits-zero, bits-le}
use Rattle.word_spans.specs.declared.scan.Total.{Total}
use Rattle.word_spans.specs.Totals.{TotalOf}
use Rattle.field_table.specs.declared.lines.Line.{Line}
use Rattle.field_table.specs.declared.lines.Measure.{Measure}
use Rattle.field_table.specs.Lines.{lines, line_for, spare, set_len, place_of, marks_of, wanted, durations_line, Small, line_count}
use Rattle.field_set.specs.Lawful.{in_use, values_of, region_ok, regions_ok, TestedAs}
use Rattle.field_table.proofs.LineLaws.{Shaped, shaped, line-here, no_lines, place-of, place-next, place-past}
use Rattle.field_table.proofs.NoneLaws.{zero-at}
use Rattle.field_set.proofs.LawfulLaws.{used_of, region-facts, region-at}

-- a field without its mark uses nothing
pub unused : (mark k : ℕ) → mark ≡ 0 → 0 ≡ in_use mark k
unfolding in_use
unused mark k e = rw e

-- and one with its mark what it wants
pub used : (mark k : ℕ) → (mark ≡ 0 → ⊥) → k ≡ in_use mark k
unfolding in_use
used mark k h = rw (ne_eqb mark 0 h)

-- no field stands: each mark is 0
pub mark-none : (w : List ℕ) → all_zero (marks_of w) ≡ true → (i : ℕ) → i < line_count → get_or w (get_or lines i spare).place 0 ≡ 0
unfolding marks_of
mark-none w = zero-at (λ (l : Line). get_or w l.place 0)

-- a mark that isn't 0 is lawful just where it is 1
mark-one : (mark : ℕ) → (mark ≡ 0 → ⊥) → leb mark 1 ≡ eqb mark 1
mark-one mark h = same_test _ _ (λ e. eq-eqb mark 1 (omega (arith, leb-true mark 1 e))) (λ e. le-leb mark 1 (omega (arith, eqb-true mark 1 e)))

-- the collected bits are within a bound of ones just where every number is
within-is : (b k : ℕ) (s : List ℕ) → b ≡ 2 ^ k - 1 → leb (all_bits s) b ≡ all_le b s
within-is b k s e = rw e (bits-le k s)

-- a part is its first word and the others
word_first : (w : List ℕ) (p q : ℕ) → p < q → q ≤ length w → slice p q w ≡ get_or w p 0 ∷ slice (p + 1) q w
word_first w p q h k = rw add-one (slice-cons p q w 0 h k)

-- a line's values keep its bound
unfoldable pub kept_by : Measure → List ℕ → Line → Bool
kept_by m w l = all_le l.bound (slice (l.place + 1) (l.place + 1 + used_of m l w) w)

module _ (m : Measure) (l : Line) (w : List ℕ) where
  -- a region whose field doesn't stand holds zeros
  region-free : get_or w l.place 0 ≡ 0 → region_ok m l w ≡ all_zero (slice (l.place + 1) (l.place + 1 + l.room) w)
  unfolding region_ok ◌and◌ all_le
  region-free z =
      rw (← unused (get_or w l.place 0) (wanted l.want m) z, add-zero, slice-none (l.place + 1) (l.place + 1) w (le_refl (l.place + 1)), z, le-leb 0 l.room zero-le)

  -- so that words not in use go on through it
  zeros-on : l.place + 1 + l.room ≤ length w → (free : ℕ) → free ≤ l.place → get_or w l.place 0 ≡ 0
      → all_zero (slice free (l.place + 1 + l.room) w) ≡ (all_zero (slice free l.place w) and region_ok m l w)
  unfolding all_zero ◌and◌
  zeros-on e free low z =
      let first : slice l.place (l.place + 1 + l.room) w ≡ get_or w l.place 0 ∷ slice (l.place + 1) (l.place + 1 + l.room) w =
      word_first w l.place (l.place + 1 + l.room) (omega arith) e in
      rw (region-free z, slice-join free l.place (l.place + 1 + l.room) w low (omega arith) e, first, z)
      (all_zero-append (slice free l.place w) (0 ∷ slice (l.place + 1) (l.place + 1 + l.room) w))

  -- it has no value that could pass a bound
  kept-none : get_or w l.place 0 ≡ 0 → true ≡ kept_by m w l
  unfolding kept_by all_le
  kept-none z = rw (← unused (get_or w l.place 0) (wanted l.want m) z, add-zero, slice-none (l.place + 1) (l.place + 1) w (le_refl (l.place + 1)))

  module _ (z : get_or w l.place 0 ≡ 0 → ⊥) (n : ℕ) (en : n ≡ wanted l.want m) where
    -- what code counted is what is in use
    in-use-is : n ≡ in_use (get_or w l.place 0) (wanted l.want m)
    in-use-is = rw en (used (get_or w l.place 0) (wanted l.want m) z)

    -- a field without room
    region-full : l.room < n → region_ok m l w ≡ false
    unfolding region_ok ◌and◌
    region-full h = rw (← in-use-is, lt-leb n l.room h)

    -- and one with room for its values
    region-stands : n ≤ l.room → region_ok m l w ≡ ((eqb (get_or w l.place 0) 1 && kept_by m w l) and all_zero (slice (l.place + 1 + n) (l.place + 1 + l.room) w))
    unfolding region_ok kept_by ◌and◌
    region-stands h = rw (← in-use-is, le-leb n l.room h, mark-one (get_or w l.place 0) z) (sym (and-next (eqb (get_or w l.place 0) 1) _ _))

    -- its values keep the bound just where their bits do
    kept-is : Shaped l (length w) → leb (all_bits (slice (l.place + 1) (l.place + 1 + n) w)) l.bound ≡ kept_by m w l
    unfolding kept_by
    kept-is sh = rw (← in-use-is) (within-is l.bound sh.bits (slice (l.place + 1) (l.place + 1 + n) w) sh.ones)

-- the lines before the one at i are looked at, with this outcome; the words not in use from `free` up to its place are not, and those before are
-- collected. The durations are looked at from the start
pub record Scanning (m : Measure) (w : List ℕ) (ok : Bool) (rest free i : ℕ) : Type 0 where
  pub inside : length w ≡ set_len
  pub small : Small m
  pub high : i ≤ line_count
  pub low : free ≤ place_of i
  pub seen : ok ≡ true → kept_by m w (get_or lines durations_line spare) ≡ true
  pub left : (ok and (eqb rest 0 and (all_zero (slice free (place_of i) w) and regions_ok m (drop i lines) w))) ≡ regions_ok m lines w

-- a line that stands: tests as code groups them, and as they are left
regroup : (o a r z u x : Bool) → ((o && a) and ((r and z) and (u and x))) ≡ (o and (r and (z and ((a and u) and x))))
unfolding ◌and◌
regroup false a r z u x = refl
regroup true true true true u x = refl
regroup true true true false u x = refl
regroup true true false z u x = refl
regroup true false true true u x = refl
regroup true false true false u x = refl
regroup true false false z u x = refl

-- a test that fails makes the row fail
nothing : (o r z x : Bool) → (o and (r and (z and (false and x)))) ≡ false
unfolding ◌and◌
nothing false r z x = refl
nothing true false z x = refl
nothing true true false x = refl
nothing true true true x = refl

-- a test that can't fail where the other holds
spared : (a b : Bool) → (b ≡ true → a ≡ true) → (a and b) ≡ b
spared a b h = same_test (a and b) b (right a b) (λ e. both a b (h e) e)

-- tests behind one that holds
behind : (o a x y : Bool) → (o ≡ true → x ≡ y) → (o && (a && x)) ≡ (o && (a && y))
behind true a x y h = ap (λ (b : Bool). a && b) (h refl)
behind false a x y h = refl

module _ (m : Measure) (w : List ℕ) where
  -- lawful regions keep the bound of the durations
  durations-kept : regions_ok m lines w ≡ true → kept_by m w (get_or lines durations_line spare) ≡ true
  unfolding kept_by
  durations-kept e = (region-facts m (get_or lines durations_line spare) w (region-at m w durations_line e (omega arith))).values

  -- no line is looked at yet, but the durations are
  scan-from : length w ≡ set_len → Small m → (ok : Bool) → ok ≡ kept_by m w (get_or lines durations_line spare) → Scanning m w ok 0 2 0
  unfolding ◌and◌ all_zero place_of lines
  scan-from e s ok eo =
      record {
        inside = e;
        small = s;
        high = zero-le;
        low = le_refl 2;
        seen = λ p. sym eo ∙ p;
        left = rw (slice-none 2 2 w (le_refl 2)) (spared ok (regions_ok m lines w) (λ p. eo ∙ durations-kept p));
      }

  -- the durations are the values of id 3, as code looked at them
  durations-are : all_le 0xffff_ffff (values_of 3 m.count w) ≡ kept_by m w (get_or lines durations_line spare)
  unfolding kept_by values_of wanted line_for lines
  durations-are = refl

  pub scan-start : length w ≡ set_len → Small m → (d : Total) → TotalOf d (values_of 3 m.count w) → Scanning m w (leb d.bits 0xffff_ffff) 0 2 0
  scan-start e s d ed = scan-from e s _ (rw ed.bits (bits-le 32 (values_of 3 m.count w)) ∙ durations-are)

  module _ (ok : Bool) (rest free i : ℕ) (h : Scanning m w ok rest free i) where
    -- all are
    scan-end : line_count ≤ i → (y : ℕ) → y ≡ all_bits (slice free set_len w) → (ok && eqb (bit_or rest y) 0) ≡ regions_ok m lines w
    unfolding regions_ok ◌and◌ all_bits all_zero
    scan-end le y ey =
        let e : (ok and (eqb rest 0 and (all_zero (slice free set_len w) and true))) ≡ regions_ok m lines w =
        rw (← place-past i le, no_lines i le) at h.left in
        rw (ey, bits-zero (rest ∷ slice free set_len w)) (rw (and-end (all_zero (slice free set_len w))) at e)

    -- and the sum of the durations is known
    pub scan-tested : line_count ≤ i → (y : ℕ) → y ≡ all_bits (slice free set_len w) → (d : Total) → TotalOf d (values_of 3 m.count w)
        → TestedAs (record { ok = ok && eqb (bit_or rest y) 0; durations = d.sum; pairs = m.sum }) (regions_ok m lines w) m.count m.sum w
    scan-tested le y ey d ed = record { right = scan-end le y ey; summed = λ e. ed.total (durations-are ∙ h.seen (and_left ok _ e)); paired = λ _. refl }

    -- the next line's mark lies in the words
    pub scan-inside : i < line_count → (at : ℕ) → at ≡ place_of i → at < length w
    scan-inside lt at ea = omega (arith, h.inside, place-of i lt, (shaped i lt).inside)

    module _ (lt : i < line_count) (at : ℕ) (ea : at ≡ place_of i) (l : Line) (el : l ≡ get_or lines i spare) where
      -- and its region does
      pub scan-shape : Shaped l (length w)
      scan-shape = rw (h.inside, el) (shaped i lt)

      -- its place, and that of the line after it
      scan-place : at ≡ l.place
      scan-place = ea ∙ rw el (place-of i lt)

      after : place_of (i + 1) ≡ l.place + 1 + l.room
      after = rw el (place-next i lt)

      -- its region, and those after it
      next : regions_ok m (drop i lines) w ≡ (region_ok m l w and regions_ok m (drop (i + 1) lines) w)
      unfolding regions_ok
      next = rw (line-here i lt, ← el)

      -- what is left, with these names
      here : (ok and (eqb rest 0 and (all_zero (slice free l.place w) and (region_ok m l w and regions_ok m (drop (i + 1) lines) w)))) ≡ regions_ok m lines w
      here = rw (← ea, scan-place, next) at h.left

      -- its field doesn't stand: the words not in use go on
      pub scan-free : get_or w at 0 ≡ 0 → Scanning m w ok rest free (i + 1)
      scan-free z =
          let low : free ≤ l.place = omega (arith, h.low, ea, scan-place) in
          let zeros : all_zero (slice free (l.place + 1 + l.room) w) ≡ (all_zero (slice free l.place w) and region_ok m l w) =
          zeros-on m l w scan-shape.inside free low (rw scan-place at z) in
          record {
            inside = h.inside;
            small = h.small;
            high = omega arith;
            low = omega (arith, after);
            seen = h.seen;
            left = rw (after, zeros, and_assoc (all_zero (slice free l.place w)) (region_ok m l w) (regions_ok m (drop (i + 1) lines) w)) here;
          }

      module _ (z : get_or w at 0 ≡ 0 → ⊥) (n : ℕ) (en : n ≡ wanted l.want m) where
        stands : get_or w l.place 0 ≡ 0 → ⊥
        stands = rw scan-place at z

        -- it stands, and has no room
        pub scan-full : l.room < n → false ≡ regions_ok m lines w
        scan-full k = sym (nothing ok (eqb rest 0) (all_zero (slice free l.place w)) _) ∙ rw (region-full m l w stands n en k) at here

        module _ (v : Bool) (ev : v ≡ (eqb i durations_line || leb (all_bits (slice (l.place + 1) (l.place + 1 + n) w)) l.bound)) where
          -- the test of its values, which for the durations is known already
          known : ok ≡ true → v ≡ kept_by m w l
          known p = go (eqb i durations_line) refl ev
            where
              go : (b : Bool) → eqb i durations_line ≡ b → v ≡ (b || leb (all_bits (slice (l.place + 1) (l.place + 1 + n) w)) l.bound) → v ≡ kept_by m w l
              go true q e =
                  let same : l ≡ get_or lines durations_line spare = rw (eqb-true i durations_line q) at el in
                  e ∙ sym (ap (kept_by m w) same ∙ h.seen p)
              go false q e = e ∙ kept-is m l w stands n en scan-shape

          -- it stands: the words not in use end at its place, and begin again after its values
          pub scan-stands : n ≤ l.room → (y : ℕ) → y ≡ all_bits (slice free l.place w)
              → Scanning m w (ok && (eqb (get_or w at 0) 1 && v)) (bit_or rest y) (l.place + 1 + n) (i + 1)
          unfolding all_bits all_zero
          scan-stands k y ey =
              record {
                inside = h.inside;
                small = h.small;
                high = omega arith;
                low = omega (arith, after);
                seen = λ p. h.seen (and_left ok _ p);
                left = rw (behind ok (eqb (get_or w at 0) 1) v (kept_by m w l) known, scan-place, ey, bits-zero (rest ∷ slice free l.place w), after)
                    (regroup ok _ (eqb rest 0) (all_zero (slice free l.place w)) _ _ ∙ rw (region-stands m l w stands n en k) at here);
              }

  -- no field stands: the words not in use are all words
  module _ (e : length w ≡ set_len) (s : Small m) (none : all_zero (marks_of w) ≡ true) where
    scan-all : (i : ℕ) → i ≤ line_count → Scanning m w true 0 2 i
    scan-all zero h = scan-from e s true (kept-none m (get_or lines durations_line spare) w (mark-none w none durations_line (omega arith)))
    scan-all (suc i) h =
        rw (← add-one i) (scan-free true 0 2 i (scan-all i (omega arith)) h (place_of i) refl (get_or lines i spare) refl (rw (place-of i h) (mark-none w none i h)))

    pub scan-none : (y : ℕ) → y ≡ all_bits (slice 2 set_len w) → eqb y 0 ≡ regions_ok m lines w
    scan-none = scan-end true 0 2 line_count (scan-all line_count (le_refl line_count)) (le_refl line_count)
