-- A lawful set is the words of its fields; and fields that are the same line by line have the same words. Assumes nothing.
use Prim.Native.Nat.{ℕ, suc, ◌+◌, ◌-◌, ◌≤◌, ◌<◌}
use native.Mathlib.Nat.{add-sub_cancel_left}
use native.Mathlib.Numerals.{add-one}
use native.Mathlib.Omega.{arith}
use mathlib.Core.Path.{◌≡◌, refl, sym, ◌∙◌, ap, ap₂}
use mathlib.Core.Bool.{Bool, true, false, not, cond}
use mathlib.Core.List.{List, [], ◌∷◌, ◌++◌}
use Rattle.std.specs.Prelude.{Some, None}
use borrow.Author.Tests.{eqb-true, eqb-false}
use lib.Dec.{eqb}
use lib.ListN.{length, get_or, drop, replicate}
use lib.Seq.{slice, slice-cons, slice_empty, length-slice, drop-cons}
use Rattle.laws.proofs.TestLaws.{left, right, zeros-are}
use Rattle.laws.proofs.SliceLaws.{slice-none, slice-join, slice-to-end}
use Rattle.track.specs.declared.Track.{Track}
use Rattle.field_table.specs.declared.lines.Line.{Line}
use Rattle.field_table.specs.Lines.{lines, spare, line_for, wanted, set_len, bmdt_at, count_at, subsamples_at, subsamples_line}
use Rattle.field_set.specs.Lawful.{in_use, values_of, region_ok, regions_ok, measure_of, lawful}
use Rattle.field_set.proofs.LawfulLaws.{Region, region-facts, lawful-facts}
use Rattle.field_table.proofs.LineLaws.{tiles, tiled}
use Rattle.field_set.proofs.RegionLaws.{used, unused}
use Rattle.field_rules.specs.Fields.{numbers, Held}
use Rattle.field_rules.specs.Words.{region_of, regions_of, set_words}

-- the field of a line in the words x
abbrev pub field_in : Track → List ℕ → Line → Held
field_in t x l = cond (not (eqb (get_or x l.place 0) 0)) (Some (slice (l.place + 1) (l.place + 1 + wanted l.want (measure_of t x)) x)) None

module _ (t : Track) (x : List ℕ) where
  -- a region is the words of its field
  region-is : (l : Line) → l.place + 1 + l.room ≤ length x → region_ok (measure_of t x) l x ≡ true
      → region_of l (field_in t x l) ≡ slice l.place (l.place + 1 + l.room) x
  unfolding region_of
  region-is l room e = by (eqb mark 0) refl
    where
      f : Region (measure_of t x) l x
      f = region-facts (measure_of t x) l x e

      mark : ℕ
      mark = get_or x l.place 0

      k : ℕ
      k = wanted l.want (measure_of t x)

      -- the mark, as many values as are in use, and zeros
      words : (u : ℕ) → u ≡ in_use mark k
          → slice l.place (l.place + 1 + l.room) x ≡ mark ∷ (slice (l.place + 1) (l.place + 1 + u) x ++ replicate (l.room - u) 0)
      words u q =
          let fits : u ≤ l.room = omega (arith, f.room) in
          let n : length (slice (l.place + 1 + u) (l.place + 1 + l.room) x) ≡ l.room - u =
          length-slice (l.place + 1 + u) (l.place + 1 + l.room) x room ∙ omega arith in
          rw add-one (slice-cons l.place (suc l.place + l.room) x 0 (omega arith) (omega arith))
          ∙ ap (λ (vs : List ℕ). mark ∷ vs)
          (slice-join (l.place + 1) (l.place + 1 + u) (l.place + 1 + l.room) x (omega arith) (omega arith) room
          ∙ ap (λ (vs : List ℕ). slice (l.place + 1) (l.place + 1 + u) x ++ vs)
          (zeros-are _ (rw (← q) at f.rest) ∙ ap (λ (m : ℕ). replicate m 0) n))

      by : (b : Bool) → eqb mark 0 ≡ b
          → region_of l (cond (not b) (Some (slice (l.place + 1) (l.place + 1 + k) x)) None) ≡ slice l.place (l.place + 1 + l.room) x
      by true q =
          let z : mark ≡ 0 = eqb-true _ _ q in
          let one : 1 + l.room ≡ suc (l.room - 0) = omega arith in
          rw (words 0 (unused mark k z), z, slice-none (l.place + 1) (l.place + 1 + 0) x (omega arith)) (ap (λ (m : ℕ). replicate m 0) one)
      by false q =
          let z : mark ≡ 0 → ⊥ = eqb-false _ _ q in
          let u : k ≡ in_use mark k = used mark k z in
          let one : mark ≡ 1 = omega (arith, f.mark) in
          let long : length (slice (l.place + 1) (l.place + 1 + k) x) ≡ k =
          length-slice (l.place + 1) (l.place + 1 + k) x (omega (arith, f.room)) ∙ add-sub_cancel_left (l.place + 1) k in
          rw (words k u, one, long)

  tiles-le : (at : ℕ) (ls : List Line) (end : ℕ) → tiles at ls end ≡ true → at ≤ end
  unfolding tiles
  tiles-le at [] end e = omega (arith, eqb-true at end e)
  tiles-le at (l ∷ ls) end e = omega (arith, tiles-le (at + 1 + l.room) ls end (right _ _ e))

  regions-are : (at : ℕ) (ls : List Line) (end : ℕ) → tiles at ls end ≡ true → end ≤ length x → regions_ok (measure_of t x) ls x ≡ true
      → regions_of (field_in t x) ls ≡ slice at end x
  unfolding tiles regions_of regions_ok
  regions-are at [] end e h o = sym (ap (λ (n : ℕ). slice n end x) (eqb-true at end e) ∙ slice_empty end x)
  regions-are at (l ∷ ls) end e h o =
      let p : l.place ≡ at = eqb-true _ _ (left _ _ e) in
      let m : at + 1 + l.room ≤ end = tiles-le (at + 1 + l.room) ls end (right _ _ e) in
      ap₂ (λ (a b : List ℕ). a ++ b)
      (region-is l (omega arith) (left _ _ o) ∙ ap (λ (n : ℕ). slice n (n + 1 + l.room) x) p)
      (regions-are (at + 1 + l.room) ls end (right _ _ e) h (right _ _ o))
      ∙ sym (slice-join at (at + 1 + l.room) end x (omega arith) m h)

  -- a lawful set is the words of its fields
  pub set-words : length x ≡ set_len → lawful t x ≡ true → set_words (get_or x bmdt_at 0) (get_or x count_at 0) (field_in t x) ≡ x
  unfolding set_words
  set-words long e =
      let two : x ≡ get_or x 0 0 ∷ get_or x count_at 0 ∷ drop 2 x =
      drop-cons x 0 0 (omega arith) ∙ ap (λ (l : List ℕ). get_or x 0 0 ∷ l) (drop-cons x 1 0 (omega arith)) in
      ap (λ (l : List ℕ). get_or x 0 0 ∷ get_or x count_at 0 ∷ l)
      (regions-are 2 lines set_len tiled (omega arith) (lawful-facts t x e).regions ∙ slice-to-end 2 set_len x long)
      ∙ sym two

-- the subsample counts of a set are the values of its line
pub held-values : (t : Track) (x : List ℕ) → numbers (field_in t x (get_or lines subsamples_line spare)) ≡ values_of 11 (get_or x count_at 0) x
unfolding values_of in_use lines line_for wanted
held-values t x = by (eqb (get_or x subsamples_at 0) 0)
  where
    by : (b : Bool) → numbers (cond (not b) (Some (slice (subsamples_at + 1) ((subsamples_at + 1) + get_or x count_at 0) x)) None) ≡ slice (subsamples_at + 1) ((subsamples_at + 1) + cond b 0 (get_or x count_at 0)) x
    by true = sym (slice_empty (subsamples_at + 1) x)
    by false = refl

-- fields that are the same line by line have the same words
pub regions-same : (f g : Line → Held) (ls : List Line) → ((i : ℕ) → i < length ls → f (get_or ls i spare) ≡ g (get_or ls i spare))
    → regions_of f ls ≡ regions_of g ls
unfolding regions_of
regions-same f g [] h = refl
regions-same f g (l ∷ ls) h = ap₂ (λ (a b : List ℕ). a ++ b) (ap (region_of l) (h 0 (omega arith))) (regions-same f g ls (λ i lt. h (suc i) (omega arith)))
