-- Lawful words have nothing stored for a field that doesn't stand, and neither have zeros. Assumes nothing.
use Prim.Native.Nat.{ℕ, zero, suc, ◌+◌, ◌≤◌, ◌<◌}
use native.Mathlib.Nat.{le_of_suc-le-suc, add-zero}
use native.Mathlib.Numerals.{add-one}
use native.Mathlib.Omega.{arith}
use mathlib.Core.Path.{◌≡◌, subst}
use mathlib.Core.Bool.{true}
use mathlib.Core.List.{List, [], ◌∷◌}
use borrow.Author.Tests.{eq-eqb}
use lib.ListN.{length, get_or}
use lib.Seq.{slice, slice-cons}
use Rattle.laws.specs.Tests.{all_zero}
use Rattle.laws.proofs.SliceLaws.{slice-none}
use Rattle.laws.proofs.TestLaws.{left, right, both}
use Rattle.track.specs.declared.Track.{Track}
use Rattle.field_table.specs.declared.lines.Line.{Line}
use Rattle.field_table.specs.Lines.{lines, spare, set_len, place_of, wanted, line_count}
use Rattle.field_set.specs.Lawful.{in_use, measure_of, lawful, Tidy}
use Rattle.field_table.proofs.LineLaws.{place-of, place-next, shaped}
use Rattle.field_set.proofs.RegionLaws.{unused}
use Rattle.field_set.proofs.LawfulLaws.{Region, lawful-region}

-- no region goes past the words
pub place_inside : (i : ℕ) → i < line_count → (place_of i < place_of (i + 1)) × (place_of (i + 1) ≤ set_len)
place_inside i h =
    (omega (arith, place-next i h, place-of i h), omega (arith, place-next i h, (shaped i h).inside))

module _ (t : Track) (w : List ℕ) (long : length w ≡ set_len) (good : lawful t w ≡ true) where
  -- a field without its mark has a region of zeros
  clear-region : (l : Line) → Region (measure_of t w) l w → l.place + 1 + l.room ≤ set_len → get_or w l.place 0 ≡ 0
      → all_zero (slice l.place (l.place + 1 + l.room) w) ≡ true
  unfolding all_zero
  clear-region l r inside e =
      let k : l.place + 1 + l.room ≤ length w = omega arith in
      let u : 0 ≡ in_use (get_or w l.place 0) (wanted l.want (measure_of t w)) = unused _ _ e in
      let z : all_zero (slice (l.place + 1) (l.place + 1 + l.room) w) ≡ true = rw (← u, add-zero) at r.rest in
      rw (slice-cons l.place (l.place + 1 + l.room) w 0 (omega arith) k) (both _ _ (eq-eqb _ 0 e) (subst (λ (k : ℕ). all_zero (slice k (l.place + 1 + l.room) w) ≡ true) (add-one l.place) z))

  pub lawful-tidy : Tidy w
  lawful-tidy =
      record {
        nothing =
            λ i h e.
            rw (place-next i h, place-of i h)
            (clear-region (get_or lines i spare) (lawful-region t w i good h) (shaped i h).inside (rw (place-of i h) at e));
      }

-- a part of zeros
part-zero : (w : List ℕ) (f t : ℕ) → t ≤ length w → all_zero w ≡ true → all_zero (slice f t w) ≡ true
unfolding all_zero
part-zero [] f t k e = rw (slice-none f t [] (omega (arith, k)))
part-zero (x ∷ w) f zero k e = rw (slice-none f 0 (x ∷ w) (omega arith))
part-zero (x ∷ w) zero (suc t) k e = both _ _ (left _ _ e) (part-zero w 0 t (le_of_suc-le-suc k) (right _ _ e))
part-zero (x ∷ w) (suc f) (suc t) k e = part-zero w f t (le_of_suc-le-suc k) (right _ _ e)

pub zeros-tidy : (w : List ℕ) → length w ≡ set_len → all_zero w ≡ true → Tidy w
zeros-tidy w long e = record { nothing = λ i h m. part-zero w (place_of i) (place_of (i + 1)) (omega (arith, (place_inside i h).1)) e }
