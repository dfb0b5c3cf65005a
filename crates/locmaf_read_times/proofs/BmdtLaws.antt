-- Laws of the base media decode time: the ways out of code. Assumes nothing.
use Prim.Native.Nat.{ℕ}
use native.Mathlib.Omega.{arith}
use mathlib.Core.Path.{◌≡◌, refl, sym, ◌∙◌, ap}
use mathlib.Core.Bool.{true}
use mathlib.Core.List.{List, ◌∷◌}
use Rattle.std.specs.Prelude.{Option, Some, None, unwrap_or}
use borrow.Author.Tests.{eq-eqb, ne_eqb, leb-true, lt-leb}
use lib.Dec.{leb}
use lib.ListN.{get_or}
use Rattle.locmaf_read_index.specs.Places.{stands_at, number_at}
use Rattle.constants.specs.Maxima.{number_most}
use Rattle.track.specs.declared.Track.{Track}
use Rattle.media.specs.declared.clocks.TrackTicks.{TrackTicks}
use Rattle.locmaf_read_said.specs.Said.{scalar_in}
use Rattle.effective.specs.declared.expected.Expected.{Expected}
use Rattle.effective.specs.Expected.{next_time, expected_by, u64}
use Rattle.effective.proofs.ExpectedLaws.{told-sum, told-past}
use Rattle.locmaf_read_times.specs.Bmdt.{bmdt_of, BmdtAs}

-- the time that is sent, and the one that is expected, where it is within 64 bits and where it is past them
module _ (t : Track) (r index : List ℕ) where
  pub bmdt-index : (get_or index (stands_at 10) 0 ≡ 0 → ⊥)
      → BmdtAs (Some (record { 0 = get_or index (number_at 10) 0 })) (bmdt_of t (scalar_in index 10) r)
  unfolding bmdt_of scalar_in
  bmdt-index h = rw (ne_eqb _ _ h)

  module _ (h : get_or index (stands_at 10) 0 ≡ 0) (e : Expected) (q : e ≡ expected_by (next_time t r)) where
    pub bmdt-expected : e.past ≡ 0 → BmdtAs (Some (record { 0 = e.time })) (bmdt_of t (scalar_in index 10) r)
    unfolding bmdt_of scalar_in
    bmdt-expected z = rw (eq-eqb _ _ h) (told-sum e (next_time t r) q z)

    pub bmdt-past : (e.past ≡ 0 → ⊥) → BmdtAs None (bmdt_of t (scalar_in index 10) r)
    unfolding bmdt_of scalar_in
    bmdt-past z = rw (eq-eqb _ _ h) (told-past e (next_time t r) q z)

-- a time that is sent is taken as it is
pub bmdt-sent : (t : Track) (z : ℕ) (zs r : List ℕ) → bmdt_of t (Some (z ∷ zs)) r ≡ z
unfolding bmdt_of
bmdt-sent t z zs r = refl

-- where the greatest word stands for a time past 64 bits, it is within the maximum just where the BMDT is
pub bmdt-small : (b : Option TrackTicks) (n : ℕ) → BmdtAs b n → leb (unwrap_or b (record { 0 = u64 })).0 number_most ≡ leb n number_most
bmdt-small (Some ticks) n h = ap (λ (k : ℕ). leb k number_most) h
bmdt-small None n h = lt-leb u64 number_most (omega arith) ∙ sym (lt-leb n number_most (omega (arith, h)))

-- and it is the BMDT there
pub bmdt-told : (b : Option TrackTicks) (n : ℕ) → BmdtAs b n → leb n number_most ≡ true → (unwrap_or b (record { 0 = u64 })).0 ≡ n
bmdt-told (Some ticks) n h e = h
bmdt-told None n h e = absurd (omega (arith, h, leb-true n number_most e))
