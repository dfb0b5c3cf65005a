-- What is kept of a sum: the ways to it, what it tells of a BMDT, and that today's sums never pass. Assumes nothing.
use Prim.Native.Nat.{ℕ, ◌*◌, ◌≤◌, ◌<◌}
use native.Mathlib.Nat.{zero-mul}
use native.Mathlib.Omega.{arith}
use mathlib.Core.Path.{◌≡◌, refl, sym, ◌∙◌, ap}
use mathlib.Core.Logic.{◌⊎◌, inl, inr}
use mathlib.Core.Bool.{Bool, true, false, false≢true, cond, ◌&&◌}
use mathlib.Core.List.{List}
use borrow.Author.Tests.{eqb-true, eq-eqb, ne_eqb, leb-true, leb-false, le-leb, lt-leb}
use lib.Dec.{eqb, leb}
use lib.ListN.{length, get_or}
use Rattle.laws.specs.Tests.{all_zero}
use Rattle.laws.proofs.TestLaws.{and_left, and_right, le-at, zeros-le}
use Rattle.track.specs.declared.Track.{Track}
use Rattle.field_table.specs.Lines.{lines, line_for, bmdt_at, count_at, durations_at, duration_at, set_len}
use Rattle.field_set.specs.Lawful.{count_in, lawful}
use Rattle.field_set.proofs.ValueLaws.{has_no}
use Rattle.effective.specs.Durations.{durations_of}
use Rattle.field_set.proofs.LawfulLaws.{lawful-facts}
use Rattle.effective.specs.declared.expected.Expected.{Expected}
use Rattle.effective.specs.Expected.{next_time, u64, expected_by, same, Enough}
use Rattle.effective.proofs.DurationLaws.{durations-most, durations-trex, lawful-timed}

-- a sum of 64 bits is kept, and of one that passes a mark
pub kept-sum : (n : ℕ) → n ≤ u64 → record { past = 0; time = n } ≡ expected_by n
unfolding expected_by
kept-sum n h = rw (le-leb n u64 h)

pub kept-mark : (n : ℕ) → u64 < n → record { past = 1; time = 0 } ≡ expected_by n
unfolding expected_by
kept-mark n h = rw (lt-leb n u64 h)

-- what is kept tells whether a BMDT, which has 64 bits, is the sum
pub follows_is : (e : Expected) (b n : ℕ) → e ≡ expected_by n → b ≤ u64 → (eqb e.past 0 && eqb b e.time) ≡ eqb b n
unfolding expected_by
follows_is e b n h l = ap (λ (x : Expected). eqb x.past 0 && eqb b x.time) h ∙ go (leb n u64) refl
  where
    go : (f : Bool) → leb n u64 ≡ f
        → (let x : Expected = cond f (record { past = 0; time = n }) (record { past = 1; time = 0 }) in eqb x.past 0 && eqb b x.time) ≡ eqb b n
    go true q = refl
    go false q = sym (ne_eqb b n (λ z. past (omega arith) q))
      where
        past : n ≤ u64 → leb n u64 ≡ false → ⊥
        past h z = false≢true (sym z ∙ le-leb n u64 h)

-- what is kept tells the sum, or that it passes
pub told-sum : (e : Expected) (n : ℕ) → e ≡ expected_by n → e.past ≡ 0 → e.time ≡ n
unfolding expected_by
told-sum e n h z = go (leb n u64) refl
  where
    go : (f : Bool) → leb n u64 ≡ f → e.time ≡ n
    go true q = ap (λ (x : Expected). x.time) (h ∙ ap (λ (b : Bool). cond b (record { past = 0; time = n }) (record { past = 1; time = 0 })) q)
    go false q =
        let one : e.past ≡ 1 = ap (λ (x : Expected). x.past) (h ∙ ap (λ (b : Bool). cond b (record { past = 0; time = n }) (record { past = 1; time = 0 })) q) in
        absurd (omega arith)

pub told-past : (e : Expected) (n : ℕ) → e ≡ expected_by n → (e.past ≡ 0 → ⊥) → u64 < n
unfolding expected_by
told-past e n h z = go (leb n u64) refl
  where
    go : (f : Bool) → leb n u64 ≡ f → u64 < n
    go true q = absurd (z (ap (λ (x : Expected). x.past) (h ∙ ap (λ (b : Bool). cond b (record { past = 0; time = n }) (record { past = 1; time = 0 })) q)))
    go false q = leb-false n u64 q

-- the sum behind a lawful set has 64 bits: no mark is kept of it
pub never-past : (t : Track) (r : List ℕ) → length r ≡ set_len → lawful t r ≡ true → t.duration ≤ 0xffff_ffff → next_time t r ≤ u64
never-past t r l h d = omega (arith, (lawful-facts t r h).bmdt, durations-most t r (lawful-timed t r l h) d)

pub enough : Enough
enough n m e = go (leb n u64) refl
  where
    go : (f : Bool) → leb n u64 ≡ f → (n ≡ m) ⊎ ((u64 < n) × (u64 < m))
    go true q =
        let k = kept-sum n (leb-true n u64 q) in
        inl (told-sum (record { past = 0; time = n }) m (k ∙ e) refl)
    go false q =
        let l : u64 < n = leb-false n u64 q in
        inr (l, told-past (record { past = 1; time = 0 }) m (kept-mark n l ∙ e) (λ z. absurd (omega arith)))

-- what is kept is compared word by word
pub same_self : (e : Expected) → same e e ≡ true
same_self e = rw (eq-eqb e.past e.past refl, eq-eqb e.time e.time refl)

pub same-is : (e f : Expected) → same e f ≡ true → e ≡ f
same-is e f h =
    let a : e.past ≡ f.past = eqb-true _ _ (and_left _ _ h) in
    let b : e.time ≡ f.time = eqb-true _ _ (and_right (eqb e.past f.past) _ h) in
    λ j. record { past = a j; time = b j }

-- behind words that are all 0 nothing is expected
pub zeros-next : (t : Track) (w : List ℕ) → all_zero w ≡ true → next_time t w ≡ 0
unfolding lines line_for
zeros-next t w z =
    let d : count_in w * t.duration ≡ durations_of t w = durations-trex t w (has_no 3 w (none durations_at)) (has_no 4 w (none duration_at)) in
    let p : count_in w * t.duration ≡ 0 = rw (none count_at) (zero-mul t.duration) in
    omega (arith, none bmdt_at, d, p)
  where
    none : (i : ℕ) → get_or w i 0 ≡ 0
    none i = omega (arith, le-at 0 w i (zeros-le 0 w z))
