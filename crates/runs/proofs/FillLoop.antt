-- The loops of `fill` and `fill_ones`: what was read, with what is left to read, is the whole. Assumes nothing.
use Prim.Native.Nat.{ℕ, suc, ◌+◌, ◌-◌, ◌≤◌, ◌<◌}
use native.Mathlib.Nat.{add-zero, sub-zero}
use native.Mathlib.Omega.{arith}
use mathlib.Core.Path.{◌≡◌, refl, sym, ◌∙◌, ap}
use mathlib.Core.List.{List}
use lib.ListN.{length, drop, set, length-set}
use lib.Seq.{slice, sets, slice-cons}
use Rattle.laws.proofs.SliceLaws.{slice-none}
use Rattle.wire.specs.declared.form.Row.{Row}
use Rattle.wire.specs.declared.zigzag.Coding.{Coding}
use Rattle.runs.specs.declared.Misread.{Misread}
use Rattle.runs.specs.declared.Misread.TheVariants.{Misfit}
use Rattle.std.specs.Prelude.{Result, Ok, Err}
use Rattle.runs.specs.Run.{Filled, FilledAs, Filling, stop, more, filled, filled_at, next_at}
use Rattle.runs.proofs.RunLaws.{filled-outside, filled-inside, filled_none}
use Rattle.runs.proofs.NextLaws.{on_next, by_next}

module _ (F : List Row) (coding : Coding) (base bound : ℕ) (s : List ℕ) (at end : ℕ) (old out₀ : List ℕ) (to n : ℕ) where
  -- the end is past the bytes: nothing is read
  pub past : length s < end → FilledAs (filled_at F coding base bound n old s at end) out₀ to (Err Misfit) out₀
  past h = rw (filled-outside F coding base bound n old s at end h) (record { answered = refl; stored = refl })

  -- none is read
  pub start : end ≤ length s → to + n ≤ length out₀ → Filling F coding base bound s at end old out₀ to n out₀ at 0
  start h k =
      record {
        count = omega arith;
        bytes = h;
        room = k;
        same = refl;
        answer = rw (sub-zero, filled-inside F coding base bound n old s at end h);
        values = rw (sub-zero, add-zero, filled-inside F coding base bound n old s at end h);
      }

  module _ (out : List ℕ) (p i : ℕ) (h : Filling F coding base bound s at end old out₀ to n out p i) where
    -- what is left answers at once
    stopped : (a : Result (Unit {0}) Misread) → filled F coding base bound (n - i) (drop i old) (slice p end s) ≡ stop a
        → FilledAs (filled_at F coding base bound n old s at end) out₀ to a out
    stopped a e =
        record {
          answered = sym (ap (λ (f : Filled). f.answer) e) ∙ h.answer;
          stored = sym (ap (λ (f : Filled). sets out (to + i) f.values) e) ∙ h.values;
        }

    -- no more values are wanted, and bytes are left or not
    pub long : n ≤ i → p < end → FilledAs (filled_at F coding base bound n old s at end) out₀ to (Err Misfit) out
    long k lt =
        let e : n - i ≡ 0 = omega arith in
        stopped (Err Misfit) (rw (e, filled_none, slice-cons p end s 0 lt h.bytes))

    pub done : n ≤ i → end ≤ p → FilledAs (filled_at F coding base bound n old s at end) out₀ to (Ok tt) out
    done k le =
        let e : n - i ≡ 0 = omega arith in
        stopped (Ok tt) (rw (e, filled_none, slice-none p end s le))

    module _ (lt : i < n) where
      left : filled F coding base bound (n - i) (drop i old) (slice p end s)
          ≡ on_next (next_at F coding base bound old s p end i)
          (λ v q. more v (filled F coding base bound (n - (i + 1)) (drop (i + 1) old) (slice q end s)))
      left =
          let e : n - i ≡ suc (n - (i + 1)) = omega arith in
          rw e (by_next F coding base bound old s p end i (n - (i + 1)) h.bytes)

      -- no value is next
      pub halt : (m : Misread) → Err m ≡ next_at F coding base bound old s p end i
          → FilledAs (filled_at F coding base bound n old s at end) out₀ to (Err m) out
      halt m e = stopped (Err m) (rw (← e) at left)

      -- a value more
      pub next : (v q : ℕ) → Ok (v, q) ≡ next_at F coding base bound old s p end i
          → Filling F coding base bound s at end old out₀ to n (set out (to + i) v) q (i + 1)
      next v q e =
          let others : Filled = filled F coding base bound (n - (i + 1)) (drop (i + 1) old) (slice q end s) in
          let one : filled F coding base bound (n - i) (drop i old) (slice p end s) ≡ more v others = rw (← e) at left in
          let r : to + (i + 1) ≡ suc (to + i) = omega arith in
          record {
            count = omega arith;
            bytes = h.bytes;
            room = h.room;
            same = length-set out (to + i) v ∙ h.same;
            answer = sym (ap (λ (f : Filled). f.answer) one) ∙ h.answer;
            values = rw r (sym (ap (λ (f : Filled). sets out (to + i) f.values) one) ∙ h.values);
          }
