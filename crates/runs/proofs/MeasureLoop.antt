-- The loop of `measure`: the bytes that were counted, with those that are left to count, are the whole, and they fit 64 bits. Assumes nothing.
use Prim.Native.Nat.{ℕ, suc, ◌+◌, ◌*◌, ◌≤◌, ◌<◌}
use native.Mathlib.Nat.{add_assoc, zero-add, add-zero}
use native.Mathlib.Numerals.{add-one}
use native.Mathlib.Omega.{arith}
use mathlib.Core.Path.{◌≡◌, refl, sym, ◌∙◌, ap}
use mathlib.Core.List.{List}
use lib.ListN.{length, get_or, drop, drop_of_length-le}
use lib.Seq.{drop-cons}
use Rattle.wire.specs.declared.form.Row.{Row}
use Rattle.wire.specs.declared.zigzag.Coding.{Coding}
use Rattle.std.specs.Prelude.{Option, Some, None}
use Rattle.wire.specs.Varint.{size_of}
use Rattle.wire.specs.Zigzag.{code_of}
use Rattle.wire.proofs.FormLaws.{Lawful}
use Rattle.wire.proofs.VarintLaws.{size-short}
use Rattle.wire.proofs.ZigzagLaws.{coded-inv}
use Rattle.runs.specs.Run.{plus, measured}
use Rattle.runs.proofs.OldLaws.{first-drop, rest-drop}
use Rattle.runs.proofs.RunLaws.{measured-wide, measured-number}

plus-zero : (m : Option ℕ) → plus 0 m ≡ m
plus-zero (Some n) = ap Some (zero-add n)
plus-zero None = refl

plus-plus : (j k : ℕ) (m : Option ℕ) → plus j (plus k m) ≡ plus (j + k) m
plus-plus j k (Some n) = ap Some (sym (add_assoc j k n))
plus-plus j k None = refl

-- the bytes of i values are counted
pub record Measuring (F : List Row) (coding : Coding) (base : ℕ) (old new : List ℕ) (sum i : ℕ) : Type 0 where
  pub count : i ≤ length new
  pub few : sum ≤ 9 * i
  pub whole : plus sum (measured F coding base (drop i old) (drop i new)) ≡ measured F coding base old new

module _ (F : List Row) (coding : Coding) (base : ℕ) (old new : List ℕ) where
  -- of none
  pub start : Measuring F coding base old new 0 0
  start = record { count = omega arith; few = omega arith; whole = plus-zero (measured F coding base old new) }

  module _ (sum i : ℕ) (h : Measuring F coding base old new sum i) where
    -- of all
    pub end : length new ≤ i → Some sum ≡ measured F coding base old new
    unfolding measured
    end le = rw (drop_of_length-le new le, add-zero) at h.whole

    module _ (lt : i < length new) where
      -- a number too wide
      pub wide : code_of F coding (get_or old i base) (get_or new i 0) ≡ None → None ≡ measured F coding base old new
      wide e =
          let one : measured F coding base (drop i old) (drop i new) ≡ None =
          rw (drop-cons new i 0 lt)
          (measured-wide F coding base (drop i old) (drop (suc i) new) (get_or new i 0) (rw (first-drop old i base) e)) in
          rw one at h.whole

      module _ (w : Lawful 0 F) (z : ℕ) (e : code_of F coding (get_or old i base) (get_or new i 0) ≡ Some z) where
        -- a value more: its number is no longer than nine bytes
        pub short : size_of F z ≤ 9
        short = size-short F z w (coded-inv F coding (get_or old i base) (get_or new i 0) e).1

        pub next : Measuring F coding base old new (sum + size_of F z) (i + 1)
        next =
            let others : Option ℕ = measured F coding base (drop (i + 1) old) (drop (i + 1) new) in
            let one : measured F coding base (drop i old) (drop i new) ≡ plus (size_of F z) others =
            rw (drop-cons new i 0 lt, add-one)
            (measured-number F coding base (drop i old) (drop (suc i) new) (get_or new i 0) z (rw (first-drop old i base) e)
            ∙ rw (rest-drop old i)) in
            record {
              count = omega arith;
              few = omega (arith, h.few, short);
              whole = sym (plus-plus sum (size_of F z) others) ∙ sym (ap (plus sum) one) ∙ h.whole;
            }
