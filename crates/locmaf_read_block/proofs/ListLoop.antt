-- The rest of a list of records, behind one or behind all that the walk has passed: what is kept, with what is left, is the whole. Assumes nothing.
use Prim.Native.Nat.{ℕ, ◌+◌, ◌≤◌, ◌<◌}
use native.Mathlib.Nat.{add_assoc, add-zero}
use native.Mathlib.Omega.{arith}
use mathlib.Core.Path.{◌≡◌, ◌∙◌}
use mathlib.Core.List.{List}
use lib.ListN.{length, drop, length-drop}
use lib.Seq.{drop-drop}
use Rattle.wire.specs.declared.form.Row.{Row}
use Rattle.std.specs.Prelude.{Option, Some, None}
use Rattle.locmaf_read_block.specs.declared.records.Record.{Record}
use Rattle.locmaf_read_block.specs.Records.{record_f, records_run, kept, Listable, ListedAs}
use Rattle.locmaf_read_block.proofs.RecordSpans.{record-spans}
use Rattle.locmaf_read_block.proofs.KeptLaws.{list-none, list-cut, list-more}

-- what is lent for the rest behind a record
pub rest-lent : (F : List Row) {base n : ℕ} {s out after : List ℕ} {r : Record} {k : ℕ} → Listable s base n out → record_f F base s ≡ Some (r, k)
    → length after ≡ length out → Listable (drop k s) (base + k) (n + 1) after
rest-lent F {base} {n} {s} {out} {after} {r} {k} h e l =
    let z = record-spans F base s r k e in
    let d = length-drop k s in
    record { block = omega arith; places = omega arith; room = l ∙ h.room }

-- what is left at a place of the walk, from the words as they are now, is listed as the whole list from the words as they were
pub record Walking (F : List Row) (base n : ℕ) (s before out : List ℕ) (at count : ℕ) : Type 0 where
  pub within : at ≤ length s
  pub lent : Listable (drop at s) (base + at) count out
  pub whole : (a : Option ℕ) (after : List ℕ) → ListedAs (records_run F (base + at) (drop at s)) count out a after
      → ListedAs (records_run F base s) n before a after

module _ (F : List Row) (base n : ℕ) (s before : List ℕ) where
  -- nothing is passed yet
  pub start : Listable s base n before → Walking F base n s before before 0 n
  start h = record { within = omega arith; lent = rw add-zero h; whole = λ a after l. rw add-zero at l }

  module _ {out : List ℕ} {at count : ℕ} (i : Walking F base n s before out at count) where
    -- no bytes remain
    pub done : length s ≤ at → ListedAs (records_run F base s) n before (Some count) out
    done h = i.whole _ _ (list-none F (base + at) count (drop at s) out (omega (arith, length-drop at s)))

    -- the record at the place is cut
    pub cut : at < length s → record_f F (base + at) (drop at s) ≡ None → ListedAs (records_run F base s) n before None out
    cut h e = i.whole _ _ (list-cut F (base + at) count (drop at s) out (λ z. omega (arith, length-drop at s)) e)

    -- a record takes some of what is left
    pub takes : {r : Record} {k : ℕ} → record_f F (base + at) (drop at s) ≡ Some (r, k) → (0 < k) × (at + k ≤ length s)
    takes e =
        let z = record-spans F (base + at) (drop at s) _ _ e in
        let d = length-drop at s in
        (omega arith, omega (arith, i.within))

    -- and is passed
    pub next : {r : Record} {k : ℕ} {after : List ℕ} → record_f F (base + at) (drop at s) ≡ Some (r, k) → after ≡ kept out count r
        → length after ≡ length out → Walking F base n s before after (at + k) (count + 1)
    next {r} {k} {after} e f l =
        record {
          within = (takes e).1;
          lent = rw (← drop-drop, ← add_assoc) (rest-lent F i.lent e l);
          whole = λ a last m. i.whole a last (list-more F (base + at) count (drop at s) out r k a last e (rw (← drop-drop, ← add_assoc, f) at m));
        }
