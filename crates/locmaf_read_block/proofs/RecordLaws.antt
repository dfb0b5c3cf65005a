-- Laws of what stands in a record: what the tests of `text_at` and `marks_at` say of it, and a record by its two names. Assumes nothing.
use Prim.Native.Nat.{ℕ, ◌+◌, ◌-◌, ◌≤◌, ◌<◌}
use native.Mathlib.Omega.{arith}
use mathlib.Core.Path.{◌≡◌, refl}
use mathlib.Core.List.{List}
use borrow.Author.Tests.{le-leb, lt-leb}
use lib.ListN.{length, drop}
use Rattle.laws.proofs.SliceLaws.{slice-to-end}
use Rattle.wire.specs.declared.form.Row.{Row}
use Rattle.locmaf_read_block.specs.declared.records.Record.{Record}
use Rattle.std.specs.Prelude.{Option, Some, None}
use Rattle.wire.specs.Varint.{read_f, read_at}
use Rattle.wire.proofs.Reading.{cut-inv}
use Rattle.byte_parts.specs.declared.Part.{Part}
use Rattle.locmaf_read_block.specs.Tuples.{part}
use Rattle.locmaf_read_block.specs.Records.{on_names, number, text_at, names_at, marks_at, record_of, record_f}
use Rattle.locmaf_read_block.proofs.ReadLaws.{Found}
use Rattle.locmaf_read_block.specs.Front.{on_read}

module _ (F : List Row) (s : List ℕ) (q : ℕ) where
  -- there is no varint
  pub number-none : {A : Type 0} (f : ℕ → ℕ → A) (z : A) → None ≡ read_at F s q (length s) → z ≡ number F q s f z
  unfolding number
  number-none f z e =
      let r : read_f F (drop q s) ≡ None = rw (slice-to-end q (length s) s refl) at (cut-inv F s q (length s) (omega arith) e) in
      rw r

  -- there is one
  pub number_is : {A : Type 0} {v p : ℕ} (f : ℕ → ℕ → A) (z : A) {o : A} → Found F s q (length s) v p → o ≡ f v p → o ≡ number F q s f z
  unfolding number
  number_is {A} {v} {p} f z {o} i h =
      let r : read_f F (drop q s) ≡ Some (v, i.size) = rw (slice-to-end q (length s) s refl) at i.read in
      rw (r, ← i.place) h

module _ (F : List Row) (base q : ℕ) (s : List ℕ) where
  pub text-none : None ≡ read_at F s q (length s) → None ≡ text_at F base q s
  unfolding text_at
  text-none e = number-none F s q _ None e

  module _ (n p : ℕ) (i : Found F s q (length s) n p) where
    -- a length past the end
    pub text-long : length s - p < n → None ≡ text_at F base q s
    unfolding text_at
    text-long h = number_is F s q _ None i (rw (lt-leb _ _ h))

    -- a length and its bytes
    pub text-is : n ≤ length s - p → Some (part (base + p) n, p + n) ≡ text_at F base q s
    unfolding text_at
    text-is h = number_is F s q _ None i (rw (le-leb _ _ h))

module _ (F : List Row) (base : ℕ) (s : List ℕ) where
  -- what follows the two names
  abbrev pub behind : Part → Part → ℕ → Option (Record × ℕ)
  behind scheme value b =
      on_read (marks_at F b s)
      (λ m c. on_read (text_at F base c s) (λ message d. Some (record_of scheme value m message, d)) None)
      None

  pub record-named : record_f F base s ≡ on_names (names_at F base s) behind None
  unfolding record_f names_at
  record-named = first (text_at F base 0 s)
    where
      second : (scheme : Part) (t : Option (Part × ℕ))
          → on_read t (λ value b. behind scheme value b) None ≡ on_names (on_read t (λ value b. Some (scheme, value, b)) None) behind None
      second scheme (Some (value, b)) = refl
      second scheme None = refl

      first : (t : Option (Part × ℕ))
          → on_read t (λ scheme a. on_read (text_at F base a s) (λ value b. behind scheme value b) None) None
          ≡ on_names (on_read t (λ scheme a. on_read (text_at F base a s) (λ value b. Some (scheme, value, b)) None) None) behind None
      first (Some (scheme, a)) = second scheme (text_at F base a s)
      first None = refl
