-- Laws of what `weigh` finds in a tuple. Assumes nothing.
use Prim.Native.Nat.{ℕ, ◌+◌, ◌-◌, ◌≤◌}
use native.Mathlib.Nat.{add-sub_cancel_left}
use native.Mathlib.Omega.{arith}
use mathlib.Core.Path.{◌≡◌, ◌∙◌, ap}
use mathlib.Core.List.{List}
use lib.ListN.{length, take, drop}
use lib.Seq.{length-slice}
use Rattle.laws.proofs.SliceLaws.{slice-lent}
use Rattle.wire.specs.declared.form.Row.{Row}
use Rattle.byte_parts.specs.declared.Part.{Part}
use Rattle.locmaf_read_block.specs.declared.tuples.Kind.{Kind}
use Rattle.locmaf_read_block.specs.declared.tuples.Kind.TheVariants.{Records}
use Rattle.std.specs.Prelude.{Option}
use Rattle.locmaf_read_block.specs.Records.{records_run, ListedAs}
use Rattle.locmaf_read_block.specs.Tuples.{bytes_of}
use Rattle.locmaf_read_index.specs.Index.{weighed, heard, Weighable}
use Rattle.locmaf_read_block.proofs.NumberLaws.{plus-zero}

-- what is lent for the kind that was found
pub of-kind : {s : List ℕ} {k k' : Kind} {events : List ℕ} → k ≡ k' → Weighable s k events → Weighable s k' events
of-kind e h = rw e at h

-- how many bytes a part has that is lent
pub part_length : (a n : ℕ) (s : List ℕ) → a + n ≤ length s → length (take (a + n - a) (drop a s)) ≡ n
part_length a n s h =
    ap length (slice-lent a (a + n) s (omega arith) h) ∙ length-slice a (a + n) s h ∙ add-sub_cancel_left a n

-- what the list reader says of the records of a part
pub records-weighed : (F : List Row) (s : List ℕ) (p : Part) (before : List ℕ) (r : Option ℕ) (after : List ℕ) → p.at + p.len ≤ length s
    → ListedAs (records_run F p.at (take (p.at + p.len - p.at) (drop p.at s))) 0 before r after
    → (r ≡ weighed F s (Records p)) × (after ≡ heard F s (Records p) before)
unfolding weighed heard
records-weighed F s p before r after h l =
    let m : ListedAs (records_run F p.at (bytes_of s p)) 0 before r after =
    rw (slice-lent p.at (p.at + p.len) s (omega arith) h) at l in
    (m.answered ∙ plus-zero _, m.stored)
