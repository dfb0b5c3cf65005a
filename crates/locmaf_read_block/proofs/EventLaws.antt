-- What the records of a list hold is the same wherever the list stands. Assumes nothing.
use Prim.Native.Nat.{ℕ, ◌+◌, ◌≤◌}
use native.Mathlib.Omega.{arith}
use mathlib.Core.Path.{◌≡◌, refl, sym, ◌∙◌, ap, subst}
use mathlib.Core.List.{List, [], ◌∷◌, map}
use Rattle.std.specs.Prelude.{Option, Some, None, option_map}
use lib.ListN.{length}
use lib.Seq.{slice, length-slice}
use Rattle.wire.specs.declared.form.Row.{Row}
use Rattle.locmaf_read_block.specs.declared.records.Record.{Record}
use Rattle.locmaf_read_block.specs.Records.{records_f, moved}
use Rattle.locmaf_read_block.specs.Events.{event_of, events_f}
use Rattle.laws.specs.Each.{AllOf}
use Rattle.locmaf_read_block.proofs.MovedLaws.{records-moved, part_moved}
use Rattle.locmaf_read_block.proofs.RecordRuns.{Lies, records-lie}

module _ (s : List ℕ) (base n : ℕ) (h : base + n ≤ length s) where
  event-moved : (r : Record) → Lies 0 n r → event_of s (moved base r) ≡ event_of (slice base (base + n) s) r
  unfolding event_of moved
  event-moved r l =
      rw (part_moved s base n r.scheme l.scheme.1 h, part_moved s base n r.value l.value.1 h, part_moved s base n r.message l.message.1 h)

  events-moved : (rs : List Record) → AllOf (Lies 0 n) rs → map (event_of s) (map (moved base) rs) ≡ map (event_of (slice base (base + n) s)) rs
  events-moved [] a = refl
  events-moved (r ∷ rs) a = λ j. event-moved r a.0 j ∷ events-moved rs a.1 j

-- the records that were read in a block hold the events of their list
pub events-at : (F : List Row) (s : List ℕ) (base n : ℕ) (rs : List Record) → base + n ≤ length s
    → records_f F base (slice base (base + n) s) ≡ Some rs → events_f F (slice base (base + n) s) ≡ Some (map (event_of s) rs)
unfolding events_f
events-at F s base n rs h e = go (records_f F 0 bs) refl (sym (records-moved F base bs) ∙ e)
  where
    bs : List ℕ
    bs = slice base (base + n) s

    inside : (us : List Record) → records_f F 0 bs ≡ Some us → AllOf (Lies 0 n) us
    inside us q =
        let l : 0 + length bs ≡ n = omega (arith, length-slice base (base + n) s h) in
        subst (λ (m : ℕ). AllOf (Lies 0 m) us) l (records-lie F 0 bs us q)

    go : (o : Option (List Record)) → records_f F 0 bs ≡ o → option_map (map (moved base)) o ≡ Some rs → option_map (map (event_of bs)) o ≡ Some (map (event_of s) rs)
    go (Some us) q d =
        let x : map (moved base) us ≡ rs = cc in
        ap Some (sym (events-moved s base n h us (inside us q)) ∙ ap (map (event_of s)) x)
    go None q d = cc
