-- What a call of `take` is lent for a line of the table, with lengths that keep the maxima and a lawful reference. Assumes nothing.
use Prim.Native.Nat.{ℕ, ◌≤◌, ◌<◌}
use native.Mathlib.Omega.{arith}
use mathlib.Core.Path.{◌≡◌}
use mathlib.Core.Bool.{Bool, true, false, not}
use mathlib.Core.List.{List}
use borrow.Author.Tests.{not-true, eqb-false}
use lib.Dec.{eqb}
use lib.ListN.{length, get_or}
use Rattle.laws.proofs.TestLaws.{and_left, and_right}
use Rattle.field_table.specs.declared.lines.Line.{Line}
use Rattle.field_table.specs.declared.lines.Measure.{Measure}
use Rattle.field_table.specs.Lines.{lines, spare, set_len, wanted, Small, line_count}
use Rattle.field_set.specs.Lawful.{region_ok, in_use}
use Rattle.field_table.proofs.LineLaws.{shaped}
use Rattle.field_set.proofs.RegionLaws.{used}
use Rattle.field_set.proofs.LawfulLaws.{region-facts}
use Rattle.field_rules.specs.Fields.{stood}
use Rattle.locmaf_read_field.specs.Cells.{Takeable}
use Rattle.field_rules.proofs.RoomLaws.{wanted_room}

-- the values of a field that stood have room, since the region is lawful
kept-room : (held : Bool) (r : List ℕ) (was : Measure) (l : Line) → (held ≡ true → region_ok was l r ≡ true) → stood held r l ≡ true
    → wanted l.want was ≤ l.room
kept-room held r was l h e =
    let f = region-facts was l r (h (and_left _ _ e)) in
    let n : not (eqb (get_or r l.place 0) 0) ≡ true = and_right held _ e in
    let d : eqb (get_or r l.place 0) 0 ≡ false = not-true (eqb (get_or r l.place 0) 0) n in
    let u : wanted l.want was ≡ in_use (get_or r l.place 0) (wanted l.want was) = used _ _ (eqb-false _ _ d) in
    omega (arith, f.room)

pub takeable : (i : ℕ) → i < line_count → (held : Bool) (r x : List ℕ) (was m : Measure) → length r ≡ set_len → length x ≡ set_len → Small was → Small m → m.sum ≤ 256
    → (held ≡ true → region_ok was (get_or lines i spare) r ≡ true) → Takeable (get_or lines i spare) held r x was m
takeable i lt held r x was m er ex old new s h =
    let f = shaped i lt in
    record {
      there = omega (arith, f.inside);
      here = omega (arith, f.inside);
      single = f.single;
      old = old;
      new = new;
      room = wanted_room i lt m new s;
      kept = kept-room held r was (get_or lines i spare) h;
    }
