-- The sizes that a set gives its samples, one after another, add up to the payload, if they pass the test that the receiver puts to them. Assumes nothing.
use Prim.Native.Nat.{ℕ, zero, suc, ◌≤◌}
use native.Mathlib.Nat.{zero-add}
use mathlib.Core.Path.{◌≡◌, refl, ◌∙◌}
use mathlib.Core.Bool.{true}
use mathlib.Core.List.{List}
use lib.ListN.{length}
use Rattle.constants.specs.Maxima.{samples_most, payload_most}
use Rattle.laws.specs.Tests.{sum}
use Rattle.track.specs.declared.Track.{Track}
use Rattle.field_table.specs.Lines.{set_len}
use Rattle.field_set.specs.Lawful.{count_in}
use Rattle.effective.specs.Sizes.{size_of}
use Rattle.cmaf_read_trun.specs.Samples.{each_from}
use Rattle.cmaf_read_trun.proofs.EachLaws.{sum-last}
use Rattle.effective.specs.Sums.{sizes_ok}
use Rattle.effective.proofs.SizesAdd.{sizes_before, sizes-add as before-add}

each-before : (t : Track) (w : List ℕ) (payload n : ℕ) → sum (each_from (size_of t w payload) n 0) ≡ sizes_before t w payload n
unfolding each_from sum sizes_before
each-before t w payload zero = refl
each-before t w payload (suc k) = sum-last (size_of t w payload) k 0 ∙ rw (each-before t w payload k, zero-add k)

pub sizes-add : (t : Track) (w : List ℕ) (payload : ℕ) → length w ≡ set_len → count_in w ≤ samples_most → payload ≤ payload_most → sizes_ok t w payload ≡ true
    → sum (each_from (size_of t w payload) (count_in w) 0) ≡ payload
sizes-add t w payload long few short ok = each-before t w payload (count_in w) ∙ before-add t w payload long few short ok
