-- `cmaf_write_senc::senc::put_entries` meets its contract: the entries left to be written are those from the sample i on, and j and the subsamples
-- of those samples are few. The loop goes by the words of an IV, so that what is left is said for every track that has as many.
use Prim.Native.Nat.{◌+◌, ◌-◌, ◌/◌, ◌≤◌}
use mathlib.Core.Path.{◌≡◌}
use lib.ListN.{length}
use Rattle.constants.specs.Maxima.{subsamples_most}
use Rattle.laws.proofs.LeftLaws.{Left}
use Rattle.cmaf_write_senc.specs.Protected.{senc_entries}
use Rattle.track.specs.declared.Track.{Track}
use Rattle.boxes.specs.Box.{flag_when}
use Rattle.field_set.specs.Lawful.{has}
use Rattle.field_set.proofs.ValueLaws.{pairs_left}
use Rattle.cmaf_write_senc.proofs.senc.put_entries.Given as goal

abbrev pub invariant-loop-i : goal.invariant-loop-i
invariant-loop-i l =
    (l.j + pairs_left l.w l.n l.i ≤ subsamples_most)
    × ((t : Track) → l.ivs ≡ flag_when (has 9 l.w) (t.iv_size / 8) → l.at + length (senc_entries t l.w l.n 0 0) ≤ length l.initial.out
    → Left l.initial.out l.at (senc_entries t l.w l.n 0 0) l.out l.p (senc_entries t l.w (l.n - l.i) l.i l.j))
