-- `cmaf_read_senc::entries::map_length` meets its contract, with subsamples and without.
use mathlib.Core.Path.{sym}
use borrow.Author.Tests.{not-true, not-false}
use Rattle.cmaf_read_senc.proofs.EntryLaws.{map-yes, map-no}
use Rattle.cmaf_read_senc.proofs.entries.map_length.Goals as goal

pub returns-then-not-e : goal.returns-then-not-e
returns-then-not-e c = let a = c.args in sym (map-no a.e a.pairs (not-true _ c.if-not-e.true))

pub returns : goal.returns
returns c = let a = c.args in sym (map-yes a.e a.pairs (not-false _ c.if-not-e.false))
