-- `cmaf_read_senc::entries::pairs_at` meets its contract, with subsamples and without.
use native.Mathlib.Omega.{arith}
use mathlib.Core.Path.{sym, ◌∙◌}
use borrow.Author.Tests.{not-true, not-false}
use Rattle.cmaf_read_senc.proofs.EntryLaws.{map-yes, pairs-yes, pairs-no}
use Rattle.cmaf_read_senc.proofs.entries.pairs_at.Goals as goal

pub returns-then-not-e : goal.returns-then-not-e
returns-then-not-e c = let a = c.args in (sym (pairs-no a.c.now a.e a.at (not-true _ c.if-not-e.true)), omega arith)

pub u16_at-requires : goal.u16_at-requires
u16_at-requires c = omega (arith, c.requires, map-yes c.args.e 0 (not-false _ c.if-not-e.false))

pub returns : goal.returns
returns c =
    let a = c.args in
    (c.u16_at.ensures.0 ∙ sym (pairs-yes a.c.now a.e a.at (not-false _ c.if-not-e.false)), c.u16_at.ensures.1)
