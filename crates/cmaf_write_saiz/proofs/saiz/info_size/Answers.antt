-- `cmaf_write_saiz::saiz::info_size` meets its contract: an IV, and the subsamples after their count.
use Prim.Native.Nat.{◌+◌}
use native.Mathlib.Omega.{arith}
use mathlib.Core.Path.{◌≡◌}
use Rattle.cmaf_write_senc.proofs.PairLaws.{pairs_small}
use Rattle.cmaf_write_saiz.specs.Saiz.{info_size}
use Rattle.cmaf_write_saiz.proofs.InfoLaws.{info-pairs, info-small}
use Rattle.cmaf_write_saiz.proofs.saiz.info_size.Goals as goal

pub pairs_of-k-requires : goal.pairs_of-k-requires
pairs_of-k-requires c = (c.requires.protectable.long, omega (arith, c.requires.protectable.few, c.requires.i_bound))

pub overflow_mul-k : goal.overflow_mul-k
overflow_mul-k c = omega (arith, pairs_small c.requires.protectable c.args.i c.requires.i_bound c.pairs_of-k.ensures)

pub overflow_add-k : goal.overflow_add-k
overflow_add-k c = omega (arith, pairs_small c.requires.protectable c.args.i c.requires.i_bound c.pairs_of-k.ensures)

pub overflow_add-result : goal.overflow_add-result
overflow_add-result c = omega (arith, c.requires.protectable.iv, pairs_small c.requires.protectable c.args.i c.requires.i_bound c.pairs_of-k.ensures)

pub returns : goal.returns
returns c =
    let a = c.args in
    let e : a.t.iv_size + c.with_pairs.result ≡ info_size a.t a.w.now a.i =
    rw c.with_pairs.ensures.0 (info-pairs c.requires.protectable a.i c.requires.i_bound c.pairs_of-k.ensures) in
    (e, omega (arith, e, info-small c.requires.protectable a.i c.requires.i_bound))
