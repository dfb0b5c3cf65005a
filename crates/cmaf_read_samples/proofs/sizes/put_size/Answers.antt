-- `cmaf_read_samples::sizes::put_size` meets its contract, by the laws of `proofs/SizeLaws.antt`.
use native.Mathlib.Omega.{arith}
use mathlib.Core.Bool.{not}
use Rattle.cmaf_read_samples.proofs.SizeLaws.{several, size_none, size-stored}
use Rattle.cmaf_read_samples.proofs.sizes.put_size.Goals as goal

pub returns-then-r-equal : goal.returns-then-r-equal
returns-then-r-equal c =
    let a = c.args in
    size_none a.c.now a.r a.default a.equal a.x.now a.t.size c.if-r-equal.true

pub size_at-size-requires : goal.size_at-size-requires
size_at-size-requires c = record { rows_in = c.requires.sized.0; default_bound = c.requires.sized.2; i_lt_count = omega (arith, several c.args.r.count (not c.args.equal) c.if-r-equal.false) }

pub returns : goal.returns
returns c =
    let a = c.args in
    size-stored a.c.now a.r a.default a.equal a.x.now a.t.size c.if-r-equal.false c.size_at-size.ensures.0 c.put_one.ensures
