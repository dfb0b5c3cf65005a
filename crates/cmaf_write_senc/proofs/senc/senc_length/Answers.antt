-- `cmaf_write_senc::senc::senc_length` meets its contract, by the law `senc-length`.
use Prim.Native.Nat.{◌+◌, ◌*◌, ◌≤◌}
use native.Mathlib.Omega.{arith}
use mathlib.Core.Path.{sym}
use Rattle.field_set.specs.Lawful.{count_in}
use Rattle.cmaf_write_senc.proofs.SencLaws.{heads-small, senc-length}
use Rattle.cmaf_write_senc.proofs.senc.senc_length.Goals as goal

-- the heads of all entries
small : (c : goal.After-with_pairs) → let a = c.args in
    count_in a.w.now * (8 * c.iv_words.result + c.with_pairs.result) ≤ 1152
small c = heads-small c.requires.few (omega arith)

-- the heads of all entries
small-2 : (c : goal.After-pairs) → let a = c.args in
    count_in a.w.now * (8 * c.iv_words.result + c.with_pairs.result) ≤ 1152
small-2 c = heads-small c.requires.few (omega arith)

pub overflow_mul-result : goal.overflow_mul-result
overflow_mul-result c = omega (arith, small c)

pub pairs-requires : goal.pairs-requires
pairs-requires c = let p = c.requires in record { w_len = (p.long, p.few); w_bound = p.pairs }

pub overflow_add-result : goal.overflow_add-result
overflow_add-result c = omega (arith, small-2 c)

pub overflow_add-result-2 : goal.overflow_add-result-2
overflow_add-result-2 c = omega (arith, small-2 c)

pub returns : goal.returns
returns c = (
  rw (c.iv_words.ensures.0, c.with_pairs.ensures.0, c.pairs.ensures) (sym (senc-length c.args.t c.args.w.now c.requires.long c.requires.few)),
  omega (arith, small-2 c),
)
