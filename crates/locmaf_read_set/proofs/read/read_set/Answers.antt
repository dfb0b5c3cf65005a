-- `locmaf_read_set::read::read_set` meets its contract, by the laws of `proofs/OrderLaws.antt`.
use native.Mathlib.Omega.{arith}
use mathlib.Core.Path.{◌≡◌, sym, ◌∙◌, ap}
use Rattle.std.proofs.lemmas.Result.{err_from_is_err_and}
use Rattle.refusal.specs.declared.Refusal.TheVariants.{OutOfRange}
use Rattle.locmaf_read_set.proofs.OrderLaws.{refuse-deletions, refuse-count, found-few, found-count, readable, read-on, words-start-at}
use Rattle.field_table.proofs.LineLaws.{zeros-long}
use mathlib.Core.Bool.{not}
use Rattle.locmaf_read_set.proofs.read.read_set.Goals as goal

pub returns-then-not-mark : goal.returns-then-not-mark
returns-then-not-mark c =
    let p = c.requires in
    refuse-deletions _ _ _ _ _ _ c.mark.ensures (ap not c.if-not-mark.true) _ p.r_len.3

pub returns-in_err-n : goal.returns-in_err-n
returns-in_err-n c =
    let p = c.requires in
    let q = err_from_is_err_and c.from_residual.result c.from_residual.ensures.1 in
    let k : c.in_err-n.field-0.0 ≡ OutOfRange = grind (arith, c.in_err-n.ensures.value, c.in_err-n.ensures.ok_part) in
    rw (q.1, q.2, k)
    (refuse-count _ _ _ _ _ _ _ c.base_of-a.ensures _ c.count_of.ensures p.r_len.0 p.r_len.1 p.r_len.2
    c.in_err-n.ensures.ok_part _ _ c.mark.ensures (ap not c.if-not-mark.false) _ p.r_len.3)

pub bounds-x-1 : goal.bounds-x-1
bounds-x-1 c = omega (arith, zeros-long c.requires.r_len.3)

pub take_fields-requires : goal.take_fields-requires
take_fields-requires c =
    let p = c.requires in
    let en = c.in_ok-n.ensures.ok_part in record {
      readable = readable _ _ _ _ _ _ _ c.base_of-a.ensures _ c.count_of.ensures p.r_len.0 p.r_len.1 p.r_len.2 _ en p.telling _ _ c.mark.ensures (ap not c.if-not-mark.false);
      n_le_samples_most = (
        found-few _ _ _ _ c.base_of-a.ensures p.r_len.1 p.r_len.2 _ _ c.count_of.ensures _ en,
        found-count _ _ _ _ _ _ _ c.base_of-a.ensures _ c.count_of.ensures p.r_len.0 p.r_len.1 p.r_len.2 _ en,
        words-start-at _ _ p.r_len.3,
      );
    }

pub shape_of-x : goal.shape_of-x
shape_of-x c = c.take_fields.ensures.long ∙ sym (zeros-long c.requires.r_len.3)

pub returns : goal.returns
returns c =
    let p = c.requires in
    read-on _ _ _ _ _ _ _ c.base_of-a.ensures _ c.count_of.ensures p.r_len.0 p.r_len.1 p.r_len.2 _ c.in_ok-n.ensures.ok_part
    _ _ c.mark.ensures (ap not c.if-not-mark.false) _ _ c.take_fields.ensures
