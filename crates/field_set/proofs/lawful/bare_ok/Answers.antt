-- `field_set::lawful::bare_ok` meets its contract, by the laws of `proofs/BareLaws.antt`.
use Rattle.field_set.proofs.BareLaws.{bare-is}
use borrow.Author.Rules.{rules}
use Rattle.field_set.proofs.lawful.bare_ok.Goals as goal

pub returns : goal.returns
returns c =
    let p = c.requires in
    bare-is c.args.w.now p.n_value.2 c.args.t p.w_len.0 p.w_len.1 (search rules) _ c.bits.ensures _ p.n_value.0
