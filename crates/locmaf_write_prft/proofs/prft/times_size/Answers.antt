-- `locmaf_write_prft::prft::times_size` meets its contract: without a `prft` nothing is weighed, with one both ids.
use native.Mathlib.Omega.{arith}
use mathlib.Core.Path.{sym}
use Rattle.locmaf_write_tuples.proofs.ItemLaws.{made-is, weighed-nothing, weighed-as, weighed-both}
use Rattle.locmaf_write_prft.proofs.TimeLaws.{no-times, times-are}
use Rattle.locmaf_write_prft.proofs.prft.times_size.Goals as goal

pub returns-then-not-p : goal.returns-then-not-p
returns-then-not-p c = weighed-as (sym (no-times _ _ _ _ c.if-not-p.true)) weighed-nothing

pub number_size-a-requires : goal.number_size-a-requires
number_size-a-requires c = (omega arith, made-is _ _ _ _ _ c.ntp_number-n.ensures)

pub number_size-b-requires : goal.number_size-b-requires
number_size-b-requires c = (omega arith, made-is _ _ _ _ _ c.media_number-m.ensures)

pub returns : goal.returns
returns c =
    weighed-as (times-are _ _ _ _ c.if-not-p.false c.ntp_number-n.ensures c.media_number-m.ensures)
    (weighed-both c.number_size-a.ensures c.number_size-b.ensures c.both.ensures)
