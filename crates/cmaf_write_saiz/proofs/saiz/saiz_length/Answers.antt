-- `cmaf_write_saiz::saiz::saiz_length` meets its contract, by the laws `saiz-length-same` and `saiz-length-other`.
use native.Mathlib.Omega.{arith}
use mathlib.Core.Path.{sym}
use Rattle.cmaf_write_saiz.proofs.SaizLaws.{saiz-length-same, saiz-length-other}
use Rattle.cmaf_write_saiz.proofs.saiz.saiz_length.Goals as goal

pub returns-then-all_sized : goal.returns-then-all_sized
returns-then-all_sized c = (sym (saiz-length-same _ _ c.info_size.ensures.0 c.all_sized.ensures c.if-all_sized.true), omega arith)

pub returns-else-all_sized : goal.returns-else-all_sized
returns-else-all_sized c = (sym (saiz-length-other _ _ c.info_size.ensures.0 c.all_sized.ensures c.if-all_sized.false), omega arith)
