-- `cmaf_write_saiz::saiz::put_saio` meets its contract: the box as five words, by the law `saio-words`.
use Rattle.laws.proofs.WriteLaws.{wrote_as}
use Rattle.cmaf_write_saiz.proofs.SaizLaws.{saio-words}
use Rattle.cmaf_write_saiz.proofs.saiz.put_saio.Goals as goal

pub returns : goal.returns
returns c = wrote_as (saio-words _) c.put_words.ensures
