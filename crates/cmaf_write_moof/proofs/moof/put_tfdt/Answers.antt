-- `cmaf_write_moof::moof::put_tfdt` meets its contract.
use native.Mathlib.Omega.{arith}
use Rattle.laws.proofs.WriteLaws.{wrote_as}
use Rattle.cmaf_write_moof.proofs.MoofLaws.{tfdt-words, tfdt-length}
use Rattle.cmaf_write_moof.proofs.moof.put_tfdt.Goals as goal

pub put_words-requires : goal.put_words-requires
put_words-requires c = omega (arith, c.requires.w_in_bounds, tfdt-length c.args.w.now)

pub returns : goal.returns
returns c = wrote_as (tfdt-words c.args.w.now) c.put_words.ensures
