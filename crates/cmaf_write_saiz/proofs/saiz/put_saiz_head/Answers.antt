-- `cmaf_write_saiz::saiz::put_saiz_head` meets its contract: three words, a byte and a word.
use native.Mathlib.Omega.{arith}
use Rattle.laws.specs.Bytes.{be}
use Rattle.laws.proofs.WriteLaws.{then}
use Rattle.boxes.specs.Box.{words}
use Rattle.cmaf_write_saiz.proofs.saiz.put_saiz_head.Goals as goal

pub put_u8-b-requires : goal.put_u8-b-requires
unfolding be words
put_u8-b-requires c = omega arith

pub put_u32-requires : goal.put_u32-requires
unfolding be words
put_u32-requires c = omega arith

pub returns : goal.returns
returns c = then c.put_words-a.ensures (then c.put_u8-b.ensures c.put_u32.ensures)
