-- `cmaf_write_senc::senc::put_senc` meets its contract: four words and then the entries, by the law `senc-words`.
use native.Mathlib.Omega.{arith}
use Rattle.laws.specs.Bytes.{be}
use Rattle.laws.proofs.WriteLaws.{then, wrote_as, wrote-length}
use Rattle.boxes.specs.Box.{words}
use Rattle.cmaf_write_senc.proofs.SencLaws.{senc-parts, senc-words}
use Rattle.cmaf_write_senc.proofs.senc.put_senc.Goals as goal

pub put_words-a-requires : goal.put_words-a-requires
put_words-a-requires c = omega (arith, c.requires.w_in_bounds, senc-parts c.args.t c.args.w.now)

pub put_entries-requires : goal.put_entries-requires
unfolding be words
put_entries-requires c =
    let w = c.put_words-a.ensures in
    record { protectable = c.requires.protectable; w_in_bounds = omega (arith, c.requires.w_in_bounds, senc-parts c.args.t c.args.w.now, wrote-length w, w.place) }

pub returns : goal.returns
returns c =
    wrote_as
    (senc-words c.args.t c.args.w.now c.senc_length-size.ensures.0 c.with_pairs-flags.ensures.0)
    (then c.put_words-a.ensures c.put_entries.ensures)
