-- `encoder::encode::take_share` meets its contract, by the laws of `proofs/EncodeLaws.antt`.
use Rattle.std.proofs.lemmas.Result.{err_from_is_err_and}
use Rattle.wire.specs.Form.{rows}
use Rattle.answers.proofs.AnsweredLaws.{refused_as, answered-on}
use Rattle.encoder.proofs.EncodeLaws.{share-shut, track-lawful, share-open, on-share-is}
use Rattle.encoder.proofs.encode.take_share.Goals as goal

pub returns-in_err-open_in : goal.returns-in_err-open_in
returns-in_err-open_in c =
    let a = c.args in
    let p = err_from_is_err_and c.from_residual.result c.from_residual.ensures.1 in
    rw (p.1, p.2)
    (refused_as _ (share-shut (rows a.form) a.wish a.c.now a.output.now a.s.now c.in_err-open_in.ensures))

pub track_of-t-requires : goal.track_of-t-requires
track_of-t-requires c =
    let a = c.args in
    (c.requires, track-lawful (rows a.form) a.wish a.c.now a.output.now a.s.now c.in_ok-open_in.ensures)

pub take_chunk-requires : goal.take_chunk-requires
take_chunk-requires c =
    let a = c.args in
    on-share-is (rows a.form) a.wish a.c.now a.output.now a.s.now c.in_ok-open_in.ensures c.requires _ c.track_of-t.ensures

pub returns : goal.returns
returns c =
    let a = c.args in
    answered-on c.take_chunk.ensures
    (share-open (rows a.form) a.wish a.c.now a.output.now a.s.now c.in_ok-open_in.ensures)
