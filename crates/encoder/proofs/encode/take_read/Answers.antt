-- `encoder::encode::take_read` meets its contract, by the laws of `proofs/EncodeLaws.antt`.
use Rattle.std.proofs.lemmas.Result.{err_from_is_err_and}
use Rattle.refusal.specs.declared.Refusal.TheVariants.{NoObject}
use Rattle.laws.proofs.TestLaws.{all-bytes}
use Rattle.answers.proofs.AnsweredLaws.{refused_as, answered-on}
use Rattle.encoder.proofs.EncodeLaws.{chunk-stops, chunk-late, encodable, chunk-climbs}
use Rattle.encoder.proofs.encode.take_read.Goals as goal

pub returns-in_err-k : goal.returns-in_err-k
returns-in_err-k c =
    let a = c.args in
    let p = err_from_is_err_and c.from_residual.result c.from_residual.ensures.1 in
    rw (p.1, p.2)
    (refused_as _ (chunk-stops _ a.wish _ a.output.now _ _ c.requires.on_share c.requires.read_as _ c.in_err-k.was))

pub returns-then-x-gt-NUMBER : goal.returns-then-x-gt-NUMBER
returns-then-x-gt-NUMBER c =
    let a = c.args in
    refused_as NoObject
    (chunk-late _ a.wish _ a.output.now _ _ c.requires.on_share c.requires.read_as _ c.in_ok-k.was c.if-x-gt-NUMBER.true)

pub accept-requires : goal.accept-requires
accept-requires c =
    let a = c.args in
    encodable _ a.wish _ a.output.now _ _ c.requires.on_share c.requires.read_as _ c.in_ok-k.was
    (all-bytes a.c.now (λ n. (c.type_inv.c n).fits)) c.if-x-gt-NUMBER.false

pub returns : goal.returns
returns c =
    let a = c.args in
    answered-on c.accept.ensures
    (chunk-climbs _ a.wish _ a.output.now _ _ c.requires.on_share c.requires.read_as _ c.in_ok-k.was)
