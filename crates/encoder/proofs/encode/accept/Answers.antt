-- `encoder::encode::accept` meets its contract, by the laws of `proofs/WriteLaws.antt`.
use mathlib.Core.Path.{refl}
use Rattle.refusal.specs.declared.Refusal.TheVariants.{NoObject, NoRoom}
use Rattle.encoder.proofs.GivenLaws.{behind}
use Rattle.encoder.proofs.FrontLaws.{planned-sendable}
use Rattle.answers.proofs.AnsweredLaws.{refused_as}
use Rattle.encoder.proofs.WriteLaws.{unfit, room, short, done-is}
use Rattle.encoder.proofs.encode.accept.Goals as goal

pub follows-follow-requires : goal.follows-follow-requires
follows-follow-requires c = (c.requires.on-share.share, behind c.requires)

pub choose-requires : goal.choose-requires
choose-requires c = record { read_of_one = (c.args.c.now, c.requires); leaves = (c.follows-follow.ensures, refl) }

pub returns-in_default : goal.returns-in_default
returns-in_default c =
    let a = c.args in
    refused_as NoObject
    (unfit a.form _ _ _ _ _ _ c.requires a.wish a.output.now (rw c.in_default.is at (c.choose.ensures.0 _ c.requires)))

pub front_length-requires : goal.front_length-requires
front_length-requires c = (rw c.in-Some.is at (c.choose.ensures.0 _ c.requires)).plan.small

pub returns-then-output-front_length : goal.returns-then-output-front_length
returns-then-output-front_length c =
    let a = c.args in
    refused_as NoRoom
    (short a.form _ _ _ _ _ _ c.requires a.wish a.output.now _ (rw c.in-Some.is at (c.choose.ensures.0 _ c.requires)) _
    c.front_length.ensures c.if-output-front_length.true)

pub write-requires : goal.write-requires
write-requires c =
    let a = c.args in
    let p = rw c.in-Some.is at c.choose.ensures in
    let q = p.0 _ c.requires in
    record {
      encodable = c.requires;
      sendable = planned-sendable a.form q.plan;
      leaves = p.1;
      kept = p.2;
      delta_in_bounds = room a.form _ _ _ _ _ _ c.requires a.wish a.output.now _ q _ c.front_length.ensures _ c.if-output-front_length.false;
    }

pub returns : goal.returns
returns c =
    let a = c.args in
    done-is a.form _ _ _ _ _ _ c.requires a.wish a.output.now _ (rw c.in-Some.is at (c.choose.ensures.0 _ c.requires)) _ c.front_length.ensures
    c.if-output-front_length.false c.write.ensures
