-- `encoder::front::choose` meets its contract: a delta where it may and can be, else a full object.
use mathlib.Core.Path.{◌≡◌, refl, sym, ◌∙◌}
use mathlib.Core.Bool.{false, false≢true}
use Rattle.wire.specs.Form.{rows}
use Rattle.encoder.specs.Object.{gives_delta}
use Rattle.encoder.proofs.GivenLaws.{bmdt-small}
use Rattle.encoder.proofs.FrontLaws.{may-held, may-wished, may-so, gives-not-may, gives-not-can, planned-delta, planned-full, planned-none}
use Rattle.encoder.proofs.front.choose.Goals as goal
use Rattle.encoder.proofs.front.choose.Goals.{then-may_delta+in_default, else-may_delta}

pub may_delta-requires : goal.may_delta-requires
may_delta-requires c = c.requires.read_of_one.1.on-share.share

pub block_size-d-requires : goal.block_size-d-requires
block_size-d-requires c =
    let n = c.requires in
    let m = may-so _ n.read_of_one.1 c.may_delta.ensures ∙ c.if-may_delta.true in
    record {
      read_of_one = n.read_of_one;
      held = ((λ d. may-held (rows c.args.form) _ _ _ m), n.leaves.0 (may-wished _ _ _ m), n.leaves.1);
    }

pub returns-in-Some : goal.returns-in-Some
returns-in-Some c =
    let p = c.block_size-d.ensures in
    let may = c.may_delta.ensures in
    let yes = c.if-may_delta.true in (
      λ o h. planned-delta _ _ _ _ (bmdt-small h) (may-so _ h may ∙ yes) (p.0 o h) c.in-Some.is,
      c.requires.leaves.0 (may-wished _ _ _ (may-so _ c.requires.read_of_one.1 may ∙ yes)),
      p.1,
    )

pub shape_of-kept-in-Some : goal.shape_of-kept-in-Some
shape_of-kept-in-Some c = c.block_size-d.ensures.1.fields.lines.long ∙ sym c.requires.leaves.1

-- what was kept for a delta that doesn't fit has the length of what was lent
pub block_size-requires : goal.block_size-requires
block_size-requires c =
    record {
      read_of_one = c.requires.read_of_one;
      held = ((λ d. absurd (false≢true d)), (λ payload. refl), c.if-may_delta.auto.kept ∙ c.requires.leaves.1);
    }

-- where no delta was planned none is given

pub returns-in_err-block : goal.returns-in_err-block
returns-in_err-block c =
    let a = c.args in
    let p = c.block_size.ensures in
    rw c.from_residual.ensures (
      λ o h.
          let none : gives_delta (rows a.form) a.s.now o a.wish ≡ false =
          elim c.if-may_delta.branch [
            | then-may_delta+in_default w ↦ gives-not-can _ _ _ _ (w.block_size-d.ensures.0 o h) w.in_default.is
            | else-may_delta w ↦ gives-not-may _ _ _ _ (may-so _ h c.may_delta.ensures ∙ w.if-may_delta.false)
          ] in
          planned-none _ _ _ _ (bmdt-small h) none (p.0 o h) c.in_err-block.was,
      λ payload. refl,
      p.1,
    )

pub returns : goal.returns
returns c =
    let a = c.args in
    let p = c.block_size.ensures in (
      λ o h.
          let none : gives_delta (rows a.form) a.s.now o a.wish ≡ false =
          elim c.if-may_delta.branch [
            | then-may_delta+in_default w ↦ gives-not-can _ _ _ _ (w.block_size-d.ensures.0 o h) w.in_default.is
            | else-may_delta w ↦ gives-not-may _ _ _ _ (may-so _ h c.may_delta.ensures ∙ w.if-may_delta.false)
          ] in
          planned-full _ _ _ _ (bmdt-small h) none (p.0 o h) c.in_ok-block.was,
      λ payload. refl,
      p.1,
    )

pub shape_of-kept : goal.shape_of-kept
shape_of-kept c = c.block_size.ensures.1.fields.lines.long ∙ sym c.requires.leaves.1
