-- `cmaf_write_moof::protection::put_protection` meets its contract: nothing, or the three boxes one after another.
use native.Mathlib.Omega.{arith}
use mathlib.Core.Path.{sym, ◌∙◌}
use Rattle.laws.proofs.WriteLaws.{then, wrote_as, wrote_none, wrote-length}
use Rattle.cmaf_write_moof.proofs.ProtectionLaws.{protection-none, protection-all, protection-length}
use Rattle.cmaf_write_moof.proofs.protection.put_protection.Goals as goal

pub returns-then-not-stands : goal.returns-then-not-stands
returns-then-not-stands c = wrote_as (sym (protection-none _ _ _ (sym c.stands.ensures ∙ c.if-not-stands.true))) (wrote_none _ _ (omega arith))

pub put_senc-a-requires : goal.put_senc-a-requires
put_senc-a-requires c =
    let a = c.args in
    record { protectable = c.requires.protectable; w_in_bounds = omega (arith, c.requires.place_in_bounds, protection-length a.t a.w.now a.place (sym c.stands.ensures ∙ c.if-not-stands.false)) }

pub put_saiz-b-requires : goal.put_saiz-b-requires
put_saiz-b-requires c =
    let a = c.args in
    let h = sym c.stands.ensures ∙ c.if-not-stands.false in
    let w = c.put_senc-a.ensures in record { protectable = c.requires.protectable; w_nonzero = c.requires.protectable.some h; w_in_bounds = omega (arith, c.requires.place_in_bounds, protection-length a.t a.w.now a.place h, wrote-length w, w.place) }

pub put_saio-requires : goal.put_saio-requires
put_saio-requires c =
    let a = c.args in
    let h = sym c.stands.ensures ∙ c.if-not-stands.false in
    omega (
      arith,
      c.requires.place_in_bounds,
      protection-length a.t a.w.now a.place h,
      wrote-length c.put_senc-a.ensures,
      c.put_senc-a.ensures.place,
      wrote-length c.put_saiz-b.ensures,
      c.put_saiz-b.ensures.place,
    )

pub returns : goal.returns
returns c =
    wrote_as
    (sym (protection-all _ _ _ (sym c.stands.ensures ∙ c.if-not-stands.false)))
    (then c.put_senc-a.ensures (then c.put_saiz-b.ensures c.put_saio.ensures))
