-- `media::flags::SampleFlags::of_five` meets its contract, one field after another.
use mathlib.Core.Path.{ap, ◌∙◌}
use Prim.Native.Nat.{◌/◌}
use Rattle.media.specs.Flags.{non_sync, depends_on, is_depended_on, placed, wide_of}
use Rattle.media.proofs.FlagLaws.{placed-mod}
use Rattle.media.proofs.flags.SampleFlags.of_five.Goals as goal

pub returns : goal.returns
unfolding wide_of
returns c =
    let f = c.args.f in
    c.is_depended_on.ensures
    ∙ placed-mod is_depended_on (f / 8) _
    ∙ ap (placed is_depended_on (f / 8))
    (c.depends_on.ensures
    ∙ placed-mod depends_on (f / 2) _
    ∙ ap (placed depends_on (f / 2))
    (c.non_sync.ensures ∙ placed-mod non_sync f _ ∙ ap (placed non_sync f) c.none.ensures))
