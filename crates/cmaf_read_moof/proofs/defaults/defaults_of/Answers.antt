-- `cmaf_read_moof::defaults::defaults_of` meets its contract: field by field.
use native.Mathlib.Omega.{arith}
use mathlib.Core.Path.{refl, ◌∙◌, ap}
use Rattle.cmaf_read_moof.specs.Defaults.{is_field, field_of}
use Rattle.cmaf_read_moof.proofs.DefaultLaws.{tfhd-long, defaults-are}
use Rattle.cmaf_read_moof.proofs.defaults.defaults_of.Goals as goal

pub u32_at-requires : goal.u32_at-requires
u32_at-requires c = omega (arith, tfhd-long c.args.c.now c.args.b c.requires.b_value, c.requires.inside)

pub field_of-requires : goal.field_of-requires
unfolding is_field
field_of-requires c = record { inside = c.requires.inside; b_value = c.requires.b_value; flag_value = refl; other_bound = omega arith }

pub field_of-requires-2 : goal.field_of-requires-2
unfolding is_field
field_of-requires-2 c = record { inside = c.requires.inside; b_value = c.requires.b_value; flag_value = refl; other_bound = omega arith }

pub field_of-requires-3 : goal.field_of-requires-3
unfolding is_field
field_of-requires-3 c = record { inside = c.requires.inside; b_value = c.requires.b_value; flag_value = refl; other_bound = omega arith }

pub field_of-requires-4 : goal.field_of-requires-4
unfolding is_field
field_of-requires-4 c = record { inside = c.requires.inside; b_value = c.requires.b_value; flag_value = refl; other_bound = omega arith }

pub returns : goal.returns
returns c = (
  defaults-are c.args.c.now c.args.b c.args.t c.u32_at.ensures.0 c.field_of.ensures.0 c.field_of-2.ensures.0
      c.field_of-3.ensures.0 (c.field_of-4.ensures.0 ∙ ap (field_of c.args.c.now c.args.b 0x20) c.of_five-own.ensures),
  record {
    track-lt = c.u32_at.ensures.1;
    description-lt = c.field_of.ensures.1;
    duration-lt = c.field_of-2.ensures.1;
    size-lt = c.field_of-3.ensures.1;
    flags-lt = c.field_of-4.ensures.1;
  },
)
