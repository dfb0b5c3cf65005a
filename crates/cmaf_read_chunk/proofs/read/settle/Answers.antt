-- `cmaf_read_chunk::read::settle` meets its contract: the rules are asked, and the set is put where they hold.
use native.Mathlib.Omega.{arith}
use mathlib.Core.Path.{refl, sym, ◌∙◌}
use mathlib.Core.Bool.{false≢true}
use borrow.Author.Rules.{part_to_end}
use Rattle.field_table.specs.Lines.{set_len}
use Rattle.event_value.specs.Events.{events_len}
use Rattle.laws.proofs.HalvesLaws.{front_long, front-stays, rest-new}
use Rattle.cmaf_read_chunk.proofs.read.settle.Goals as goal

pub defaults_of-d-requires : goal.defaults_of-d-requires
defaults_of-d-requires c = let g = c.requires.right.1 in record { inside = g.tfhd-in; b_value = g.tfhd-ok }

pub slice_bounds-rules_ok-end-2 : goal.slice_bounds-rules_ok-end-2
slice_bounds-rules_ok-end-2 c = sym (front_long events_len set_len c.args.words.now c.requires.events_bound.1)

pub rules_ok-requires : goal.rules_ok-requires
rules_ok-requires c =
    let p = c.requires in
    record { right = p.right.0; events_in_bounds = omega (arith, p.events_bound.0, front_long events_len set_len c.args.words.now p.events_bound.1); d_value = c.defaults_of-d.ensures }

pub returns-then-not-rules_ok : goal.returns-then-not-rules_ok
returns-then-not-rules_ok c = (record { asked = sym (sym c.rules_ok.ensures ∙ c.if-not-rules_ok.true); filled = λ z. absurd (false≢true z) }, refl)

pub put_set-requires : goal.put_set-requires
put_set-requires c = record { gatherable = c.requires.right.1; x_value = part_to_end c.args.words.now events_len ∙ c.requires.events_bound.2; d_value = c.defaults_of-d.ensures }

pub returns : goal.returns
returns c =
    let w = c.args.words.now in
    let x = c.put_set.new.x in (
      record {
        asked = sym (sym c.rules_ok.ensures ∙ c.if-not-rules_ok.false);
        filled = λ z. rest-new events_len set_len w c.requires.events_bound.1 x ∙ c.put_set.ensures;
      },
      front-stays events_len set_len w c.requires.events_bound.1 x,
    )
