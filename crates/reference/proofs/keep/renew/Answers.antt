-- `reference::keep::renew` meets its contract: three stores of what the words of the set come to.
use mathlib.Core.Path.{sym, ◌∙◌, ap}
use mathlib.Core.Bool.{false≢true}
use borrow.Author.Rules.{part_to_end}
use lib.ListN.{drop}
use Rattle.field_set.specs.Lawful.{lawful}
use Rattle.share_words.specs.Share.{set_at}
use Rattle.effective.specs.Expected.{next_time, expected_by}
use Rattle.counters.specs.Protected.{last_protected}
use Rattle.reference.specs.declared.keep.Replaced.{Replaced}
use Rattle.reference.proofs.KeepLaws.{three-stored}
use Rattle.reference.proofs.keep.renew.Goals as goal

pub track_of-t-requires : goal.track_of-t-requires
track_of-t-requires c = let p = c.requires in (p.s_len.0, p.s_value.0)

pub expected_behind-e-requires : goal.expected_behind-e-requires
expected_behind-e-requires c = rw (part_to_end c.args.s.now set_at) c.requires.s_len.1

pub last_protected-last-requires : goal.last_protected-last-requires
last_protected-last-requires c =
    let s = c.args.s.now in
    record {
      summable = rw (part_to_end s set_at) c.requires.summable;
      w_value = rw (part_to_end s set_at) (ap (λ t. lawful t (drop set_at s)) c.track_of-t.ensures ∙ c.requires.s_value.1);
    }

pub returns-then-new : goal.returns-then-new
returns-then-new c =
    let s = c.args.s.now in
    let t = c.track_of-t.ensures in
    let w = part_to_end s set_at in
    three-stored c.args.payload s _ _ c.requires.s_len.0 (c.expected_behind-e.ensures ∙ (λ j. expected_by (next_time (t j) (w j))))
    (c.last_protected-last.ensures ∙ (λ j. last_protected (t j) (w j) c.args.payload))

-- no object leaves it as it was
pub returns-else-new : goal.returns-else-new
returns-else-new c = absurd (false≢true (sym c.if-new.false ∙ ap (λ (r : Replaced). r.beside) c.replaced_by-new.ensures))
