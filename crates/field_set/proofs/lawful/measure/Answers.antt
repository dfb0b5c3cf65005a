-- `field_set::lawful::measure` meets its contract: the tally of lawful counts gives their sum.
use Prim.Native.Nat.{ℕ, ◌/◌}
use mathlib.Core.Path.{ap}
use lib.ListN.{get_or}
use Rattle.field_table.specs.declared.lines.Measure.{Measure}
use Rattle.field_table.specs.Lines.{count_at}
use Rattle.field_set.proofs.LawfulLaws.{lawful-facts, tallied-sum}
use borrow.Author.Rules.{rules}
use Rattle.field_set.proofs.lawful.measure.Goals as goal

pub tally_of-c-requires : goal.tally_of-c-requires
tally_of-c-requires c = let p = c.requires in record { w_len = p.w_len; n_le_samples_most = ((lawful-facts _ _ p.w_value).count, p.iv_size_bound); mark_value = search rules }

measured : ℕ → ℕ → ℕ → Measure
measured n v k = record { count = n; ivs = v; sum = k }

pub returns : goal.returns
unfolding measured
returns c =
    ap (λ (k : ℕ). measured (get_or c.args.w.now count_at 0) (c.args.t.iv_size / 8) k)
    (tallied-sum c.args.t c.args.w.now c.tally_of-c.result c.requires.iv_size_bound c.requires.w_value c.tally_of-c.ensures)
