-- `cmaf_read_set::entries::put_entry` meets its contract, by the laws of `proofs/EntryStores.antt`.
use native.Mathlib.Omega.{arith}
use mathlib.Core.Path.{◌≡◌, ◌∙◌, ap}
use lib.ListN.{length}
use Rattle.cmaf_read_set.specs.Stored.{stored_entry}
use Rattle.cmaf_read_set.proofs.EntryStores.{words-fit, iv-asked, pairs-asked, long-still, entry-with, entry-without, entry_length}
use Rattle.cmaf_read_set.proofs.entries.put_entry.Goals as goal

pub overflow_mul-ivs : goal.overflow_mul-ivs
overflow_mul-ivs c = omega (arith, words-fit c.requires.i_lt_samples_most.2 c.requires.i_lt_samples_most.0)

pub put_iv-requires : goal.put_iv-requires
put_iv-requires c =
    let h = c.requires in
    iv-asked _ _ _ _ c.args.x.now h.k_value.1 h.i_lt_samples_most.0 h.i_lt_samples_most.2 h.i_lt_samples_most.3

pub put_pairs-requires : goal.put_pairs-requires
put_pairs-requires c =
    let a = c.args in
    let h = c.requires in (
      pairs-asked _ _ _ _ c.if-e.true h.k_value.0 h.k_value.1,
      h.i_lt_samples_most.1,
      long-still a.c.now a.e a.at a.i a.j a.x.now _ _ c.put_iv.ensures h.i_lt_samples_most.3,
    )

-- what is stored, with subsamples
stored : (c : goal.After-slice_known-then-e-1)
    → c.put_pairs.new.x
    ≡ (let a = c.args in
    stored_entry a.c.now a.e a.at a.i a.j a.x.now)
stored c =
    entry-with _ _ _ _ _ _ _ _ _ c.if-e.true c.requires.k_value.0
    c.put_iv.ensures c.put_pairs.ensures

pub shape_of-x-then-e : goal.shape_of-x-then-e
shape_of-x-then-e c = ap length (stored c) ∙ entry_length _ _ _ _ _ _

pub returns-then-e : goal.returns-then-e
returns-then-e c = stored c

pub returns-else-e : goal.returns-else-e
returns-else-e c = entry-without _ _ _ _ _ _ _ c.if-e.false c.put_iv.ensures
