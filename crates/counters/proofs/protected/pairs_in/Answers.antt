-- `counters::protected::pairs_in` meets its contract: the counts added up.
use mathlib.Core.Path.{◌∙◌}
use native.Mathlib.Omega.{arith}
use Rattle.counters.proofs.ProtectedLaws.{pairs-are}
use Rattle.counters.proofs.protected.pairs_in.Goals as goal

pub add_up-requires : goal.add_up-requires
add_up-requires c =
    let p = c.requires in
    (omega (arith, p.0.words, p.0.few), omega (arith, pairs-are p.0 p.1, p.0.subsamples))

pub returns : goal.returns
returns c = let p = c.requires in c.add_up.ensures ∙ pairs-are p.0 p.1
