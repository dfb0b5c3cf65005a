-- `relay::sync::begins_sync` is safe and ends: the parameters are lawful where they are narrowed.
use Rattle.std.proofs.Common.{sym, ◌∙◌}
use Rattle.track.proofs.TrackLaws.{ranges}
use Rattle.relay.proofs.sync.begins_sync.Goals as goal

pub read_chunk-c-requires-clause-iv_size_bound : goal.read_chunk-c-requires-clause-iv_size_bound
read_chunk-c-requires-clause-iv_size_bound c =
    rw c.narrowed-t.ensures (ranges _ (sym c.is_lawful.ensures ∙ c.if-not-is_lawful.false)).iv-size
