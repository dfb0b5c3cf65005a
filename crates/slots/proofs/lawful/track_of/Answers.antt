-- `slots::lawful::track_of` meets its contract: the parameters read, and cast down.
use mathlib.Core.Path.{◌∙◌, ap}
use Rattle.track.specs.Track.{narrow}
use Rattle.slots.proofs.lawful.track_of.Goals as goal

pub narrowed-requires : goal.narrowed-requires
narrowed-requires c = rw c.asked_of.ensures c.requires.1

pub returns : goal.returns
returns c = c.narrowed.ensures ∙ ap narrow c.asked_of.ensures
