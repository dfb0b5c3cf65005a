-- `slots::lawful::asked_of` meets its contract: the words at their places.
use Rattle.slots.proofs.lawful.asked_of.Goals as goal

pub returns : goal.returns
returns c = rw c.requires.1
