-- `slots::lawful::accepted_ok` meets its contract: the two sides' tests.
use Rattle.slots.proofs.lawful.accepted_ok.Goals as goal

pub returns-in-Encoder : goal.returns-in-Encoder
returns-in-Encoder c = rw c.in-Encoder.is

pub returns-in-Receiver : goal.returns-in-Receiver
returns-in-Receiver c = rw c.in-Receiver.is
