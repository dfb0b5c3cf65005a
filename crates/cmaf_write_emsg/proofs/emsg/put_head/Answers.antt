-- `cmaf_write_emsg::emsg::put_head` meets its contract: eight words.
use Rattle.laws.specs.Bytes.{be}
use Rattle.boxes.specs.Box.{words}
use Rattle.event_value.specs.Events.{event_at}
use Rattle.cmaf_write_emsg.specs.Emsg.{emsg_head}
use Rattle.cmaf_write_emsg.proofs.emsg.put_head.Goals as goal

pub put_words-requires : goal.put_words-requires
unfolding emsg_head words be event_at
put_words-requires c = c.requires.event_in_bounds

pub returns : goal.returns
unfolding emsg_head event_at
returns c = c.put_words.ensures
