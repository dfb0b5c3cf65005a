-- Any codec, and ours.
-- ==== What is shown of the rules
use Rattle.std.specs.Prelude.{ℕ, Bool, List, ◌++◌, take}
use Rattle.slots.specs.Table.{Out}
use Rattle.answers.specs.Took.{Took}
use Rattle.encoder.specs.Encode.{encoding}
use Rattle.receiver.specs.Receive.{receiving}
use Rattle.cmaf_read_facts.specs.Given.{F}

-- what its two calls make of a share: what each hands back, and the words of the share as they then are
pub record Codec : Type 0 where
  pub encode : (wish : Bool) (chunk room share : List ℕ) → Out Took
  pub receive : (object room share : List ℕ) → Out Took

-- what the contracts of our two calls say
abbrev pub ours : Codec
ours = record { encode = encoding F; receive = receiving F }

-- the object, or the chunk, that a call handed out: its front and then the payload
abbrev pub gave : Took → List ℕ
gave a = take a.front a.output ++ a.payload
