-- Five false codecs. 01: "a codec that refuses everything, one that returns one fixed object, one that does nothing, one that decodes the group's first object and
-- repeats it, one that reports an invented length". Where it can be, each is right in all else.
-- ==== What is shown of the rules
use Rattle.std.specs.Prelude.{ℕ, suc, cond, List, [], eqb, get_or}
use Rattle.share_words.specs.Share.{held_at, dropped}
use Rattle.slots.specs.Table.{Out, out}
use Rattle.answers.specs.Took.{Took, took, refused}
use Rattle.encoder.specs.Encode.{encoding}
use Rattle.receiver.specs.Receive.{receiving}
use Rattle.cmaf_read_facts.specs.Given.{F}
use Rattle.demands.specs.Codec.{Codec}

-- with any number but 0
abbrev pub refuses_all : ℕ → Codec
refuses_all k = record { encode = λ wish c room s. out (refused room (suc k)) s; receive = λ o room s. out (refused room (suc k)) s }

-- what is handed out is always the same, and the share is right
abbrev pub fixed_object : Took → Codec
fixed_object x =
    record { encode = λ wish c room s. out x (encoding F wish c room s).words; receive = λ o room s. out x (receiving F o room s).words }

-- done, and nothing is given
abbrev pub does_nothing : Codec
does_nothing = record { encode = λ wish c room s. out (took 0 0 [] room) s; receive = λ o room s. out (took 0 0 [] room) s }

-- where no reference is held, an object is read; where one is, the first of the group is read again in its place
abbrev pub repeats_first : List ℕ → Codec
repeats_first first =
    record {
      encode = encoding F;
      receive = λ o room s.
          out (cond (eqb (get_or s held_at 0) 0) (receiving F o room s).answer (receiving F first room (dropped s)).answer) (receiving F o room s).words;
    }

-- a length that isn't the front's
abbrev pub with_length : (ℕ → ℕ) → Out Took → Out Took
with_length f a = out (took a.answer.number (f a.answer.front) a.answer.payload a.answer.output) a.words

abbrev pub invents_length : (ℕ → ℕ) → Codec
invents_length f =
    record { encode = λ wish c room s. with_length f (encoding F wish c room s); receive = λ o room s. with_length f (receiving F o room s) }

-- ---- false in part

-- 01: "at every object of a group": right at a group's first object, and as the codec X from the second on
abbrev pub later : Codec → Codec
later X =
    record {
      encode = λ wish c room s. cond (eqb (get_or s held_at 0) 0) (encoding F wish c room s) (X.encode wish c room s);
      receive = λ o room s. cond (eqb (get_or s held_at 0) 0) (receiving F o room s) (X.receive o room s);
    }

-- with a right encoder
abbrev pub hears : Codec → Codec
hears X = record { encode = encoding F; receive = X.receive }
