-- What the code hands on of an accepted chunk.
-- ==== What only mirrors the code
use Rattle.std.specs.Prelude.{ℕ, ◌≤◌, ◌≡◌, Bool, true, List, Option, Some, is_some, Result, Ok}
use Rattle.laws.specs.Ladder.{ladder}
use Rattle.refusal.specs.declared.Refusal.{Refusal}
use Rattle.refusal.specs.Numbers.{number_in}
use Rattle.constants.specs.Maxima.{event_bytes_most}
use Rattle.wire.specs.declared.form.Row.{Row}
use Rattle.track.specs.declared.Track.{Track}
use Rattle.cmaf_read_shape.specs.declared.top.Top.{Top}
use Rattle.cmaf_read_shape.specs.declared.inner.Inner.{Inner}
use Rattle.cmaf_read_shape.specs.Parts.{body_of}
use Rattle.event_value.specs.Events.{events_of}
use Rattle.locmaf_write_events.specs.Records.{AllWords, AllIn, list_bytes}
use Rattle.cmaf_read_rules.specs.Rules.{rules_ok}
use Rattle.cmaf_read_set.specs.Set.{chunk_set}
use Rattle.cmaf_read_chunk.specs.declared.read.Chunk.{Chunk}
use Rattle.cmaf_read_chunk.specs.Accepted.{top, boxes, events, prft, fields, maxima_ok, accept_rungs}

-- an accepted chunk
abbrev pub taken_as : List ℕ → ℕ → Chunk
taken_as c list =
    record {
      prft = prft c;
      events = (top c).events;
      list = list;
      brands = body_of (top c).styp;
      payload = body_of (top c).mdat;
    }

-- what is known of the events of a chunk that keeps its maxima: of their words ws, and of the bytes of their records
pub record Listed (F : List Row) (t : Track) (c : List ℕ) (list : ℕ) (ws : List ℕ) : Type 0 where
  pub words : AllWords ws (top c).events
  pub inside : AllIn c ws (top c).events
  pub boxes-are : events_of c ws (top c).events ≡ boxes c
  pub list-is : list ≡ list_bytes F (events t c)
  pub short : list ≤ event_bytes_most

-- the maxima were asked: whether the chunk keeps them, and if it does the words ws of the events and the bytes of their records
pub record CountedAs (F : List Row) (t : Track) (c : List ℕ) (r : Option ℕ) (ws : List ℕ) : Type 0 where
  pub answered : is_some r ≡ maxima_ok F t c
  pub listed : (list : ℕ) → r ≡ Some list → Listed F t c list ws

-- the rules were asked of the boxes y and f that were found, with the words ws of the events: whether they hold, and if they do the words x of the set
pub record SettledAs (t : Track) (c : List ℕ) (y : Top) (f : Inner) (ws : List ℕ) (ok : Bool) (x : List ℕ) : Type 0 where
  pub asked : ok ≡ rules_ok t c y f (events_of c ws y.events)
  pub filled : ok ≡ true → x ≡ chunk_set t c f

-- a chunk c was accepted: its `prft`, how many events it has with the bytes of their records, what stands in the `styp` and the `mdat`; the words ws of its
-- events, and x of its set
pub record Accepted (F : List Row) (t : Track) (c : List ℕ) (k : Chunk) (ws x : List ℕ) : Type 0 where
  pub chunk-is : k ≡ taken_as c k.list
  pub set_is : x ≡ fields t c
  pub listed : Listed F t c k.list ws

-- a refusal, or the rest
pub record ReadAs (F : List Row) (t : Track) (c : List ℕ) (r : Result Chunk Refusal) (ws x : List ℕ) : Type 0 where
  pub answered : number_in r ≡ ladder (accept_rungs F t c) (λ n. n) 0
  pub taken : (k : Chunk) → r ≡ Ok k → Accepted F t c k ws x
