-- The meaning of a chunk: what its boxes say by their own rules (ISO/IEC 14496-12, 23001-7, 23009-1), not by way of the set of moof fields. 01: "Same meaning: equal
-- effective values, events and payload, but for that number, box choice, and `styp` on a delta."
-- ==== The rules
use Rattle.std.specs.Prelude.{ℕ, zero, suc, ◌+◌, ◌/◌, cond, ◌&&◌, List, [], ◌∷◌, eqb, ltb, ℤ, pos, ◌-ℤ◌, Option, Some, None}
use Rattle.std.proofs.Math.Seq.{slice}
use Rattle.cmaf_read_tree.specs.Numbers.{u16, u32, u64}
use Rattle.track.specs.declared.Track.{Track}
use Rattle.byte_parts.specs.declared.Part.{Part}
use Rattle.cmaf_read_shape.specs.declared.inner.Inner.{Inner}
use Rattle.cmaf_read_shape.specs.Parts.{end_of, body_of}
use Rattle.cmaf_read_shape.specs.Top.{top_of}
use Rattle.cmaf_read_shape.specs.Inner.{inner_of}
use Rattle.prft_value.specs.declared.Prft.{Prft}
use Rattle.event_value.specs.Events.{Event}
use Rattle.cmaf_read_prelude.specs.Prft.{prft_of}
use Rattle.cmaf_read_prelude.specs.Emsg.{emsg_at, scheme_at, scheme_end, value_end}
use Rattle.cmaf_read_moof.specs.declared.defaults.Defaults.{Defaults}
use Rattle.cmaf_read_trun.specs.declared.rows.Run.{Run}
use Rattle.cmaf_read_shape.specs.Words.{bit_of}
use Rattle.cmaf_read_moof.specs.Headers.{bmdt_of}
use Rattle.cmaf_read_moof.specs.Defaults.{defaults_of}
use Rattle.cmaf_read_trun.specs.Rows.{durations, sample_flags, offsets, first, run_of, has_column, cell, size_at, first_flags}
use Rattle.cmaf_read_senc.specs.declared.entries.Entries.{Entries}
use Rattle.cmaf_read_senc.specs.Entries.{entries_of, pairs_at, length_at}

-- clear and protected bytes
pub record Subsample : Type 0 where
  pub clear : ℕ
  pub protected : ℕ

-- how a sample is protected: its IV, and its subsamples if there is a map of them
pub record Protection : Type 0 where
  pub iv : List ℕ
  pub map : Option (List Subsample)

pub record Sample : Type 0 where
  pub size : ℕ
  pub duration : ℕ
  pub offset : ℤ
  pub flags : ℕ
  pub protection : Option Protection

pub record Meaning : Type 0 where
  pub bmdt : ℕ
  pub description : ℕ
  pub samples : List Sample
  pub prft : Prft
  pub events : List Event
  pub brands : Option (List ℕ)
  pub payload : List ℕ

-- ---- samples

-- k subsamples from a place on: 16 bits of clear bytes, 32 of protected ones
unfoldable pub pairs_from : List ℕ → ℕ → ℕ → List Subsample
pairs_from c zero at = []
pairs_from c (suc k) at = record { clear = u16 c at; protected = u32 c (at + 2) } ∷ pairs_from c k (at + 6)

-- the entry of a `senc` at a place
unfoldable pub entry_at : List ℕ → Entries → ℕ → Protection
entry_at c e at =
    record {
      iv = slice at (at + e.iv) c;
      map = cond e.map (Some (pairs_from c (pairs_at c e at) (at + e.iv + 2))) None;
    }

-- a number of 32 bits with a sign
unfoldable pub signed : ℕ → ℤ
signed v = cond (ltb v 0x8000_0000) (pos v) (pos v -ℤ pos 0x1_0000_0000)

module _ (t : Track) (c : List ℕ) (f : Inner) where
  abbrev pub defaults : Defaults
  defaults = defaults_of t c f.tfhd

  abbrev pub run : Run
  run = run_of c f.trun

  abbrev pub entries : Entries
  entries = entries_of t c f.senc

  -- a column's value, or the default's
  unfoldable pub column_at : ℕ → ℕ → ℕ → ℕ
  column_at column default i = cond (has_column run column) (cell c run column i) default

  -- the flags of a sample: its own; or, of the first, those for the first; or the default's
  unfoldable pub flags_at : ℕ → ℕ
  flags_at i =
      cond (eqb i 0 && eqb (bit_of run.word first) 1) (first_flags c f.trun) (column_at sample_flags defaults.flags i)

  -- a composition offset has a sign in version 1
  unfoldable pub offset_at : ℕ → ℤ
  offset_at i =
      cond (has_column run offsets)
      (cond (eqb (run.word / 0x100_0000) 1) (signed (cell c run offsets i)) (pos (cell c run offsets i)))
      (pos 0)

  -- how the entry at a place of the `senc`, where one stands, protects its sample
  unfoldable pub protection_at : ℕ → Option Protection
  protection_at at = cond (eqb f.senc.len 0) None (Some (entry_at c entries at))

  -- the sample with the number i, whose entry is at a place
  unfoldable pub sample_at : ℕ → ℕ → Sample
  sample_at i at =
      record {
        size = size_at c run defaults.size i;
        duration = column_at durations defaults.duration i;
        offset = offset_at i;
        flags = flags_at i;
        protection = protection_at at;
      }

  -- k samples from the number i on, whose entries follow one another from a place on
  unfoldable pub samples_from : ℕ → ℕ → ℕ → List Sample
  samples_from zero i at = []
  samples_from (suc k) i at = sample_at i at ∷ samples_from k (suc i) (at + length_at c entries at)

-- ---- the boxes before the moof

-- an `emsg` of version 1
unfoldable pub event_of : List ℕ → Part → Event
event_of c b =
    record {
      scheme = slice (scheme_at b) (scheme_end c b) c;
      value = slice (scheme_end c b + 1) (value_end c b) c;
      timescale = u32 c (b.at + 12);
      time = u64 c (b.at + 16);
      duration = u32 c (b.at + 24);
      id = u32 c (b.at + 28);
      message = slice (value_end c b + 1) (end_of b) c;
    }

-- k of them from a place on
unfoldable pub events_from : List ℕ → ℕ → ℕ → List Event
events_from c zero at = []
events_from c (suc k) at = event_of c (emsg_at c at) ∷ events_from c k (end_of (emsg_at c at))

-- what stands in a `styp`: the major brand, the minor version and the compatible brands
unfoldable pub styp_of : List ℕ → Part → Option (List ℕ)
styp_of c b = cond (eqb b.len 0) None (Some (slice (body_of b).at (end_of (body_of b)) c))

-- ---- the chunk

-- all of it: neither the number of the `mfhd` nor the choice of boxes is in it (D133)
unfoldable pub meaning_of : Track → List ℕ → Meaning
meaning_of t c =
    let top = top_of c in
    let f = inner_of c top.moof in
    record {
      bmdt = bmdt_of c f.tfdt;
      description = (defaults_of t c f.tfhd).description;
      samples = samples_from t c f (run_of c f.trun).count 0 (entries_of t c f.senc).at;
      prft = prft_of c top.prft;
      events = events_from c top.events top.emsgs.at;
      brands = styp_of c top.styp;
      payload = slice (body_of top.mdat).at (end_of (body_of top.mdat)) c;
    }

-- the meaning but for the `styp`, which a delta doesn't carry
unfoldable pub unbranded : Meaning → Meaning
unbranded m =
    record {
      bmdt = m.bmdt;
      description = m.description;
      samples = m.samples;
      prft = m.prft;
      events = m.events;
      brands = None;
      payload = m.payload;
    }
