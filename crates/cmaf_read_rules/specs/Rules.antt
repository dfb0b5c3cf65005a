-- 01: "a rule on a field, count or parameter is 7", asked of a chunk c whose boxes are right, and whose counts keep their maxima.
use Rattle.std.specs.Prelude.{ℕ, zero, suc, ◌+◌, ◌/◌, ◌%◌, ◌≤◌, ◌<◌, ◌≡◌, Bool, true, cond, not, ◌&&◌, ◌||◌, List, [], ◌∷◌, eqb}
use Rattle.laws.specs.Tests.{◌and◌, all_le, sum}
use Rattle.constants.specs.Maxima.{samples_most, subsamples_most}
use Rattle.media.specs.Flags.{only}
use Rattle.cmaf_read_tree.specs.Numbers.{u16, u32}
use Rattle.track.specs.declared.Track.{Track}
use Rattle.track.specs.Track.{none, cenc}
use Rattle.byte_parts.specs.declared.Part.{Part}
use Rattle.cmaf_read_shape.specs.declared.top.Top.{Top}
use Rattle.cmaf_read_shape.specs.declared.inner.Inner.{Inner}
use Rattle.cmaf_read_shape.specs.Parts.{body_of, Inside}
use Rattle.event_value.specs.Events.{Event}
use Rattle.cmaf_read_prelude.specs.Styp.{minor_version}
use Rattle.cmaf_read_prelude.specs.Prft.{prft_ok, prft_track}
use Rattle.cmaf_read_moof.specs.declared.defaults.Defaults.{Defaults}
use Rattle.cmaf_read_trun.specs.declared.rows.Run.{Run}
use Rattle.cmaf_read_moof.specs.Headers.{tfdt_ok}
use Rattle.cmaf_read_moof.specs.Defaults.{tfhd_ok, defaults_of}
use Rattle.cmaf_read_trun.specs.Rows.{sample_flags, offsets, trun_ok, run_of, offset_leads, first_flags, size_at}
use Rattle.cmaf_read_trun.specs.Columns.{all_only, offset_most}
use Rattle.cmaf_read_trun.specs.Samples.{column_of, sizes_of}
use Rattle.cmaf_read_senc.specs.declared.entries.Entries.{Entries}
use Rattle.cmaf_read_senc.specs.Entries.{entries_of, pairs_at, length_at, senc_ok, subsamples}
use Rattle.cmaf_read_senc.specs.Sizes.{saiz_ok, saiz_count, info_size, saio_ok, leads_to}

-- ==== The rules

-- 01: "`emsg`: .. timescale not 0." (D36)
unfoldable pub clocks_ok : List Event → Bool
clocks_ok [] = true
clocks_ok (e ∷ es) = not (eqb e.timescale 0) and clocks_ok es

-- clear and protected bytes of k subsamples that stand from a place on
unfoldable pub pairs_sum : List ℕ → ℕ → ℕ → ℕ
pairs_sum c zero at = 0
pairs_sum c (suc k) at = u16 c at + u32 c (at + 2) + pairs_sum c k (at + 6)

-- 01: "Clear plus protected bytes equal the size of each sample": of the entry at a place, where it has subsamples (D53)
unfoldable pub entry_ok : List ℕ → Entries → ℕ → ℕ → Bool
entry_ok c e at size = not e.map || eqb (pairs_sum c (pairs_at c e at) (at + e.iv + 2)) size

-- of k entries from a place on, the first of which is that of the sample i; and 01: "`saiz` .. gives IV size plus, with subsamples, 2 + 6 x count,
-- at most 255": a `saiz` has no number above 255, so a longer entry breaks the rule too (D32)
unfoldable pub entries_ok : List ℕ → Entries → Part → Run → ℕ → ℕ → ℕ → ℕ → Bool
entries_ok c e saiz r default zero i at = true
entries_ok c e saiz r default (suc k) i at =
    (entry_ok c e at (size_at c r default i) && eqb (info_size c saiz i) (length_at c e at))
    and entries_ok c e saiz r default k (suc i) (at + length_at c e at)

-- ---- by what was read: d the defaults of the `tfhd`, `default` one of them, r the rows of the `trun`, e the entries of the `senc`

-- 01: "`styp`: minor_version 0." "`prft`: .. its track ours." "`tfhd`: our track_ID"
unfoldable pub outer_ok : Track → List ℕ → Top → Defaults → Bool
outer_ok t c top d = eqb (minor_version c top.styp) 0 && (eqb (prft_track c top.prft t.id) t.id && eqb d.track t.id)

-- 01: "Sample flags: only ..": of every field of flags that stands, whether or not it has an effect (D47)
unfoldable pub flags_ok : List ℕ → Part → ℕ → Run → Bool
flags_ok c trun default r = (only default && only (first_flags c trun)) and all_only (column_of c r sample_flags)

-- 01: "Composition offsets: -2^31 to 2^31-1, in version 0 too." In version 0 they have no sign; in version 1 they are always in range (D46).
unfoldable pub offsets_ok : List ℕ → Run → Bool
offsets_ok c r = eqb (r.word / 0x100_0000) 1 || all_le offset_most (column_of c r offsets)

-- 01: "Sample sizes sum to the payload length; with no samples the payload is empty and `trun` has only its data offset." That the payload is empty
-- then, the sum of no sizes says (D27, D48).
unfoldable pub sizes_ok : List ℕ → Part → ℕ → Run → Bool
sizes_ok c mdat default r =
    eqb (sum (sizes_of c r default)) (body_of mdat).len && (not (eqb r.count 0) || eqb (r.word % 0x100_0000) 0x1)

-- 01: "`senc` ..: .. forbidden otherwise or without samples; it has IVs or subsamples. It and `saiz` count as many samples as `trun`." (D29)
unfoldable pub counts_ok : Track → List ℕ → Part → Entries → Run → Bool
counts_ok t c saiz e r =
    (not (eqb t.protection none) && not (eqb r.count 0))
    && ((eqb e.count r.count && eqb (saiz_count c saiz) r.count) && (not (eqb e.iv 0) || e.map))

-- ---- of a chunk

module _ (t : Track) (c : List ℕ) (top : Top) (f : Inner) where
  -- what the boxes say
  abbrev pub defaults : Defaults
  defaults = defaults_of t c f.tfhd

  abbrev pub run : Run
  run = run_of c f.trun

  abbrev pub entries : Entries
  entries = entries_of t c f.senc

  -- 01: "data offset present and equal to the `moof` size plus 8"
  unfoldable pub offset_ok : Bool
  offset_ok = offset_leads c f.trun top.moof

  -- 01: "`senc` ..: required on cenc with samples": where it doesn't stand
  unfoldable pub unprotected_ok : Bool
  unprotected_ok = not (eqb t.protection cenc) || eqb run.count 0

  -- where it stands
  unfoldable pub protected_ok : Bool
  protected_ok =
      counts_ok t c f.saiz entries run
      and leads_to c f.saio top.moof entries.at
      and entries_ok c entries f.saiz run defaults.size run.count 0 entries.at

  -- every rule, with the events of the chunk
  unfoldable pub rules_ok : List Event → Bool
  rules_ok events =
      outer_ok t c top defaults
      and clocks_ok events
      and offset_ok
      and flags_ok c f.trun defaults.flags run
      and offsets_ok c run
      and sizes_ok c top.mdat defaults.size run
      and cond (eqb f.senc.len 0) unprotected_ok protected_ok

-- ==== What only mirrors the code

-- ---- what the rules are asked of

-- the boxes of a chunk lie in it, their versions, flags and lengths are right, and the samples keep their maxima
pub record Right (t : Track) (c : List ℕ) (top : Top) (f : Inner) : Type 0 where
  pub styp-in : Inside c top.styp
  pub prft-in : Inside c top.prft
  pub prft-ok : prft_ok c top.prft ≡ true
  pub moof-in : Inside c top.moof
  pub mdat-in : Inside c top.mdat
  pub tfhd-in : Inside c f.tfhd
  pub tfhd-ok : tfhd_ok c f.tfhd ≡ true
  pub tfdt-in : Inside c f.tfdt
  pub tfdt-ok : tfdt_ok c f.tfdt ≡ true
  pub trun-in : Inside c f.trun
  pub trun-ok : trun_ok c f.trun ≡ true
  pub senc-in : Inside c f.senc
  pub senc-ok : senc_ok t c f.senc ≡ true
  pub senc-after : 0 < f.senc.len → top.moof.at ≤ f.senc.at
  pub saiz-in : Inside c f.saiz
  pub saiz-ok : saiz_ok c f.saiz ≡ true
  pub saio-in : Inside c f.saio
  pub saio-ok : saio_ok c f.saio ≡ true
  pub samples : (run_of c f.trun).count ≤ samples_most
  pub subsamples : subsamples t c f.senc ≤ subsamples_most
