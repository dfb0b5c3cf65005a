-- What a set is gathered from.
-- ==== What only mirrors the code
use Rattle.std.specs.Prelude.{ℕ, ◌≤◌, ◌<◌, ◌≡◌, true, List}
use Rattle.constants.specs.Maxima.{samples_most, subsamples_most}
use Rattle.track.specs.declared.Track.{Track}
use Rattle.cmaf_read_shape.specs.declared.inner.Inner.{Inner}
use Rattle.cmaf_read_shape.specs.Parts.{Inside}
use Rattle.cmaf_read_moof.specs.Headers.{tfdt_ok}
use Rattle.cmaf_read_moof.specs.Defaults.{tfhd_ok}
use Rattle.cmaf_read_trun.specs.Rows.{trun_ok, run_of}
use Rattle.cmaf_read_senc.specs.Entries.{senc_ok, subsamples}
use Rattle.cmaf_read_set.specs.Set as G

module _ (t : Track) (c : List ℕ) (f : Inner) where
  -- a `senc` that stands has few entries, and few subsamples
  abbrev pub FewEntries : Type 0
  FewEntries = 0 < f.senc.len → (G.entries t c f).count ≤ samples_most

  abbrev pub FewSubsamples : Type 0
  FewSubsamples = subsamples t c f.senc ≤ subsamples_most

-- the boxes of a `moof` lie in the chunk and are right, and the samples keep their maxima
pub record Gatherable (t : Track) (c : List ℕ) (f : Inner) : Type 0 where
  pub tfhd-in : Inside c f.tfhd
  pub tfhd-ok : tfhd_ok c f.tfhd ≡ true
  pub tfdt-in : Inside c f.tfdt
  pub tfdt-ok : tfdt_ok c f.tfdt ≡ true
  pub trun-in : Inside c f.trun
  pub trun-ok : trun_ok c f.trun ≡ true
  pub senc-in : Inside c f.senc
  pub senc-ok : senc_ok t c f.senc ≡ true
  pub samples : (run_of c f.trun).count ≤ samples_most
  pub entries : FewEntries t c f
  pub subsamples : FewSubsamples t c f
  pub iv : t.iv_size ≤ 16
