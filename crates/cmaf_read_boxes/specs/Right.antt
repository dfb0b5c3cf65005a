-- Whether the boxes of a chunk are right. 01: "Order, own version and flags .., box lengths, an `emsg` string without its end zero and three-or-none are 6" (D17)
use Rattle.std.specs.Prelude.{ℕ, ◌≡◌, Bool, true, ◌&&◌, List}
use Rattle.laws.specs.Tests.{◌and◌}
use Rattle.track.specs.declared.Track.{Track}
use Rattle.cmaf_read_shape.specs.declared.top.Top.{Top}
use Rattle.cmaf_read_shape.specs.declared.inner.Inner.{Inner}
use Rattle.cmaf_read_shape.specs.Top.{top_of, top_ok}
use Rattle.cmaf_read_shape.specs.Inner.{inner_of, inner_ok}
use Rattle.cmaf_read_prelude.specs.Styp.{styp_ok}
use Rattle.cmaf_read_prelude.specs.Prft.{prft_ok}
use Rattle.cmaf_read_prelude.specs.Emsg.{emsgs_ok}
use Rattle.cmaf_read_moof.specs.Headers.{mfhd_ok, tfdt_ok}
use Rattle.cmaf_read_moof.specs.Defaults.{tfhd_ok}
use Rattle.cmaf_read_trun.specs.Rows.{trun_ok}
use Rattle.std.specs.Prelude.{Option, is_some}
use Rattle.std.specs.Option.{unwrap_or}
use Rattle.cmaf_read_senc.specs.Entries.{senc_ok, subsamples}
use Rattle.cmaf_read_senc.specs.Sizes.{saiz_ok, saio_ok}

-- ==== The rules

-- versions, flags and lengths: of the boxes at the top
abbrev pub outer_right : List ℕ → Top → Bool
outer_right c top = styp_ok top.styp && (prft_ok c top.prft && emsgs_ok c top.events top.emsgs.at)

-- of those that say what samples there are
abbrev pub samples_right : List ℕ → Inner → Bool
samples_right c f = (mfhd_ok c f.mfhd && tfhd_ok c f.tfhd) && (tfdt_ok c f.tfdt && trun_ok c f.trun)

-- and of those that say how they are protected
abbrev pub protection_right : Track → List ℕ → Inner → Bool
protection_right t c f = senc_ok t c f.senc && (saiz_ok c f.saiz && saio_ok c f.saio)

-- order and three-or-none, and all of these
abbrev pub boxes_right : Track → List ℕ → Top → Inner → Bool
boxes_right t c top f = top_ok c top and inner_ok top.moof f and outer_right c top and samples_right c f and protection_right t c f

-- of what stands where it must
unfoldable pub boxes_ok : Track → List ℕ → Bool
boxes_ok t c = boxes_right t c (top_of c) (inner_of c (top_of c).moof)

-- ==== What only mirrors the code

-- the boxes were looked at: whether they are right, and then how many subsamples the `senc` has
pub record PairsAs (t : Track) (c : List ℕ) (r : Option ℕ) : Type 0 where
  pub right : is_some r ≡ boxes_ok t c
  pub counted : boxes_ok t c ≡ true → unwrap_or r 0 ≡ subsamples t c (inner_of c (top_of c).moof).senc
