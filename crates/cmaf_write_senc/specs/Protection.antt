-- What words must keep so that the boxes of protected samples can be written from them: a part of what `lawful` says.
-- ==== What only mirrors the code
use Rattle.std.specs.Prelude.{ℕ, ◌+◌, ◌*◌, ◌≤◌, ◌≡◌, true, ◌||◌, List, length}
use Rattle.laws.specs.Tests.{sum}
use Rattle.constants.specs.Maxima.{samples_most, subsamples_most}
use Rattle.track.specs.declared.Track.{Track}
use Rattle.field_table.specs.Lines.{set_len}
use Rattle.field_set.specs.Lawful.{has, values_of, saiz_ok, count_in}

-- 01: "Maxima: 64 samples and 256 subsamples a chunk"; "IV size 8 or 16 for cenc, else 0"; "`saiz` .. gives IV size plus, with subsamples,
-- 2 + 6 x count, at most 255"; "with no samples no lists, 9 or 12"
pub record Protectable (t : Track) (w : List ℕ) : Type 0 where
  pub long : length w ≡ set_len
  pub few : count_in w ≤ samples_most
  pub iv : t.iv_size ≤ 16
  pub pairs : sum (values_of 11 (count_in w) w) ≤ subsamples_most
  pub sizes : saiz_ok t.iv_size (values_of 11 (count_in w) w) ≡ true
  pub some : (has 9 w || has 11 w) ≡ true → 1 ≤ count_in w

-- no `senc` is longer: for each sample an IV and a count, and all subsamples that there can be
abbrev pub senc_most : ℕ
senc_most = 16 + (18 * samples_most + 6 * subsamples_most)
