-- The lengths of the boxes of a moof, by arithmetic.
-- ==== What only mirrors the code
use Rattle.std.specs.Prelude.{ℕ, ◌+◌, ◌*◌, List}
use Rattle.field_set.specs.Lawful.{has, count_in}
use Rattle.boxes.specs.Box.{flag_when}
use Rattle.constants.specs.Maxima.{samples_most}
use Rattle.cmaf_write_senc.specs.Protection.{senc_most}
use Rattle.cmaf_write_saiz.specs.Saiz.{saiz_most}

unfoldable pub tfhd_length : List ℕ → ℕ
tfhd_length w = 16 + (flag_when (has 2 w) 4 + (flag_when (has 4 w) 4 + flag_when (has 8 w) 4))

-- of the columns of one sample
unfoldable pub row_length : List ℕ → ℕ
row_length w = 4 + (flag_when (has 3 w) 4 + (flag_when (has 7 w) 4 + flag_when (has 5 w) 4))

unfoldable pub trun_length : List ℕ → ℕ
trun_length w = 20 + (flag_when (has 12 w) 4 + count_in w * row_length w)

-- of the boxes of the traf before those of protected samples
unfoldable pub plain_length : List ℕ → ℕ
plain_length w = tfhd_length w + (20 + trun_length w)

-- how long they are at most: all columns, and all samples that there can be
abbrev pub trun_most : ℕ
trun_most = 24 + 16 * samples_most

abbrev pub plain_most : ℕ
plain_most = 28 + (20 + trun_most)

abbrev pub protection_most : ℕ
protection_most = senc_most + saiz_most + 20

abbrev pub moof_most : ℕ
moof_most = 4000
