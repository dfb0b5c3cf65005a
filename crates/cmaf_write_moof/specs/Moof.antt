-- The `moof`, written from the words of a lawful set. 01: "Same box order, `senc saiz saio` last; `tfdt` and `trun` version 1; `tfhd` flags
-- 0x020000 plus ids 2, 4, 8; `trun` with data offset, ids 3, 5, 7, 12, and sizes if there are samples."
use Rattle.std.specs.Prelude.{ℕ, zero, suc, ◌+◌, ◌%◌, ◌^◌, not, ◌||◌, List, [], ◌++◌, eqb, ltb, length, get_or}
use Rattle.laws.specs.Bytes.{be}
use Rattle.track.specs.declared.Track.{Track}
use Rattle.media.specs.Flags.{wide_of}
use Rattle.field_table.specs.Lines.{bmdt_at}
use Rattle.field_set.specs.Lawful.{has, value_at, count_in}
use Rattle.boxes.specs.Box.{box, full_box, when, flag_when}
use Rattle.boxes.specs.Box as B
use Rattle.cmaf_write_senc.specs.Protected.{senc_box}
use Rattle.cmaf_write_saiz.specs.Saiz.{saiz_box, saio_box}
use Rattle.effective.specs.Sizes.{size_of}

-- ==== The rules

unfoldable pub mfhd_box : ℕ → List ℕ
mfhd_box sequence = full_box B.mfhd 0 0 (be 4 sequence)

-- 01: "`tfhd` flags 0x020000 plus ids 2, 4, 8" (D122)
unfoldable pub tfhd_flags : List ℕ → ℕ
tfhd_flags w = 0x020000 + (flag_when (has 2 w) 0x2 + (flag_when (has 4 w) 0x8 + flag_when (has 8 w) 0x20))

unfoldable pub tfhd_box : Track → List ℕ → List ℕ
tfhd_box t w =
    full_box B.tfhd 0 (tfhd_flags w)
    (be 4 t.id
    ++ (when (has 2 w) (be 4 (value_at 2 0 w)) ++ (when (has 4 w) (be 4 (value_at 4 0 w)) ++ when (has 8 w) (be 4 (wide_of (value_at 8 0 w))))))

unfoldable pub tfdt_box : List ℕ → List ℕ
tfdt_box w = full_box B.tfdt 1 0 (be 8 (get_or w bmdt_at 0))

-- a composition offset, which is kept with 2^31 added, as a field of 32 bits
abbrev pub offset_field : ℕ → ℕ
offset_field v = (v + 2 ^ 31) % 2 ^ 32

-- the columns of the sample with the number i: duration, size, flags and composition offset (D121)
unfoldable pub trun_row : List ℕ → ℕ → ℕ → List ℕ
trun_row w size i =
    when (has 3 w) (be 4 (value_at 3 i w))
    ++ (be 4 size
    ++ (when (has 7 w) (be 4 (wide_of (value_at 7 i w))) ++ when (has 5 w) (be 4 (offset_field (value_at 5 i w)))))

-- those of k samples from the number i on
unfoldable pub trun_rows : Track → List ℕ → ℕ → ℕ → ℕ → List ℕ
trun_rows t w payload zero i = []
trun_rows t w payload (suc k) i = trun_row w (size_of t w payload i) i ++ trun_rows t w payload k (suc i)

-- 01: "`trun` with data offset, ids 3, 5, 7, 12, and sizes if there are samples" (D125)
unfoldable pub trun_flags : List ℕ → ℕ
trun_flags w =
    0x1
    + (flag_when (has 12 w) 0x4
    + (flag_when (has 3 w) 0x100 + (flag_when (ltb 0 (count_in w)) 0x200 + (flag_when (has 7 w) 0x400 + flag_when (has 5 w) 0x800))))

unfoldable pub trun_box : Track → List ℕ → ℕ → ℕ → List ℕ
trun_box t w payload offset =
    full_box B.trun 1 (trun_flags w)
    (be 4 (count_in w) ++ (be 4 offset ++ (when (has 12 w) (be 4 (wide_of (value_at 12 0 w))) ++ trun_rows t w payload (count_in w) 0)))

-- the boxes of the traf before those of protected samples
unfoldable pub plain : Track → List ℕ → ℕ → ℕ → List ℕ
plain t w payload offset = tfhd_box t w ++ (tfdt_box w ++ trun_box t w payload offset)

-- where the set has IVs or subsamples; `place` is where the `senc` stands, from the `moof` start (D124)
unfoldable pub protection : Track → List ℕ → ℕ → List ℕ
protection t w place = when (has 9 w || has 11 w) (senc_box t w ++ (saiz_box t w ++ saio_box (place + 16)))

-- the moof with a data offset
unfoldable pub moof_box : Track → ℕ → List ℕ → ℕ → ℕ → List ℕ
moof_box t sequence w payload offset =
    let before = plain t w payload offset in
    box B.moof (mfhd_box sequence ++ box B.traf (before ++ protection t w (8 + (length (mfhd_box sequence) + (8 + length before)))))

-- 01: "data offset present and equal to the `moof` size plus 8"; what the offset is doesn't change the size
unfoldable pub moof_whole : Track → ℕ → List ℕ → ℕ → List ℕ
moof_whole t sequence w payload = moof_box t sequence w payload (length (moof_box t sequence w payload 0) + 8)
