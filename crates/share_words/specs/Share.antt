-- The words of a slot's share. From word 0 on: the eight parameters, the count of accepted objects, the mark of the reference, the mark of
-- the current full object's `prft` with its four fields, the two words of the BMDT that is expected, the last sample's protected bytes, and the set of moof fields.
use Rattle.std.specs.Prelude.{ℕ, ◌+◌, ◌-◌, ◌*◌, List, ◌++◌, take, replicate}
use Rattle.field_table.specs.Lines.{set_len}

-- ==== The rules

-- the places of the words
abbrev pub track_at : ℕ
track_at = 0

abbrev pub timescale_at : ℕ
timescale_at = 1

abbrev pub track_description_at : ℕ
track_description_at = 2

abbrev pub track_duration_at : ℕ
track_duration_at = 3

abbrev pub track_size_at : ℕ
track_size_at = 4

abbrev pub track_flags_at : ℕ
track_flags_at = 5

abbrev pub protection_at : ℕ
protection_at = 6

abbrev pub track_iv_size_at : ℕ
track_iv_size_at = 7

abbrev pub accepted_at : ℕ
accepted_at = 8

abbrev pub held_at : ℕ
held_at = 9

abbrev pub prft_at : ℕ
prft_at = 10

abbrev pub ntp_at : ℕ
ntp_at = 11

abbrev pub media_time_at : ℕ
media_time_at = 12

abbrev pub version_at : ℕ
version_at = 13

abbrev pub prft_flags_at : ℕ
prft_flags_at = 14

-- behind the words of the `prft`
abbrev pub prft_end : ℕ
prft_end = 15

-- what is expected behind the reference: its mark, and the BMDT
abbrev pub past_at : ℕ
past_at = 15

abbrev pub expected_at : ℕ
expected_at = 16

-- the protected bytes of the reference's last sample
abbrev pub last_at : ℕ
last_at = 17

abbrev pub set_at : ℕ
set_at = 18

abbrev pub share_len : ℕ
share_len = set_at + set_len

-- 01: "a table of eight slots (0 to 7)"
abbrev pub slot_count : ℕ
slot_count = 8

abbrev pub table_len : ℕ
table_len = slot_count * share_len

abbrev pub fresh : List ℕ
fresh = replicate share_len 0

-- the words of the reference and of all that belongs to it, from its mark on
abbrev pub reference_len : ℕ
reference_len = share_len - held_at

-- a share without them
unfoldable pub dropped : List ℕ → List ℕ
dropped s = take held_at s ++ replicate reference_len 0
