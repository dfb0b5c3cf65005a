-- 01: "Maxima: 64 samples and 256 subsamples a chunk; 16 brands; 16 emsg records in 4,096 list bytes; property block 16,384 bytes; payload 16,777,216
-- bytes; BMDT, and any number on the wire, 2^62-1."
-- ==== The rules
use Rattle.std.specs.Prelude.{ℕ, ◌-◌, ◌*◌, ◌^◌}

abbrev pub samples_most : ℕ
samples_most = 64

abbrev pub subsamples_most : ℕ
subsamples_most = 256

abbrev pub brands_most : ℕ
brands_most = 16

-- a brand has four bytes
abbrev pub brand_bytes_most : ℕ
brand_bytes_most = 4 * brands_most

abbrev pub events_most : ℕ
events_most = 16

abbrev pub event_bytes_most : ℕ
event_bytes_most = 4096

abbrev pub block_most : ℕ
block_most = 16384

abbrev pub payload_most : ℕ
payload_most = 16777216

abbrev pub number_most : ℕ
number_most = 2 ^ 62 - 1

-- 01: "`saiz` .. at most 255"
abbrev pub entry_most : ℕ
entry_most = 255
