-- A producer reference time.
use Rattle.std.specs.Prelude.{ℕ, ◌-◌, ◌^◌, ◌≤◌, Bool, true, false, cond, eqb, ◌≡◌, ◌⊎◌}
use Rattle.constants.specs.Maxima.{number_most}
use Rattle.prft_value.specs.declared.Prft.{Prft}

-- ==== The rules

-- no producer reference time: a box that doesn't stand
abbrev pub absent_prft : Prft
absent_prft = record { stands = false; ntp = record { 0 = 0 }; media = record { 0 = 0 }; version = 0; flags = 0 }

-- 01: "A value's range is that of its box field, after deltas": the media time has 32 bits in version 0 (D108)
abbrev pub media_most : ℕ → ℕ
media_most version = cond (eqb version 0) (2 ^ 32 - 1) (2 ^ 64 - 1)

-- what is kept of an id: in a delta the current full object's, in a full object what its absence means (D64)
abbrev pub kept_for : Bool → ℕ → ℕ → ℕ
kept_for delta share plain = cond delta share plain

-- ==== What only mirrors the code

-- a version of 8 bits and flags of 24
pub record Headed (p : Prft) : Type 0 where
  pub version : p.version ≤ 255
  pub flags : p.flags ≤ 0xffffff

-- ==== What only proofs need

-- a `prft` in the ranges that a share keeps, or none
abbrev pub InRange : Prft → Type 0
InRange p =
    (p.stands ≡ false → (p.ntp.0 ≡ 0) × (p.media.0 ≡ 0) × (p.version ≡ 0) × (p.flags ≡ 0))
    × (p.stands ≡ true
    → (p.version ≤ 1)
    × ((p.version ≡ 1) ⊎ (p.media.0 ≤ 0xffff_ffff))
    × (p.flags ≤ 0xff_ffff)
    × (p.ntp.0 ≤ number_most)
    × (p.media.0 ≤ number_most))
