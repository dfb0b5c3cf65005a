-- The size of a sample's entry, by what the words of the set say of its subsamples. Assumes nothing.
use Prim.Native.Nat.{ℕ, ◌+◌, ◌*◌, ◌<◌}
use native.Mathlib.Omega.{arith}
use mathlib.Core.Path.{◌≡◌, refl}
use mathlib.Core.Bool.{Bool, true, false}
use mathlib.Core.List.{List}
use Rattle.track.specs.declared.Track.{Track}
use Rattle.field_set.specs.Lawful.{has, value_at, count_in}
use Rattle.boxes.specs.Box.{flag_when}
use Rattle.cmaf_write_saiz.specs.Saiz.{info_size}
use Rattle.cmaf_write_senc.specs.Protection.{Protectable}
use Rattle.cmaf_write_senc.proofs.PairLaws.{size-most}

module _ {t : Track} {w : List ℕ} (p : Protectable t w) (i : ℕ) (lt : i < count_in w) where
  pub info-small : info_size t w i < 256
  unfolding info_size
  info-small = go (has 11 w) refl
    where
      go : (b : Bool) → has 11 w ≡ b → t.iv_size + flag_when b (2 + 6 * value_at 11 i w) < 256
      go true e = omega (arith, size-most p i lt e)
      go false e = omega (arith, p.iv)

  -- in a set without subsamples it doesn't matter what is added for them
  pub info-pairs : {c : ℕ} → c ≡ flag_when (has 11 w) (value_at 11 i w) → t.iv_size + flag_when (has 11 w) (2 + 6 * c) ≡ info_size t w i
  unfolding info_size
  info-pairs {c} q = go (has 11 w) q
    where
      go : (b : Bool) → c ≡ flag_when b (value_at 11 i w) → t.iv_size + flag_when b (2 + 6 * c) ≡ t.iv_size + flag_when b (2 + 6 * value_at 11 i w)
      go true h = rw h
      go false h = refl
