-- The three boxes of protected samples one after another. Assumes nothing.
use Prim.Native.Nat.{ℕ, ◌+◌}
use native.Mathlib.Omega.{arith}
use mathlib.Core.Path.{◌≡◌, refl, sym, ◌∙◌, ap}
use mathlib.Core.Bool.{Bool, true, false, ◌||◌}
use mathlib.Core.List.{List, [], ◌++◌}
use lib.ListN.{length, length-append}
use Rattle.track.specs.declared.Track.{Track}
use Rattle.field_set.specs.Lawful.{has}
use Rattle.cmaf_write_senc.specs.Protected.{senc_box}
use Rattle.cmaf_write_saiz.specs.Saiz.{saiz_box, saio_box}
use Rattle.cmaf_write_moof.specs.Moof.{protection}
use Rattle.cmaf_write_saiz.proofs.SaizLaws.{saio-length}

module _ (t : Track) (w : List ℕ) (place : ℕ) where
  pub protection-none : (has 9 w || has 11 w) ≡ false → protection t w place ≡ []
  unfolding protection
  protection-none e = rw e

  module _ (e : (has 9 w || has 11 w) ≡ true) where
    pub protection-all : protection t w place ≡ senc_box t w ++ (saiz_box t w ++ saio_box (place + 16))
    unfolding protection
    protection-all = rw e

    pub protection-length : length (protection t w place) ≡ length (senc_box t w) + length (saiz_box t w) + 20
    protection-length = rw protection-all (simp length-append (omega (arith, saio-length (place + 16))))

-- its length goes by the set alone
pub protection-same : (t : Track) (w : List ℕ) (x y : ℕ) → length (protection t w x) ≡ length (protection t w y)
protection-same t w x y = by (has 9 w || has 11 w) refl
  where
    by : (b : Bool) → (has 9 w || has 11 w) ≡ b → length (protection t w x) ≡ length (protection t w y)
    by true e = protection-length t w x e ∙ sym (protection-length t w y e)
    by false e = ap length (protection-none t w x e) ∙ sym (ap length (protection-none t w y e))
