-- The `styp` and the `prft`, written.
use Rattle.std.specs.Prelude.{ℕ, cond, List, [], ◌∷◌, ◌++◌, eqb, take, drop}
use Rattle.laws.specs.Bytes.{be}
use Rattle.track.specs.declared.Track.{Track}
use Rattle.boxes.specs.Box.{box, full_box, when}
use Rattle.boxes.specs.Box as B
use Rattle.prft_value.specs.declared.Prft.{Prft}

-- ==== The rules

-- the brands are the major one and then the compatible ones, four bytes each
unfoldable pub styp_box : List ℕ → List ℕ
styp_box [] = []
styp_box (b ∷ bs) = box B.styp (take 4 (b ∷ bs) ++ (be 4 0 ++ drop 4 (b ∷ bs)))

-- a media time, which has 32 bits in version 0
unfoldable pub media_bytes : ℕ → ℕ → List ℕ
media_bytes version media = cond (eqb version 0) (be 4 media) (be 8 media)

-- a producer reference time, where it stands
unfoldable pub prft_box : Track → Prft → List ℕ
prft_box t p =
    when p.stands
    (full_box B.prft p.version p.flags
    (be 4 t.id ++ (be 8 p.ntp.0 ++ media_bytes p.version p.media.0)))
