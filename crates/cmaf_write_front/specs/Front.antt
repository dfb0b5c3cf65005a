-- The chunk written, up to and with the `mdat` header.
use Rattle.std.specs.Prelude.{ℕ, ◌+◌, List, ◌++◌}
use Rattle.laws.specs.Bytes.{be}
use Rattle.track.specs.declared.Track.{Track}
use Rattle.boxes.specs.Box as B
use Rattle.prft_value.specs.declared.Prft.{Prft}
use Rattle.event_value.specs.Events.{Event, events_of}
use Rattle.cmaf_write_prelude.specs.Prelude.{styp_box, prft_box}
use Rattle.cmaf_write_emsg.specs.Emsg.{emsg_boxes}
use Rattle.cmaf_write_moof.specs.Moof.{moof_whole}

-- ==== The rules

-- the front: no `styp` without brands
unfoldable pub front : Track → ℕ → List ℕ → ℕ → Prft → List Event → List ℕ → List ℕ
front t sequence w payload prft events brands =
    styp_box brands
    ++ (prft_box t prft ++ (emsg_boxes events ++ (moof_whole t sequence w payload ++ (be 4 (8 + payload) ++ be 4 B.mdat))))

-- ==== What only mirrors the code

-- the front with its events as words: k of them, and the bytes o that they point into
abbrev pub front_of : Track → ℕ → List ℕ → ℕ → Prft → List ℕ → List ℕ → ℕ → List ℕ → List ℕ
front_of t sequence w payload prft o ws k brands = front t sequence w payload prft (events_of o ws k) brands
