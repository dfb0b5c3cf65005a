-- What the three calls make of a share. 01: "Order: 18 for length, 1, 18 for the share, 2 or 3, 4."
-- ==== The rules
use Rattle.std.specs.Prelude.{ℕ, not, List, [], ◌∷◌, Result, Ok, Err}
use Rattle.laws.specs.Ladder.{Rung, ◌else◌, ladder}
use Rattle.track.specs.declared.Asked.{Asked}
use Rattle.track.specs.Track.{lawful as lawful_track}
use Rattle.slots.specs.declared.lawful.Side.{Side}
use Rattle.slots.specs.Share.{lawful, is_open, opened}
use Rattle.share_words.specs.Share.{fresh, dropped}
use Rattle.slots.specs.Table.{Out, itself, on_share}

-- 3: "opening an open slot"; 4: "bad parameters" (D3)
abbrev pub open_rungs : Side → Asked → List ℕ → List Rung
open_rungs side a s = (lawful side s else 18) ∷ (not (is_open s) else 3) ∷ (lawful_track a else 4) ∷ []

-- 2: "slot not open" (D1, D3)
abbrev pub opened_rungs : Side → List ℕ → List Rung
opened_rungs side s = (lawful side s else 18) ∷ (is_open s else 2) ∷ []

-- whether a slot is open, or the number that is given instead
unfoldable pub open_in : Side → List ℕ → Result (Unit {0}) ℕ
open_in side s = ladder (opened_rungs side s) (λ k. Err k) (Ok tt)

-- 01: "open a slot with parameters"
unfoldable pub opening : Side → Asked → List ℕ → Out ℕ
opening side a s = on_share itself (open_rungs side a) 0 (λ _. opened a) s

-- 01: "closing zeroes the share"
unfoldable pub closing : Side → List ℕ → Out ℕ
closing side s = on_share itself (opened_rungs side) 0 (λ _. fresh) s

-- 01: "start a group (drops the reference)" (D4)
unfoldable pub grouping : Side → List ℕ → Out ℕ
grouping side s = on_share itself (opened_rungs side) 0 dropped s
