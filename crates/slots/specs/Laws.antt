-- What is to be shown of the calls: numbers, lawful shares, and calls on different slots.
-- ==== What is shown of the rules
use Rattle.std.specs.Prelude.{ℕ, ◌<◌, ◌≡◌, true, List, ◌++◌, length, replicate}
use Rattle.laws.specs.Ladder.{Given}
use Rattle.track.specs.declared.Asked.{Asked}
use Rattle.slots.specs.declared.lawful.Side.{Side}
use Rattle.share_words.specs.Share.{share_len, fresh, dropped, slot_count, table_len}
use Rattle.slots.specs.Share.{lawful, opened}
use Rattle.slots.specs.Table.{Out, itself, share_at, table_rungs, on_table}
use Rattle.slots.specs.Calls.{open_rungs, opened_rungs, opening, closing, grouping}

-- the table after a call
abbrev pub after : {X : Type 0} → (ℕ → X) → (List ℕ → Out X) → ℕ → List ℕ → List ℕ
after refuse f slot t = (on_table refuse f t slot).words

-- a call on a share keeps its length
pub record Keeps {X : Type 0} (f : List ℕ → Out X) : Type 0 where
  pub keeps : (s : List ℕ) → length s ≡ share_len → length (f s).words ≡ share_len

-- two calls on the slots i and j: either order leaves the same table, and each answers what it would answer alone
pub record Apart {X Y : Type 0} (refuse : ℕ → X) (f : List ℕ → Out X) (refuse' : ℕ → Y) (g : List ℕ → Out Y) (i j : ℕ) (t : List ℕ) : Type 0 where
  pub same : after refuse' g j (after refuse f i t) ≡ after refuse f i (after refuse' g j t)
  pub first : (on_table refuse f (after refuse' g j t) i).answer ≡ (on_table refuse f t i).answer
  pub second : (on_table refuse' g (after refuse f i t) j).answer ≡ (on_table refuse' g t j).answer

-- for any two calls on a share, whatever they answer, any two slots that differ, and any table, lawful or not, of any length
abbrev pub CallsCommute : Type 1
CallsCommute = (X Y : Type 0) (refuse : ℕ → X) (f : List ℕ → Out X) (refuse' : ℕ → Y) (g : List ℕ → Out Y) → Keeps f → Keeps g
    → (i j : ℕ) → (i ≡ j → ⊥) → (t : List ℕ) → Apart refuse f refuse' g i j t

-- 01: "no call changes a share that it doesn't name": for any call on a share, any other slot, and any table
abbrev pub OthersStay : Type 1
OthersStay = (X : Type 0) (refuse : ℕ → X) (f : List ℕ → Out X) → Keeps f
    → (i j : ℕ) → (i ≡ j → ⊥) → j < slot_count → (t : List ℕ) → share_at (after refuse f i t) j ≡ share_at t j

-- 01: "Every call on a lawful share leaves it lawful"
pub record StaysLawful (side : Side) (f : List ℕ → Out ℕ) : Type 0 where
  pub keeps : (s : List ℕ) → length s ≡ share_len → lawful side s ≡ true → lawful side (f s).words ≡ true

-- 01: "All zeros is fresh"
abbrev pub FreshLawful : Type 0
FreshLawful = (side : Side) (slot : ℕ) → slot < slot_count → lawful side (share_at (replicate table_len 0) slot) ≡ true

-- each number is given exactly when its rule is broken and none before it, in the order of 01
abbrev pub OpenExactly : Type 0
OpenExactly = (side : Side) (a : Asked) (t : List ℕ) (slot : ℕ)
    → Given (on_table itself (opening side a) t slot).answer (table_rungs t slot ++ open_rungs side a (share_at t slot))

abbrev pub CloseExactly : Type 0
CloseExactly = (side : Side) (t : List ℕ) (slot : ℕ)
    → Given (on_table itself (closing side) t slot).answer (table_rungs t slot ++ opened_rungs side (share_at t slot))

abbrev pub GroupExactly : Type 0
GroupExactly = (side : Side) (t : List ℕ) (slot : ℕ)
    → Given (on_table itself (grouping side) t slot).answer (table_rungs t slot ++ opened_rungs side (share_at t slot))

-- where a call is done: opening stores what was asked and nothing else, closing zeroes, starting a group keeps the parameters and the count
-- and zeroes all that belongs to the reference
abbrev pub OpenStores : Type 0
OpenStores = (side : Side) (a : Asked) (s : List ℕ) → (opening side a s).answer ≡ 0 → (opening side a s).words ≡ opened a

abbrev pub CloseZeroes : Type 0
CloseZeroes = (side : Side) (s : List ℕ) → (closing side s).answer ≡ 0 → (closing side s).words ≡ fresh

abbrev pub GroupDrops : Type 0
GroupDrops = (side : Side) (s : List ℕ) → (grouping side s).answer ≡ 0 → (grouping side s).words ≡ dropped s

-- a refusal changes nothing
abbrev pub RefusalKeeps : (List ℕ → Out ℕ) → Type 0
RefusalKeeps f = (s : List ℕ) → ((f s).answer ≡ 0 → ⊥) → (f s).words ≡ s
