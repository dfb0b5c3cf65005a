-- What is to stand in a block: items, or none where a number is too wide. 01: "any number on the wire, 2^62-1".
use Rattle.std.specs.Prelude.{ℕ, ◌+◌, ◌≤◌, ◌<◌, ◌≡◌, Bool, cond, List, [], ◌∷◌, ◌++◌, length, Option, Some, None}
use Rattle.std.specs.Option.{unwrap_or}
use Rattle.laws.specs.Writes.{Wrote}
use Rattle.laws.specs.Bytes.{be}
use Rattle.wire.specs.declared.form.Row.{Row}
use Rattle.wire.specs.declared.zigzag.Coding.{Coding}
use Rattle.wire.specs.Form.{limit}
use Rattle.runs.specs.Run.{run_of, measured}
use Rattle.laws.specs.Options.{on_option}
use Rattle.block_items.specs.Items.{Item, num, run, enc_block}

-- ==== The rules

abbrev pub Items : Type 0
Items = Option (List Item)

abbrev pub nothing : Items
nothing = Some []

-- some items and then others
infixr 40 ◌before◌
unfoldable pub ◌before◌ : Items → Items → Items
None before b = None
(Some xs) before None = None
(Some xs) before (Some ys) = Some (xs ++ ys)

-- items that stand only under a condition
unfoldable pub items_if : Bool → Items → Items
items_if stands is = cond stands is nothing

-- an id with a number, where that fits
unfoldable pub number_item : ℕ → Option ℕ → Items
number_item id c = on_option c (λ z. Some (num id z ∷ [])) None

abbrev pub on_measured : Option ℕ → Items → Items
on_measured (Some n) is = is
on_measured None is = None

-- an id with a list of numbers, new ones against old ones, where each fits
unfoldable pub run_item : List Row → Coding → ℕ → ℕ → List ℕ → List ℕ → Items
run_item F coding id base old new = on_measured (measured F coding base old new) (Some (run id (run_of F coding base old new) ∷ []))

-- words of eight bytes each, the highest byte first
unfoldable pub wide_bytes : List ℕ → List ℕ
wide_bytes [] = []
wide_bytes (w ∷ ws) = be 8 w ++ wide_bytes ws

-- the bytes of items that fit
abbrev pub list_of : Items → List Item
list_of (Some xs) = xs
list_of None = []

abbrev pub bytes_of : List Row → Items → List ℕ
bytes_of F is = enc_block F (list_of is)

-- ==== What only mirrors the code

-- the most bytes of an id and a number, or of an id and a length: eight each
abbrev pub pair_most : ℕ
pair_most = 16

-- what a weight may come to, so that weights can be added up
abbrev pub weight_most : ℕ
weight_most = 65536

-- a number that was made for the wire
abbrev pub Made : List Row → Option ℕ → Type 0
Made F (Some z) = z < limit F
Made F None = Unit {0}

-- the bytes of items, where all fit
unfoldable pub weight : List Row → Items → Option ℕ
weight F None = None
weight F (Some xs) = Some (length (enc_block F xs))

-- two weights as one
unfoldable pub sum_of : Option ℕ → Option ℕ → Option ℕ
sum_of (Some m) (Some n) = Some (m + n)
sum_of (Some m) None = None
sum_of None w = None

-- items were weighed, and have at most so many bytes
pub record WeighedAs (F : List Row) (is : Items) (most : ℕ) (w : Option ℕ) : Type 0 where
  pub found : w ≡ weight F is
  pub small : unwrap_or w 0 ≤ most

-- there is room for items in l from the place at on
abbrev pub RoomFor : List Row → Items → List ℕ → ℕ → Type 0
RoomFor F is l at = at + length (bytes_of F is) ≤ length l

-- items were written into l from the place at on: what the bytes are then, and where they end
abbrev pub WroteItems : List Row → Items → List ℕ → ℕ → List ℕ → ℕ → Type 0
WroteItems F is l at m r = Wrote l at (bytes_of F is) m r
