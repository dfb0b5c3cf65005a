-- Items that tell of each id what is said of it, the ids ascending.
-- ==== What only proofs need
use Rattle.std.specs.Prelude.{ℕ, ◌≤◌, ◌<◌, ◌≡◌, true, false, List, ◌++◌, map, length, None}
use Rattle.wire.specs.Form.{limit}
use Rattle.laws.specs.Options.{is_some}
use Rattle.locmaf_read_block.specs.Entries.{readable, member, lawful, entry, says}
use Rattle.block_items.specs.Items.{Item, enc_block}
use Rattle.locmaf_read_block.specs.Written.{AllWritable, entry_of}
use Rattle.locmaf_read_said.specs.Said.{Says}
use Rattle.locmaf_write_tuples.specs.Items.{Items, list_of}
use Rattle.cmaf_read_facts.specs.Given.{F}

-- the items tell of every id from lo on what is said of it, and nothing of those below; they can be read, each id once; and written, where they are short
pub record Tell (f : Says) (lo : ℕ) (is : List Item) : Type 0 where
  pub none_below : (id : ℕ) → id < lo → (entry id (map (entry_of F) is) ≡ None) × (member id (map (entry_of F) is) ≡ false)
  pub says-are : (id : ℕ) → lo ≤ id → says F (map (entry_of F) is) id ≡ f id
  pub all-readable : readable F (map (entry_of F) is) ≡ true
  pub all-lawful : lawful (map (entry_of F) is) ≡ true
  pub all-writable : length (enc_block F is) < limit F → AllWritable F is

-- items that are to stand before others tell of the ids from lo up to hi
pub record Tells (f : Says) (lo hi : ℕ) (is : Items) : Type 0 where
  pub on : is_some is ≡ true → (rest : List Item) → Tell f hi rest → Tell f lo (list_of is ++ rest)
