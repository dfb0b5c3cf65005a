-- The command at a place of a list: a letter, the slot, a number and a length of eight bytes each, and as many bytes as the length says.
-- ==== What only mirrors the code
use Rattle.std.specs.Prelude.{ℕ, ◌+◌, ◌≤◌, ◌<◌, true, false, List, leb, length, get_or}
use Rattle.laws.specs.Gate.{gate}
use Rattle.cmaf_read_tree.specs.Numbers.{u64}
use Rattle.commands.specs.declared.command.Command.{Command}

-- where it ends
abbrev pub end_at : List ℕ → ℕ → ℕ
end_at l p = p + 25 + u64 l (p + 17)

-- one that is cut by the end of the list, at the place n: it has no bytes, and nothing comes after it
abbrev pub cut_at : ℕ → Command
cut_at n = record { whole = false; call = 0; slot = 0; value = 0; at = n; next = n }

-- one that stands in full
abbrev pub whole_at : List ℕ → ℕ → Command
whole_at l p = record { whole = true; call = get_or l p 0; slot = u64 l (p + 1); value = u64 l (p + 9); at = p + 25; next = end_at l p }

unfoldable pub command_at : List ℕ → ℕ → Command
command_at l p = gate (leb (end_at l p) (length l)) (cut_at (length l)) (whole_at l p)

-- what follows of the places of a command r that was read at the place p
pub record Placed (l : List ℕ) (p : ℕ) (r : Command) : Type 0 where
  pub behind : p < r.next
  pub ordered : r.at ≤ r.next
  pub within : r.next ≤ length l
