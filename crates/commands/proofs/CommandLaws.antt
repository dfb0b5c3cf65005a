-- The command at a place of a list is cut by the list's end, or stands in full. Assumes nothing.
use Prim.Native.Nat.{ℕ, ◌+◌, ◌≤◌, ◌<◌}
use native.Mathlib.Omega.{arith}
use mathlib.Core.Path.{◌≡◌, ◌∙◌, ap}
use mathlib.Core.Bool.{true}
use mathlib.Core.List.{List}
use borrow.Author.Tests.{le-leb, lt-leb}
use lib.ListN.{length, get_or}
use Rattle.laws.proofs.GateLaws.{stop, pass}
use Rattle.cmaf_read_tree.specs.Numbers.{u64}
use Rattle.commands.specs.declared.command.Command.{Command}
use Rattle.commands.specs.Command.{end_at, cut_at, whole_at, command_at, Placed}

-- a command by the numbers that were read: slot, number and length
abbrev pub whole_by : List ℕ → ℕ → ℕ → ℕ → ℕ → Command
whole_by l p s v n = record { whole = true; call = get_or l p 0; slot = s; value = v; at = p + 25; next = p + 25 + n }

module _ (l : List ℕ) (p : ℕ) where
  pub cut-is : {r : Command} → p < length l → length l < end_at l p → r ≡ cut_at (length l) → (r ≡ command_at l p) × Placed l p r
  unfolding command_at
  cut-is {r} h k e =
      let a : r.at ≡ length l = ap (λ (c : Command). c.at) e in
      let n : r.next ≡ length l = ap (λ (c : Command). c.next) e in (
        e ∙ stop (whole_at l p) (lt-leb (end_at l p) (length l) k),
        record { behind = omega arith; ordered = omega arith; within = omega arith },
      )

  pub whole_is : (s v n : ℕ) → s ≡ u64 l (p + 1) → v ≡ u64 l (p + 9) → n ≡ u64 l (p + 17) → p + 25 + n ≤ length l
      → (whole_by l p s v n ≡ command_at l p) × Placed l p (whole_by l p s v n)
  unfolding command_at
  whole_is s v n a b e h = (
    pass (cut_at (length l)) (le-leb (end_at l p) (length l) (omega arith)) (λ i. whole_by l p (a i) (b i) (e i)),
    record { behind = omega arith; ordered = omega arith; within = omega arith },
  )
