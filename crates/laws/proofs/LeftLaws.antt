-- A loop that writes a list part by part: what is left to be written. Assumes nothing.
use Prim.Native.Nat.{ℕ, ◌+◌, ◌≤◌}
use native.Mathlib.Omega.{arith}
use mathlib.Core.Path.{◌≡◌, refl, sym, ◌∙◌, ap}
use mathlib.Core.List.{List, [], ◌++◌, append_assoc, append-nil}
use lib.ListN.{length, length-append}
use Rattle.laws.specs.Writes.{Wrote}
use Rattle.laws.proofs.WriteLaws.{wrote_none, wrote-length, wrote_as, then}

-- of the numbers `all`, to be written from `at` on into l, all but `left` are written: that made m of l, and the next place is p
pub record Left (l : List ℕ) (at : ℕ) (all m : List ℕ) (p : ℕ) (left : List ℕ) : Type 0 where
  pub done : List ℕ
  pub split : done ++ left ≡ all
  pub room : at + length all ≤ length l
  pub wrote : Wrote l at done m p

pub left-all : (l : List ℕ) (at : ℕ) (all : List ℕ) → at + length all ≤ length l → Left l at all l at all
left-all l at all h = record { done = []; split = refl; room = h; wrote = wrote_none l at (omega arith) }

pub left-none : {l : List ℕ} {at : ℕ} {all m : List ℕ} {p : ℕ} {left : List ℕ} → Left l at all m p left → left ≡ [] → Wrote l at all m p
left-none h e = wrote_as (sym (append-nil h.done) ∙ ap (λ (x : List ℕ). h.done ++ x) (sym e) ∙ h.split) h.wrote

module _ {l : List ℕ} {at : ℕ} {all m : List ℕ} {p : ℕ} {left : List ℕ} (h : Left l at all m p left) where
  pub left-same : length m ≡ length l
  left-same = wrote-length h.wrote

  pub left-room : p + length left ≤ length m
  left-room = omega (arith, h.room, h.wrote.place, left-same, length-append h.done left, ap length h.split)

  -- a part more
  pub left_less : {part n : List ℕ} {q : ℕ} (rest : List ℕ) → left ≡ part ++ rest → Wrote m p part n q → Left l at all n q rest
  left_less {part} rest e w =
      record {
        done = h.done ++ part;
        split = append_assoc h.done part rest ∙ ap (λ (x : List ℕ). h.done ++ x) (sym e) ∙ h.split;
        room = h.room;
        wrote = then h.wrote w;
      }
