-- A list that is written in known parts, one after another: what is left to be written. Assumes nothing.
use Prim.Native.Nat.{ℕ, ◌+◌, ◌≤◌}
use native.Mathlib.Omega.{arith}
use mathlib.Core.Path.{◌≡◌, refl, sym, ap, subst}
use mathlib.Core.List.{List, [], ◌∷◌, ◌++◌, append-nil}
use lib.ListN.{length, length-append}
use Rattle.laws.specs.Writes.{Wrote}
use Rattle.laws.proofs.LeftLaws.{Left, left-all, left-none, left-room, left_less}

-- parts one after another
abbrev pub joined : List (List ℕ) → List ℕ
joined [] = []
joined (part ∷ []) = part
joined (part ∷ next ∷ rest) = part ++ joined (next ∷ rest)

joined-cons : (part : List ℕ) (rest : List (List ℕ)) → joined (part ∷ rest) ≡ part ++ joined rest
joined-cons part [] = sym (append-nil part)
joined-cons part (next ∷ rest) = refl

-- of the numbers `all`, all but the parts are written
pub record Parts (l : List ℕ) (at : ℕ) (all m : List ℕ) (p : ℕ) (parts : List (List ℕ)) : Type 0 where
  pub left : Left l at all m p (joined parts)

pub parts_all : (l : List ℕ) (at : ℕ) {all : List ℕ} (parts : List (List ℕ)) → joined parts ≡ all → at + length all ≤ length l → Parts l at all l at parts
parts_all l at {all} parts e h = record { left = subst (λ (z : List ℕ). Left l at all l at z) (sym e) (left-all l at all h) }

module _ {l : List ℕ} {at : ℕ} {all m : List ℕ} {p : ℕ} where
  -- there is room for the first part
  pub parts-room : {part : List ℕ} {rest : List (List ℕ)} → Parts l at all m p (part ∷ rest) → p + length part ≤ length m
  parts-room {part} {rest} h =
      omega (arith, left-room h.left, ap length (joined-cons part rest), length-append part (joined rest))

  -- it is written
  pub parts_then : {part : List ℕ} {rest : List (List ℕ)} {n : List ℕ} {q : ℕ}
      → Parts l at all m p (part ∷ rest) → Wrote m p part n q → Parts l at all n q rest
  parts_then {part} {rest} h w = record { left = left_less h.left (joined rest) (joined-cons part rest) w }

  pub parts_none : Parts l at all m p [] → Wrote l at all m p
  parts_none h = left-none h.left refl
