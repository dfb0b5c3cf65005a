-- The values of a field in the words of a set, from a number of them on: what is left of them as a walk takes some from the front. Assumes nothing.
use Prim.Native.Nat.{ℕ, suc, ◌+◌, ◌-◌, ◌<◌}
use native.Mathlib.Nat.{add-zero}
use native.Mathlib.Omega.{arith}
use mathlib.Core.Path.{◌≡◌, sym, ◌∙◌, ap}
use mathlib.Core.Bool.{true}
use mathlib.Core.List.{List, [], ◌∷◌, ◌++◌, append_assoc}
use Rattle.std.specs.Prelude.{Some}
use borrow.Author.Tests.{eqb-false, not-true}
use lib.ListN.{length, get_or, take, drop, replicate, length-append, get_or-append}
use lib.Seq.{slice, get_or-drop, drop-drop, drop_at, take-append_seam, drop-append_seam, append_snoc}
use Rattle.laws.proofs.SliceLaws.{slice_front}
use Rattle.field_table.specs.Lines.{lines, line_for}
use Rattle.field_set.specs.Lawful.{has, values_of}
use Rattle.field_set.proofs.RegionLaws.{used}
use Rattle.field_rules.specs.Words.{region_of}
use Rattle.field_rules.proofs.SetLaws.{Around}

-- where the values of an id begin
abbrev pub first_of : ℕ → ℕ
first_of id = (line_for id lines).place + 1

-- from the number j of the field on stand these values
pub record Stand (id : ℕ) (w : List ℕ) (j : ℕ) (vs : List ℕ) : Type 0 where
  pub rest : List ℕ
  pub is : drop (first_of id + j) w ≡ vs ++ rest

-- those of a field's region
pub stand-around : {id : ℕ} {vs w : List ℕ} → Around (line_for id lines) (Some vs) w → Stand id w 0 vs
unfolding region_of
stand-around {id} {vs} {w} o =
    let zeros : List ℕ = replicate ((line_for id lines).room - length vs) 0 in
    let n : length (o.pre ++ (1 ∷ [])) ≡ first_of id + 0 = omega (arith, length-append o.pre (1 ∷ []), o.at) in
    record {
      rest = zeros ++ o.post;
      is =
          ap (drop (first_of id + 0)) (o.is ∙ sym (append_snoc o.pre 1 ((vs ++ zeros) ++ o.post)))
          ∙ drop_at (o.pre ++ (1 ∷ [])) ((vs ++ zeros) ++ o.post) (first_of id + 0) n
          ∙ append_assoc vs zeros o.post;
    }

module _ {id : ℕ} {w : List ℕ} {j : ℕ} where
  -- one of them
  pub stand-value : {vs : List ℕ} → Stand id w j vs → (q : ℕ) → q < length vs → get_or w (first_of id + (j + q)) 0 ≡ get_or vs q 0
  stand-value {vs} s q lt =
      let e : first_of id + (j + q) ≡ first_of id + j + q = omega arith in
      rw (e, ← get_or-drop (first_of id + j) w q 0, s.is) (get_or-append vs s.rest 0 q lt)

  -- the first of them
  pub stand-first : {v : ℕ} {vs : List ℕ} → Stand id w j (v ∷ vs) → get_or w (first_of id + j) 0 ≡ v
  stand-first s = rw add-zero at (stand-value s 0 (omega arith))

  -- those at the front
  pub stand-front : (xs ys : List ℕ) → Stand id w j (xs ++ ys) → Stand id w j xs
  stand-front xs ys s = record { rest = ys ++ s.rest; is = s.is ∙ append_assoc xs ys s.rest }

  -- and those behind them
  pub stand-past : {n : ℕ} (xs ys : List ℕ) → j + length xs ≡ n → Stand id w j (xs ++ ys) → Stand id w n ys
  stand-past {n} xs ys h s =
      let e : first_of id + n ≡ first_of id + j + length xs = omega arith in
      record {
        rest = s.rest;
        is =
            ap (λ (m : ℕ). drop m w) e
            ∙ sym (drop-drop (length xs) (first_of id + j) w)
            ∙ ap (drop (length xs)) (s.is ∙ append_assoc xs ys s.rest)
            ∙ drop-append_seam xs (ys ++ s.rest);
      }

  pub stand-next : {v : ℕ} {vs : List ℕ} → Stand id w j (v ∷ vs) → Stand id w (suc j) vs
  stand-next {v} {vs} s = stand-past (v ∷ []) vs (omega arith) s

  -- as a part of the words
  pub stand-part : {vs : List ℕ} → Stand id w j vs → slice (first_of id + j) (first_of id + j + length vs) w ≡ vs
  stand-part {vs} s = slice_front (first_of id + j) (length vs) w ∙ ap (take (length vs)) s.is ∙ take-append_seam vs s.rest

-- all of them, where the field stands
pub stand-all : {id : ℕ} {vs w : List ℕ} (k : ℕ) → has id w ≡ true → Stand id w 0 vs → length vs ≡ k → values_of id k w ≡ vs
unfolding has values_of
stand-all {id} {vs} {w} k h s e =
    let n = eqb-false (get_or w (line_for id lines).place 0) 0 (not-true _ h) in
    rw (← used (get_or w (line_for id lines).place 0) k n, ← e) (rw add-zero at (stand-part s))
