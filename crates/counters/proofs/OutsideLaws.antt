-- Stores, and what stands outside of them; no field's mark stands in the room of the IVs. Assumes nothing.
use Prim.Native.Nat.{ℕ, zero, suc, ◌+◌, ◌≤◌, ◌<◌}
use native.Mathlib.Nat.{not-suc-le-zero, le_of_suc-le-suc, add-sub_cancel_left}
use native.Mathlib.Omega.{arith}
use mathlib.Core.Path.{◌≡◌, refl, sym, ◌∙◌, ap, ap₂, subst}
use mathlib.Core.Logic.{◌⊎◌, inl, inr}
use mathlib.Core.Bool.{Bool, true, false, cond, ◌||◌}
use mathlib.Core.List.{List, [], ◌∷◌, ◌++◌, map, append_assoc}
use borrow.Author.Tests.{leb-true}
use lib.Dec.{eqb, leb}
use lib.ListN.{length, get_or, set, take, drop, take-append-drop}
use lib.Seq.{slice, sets, sets-eq, length-sets, length-slice, length-take-le, take-set-le, drop-set-lt, take-add}
use Rattle.laws.specs.Tests.{◌and◌}
use Rattle.laws.proofs.SliceLaws.{slice_front, slice-between}
use Rattle.laws.proofs.TestLaws.{left, right, either}
use Rattle.field_table.specs.declared.lines.Line.{Line}
use Rattle.field_table.specs.Lines.{lines, line_for, every, marks_of, ivs_at, subsamples_at}

-- ---- stores, and words and parts outside of them

-- the words before a place, and stores from there on
pub take-before : (vs w : List ℕ) (i b : ℕ) → b ≤ i → take b (sets w i vs) ≡ take b w
take-before [] w i b h = refl
take-before (v ∷ vs) w i b h = take-before vs (set w i v) (suc i) b (omega arith) ∙ take-set-le b w i v h

-- a part behind a store
slice_set : (a b : ℕ) (w : List ℕ) (i v : ℕ) → i < a → slice a b (set w i v) ≡ slice a b w
slice_set zero b w i v h = absurd (not-suc-le-zero h)
slice_set (suc a) zero w i v h = refl
slice_set (suc a) (suc b) [] i v h = refl
slice_set (suc a) (suc b) (x ∷ w) zero v h = refl
slice_set (suc a) (suc b) (x ∷ w) (suc i) v h = slice_set a b w i v (le_of_suc-le-suc h)

-- a part behind a run of stores
pub slice-behind : (vs w : List ℕ) (i a b : ℕ) → i + length vs ≤ a → slice a b (sets w i vs) ≡ slice a b w
slice-behind [] w i a b h = refl
slice-behind (v ∷ vs) w i a b h = slice-behind vs (set w i v) (suc i) a b (omega arith) ∙ slice_set a b w i v (omega arith)

-- the words behind it
pub drop-behind : (vs w : List ℕ) (i a : ℕ) → i + length vs ≤ a → drop a (sets w i vs) ≡ drop a w
drop-behind [] w i a h = refl
drop-behind (v ∷ vs) w i a h = drop-behind vs (set w i v) (suc i) a (omega arith) ∙ drop-set-lt a w i v (omega arith)

-- what was stored stands there
pub sets-there : (x vs : List ℕ) (i : ℕ) → i + length vs ≤ length x → slice i (i + length vs) (sets x i vs) ≡ vs
sets-there x vs i h =
    let l : length (take i x) ≡ i = length-take-le i x (omega arith) in
    ap (slice i (i + length vs)) (sets-eq vs x i h ∙ append_assoc (take i x) vs (drop (i + length vs) x))
    ∙ subst (λ (n : ℕ). slice n (n + length vs) (take i x ++ (vs ++ drop (i + length vs) x)) ≡ vs) l (slice-between (take i x) vs (drop (i + length vs) x))

-- what was there is put back
pub sets-back : (x vs : List ℕ) (i n : ℕ) → length vs ≡ n → i + n ≤ length x → sets (sets x i vs) i (slice i (i + n) x) ≡ x
sets-back x vs i n e h =
    let s : List ℕ = slice i (i + n) x in
    let l : length s ≡ n = length-slice i (i + n) x h ∙ add-sub_cancel_left i n in
    let front : take i (sets x i vs) ≡ take i x = take-before vs x i i (omega arith) in
    let rest : drop (i + length s) (sets x i vs) ≡ drop (i + n) x = drop-behind vs x i (i + length s) (omega arith) ∙ ap (λ (k : ℕ). drop (i + k) x) l in
    let own : take i x ++ s ≡ take (i + n) x = ap (λ (z : List ℕ). take i x ++ z) (slice_front i n x) ∙ sym (take-add i n x) in
    sets-eq s (sets x i vs) i (omega (arith, length-sets x i vs))
    ∙ ap₂ (λ (a b : List ℕ). a ++ s ++ b) front rest
    ∙ ap (λ (z : List ℕ). z ++ drop (i + n) x) own
    ∙ take-append-drop (i + n) x

-- ---- no mark stands in the room of the IVs

-- a place that isn't in it
abbrev pub Outside : ℕ → Type 0
Outside p = (p ≤ ivs_at) ⊎ (subsamples_at ≤ p)

-- whether a line's mark isn't
outside : Line → Bool
outside l = leb l.place ivs_at || leb subsamples_at l.place

-- by its test
outside-is : (l : Line) → outside l ≡ true → Outside l.place
unfolding outside
outside-is l e =
    either (Outside l.place) (leb l.place ivs_at) (leb subsamples_at l.place) (λ q. inl (leb-true _ _ q)) (λ q. inr (leb-true _ _ q)) e

-- computed over the table
all-outside : every outside lines ≡ true
unfolding every outside lines ◌and◌
all-outside = refl

-- the mark of an id's line in a run of such lines
mark_of : (id : ℕ) (ls : List Line) → every outside ls ≡ true → Outside (line_for id ls).place
unfolding every line_for
mark_of id [] e = inl (omega arith)
mark_of id (l ∷ ls) e = go (eqb l.id id) (mark_of id ls (right _ _ e))
  where
    go : (b : Bool) → Outside (line_for id ls).place → Outside (cond b l (line_for id ls)).place
    go true h = outside-is l (left _ _ e)
    go false h = h

-- the mark of an id's line
pub mark-outside : (id : ℕ) → Outside (line_for id lines).place
mark-outside id = mark_of id lines all-outside

-- the marks of lines
marks-of : (v w : List ℕ) → ((p : ℕ) → Outside p → get_or v p 0 ≡ get_or w p 0) → (ls : List Line) → every outside ls ≡ true
    → map (λ (l : Line). get_or v l.place 0) ls ≡ map (λ (l : Line). get_or w l.place 0) ls
unfolding every
marks-of v w h [] e = refl
marks-of v w h (l ∷ ls) e = λ j. h l.place (outside-is l (left _ _ e)) j ∷ marks-of v w h ls (right _ _ e) j

-- words that are the same outside have the same marks
pub marks-outside : (v w : List ℕ) → ((p : ℕ) → Outside p → get_or v p 0 ≡ get_or w p 0) → marks_of v ≡ marks_of w
unfolding marks_of
marks-outside v w h = marks-of v w h lines all-outside
