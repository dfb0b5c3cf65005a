-- Laws of writing: one write after another is one write. Assumes nothing.
use Prim.Native.Nat.{ℕ, ◌+◌, ◌≤◌, ◌<◌}
use native.Mathlib.Nat.{add-zero, zero-add}
use native.Mathlib.Numerals.{add-one}
use native.Mathlib.Omega.{arith}
use mathlib.Core.Path.{◌≡◌, refl, sym, ◌∙◌, ap, subst}
use mathlib.Core.List.{List, [], ◌∷◌, ◌++◌, append_assoc, append-nil}
use lib.ListN.{length, get_or, set, take, drop, length-append, length-take, length-drop, take-append-drop}
use lib.Seq.{sets, sets-eq, length-take-le, take_at, drop-append_seam, drop-append-add, drop-drop, take-suc}
use Rattle.laws.specs.Writes.{Wrote}

-- nothing written
pub wrote_none : (l : List ℕ) (at : ℕ) → at ≤ length l → Wrote l at [] l at
wrote_none l at h =
    record {
      room = omega arith;
      all =
          sym
          (ap (λ (k : ℕ). take at l ++ [] ++ drop k l) (add-zero at)
          ∙ ap (λ (r : List ℕ). r ++ drop at l) (append-nil (take at l))
          ∙ take-append-drop at l);
      place = omega arith;
    }

-- what is written over the front of a list leaves its length, and what is past the front
pub front-stays : (front output : List ℕ) → length front ≤ length output
    → (length (front ++ drop (length front) output) ≡ length output)
    × (drop (length front) (front ++ drop (length front) output) ≡ drop (length front) output)
front-stays front output h = (
  omega (arith, length-append front (drop (length front) output), length-drop (length front) output),
  drop-append_seam front (drop (length front) output),
)

-- a run of stores is a write
pub wrote-sets : (l : List ℕ) (at : ℕ) (vs : List ℕ) → at + length vs ≤ length l → Wrote l at vs (sets l at vs) (at + length vs)
wrote-sets l at vs h = record { room = h; all = sets-eq vs l at h; place = refl }

-- and a write is a run of stores
pub sets-wrote : {l : List ℕ} {at : ℕ} {vs m : List ℕ} {p : ℕ} → Wrote l at vs m p → m ≡ sets l at vs
sets-wrote {l} {at} {vs} w = w.all ∙ sym (sets-eq vs l at w.room)

-- what a writer leaves has the length that it was given
pub wrote-length : {l : List ℕ} {at : ℕ} {vs m : List ℕ} {p : ℕ} → Wrote l at vs m p → length m ≡ length l
wrote-length {l} {at} {vs} {m} {p} w =
    let h : at + length vs ≤ length l = w.room in
    ap length w.all ∙ simp (length-append, length-take, length-drop) (omega arith)

-- first vs, and then us where vs ended
pub then : {l : List ℕ} {at : ℕ} {vs m : List ℕ} {p : ℕ} {us n : List ℕ} {q : ℕ} → Wrote l at vs m p → Wrote m p us n q → Wrote l at (vs ++ us) n q
then {l} {at} {vs} {m} {p} {us} {n} {q} w x =
    let P : List ℕ = take at l ++ vs in
    let R : List ℕ = drop (at + length vs) l in
    let hat : at ≤ length l = omega (arith, w.room) in
    let len_p : length P ≡ p = length-append (take at l) vs ∙ ap (λ (k : ℕ). k + length vs) (length-take-le at l hat) ∙ sym w.place in
    let both : length (vs ++ us) ≡ length vs + length us = length-append vs us in
    let e1 : take p m ≡ P = ap (λ (z : List ℕ). take p z) w.all ∙ take_at P R p len_p in
    let e0 : at + length vs + length us ≡ at + length (vs ++ us) = omega arith in
    let e2 : drop (p + length us) m ≡ drop (at + length (vs ++ us)) l =
    ap (λ (z : List ℕ). drop (p + length us) z) w.all
    ∙ ap (λ (k : ℕ). drop (k + length us) (P ++ R)) (sym len_p)
    ∙ drop-append-add P R (length us)
    ∙ drop-drop (length us) (at + length vs) l
    ∙ ap (λ (k : ℕ). drop k l) e0 in
    record {
      room = omega (arith, wrote-length w, x.room, w.place);
      all =
          x.all
          ∙ ap (λ (z : List ℕ). z ++ us ++ drop (p + length us) m) e1
          ∙ ap (λ (z : List ℕ). P ++ us ++ z) e2
          ∙ ap (λ (z : List ℕ). z ++ drop (at + length (vs ++ us)) l) (append_assoc (take at l) vs us);
      place = omega (arith, x.place, w.place);
    }

-- what was written is known under another name
pub wrote_as : {l m : List ℕ} {at p : ℕ} {vs us : List ℕ} → vs ≡ us → Wrote l at vs m p → Wrote l at us m p
wrote_as {l} {m} {at} {p} e w = subst (λ (z : List ℕ). Wrote l at z m p) e w

-- written from the first place on
pub wrote-front : {l vs m : List ℕ} {p : ℕ} → Wrote l 0 vs m p → (p ≡ length vs) × (m ≡ vs ++ drop (length vs) l)
wrote-front {l} {vs} {m} {p} w = (omega (arith, w.place), rw zero-add at w.all)

-- there is room for k more
pub more : {l m : List ℕ} {at p : ℕ} {vs : List ℕ} (k : ℕ) → Wrote l at vs m p → at + (length vs + k) ≤ length l → p + k ≤ length m
more k w h = omega (arith, w.place, wrote-length w)

-- one number more of a copy
pub then_one : {l m : List ℕ} {at p : ℕ} (vs : List ℕ) (i : ℕ) → i < length vs → p < length m
    → Wrote l at (take i vs) m p → Wrote l at (take (i + 1) vs) (set m p (get_or vs i 0)) (p + 1)
then_one {m = m} {p = p} vs i h k w =
    rw (add-one, take-suc vs i 0) (then w (wrote-sets m p (get_or vs i 0 ∷ []) (omega arith)))
