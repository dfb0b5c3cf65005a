-- What is asked of a block's entries, and what they say, doesn't depend on the order in which they stand. Assumes nothing.
use Prim.Native.Nat.{ℕ}
use mathlib.Core.Path.{◌≡◌, refl, sym, ◌∙◌, ap}
use mathlib.Core.Bool.{Bool, true, false, cond, not, ◌||◌}
use mathlib.Core.List.{List, Permᴰ}
use Rattle.std.specs.Prelude.{Some, None}
use borrow.Author.Tests.{eqb-true, eqb-false, ne_eqb, eq-eqb}
use lib.Dec.{eqb}
use Rattle.laws.specs.Tests.{◌and◌}
use Rattle.laws.proofs.TestLaws.{left, right}
use Rattle.wire.specs.declared.form.Row.{Row}
use Rattle.locmaf_read_block.specs.Entries.{known, Entry, body, readable, member, lawful, entry, says}
use Rattle.laws.specs.Options.{on_option, is_some}

swap_and : (a b c : Bool) → (a and b and c) ≡ (b and a and c)
unfolding ◌and◌
swap_and true true c = refl
swap_and true false c = refl
swap_and false true c = refl
swap_and false false c = refl

-- a test of each entry
pub readable-perm : (F : List Row) {es us : List Entry} → Permᴰ es us → readable F es ≡ readable F us
unfolding readable
readable-perm F Permᴰ.nil = refl
readable-perm F (Permᴰ.cons e d) = λ j. is_some (body F (e j).id (e j).bytes) and readable-perm F d j
readable-perm F (Permᴰ.swap {a} {b} {a'} {b'} {l} e f) =
    swap_and (is_some (body F a.id a.bytes)) (is_some (body F b.id b.bytes)) (readable F l)
    ∙ (λ j. is_some (body F (f j).id (f j).bytes) and is_some (body F (e j).id (e j).bytes) and readable F l)
readable-perm F (Permᴰ.trans d d') = readable-perm F d ∙ readable-perm F d'

-- whether an id stands there
swap_or : (a b c : Bool) → a || (b || c) ≡ b || (a || c)
swap_or true true c = refl
swap_or true false c = refl
swap_or false true c = refl
swap_or false false c = refl

member-perm : (id : ℕ) {es us : List Entry} → Permᴰ es us → member id es ≡ member id us
unfolding member
member-perm id Permᴰ.nil = refl
member-perm id (Permᴰ.cons e d) = λ j. eqb (e j).id id || member-perm id d j
member-perm id (Permᴰ.swap {a} {b} {a'} {b'} {l} e f) =
    swap_or (eqb a.id id) (eqb b.id id) (member id l) ∙ (λ j. eqb (f j).id id || (eqb (e j).id id || member id l))
member-perm id (Permᴰ.trans d d') = member-perm id d ∙ member-perm id d'

-- each id is known and stands once
eqb-sym : (a b : ℕ) → eqb a b ≡ eqb b a
eqb-sym a b = go (eqb a b) refl
  where
    go : (t : Bool) → eqb a b ≡ t → t ≡ eqb b a
    go true q = sym (eq-eqb b a (sym (eqb-true _ _ q)))
    go false q = sym (ne_eqb b a (λ e. eqb-false _ _ q (sym e)))

two_ways : (p q x m n r : Bool) → (p and not (x || m) and q and not n and r) ≡ (q and not (x || n) and p and not m and r)
unfolding ◌and◌
two_ways true true true m n r = refl
two_ways true true false true true r = refl
two_ways true true false true false r = refl
two_ways true true false false true r = refl
two_ways true true false false false r = refl
two_ways true false true m n r = refl
two_ways true false false true n r = refl
two_ways true false false false n r = refl
two_ways false true true m n r = refl
two_ways false true false m true r = refl
two_ways false true false m false r = refl
two_ways false false x m n r = refl

pub lawful-perm : {es us : List Entry} → Permᴰ es us → lawful es ≡ lawful us
unfolding lawful member
lawful-perm Permᴰ.nil = refl
lawful-perm (Permᴰ.cons {a} {b} {l₁} {l₂} e d) =
    (λ j. known (e j).id and not (member (e j).id l₁) and lawful l₁)
    ∙ ap (λ (x : Bool). known b.id and not x and lawful l₁) (member-perm b.id d)
    ∙ ap (λ (x : Bool). known b.id and not (member b.id l₂) and x) (lawful-perm d)
lawful-perm (Permᴰ.swap {a} {b} {a'} {b'} {l} e f) =
    ap (λ (x : Bool). known a.id and not (x || member a.id l) and known b.id and not (member b.id l) and lawful l) (eqb-sym b.id a.id)
    ∙ two_ways (known a.id) (known b.id) (eqb a.id b.id) (member a.id l) (member b.id l) (lawful l)
    ∙ (λ j. known (f j).id and not (eqb (e j).id (f j).id || member (f j).id l) and known (e j).id and not (member (e j).id l) and lawful l)
lawful-perm (Permᴰ.trans d d') = lawful-perm d ∙ lawful-perm d'

-- of lawful entries the first of an id is the one of the id
entry-perm : (id : ℕ) {es us : List Entry} → Permᴰ es us → lawful es ≡ true → entry id es ≡ entry id us
unfolding entry lawful member
entry-perm id Permᴰ.nil h = refl
entry-perm id (Permᴰ.cons e d) h =
    λ j. cond (eqb (e j).id id) (Some (e j).bytes) (entry-perm id d (right _ _ (right _ _ h)) j)
entry-perm id (Permᴰ.swap {a} {b} {a'} {b'} {l} e f) h =
    go (apart (eqb b.id a.id) (member a.id l) (left _ _ (right _ _ h))) (eqb a.id id) refl (eqb b.id id) refl
    ∙ (λ j. cond (eqb (f j).id id) (Some (f j).bytes) (cond (eqb (e j).id id) (Some (e j).bytes) (entry id l)))
  where
    apart : (x y : Bool) → not (x || y) ≡ true → x ≡ false
    apart true y q = cc
    apart false y q = refl

    go : eqb b.id a.id ≡ false → (x : Bool) → eqb a.id id ≡ x → (y : Bool) → eqb b.id id ≡ y
        → cond x (Some a.bytes) (cond y (Some b.bytes) (entry id l)) ≡ cond y (Some b.bytes) (cond x (Some a.bytes) (entry id l))
    go n true p true q = absurd (eqb-false b.id a.id n (eqb-true b.id id q ∙ sym (eqb-true a.id id p)))
    go n true p false q = refl
    go n false p true q = refl
    go n false p false q = refl
entry-perm id (Permᴰ.trans d d') h = entry-perm id d h ∙ entry-perm id d' (sym (lawful-perm d) ∙ h)

-- they say the same of every id
pub says-perm : (F : List Row) {es us : List Entry} → Permᴰ es us → lawful es ≡ true → says F es ≡ says F us
unfolding says
says-perm F d h = λ j id. on_option (entry-perm id d h j) (body F id) None
