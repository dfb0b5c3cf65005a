-- The words of a lawful set keep `Protectable`. Assumes nothing.
use Prim.Native.Nat.{ℕ, zero, suc, ◌≤◌}
use native.Mathlib.Omega.{arith}
use mathlib.Core.Path.{◌≡◌, refl, sym, ◌∙◌}
use mathlib.Core.Bool.{Bool, true, false, false≢true, not, ◌||◌}
use mathlib.Core.List.{List}
use lib.ListN.{length}
use Rattle.laws.proofs.TestLaws.{left}
use Rattle.track.specs.declared.Track.{Track}
use Rattle.field_table.specs.Lines.{lines, line_for, line_number, marks_of, set_len}
use Rattle.field_set.specs.Lawful.{has, lawful, set_rules, count_in}
use Rattle.field_set.proofs.LawfulLaws.{lawful-facts}
use Rattle.cmaf_write_senc.specs.Protection.{Protectable}

-- neither of two
none-l : (a b : Bool) → not (a || b) ≡ true → not a ≡ true
none-l true b e = e
none-l false b e = refl

none-r : (a b : Bool) → not (a || b) ≡ true → not b ≡ true
none-r true b e = absurd (false≢true e)
none-r false b e = e

one_of : (a b : Bool) → (a || b) ≡ true → not a ≡ true → not b ≡ true → ⊥
one_of true b e p q = false≢true p
one_of false b e p q = false≢true (sym (not_is b e) ∙ q)
  where
    not_is : (x : Bool) → x ≡ true → not x ≡ false
    not_is true e = refl
    not_is false e = absurd (false≢true e)

none_of : (a b c d e f g h i : Bool) → not ((a || (b || (c || (d || (e || (f || g)))))) || (h || i)) ≡ true → (h || e) ≡ true → ⊥
none_of a b c d e f g h i z some =
    let l3 : Bool = e || (f || g) in
    let l2 : Bool = c || (d || l3) in
    let lists : not (a || (b || l2)) ≡ true = none-l (a || (b || l2)) (h || i) z in
    one_of h e some
    (none-l h i (none-r (a || (b || l2)) (h || i) z))
    (none-l e (f || g) (none-r d l3 (none-r c (d || l3) (none-r b l2 (none-r a (b || l2) lists)))))

-- 01: "with no samples no lists, 9 or 12"
some-samples : (t : Track) (n : ℕ) (w : List ℕ) → set_rules t n (marks_of w) ≡ true → (has 9 w || has 11 w) ≡ true → 1 ≤ n
unfolding set_rules marks_of line_number line_for lines has
some-samples t zero w e h =
    absurd (none_of (has 1 w) (has 3 w) (has 5 w) (has 7 w) (has 11 w) (has 13 w) (has 15 w) (has 9 w) (has 12 w) (left _ _ e) h)
some-samples t (suc n) w e h = omega arith

pub lawful-protectable : (t : Track) (w : List ℕ) → length w ≡ set_len → t.iv_size ≤ 16 → lawful t w ≡ true → Protectable t w
lawful-protectable t w long iv e =
    let f = lawful-facts t w e in
    record {
      long = long;
      few = f.count;
      iv = iv;
      pairs = f.subsamples;
      sizes = f.saiz;
      some = some-samples t (count_in w) w f.rules;
    }
