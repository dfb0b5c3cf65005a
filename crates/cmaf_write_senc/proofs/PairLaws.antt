-- What the words of a set say of its IVs and of its subsample counts. Assumes nothing.
use Prim.Native.Nat.{ℕ, zero, suc, ◌+◌, ◌*◌, ◌≤◌, ◌<◌}
use native.Mathlib.Nat.{not-suc-le-zero, le_of_suc-le-suc}
use native.Mathlib.Omega.{arith}
use mathlib.Core.Path.{◌≡◌, refl, ◌∙◌}
use mathlib.Core.Bool.{Bool, true, false}
use mathlib.Core.List.{List, [], ◌∷◌}
use borrow.Author.Tests.{leb-true, not-true}
use lib.Dec.{eqb}
use lib.ListN.{length, get_or, take}
use lib.Seq.{slice, length-slice, get_or-take, get_or-drop}
use Rattle.laws.proofs.TestLaws.{left, right}
use Rattle.track.specs.declared.Track.{Track}
use Rattle.field_table.specs.Lines.{lines, line_for, subsamples_at}
use Rattle.field_set.specs.Lawful.{has, in_use, values_of, saiz_ok, value_at, count_in}
use Rattle.boxes.specs.Box.{flag_when}
use Rattle.cmaf_write_senc.specs.Protection.{Protectable}

saiz-at : (iv : ℕ) (xs : List ℕ) (i : ℕ) → saiz_ok iv xs ≡ true → i < length xs → iv + (2 + 6 * get_or xs i 0) ≤ 255
unfolding saiz_ok
saiz-at iv [] i e h = absurd (not-suc-le-zero h)
saiz-at iv (x ∷ xs) zero e h = leb-true _ _ (left _ _ e)
saiz-at iv (x ∷ xs) (suc i) e h = saiz-at iv xs i (right _ _ e) (le_of_suc-le-suc h)

module _ {t : Track} {w : List ℕ} (p : Protectable t w) (i : ℕ) (lt : i < count_in w) where
  values : has 11 w ≡ true → values_of 11 (count_in w) w ≡ slice (subsamples_at + 1) (subsamples_at + 1 + count_in w) w
  unfolding values_of line_for lines in_use has
  values e = rw (not-true (eqb (get_or w subsamples_at 0) 0) e)

  -- 01: "at most 255"
  pub size-most : has 11 w ≡ true → t.iv_size + (2 + 6 * value_at 11 i w) ≤ 255
  unfolding line_for lines
  size-most e =
      let n : ℕ = count_in w in
      let long : subsamples_at + 1 + n ≤ length w = omega (arith, p.long, p.few) in
      let same : get_or (slice (subsamples_at + 1) (subsamples_at + 1 + n) w) i 0 ≡ get_or w (subsamples_at + 1 + i) 0 = get_or-drop (subsamples_at + 1) (take (subsamples_at + 1 + n) w) i 0 ∙ get_or-take (subsamples_at + 1 + n) w (subsamples_at + 1 + i) 0 (omega arith) in
      let ok : saiz_ok t.iv_size (slice (subsamples_at + 1) (subsamples_at + 1 + n) w) ≡ true = rw (values e) at p.sizes in
      rw same at (saiz-at t.iv_size (slice (subsamples_at + 1) (subsamples_at + 1 + n) w) i ok (omega (arith, length-slice (subsamples_at + 1) (subsamples_at + 1 + n) w long)))

  pub pairs_small : {r : ℕ} → r ≡ flag_when (has 11 w) (value_at 11 i w) → r ≤ 42
  pairs_small {r} q = go (has 11 w) refl q
    where
      go : (b : Bool) → has 11 w ≡ b → r ≡ flag_when b (value_at 11 i w) → r ≤ 42
      go true e h = omega (arith, size-most e)
      go false e h = omega arith
