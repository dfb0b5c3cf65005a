-- The next value of a run: from what was read of it, and what it says of the values that are left. Assumes nothing.
use Prim.Native.Nat.{ℕ, suc, ◌+◌, ◌≤◌, ◌<◌}
use native.Mathlib.Numerals.{add-one}
use native.Mathlib.Omega.{arith}
use mathlib.Core.Path.{◌≡◌, refl, sym, ◌∙◌}
use mathlib.Core.List.{List}
use lib.ListN.{length, get_or, drop}
use lib.Seq.{slice}
use Rattle.laws.proofs.ListLaws.{get_d-in}
use Rattle.laws.proofs.SliceLaws.{drop-slice}
use Rattle.wire.specs.declared.form.Row.{Row}
use Rattle.runs.specs.declared.Misread.{Misread}
use Rattle.runs.specs.declared.Misread.TheVariants.{Misfit, Outside}
use Rattle.std.specs.Prelude.{Option, Some, None, Result, Ok, Err, ok_or}
use Rattle.wire.specs.declared.zigzag.Coding.{Coding}
use Rattle.wire.specs.Form.{ones}
use Rattle.wire.specs.Varint.{read_f, read_at, shift, on_got, Begins}
use Rattle.wire.specs.Zigzag.{reached}
use Rattle.wire.proofs.FormLaws.{Lawful}
use Rattle.wire.proofs.Reading.{inside}
use Rattle.wire.proofs.ShortLaws.{read_one}
use Rattle.runs.specs.Run.{rest, Filled, stop, more, filled, next_at, OneAs}
use Rattle.runs.proofs.OldLaws.{first-drop, rest-drop}
use Rattle.laws.specs.Options.{on_option}

-- what is read where a value is next, and nothing where something came in its way
abbrev pub on_next : Result (ℕ × ℕ) Misread → (ℕ → ℕ → Filled) → Filled
on_next (Ok (v, q)) f = f v q
on_next (Err m) f = stop (Err m)

-- what `ok_or` was given, by what it gave
pub ok_or-ok : {A : Type 0} (o : Option A) (m : Misread) (x : A) → ok_or o m ≡ Ok x → o ≡ Some x
ok_or-ok None m x e = let x : ◌≡◌ {A = ℕ} 0 1 = cc in absurd (omega arith)
ok_or-ok (Some y) m x e = cc

pub ok_or-err : {A : Type 0} (o : Option A) (m k : Misread) → ok_or o m ≡ Err k → (o ≡ None) × (k ≡ m)
ok_or-err None m k e = (refl, cc)
ok_or-err (Some y) m k e = let x : ◌≡◌ {A = ℕ} 0 1 = cc in absurd (omega arith)

module _ (F : List Row) (coding : Coding) (base bound : ℕ) (old s : List ℕ) (p end i : ℕ) where
  -- there is no varint
  pub next-cut : {g : Option (ℕ × ℕ)} → g ≡ read_at F s p end → g ≡ None → (Err Misfit) ≡ next_at F coding base bound old s p end i
  unfolding next_at
  next-cut e f = rw (sym e ∙ f)

  -- there is one, and the value is out of range or it isn't
  module _ {g : Option (ℕ × ℕ)} {t : Option ℕ} {z q x : ℕ} (e : g ≡ read_at F s p end) (f : g ≡ Some (z, q)) (o : x ≡ get_or old i base)
      (r : t ≡ reached coding x bound z) where
    pub next-outside : t ≡ None → (Err Outside) ≡ next_at F coding base bound old s p end i
    unfolding next_at
    next-outside u = rw (sym e ∙ f, sym o, sym r ∙ u)

    pub next-value : {v : ℕ} → t ≡ Some v → Ok (v, q) ≡ next_at F coding base bound old s p end i
    unfolding next_at
    next-value u = rw (sym e ∙ f, sym o, sym r ∙ u)

  -- there is one of one byte: where the value is in range, it is the next one
  pub next_one : Lawful 0 F → Begins s p end (get_or s p 0) → i < length old → {z : ℕ} {t : Option ℕ} → z ≡ get_or s p 0 → z < ones F
      → t ≡ reached coding (get_or old i 0) bound z → OneAs (next_at F coding base bound old s p end i) p t
  next_one w b there {z = z} {t = None} e one r = tt
  next_one w b there {z = z} {t = Some v} e one r = next-value (read_one F w s p end z (rw e b) one) refl (get_d-in old i 0 base there) r refl

  -- what is left to read, one value and m more, goes by the next value
  module _ (m : ℕ) (h : end ≤ length s) where
    abbrev others : ℕ → Filled
    others q = filled F coding base bound m (drop (i + 1) old) (slice q end s)

    abbrev after : ℕ → Filled
    after k = filled F coding base bound m (rest (drop i old)) (drop k (slice p end s))

    by-reached : (t : Option ℕ) (k : ℕ)
        → on_option t (λ v. more v (after k)) (stop (Err Outside)) ≡ on_next (on_option t (λ v. Ok (v, p + k)) (Err Outside)) (λ v q. more v (others q))
    by-reached (Some v) k = rw (rest-drop old i, drop-slice p end k s, add-one)
    by-reached None k = refl

    by-got : (g : Option (ℕ × ℕ))
        → on_got g (λ z k. on_option (reached coding (get_or old i base) bound z) (λ v. more v (after k)) (stop (Err Outside))) (stop (Err Misfit))
        ≡ on_next (on_got (shift p g) (λ z q. on_option (reached coding (get_or old i base) bound z) (λ v. Ok (v, q)) (Err Outside)) (Err Misfit)) (λ v q. more v (others q))
    by-got (Some (z, k)) = by-reached (reached coding (get_or old i base) bound z) k
    by-got None = refl

    pub by_next : filled F coding base bound (suc m) (drop i old) (slice p end s) ≡ on_next (next_at F coding base bound old s p end i) (λ v q. more v (others q))
    unfolding filled next_at
    by_next = rw (inside F s p end h, first-drop old i base) (by-got (read_f F (slice p end s)))
