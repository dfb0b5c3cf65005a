-- Entries one after another, from a place of the chunk up to another. Assumes nothing.
use Prim.Native.Nat.{ℕ, zero, suc, ◌+◌, ◌-◌, ◌*◌, ◌≤◌, ◌<◌}
use native.Mathlib.Omega.{arith}
use native.Mathlib.Nat.{mul-zero, mul-suc}
use mathlib.Core.Path.{◌≡◌, refl, sym, ◌∙◌, ap, ap₂}
use mathlib.Core.Bool.{Bool, true, false, cond, false≢true}
use mathlib.Core.List.{List}
use borrow.Author.Tests.{leb-true, leb-false, le-leb, lt-leb, eqb-true, eq-eqb, ne_eqb}
use lib.Dec.{eqb, leb}
use lib.ListN.{length, drop, length-drop}
use lib.Seq.{slice, length-slice}
use Rattle.laws.specs.Bytes.{de}
use Rattle.laws.specs.Gate.{gate}
use Rattle.laws.proofs.GateLaws.{stop, pass}
use Rattle.laws.proofs.SliceLaws.{take-slice, drop-slice}
use Rattle.cmaf_read_senc.specs.declared.entries.Entries.{Entries}
use Rattle.std.specs.Prelude.{Option, Some, None}
use Rattle.std.proofs.lemmas.Option.{none-some, same_Some}
use Rattle.cmaf_read_senc.specs.Entries.{map_length, pairs_of, pairs_at, length_of, length_at, more, entries_in, FewPairs}
use Rattle.cmaf_read_tree.specs.Numbers.{u16}

-- ---- an entry, with subsamples and without

pub map-yes : (e : Entries) (k : ℕ) → e.map ≡ true → map_length e k ≡ 2 + 6 * k
unfolding map_length
map-yes e k h = ap (λ (t : Bool). cond t (2 + 6 * k) 0) h

pub map-no : (e : Entries) (k : ℕ) → e.map ≡ false → map_length e k ≡ 0
unfolding map_length
map-no e k h = ap (λ (t : Bool). cond t (2 + 6 * k) 0) h

pub pairs-yes : (c : List ℕ) (e : Entries) (at : ℕ) → e.map ≡ true → pairs_at c e at ≡ u16 c (at + e.iv)
unfolding pairs_at
pairs-yes c e at h = ap (λ (t : Bool). cond t (u16 c (at + e.iv)) 0) h

pub pairs-no : (c : List ℕ) (e : Entries) (at : ℕ) → e.map ≡ false → pairs_at c e at ≡ 0
unfolding pairs_at
pairs-no c e at h = ap (λ (t : Bool). cond t (u16 c (at + e.iv)) 0) h

front-yes : (e : Entries) (l : List ℕ) → e.map ≡ true → pairs_of e l ≡ u16 l e.iv
unfolding pairs_of
front-yes e l h = ap (λ (t : Bool). cond t (u16 l e.iv) 0) h

front-no : (e : Entries) (l : List ℕ) → e.map ≡ false → pairs_of e l ≡ 0
unfolding pairs_of
front-no e l h = ap (λ (t : Bool). cond t (u16 l e.iv) 0) h

-- no entry is shorter than one that has no subsamples
pub map-least : (e : Entries) (k : ℕ) → map_length e 0 ≤ map_length e k
map-least e k = by e.map refl
  where
    by : (t : Bool) → e.map ≡ t → map_length e 0 ≤ map_length e k
    by true h = omega (arith, map-yes e 0 h, map-yes e k h)
    by false h = omega (arith, map-no e 0 h, map-no e k h)

-- the entry at the front of what stands from a place of the chunk on is the one at the place
part_slice : (p end i j : ℕ) (c : List ℕ) → p + j ≤ end → end ≤ length c → slice i j (slice p end c) ≡ slice (p + i) (p + j) c
part_slice p end i j c h k = ap (drop i) (take-slice p end j c h k) ∙ drop-slice p (p + j) i c

pub pairs-here : (c : List ℕ) (e : Entries) (p end : ℕ) → p + (e.iv + map_length e 0) ≤ end → end ≤ length c → pairs_of e (slice p end c) ≡ pairs_at c e p
pairs-here c e p end h k = by e.map refl
  where
    by : (t : Bool) → e.map ≡ t → pairs_of e (slice p end c) ≡ pairs_at c e p
    by true m =
        let z : p + (e.iv + 2) ≡ p + e.iv + 2 = omega arith in
        front-yes e (slice p end c) m
        ∙ ap de (part_slice p end e.iv (e.iv + 2) c (omega (arith, map-yes e 0 m)) k)
        ∙ ap (λ (j : ℕ). de (slice (p + e.iv) j c)) z
        ∙ sym (pairs-yes c e p m)
    by false m = front-no e (slice p end c) m ∙ sym (pairs-no c e p m)

-- ---- so many entries from the front of a list

pub more-none : (f : Option ℕ) → more 0 f ≡ f
unfolding more
more-none (Some n) = let z : 0 + n ≡ n = omega arith in ap Some z
more-none None = refl

more-more : (a b : ℕ) (f : Option ℕ) → more a (more b f) ≡ more (a + b) f
unfolding more
more-more a b (Some n) = let z : a + (b + n) ≡ a + b + n = omega arith in ap Some z
more-more a b None = refl

more-inv : (k s : ℕ) (f : Option ℕ) → more k f ≡ Some s → (f ≡ Some (s - k)) × (k ≤ s)
unfolding more
more-inv k s (Some n) h =
    let z : k + n ≡ s = same_Some _ _ h in
    let y : n ≡ s - k = omega arith in
    (ap Some y, omega arith)
more-inv k s None h = absurd (none-some _ h)

pub gate-inv : (t : Bool) (f : Option ℕ) (s : ℕ) → gate t None f ≡ Some s → (t ≡ true) × (f ≡ Some s)
unfolding gate
gate-inv true f s h = (refl, h)
gate-inv false f s h = absurd (none-some _ h)

-- the next entry doesn't fit
entries-cut : (e : Entries) (n : ℕ) (l : List ℕ) → 0 < n → length l < length_of e l → None ≡ entries_in e n l
unfolding entries_in
entries-cut e zero l h k = absurd (omega arith)
entries-cut e (suc n) l h k = stop _ (lt-leb (length_of e l) (length l) k)

-- it fits
entries-on : (e : Entries) (n : ℕ) (l : List ℕ) → 0 < n → length_of e l ≤ length l
    → more (pairs_of e l) (entries_in e (n - 1) (drop (length_of e l) l)) ≡ entries_in e n l
unfolding entries_in
entries-on e zero l h k = absurd (omega arith)
entries-on e (suc n) l h k =
    let z : suc n - 1 ≡ n = omega arith in
    pass None (le-leb (length_of e l) (length l) k) (ap (λ (m : ℕ). more (pairs_of e l) (entries_in e m (drop (length_of e l) l))) z)

entries-inv : (e : Entries) (n : ℕ) (l : List ℕ) (s : ℕ) → 0 < n → entries_in e n l ≡ Some s → length_of e l ≤ length l
unfolding entries_in
entries-inv e zero l s h k = absurd (omega arith)
entries-inv e (suc n) l s h k = leb-true _ _ (gate-inv (leb (length_of e l) (length l)) _ s k).0

-- no entry is left
entries-full : (e : Entries) (l : List ℕ) → length l ≡ 0 → Some 0 ≡ entries_in e 0 l
unfolding entries_in
entries-full e l h = pass None (eq-eqb (length l) 0 h) refl

entries_over : (e : Entries) (l : List ℕ) → 0 < length l → None ≡ entries_in e 0 l
unfolding entries_in
entries_over e l h = stop _ (ne_eqb (length l) 0 (λ z. omega arith))

entries-last : (e : Entries) (l : List ℕ) (s : ℕ) → entries_in e 0 l ≡ Some s → (length l ≡ 0) × (s ≡ 0)
unfolding entries_in
entries-last e l s h =
    let g = gate-inv (eqb (length l) 0) (Some 0) s h in
    (eqb-true (length l) 0 g.0, sym (same_Some _ _ g.1))

-- with subsamples each has two bytes or more, so that no list has more than half as many as bytes, whatever count is asked for
pub entries-most : (e : Entries) → e.map ≡ true → (n : ℕ) (l : List ℕ) (s : ℕ) → entries_in e n l ≡ Some s → 2 * n ≤ length l
entries-most e m zero l s h = omega arith
entries-most e m (suc n) l s h =
    let z : suc n - 1 ≡ n = omega arith in
    let f = entries-inv e (suc n) l s (omega arith) h in
    let r = (more-inv (pairs_of e l) s (entries_in e (suc n - 1) (drop (length_of e l) l)) (entries-on e (suc n) l (omega arith) f ∙ h)).0 in
    let ih = entries-most e m n (drop (length_of e l) l) (s - pairs_of e l) (ap (λ (i : ℕ). entries_in e i (drop (length_of e l) l)) (sym z) ∙ r) in
    omega (arith, f, ih, length-drop (length_of e l) l, map-yes e (pairs_of e l) m)

-- entries without subsamples are as long as an IV each
module _ (e : Entries) (m : e.map ≡ false) where
  plain-length : (l : List ℕ) → length_of e l ≡ e.iv
  plain-length l = omega (arith, map-no e (pairs_of e l) m)

  plain-on : (n : ℕ) (l : List ℕ) → e.iv ≤ length l → entries_in e n (drop e.iv l) ≡ entries_in e (suc n) l
  plain-on n l h =
      let z : suc n - 1 ≡ n = omega arith in
      sym
      (sym (entries-on e (suc n) l (omega arith) (omega (arith, plain-length l)))
      ∙ ap (λ (k : ℕ). more k (entries_in e (suc n - 1) (drop (length_of e l) l))) (front-no e l m)
      ∙ more-none _
      ∙ ap₂ (λ (i j : ℕ). entries_in e i (drop j l)) z (plain-length l))

  pub plain-full : (n : ℕ) (l : List ℕ) → length l ≡ e.iv * n → Some 0 ≡ entries_in e n l
  plain-full zero l h = let z : e.iv * 0 ≡ 0 = mul-zero e.iv in entries-full e l (h ∙ z)
  plain-full (suc n) l h =
      let z : e.iv * suc n ≡ e.iv * n + e.iv = mul-suc e.iv n in
      plain-full n (drop e.iv l) (omega (arith, z, length-drop e.iv l)) ∙ plain-on n l (omega (arith, z))

  pub plain-off : (n : ℕ) (l : List ℕ) → (length l ≡ e.iv * n → ⊥) → None ≡ entries_in e n l
  plain-off zero l h = let z : e.iv * 0 ≡ 0 = mul-zero e.iv in entries_over e l (some (length l) (λ y. h (y ∙ sym z)))
    where
      some : (k : ℕ) → (k ≡ 0 → ⊥) → 0 < k
      some zero y = absurd (y refl)
      some (suc k) y = omega arith
  plain-off (suc n) l h = by (leb e.iv (length l)) refl (plain-off n (drop e.iv l))
    where
      by : (t : Bool) → leb e.iv (length l) ≡ t → ((length (drop e.iv l) ≡ e.iv * n → ⊥) → None ≡ entries_in e n (drop e.iv l))
          → None ≡ entries_in e (suc n) l
      by true y ih =
          let k : e.iv ≤ length l = leb-true _ _ y in
          let z : e.iv * suc n ≡ e.iv * n + e.iv = mul-suc e.iv n in
          ih (λ x. h (omega (arith, z, x, length-drop e.iv l))) ∙ plain-on n l k
      by false y ih =
          let k : length l < e.iv = leb-false _ _ y in
          entries-cut e (suc n) l (omega arith) (omega (arith, plain-length l))

-- ---- the entries from a place of the chunk on

module _ (c : List ℕ) (e : Entries) (end p : ℕ) (w : end ≤ length c) where
  here-length : p + (e.iv + map_length e 0) ≤ end → length_of e (slice p end c) ≡ length_at c e p
  here-length h = ap (λ (k : ℕ). e.iv + map_length e k) (pairs-here c e p end h w)

  -- the next entry doesn't fit, not even if it has no subsamples; or by those that it has
  here-short : {n : ℕ} → 0 < n → end - p < e.iv + map_length e 0 → None ≡ entries_in e n (slice p end c)
  here-short h k =
      entries-cut e _ (slice p end c) h (omega (arith, length-slice p end c w, map-least e (pairs_of e (slice p end c))))

  here-cut : {n : ℕ} → 0 < n → e.iv + map_length e 0 ≤ end - p → p ≤ end → end - p < length_at c e p → None ≡ entries_in e n (slice p end c)
  here-cut h a b k = entries-cut e _ (slice p end c) h (omega (arith, length-slice p end c w, here-length (omega arith)))

  -- it fits
  here_on : (n : ℕ) → 0 < n → p + length_at c e p ≤ end
      → more (pairs_at c e p) (entries_in e (n - 1) (slice (p + length_at c e p) end c)) ≡ entries_in e n (slice p end c)
  here_on n h k =
      let a : p + (e.iv + map_length e 0) ≤ end = omega (arith, map-least e (pairs_at c e p)) in
      let y = here-length a in
      let x : drop (length_of e (slice p end c)) (slice p end c) ≡ slice (p + length_at c e p) end c =
      ap (λ (j : ℕ). drop j (slice p end c)) y ∙ drop-slice p end (length_at c e p) c in
      ap₂ (λ (j : ℕ) (l : List ℕ). more j (entries_in e (n - 1) l)) (sym (pairs-here c e p end a w)) (sym x)
      ∙ entries-on e n (slice p end c) h (omega (arith, y, length-slice p end c w))

-- ---- the walk over entries with subsamples: the rest of them, after so many subsamples, is all of them

pub record Walking (c : List ℕ) (e : Entries) (end sum p left : ℕ) : Type 0 where
  pub here : p ≤ end
  pub small : sum ≤ p
  pub rest : more sum (entries_in e left (slice p end c)) ≡ entries_in e e.count (slice e.at end c)

pub walk_start : (c : List ℕ) (e : Entries) (end : ℕ) → e.at ≤ end → Walking c e end 0 e.at e.count
walk_start c e end h = record { here = h; small = omega arith; rest = more-none _ }

-- how long an entry is, by what was found of it: the number of its subsamples, and the bytes after its IV
pub length-is : (c : List ℕ) (e : Entries) (p : ℕ) {k len : ℕ} → k ≡ pairs_at c e p → len ≡ map_length e k → e.iv + len ≡ length_at c e p
length-is c e p x y = ap (λ (i : ℕ). e.iv + i) (y ∙ ap (map_length e) x)

module _ {c : List ℕ} {e : Entries} {end sum p left : ℕ} (m : e.map ≡ true) (w : end ≤ length c) (g : Walking c e end sum p left) where
  wrong-rest : None ≡ entries_in e left (slice p end c) → None ≡ entries_in e e.count (slice e.at end c)
  unfolding more
  wrong-rest h = ap (more sum) h ∙ g.rest

  pub walk-short : 0 < left → end - p < e.iv + 2 → None ≡ entries_in e e.count (slice e.at end c)
  walk-short h k = wrong-rest (here-short c e end p w h (omega (arith, map-yes e 0 m)))

  pub walk-head : e.iv + 2 ≤ end - p → p + (e.iv + map_length e 0) ≤ length c
  walk-head k = omega (arith, map-yes e 0 m, g.here)

  module _ (k len : ℕ) (x : k ≡ pairs_at c e p) (y : len ≡ map_length e k) where
    pub walk-cut : 0 < left → e.iv + 2 ≤ end - p → end - p < e.iv + len → None ≡ entries_in e e.count (slice e.at end c)
    walk-cut h a b = wrong-rest (here-cut c e end p w h (omega (arith, map-yes e 0 m)) g.here (omega (arith, length-is c e p x y)))

    pub walk-len : len ≡ 2 + 6 * k
    walk-len = y ∙ map-yes e k m

    pub walk-on : 0 < left → e.iv + len ≤ end - p → Walking c e end (sum + k) (p + (e.iv + len)) (left - 1)
    walk-on h a =
        record {
          here = omega (arith, g.here);
          small = omega (arith, g.small, walk-len);
          rest =
              sym (more-more sum k _)
              ∙ ap₂ (λ (i j : ℕ). more sum (more i (entries_in e (left - 1) (slice (p + j) end c)))) x (length-is c e p x y)
              ∙ ap (more sum) (here_on c e end p w left h (omega (arith, length-is c e p x y, g.here)))
              ∙ g.rest;
        }

  pub walk-over : left ≤ 0 → p < end → None ≡ entries_in e e.count (slice e.at end c)
  walk-over h k =
      let z : left ≡ 0 = omega arith in
      wrong-rest (entries_over e (slice p end c) (omega (arith, length-slice p end c w)) ∙ ap (λ (i : ℕ). entries_in e i (slice p end c)) (sym z))

  pub walk-full : left ≤ 0 → end ≤ p → Some sum ≡ entries_in e e.count (slice e.at end c)
  unfolding more
  walk-full h k =
      let z : left ≡ 0 = omega arith in
      let y : sum ≡ sum + 0 = omega arith in
      ap Some y
      ∙ ap (more sum)
      (entries-full e (slice p end c) (omega (arith, length-slice p end c w)) ∙ ap (λ (i : ℕ). entries_in e i (slice p end c)) (sym z))
      ∙ g.rest

-- ---- entries that are known to fill a box: n from the place p up to the place end, with s subsamples

pub record Left (c : List ℕ) (e : Entries) (end n p s : ℕ) : Type 0 where
  pub here : p ≤ end
  pub within : end ≤ length c
  pub rest : entries_in e n (slice p end c) ≡ Some s

-- those that are asked for before the first is read
pub left-few : {c : List ℕ} {e : Entries} {n most : ℕ} (g : FewPairs c e n most) → Left c e g.end n e.at g.pairs
left-few g = record { here = g.here; within = g.within; rest = g.filled }

module _ {c : List ℕ} {e : Entries} {end n p s : ℕ} (h : 0 < n) (g : Left c e end n p s) where
  -- the next lies before the end, its IV and the number of its subsamples with it
  front_fits : length_of e (slice p end c) ≤ end - p
  front_fits = omega (arith, entries-inv e n (slice p end c) s h g.rest, length-slice p end c g.within)

  head-fits : p + (e.iv + map_length e 0) ≤ end
  head-fits = omega (arith, front_fits, g.here, map-least e (pairs_of e (slice p end c)))

  pub left_here : p + length_at c e p ≤ end
  left_here = omega (arith, front_fits, g.here, here-length c e end p g.within head-fits)

  pub left-head : p + (e.iv + map_length e 0) ≤ length c
  left-head = omega (arith, head-fits, g.within)

  pub left-whole : p + length_at c e p ≤ length c
  left-whole = omega (arith, left_here, g.within)

  next : (entries_in e (n - 1) (slice (p + length_at c e p) end c) ≡ Some (s - pairs_at c e p)) × (pairs_at c e p ≤ s)
  next = more-inv (pairs_at c e p) s _ (here_on c e end p g.within n h left_here ∙ g.rest)

  -- its subsamples are among those that are left
  pub left-pairs : pairs_at c e p ≤ s
  left-pairs = next.1

  -- and past it the others are left
  pub left-next : Left c e end (n - 1) (p + length_at c e p) (s - pairs_at c e p)
  left-next = record { here = left_here; within = g.within; rest = next.0 }

-- after the last, nothing
pub left-last : {c : List ℕ} {e : Entries} {end p s : ℕ} → Left c e end 0 p s → (p ≡ end) × (s ≡ 0)
left-last {c} {e} {end} {p} {s} g =
    let z = entries-last e (slice p end c) s g.rest in
    (omega (arith, z.0, length-slice p end c g.within, g.here), z.1)
