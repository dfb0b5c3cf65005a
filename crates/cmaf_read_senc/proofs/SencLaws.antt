-- `senc`: what its tests show of its entries. Assumes nothing.
use Prim.Native.Nat.{ℕ, ◌+◌, ◌-◌, ◌*◌, ◌^◌, ◌≤◌, ◌<◌}
use native.Mathlib.Omega.{arith}
use native.Mathlib.Nat.{mul-le-mul_right}
use mathlib.Core.Path.{◌≡◌, refl, sym, ◌∙◌, ap, ap₂}
use mathlib.Core.Bool.{Bool, true, false, cond, ◌||◌, false≢true}
use mathlib.Core.List.{List}
use borrow.Author.Tests.{lt-ltb, le-ltb, ltb-true, ltb-false, eqb-true, eq-eqb, ne_eqb}
use lib.Dec.{eqb, ltb}
use lib.ListN.{length}
use lib.Seq.{slice, length-slice}
use Rattle.laws.proofs.GateLaws.{stop, pass}
use Rattle.byte_parts.specs.declared.Part.{Part}
use Rattle.cmaf_read_shape.specs.Parts.{end_of, Inside}
use Rattle.track.specs.declared.Track.{Track}
use Rattle.cmaf_read_senc.specs.declared.entries.Entries.{Entries}
use Rattle.std.specs.Prelude.{Option, Some, None, is_some}
use Rattle.std.specs.Option.{unwrap_or}
use Rattle.cmaf_read_senc.specs.Entries.{entries_of, entries_in, senc_filled, senc_ok, senc_count, subsamples, FewPairs}
use Rattle.cmaf_read_tree.specs.Numbers.{u32}
use Rattle.cmaf_read_senc.proofs.EntryLaws.{gate-inv, plain-full, plain-off, Left}

-- ---- a box too short to stand, and one that is long enough

pub short : {A : Type 0} (n k : ℕ) (x y : A) → n < k → x ≡ cond (ltb n k) x y
short n k x y h = sym (ap (λ (t : Bool). cond t x y) (lt-ltb n k h))

pub long : {A : Type 0} (n k : ℕ) (x y : A) → k ≤ n → y ≡ cond (ltb n k) x y
long n k x y h = sym (ap (λ (t : Bool). cond t x y) (le-ltb n k h))

-- the length of entries without subsamples is a number of the machine
pub product-fits : {v n : ℕ} → v < 2 ^ 8 → n < 2 ^ 32 → 16 + v * n < 2 ^ 64
product-fits {v} {n} h k = let z : v ≤ 255 = omega arith in omega (arith, mul-le-mul_right n z)

-- ---- how many samples the box counts

module _ (c : List ℕ) (b : Part) where
  pub count_none : b.len < 16 → 0 ≡ senc_count c b
  unfolding senc_count
  count_none h = short b.len 16 _ _ h

  pub count-some : 16 ≤ b.len → u32 c (b.at + 12) ≡ senc_count c b
  unfolding senc_count
  count-some h = long b.len 16 _ _ h

-- ---- the entries

abbrev entries_by : Track → Part → ℕ → ℕ → Entries
entries_by t b f n = record { map = eqb f 2; count = n; iv = t.iv_size; at = b.at + 16 }

module _ (t : Track) (c : List ℕ) (b : Part) where
  -- by what was read: version and flags, and the count
  pub entries-are : (f n : ℕ) → f ≡ u32 c (b.at + 8) → n ≡ u32 c (b.at + 12) → entries_by t b f n ≡ entries_of t c b
  unfolding entries_of
  entries-are f n p q = ap₂ (entries_by t b) p q

  pub entries-map : (entries_of t c b).map ≡ eqb (u32 c (b.at + 8)) 2
  unfolding entries_of
  entries-map = refl

  pub entries-count : (entries_of t c b).count ≡ u32 c (b.at + 12)
  unfolding entries_of
  entries-count = refl

  pub entries-iv : (entries_of t c b).iv ≡ t.iv_size
  unfolding entries_of
  entries-iv = refl

  pub entries_at : (entries_of t c b).at ≡ b.at + 16
  unfolding entries_of
  entries_at = refl

  -- all of them, from the first up to the end of the box
  abbrev all : Entries → Option ℕ
  all e = entries_in e e.count (slice e.at (end_of b) c)

  abbrev flags : Bool
  flags = eqb (u32 c (b.at + 8)) 0 || eqb (u32 c (b.at + 8)) 2

  filled-yes : flags ≡ true → senc_filled t c b ≡ all (entries_of t c b)
  unfolding senc_filled
  filled-yes h = sym (pass None h refl)

  flag-two : (entries_of t c b).map ≡ true → flags ≡ true
  flag-two h = or_right (eqb (u32 c (b.at + 8)) 0) (eqb (u32 c (b.at + 8)) 2) (sym entries-map ∙ h)
    where
      or_right : (x y : Bool) → y ≡ true → (x || y) ≡ true
      or_right true y e = refl
      or_right false y e = e

  flag-none : u32 c (b.at + 8) ≡ 0 → flags ≡ true
  flag-none h = ap (λ (x : Bool). x || eqb (u32 c (b.at + 8)) 2) (eq-eqb _ _ h)

  -- what the code has read of them
  module _ (e : Entries) (q : e ≡ entries_of t c b) where
    map_is : {x : Bool} → e.map ≡ x → (entries_of t c b).map ≡ x
    map_is h = ap (λ (f : Entries). f.map) (sym q) ∙ h

    pub entries-first : 16 ≤ b.len → e.at ≤ end_of b
    entries-first h = omega (arith, ap (λ (f : Entries). f.at) q, entries_at)

    pub filled-map : {r : Option ℕ} (end : ℕ) → end ≡ end_of b → e.map ≡ true → r ≡ entries_in e e.count (slice e.at end c) → r ≡ senc_filled t c b
    filled-map end x h w = w ∙ ap (λ (i : ℕ). entries_in e e.count (slice e.at i c)) x ∙ ap all q ∙ sym (filled-yes (flag-two (map_is h)))

    -- flags that are neither 0 nor 2
    pub filled-flags : e.map ≡ false → (f : ℕ) → f ≡ u32 c (b.at + 8) → (f ≡ 0 → ⊥) → None ≡ senc_filled t c b
    unfolding senc_filled
    filled-flags h f r n =
        stop _
        (ap (λ (x : Bool). x || eqb (u32 c (b.at + 8)) 2) (ne_eqb (u32 c (b.at + 8)) 0 (λ z. n (r ∙ z))) ∙ sym entries-map ∙ map_is h)

    module _ (h : e.map ≡ false) (f : ℕ) (r : f ≡ u32 c (b.at + 8)) (z : f ≡ 0) (i : Inside c b) (s : 16 ≤ b.len) where
      all-is : all e ≡ senc_filled t c b
      all-is = ap all q ∙ sym (filled-yes (flag-none (sym r ∙ z)))

      body-length : length (slice e.at (end_of b) c) ≡ b.len - 16
      body-length = omega (arith, length-slice e.at (end_of b) c i.within, ap (λ (f : Entries). f.at) q, entries_at)

      pub filled-full : b.len ≡ 16 + e.iv * e.count → Some 0 ≡ senc_filled t c b
      filled-full n = plain-full e h e.count (slice e.at (end_of b) c) (omega (arith, n, body-length)) ∙ all-is

      pub filled_off : (b.len ≡ 16 + e.iv * e.count → ⊥) → None ≡ senc_filled t c b
      filled_off n = plain-off e h e.count (slice e.at (end_of b) c) (λ y. n (omega (arith, y, body-length, s))) ∙ all-is

  -- ---- the box

  pub senc-short : b.len < 16 → eqb b.len 0 ≡ senc_ok t c b
  unfolding senc_ok
  senc-short h = short b.len 16 _ _ h

  pub senc-by : 16 ≤ b.len → (f : Option ℕ) → f ≡ senc_filled t c b → is_some f ≡ senc_ok t c b
  unfolding senc_ok
  senc-by h f e = ap is_some e ∙ long b.len 16 _ _ h

  pub sum-none : b.len < 16 → 0 ≡ subsamples t c b
  unfolding subsamples
  sum-none h = short b.len 16 _ _ h

  pub sum_by : 16 ≤ b.len → (f : Option ℕ) → f ≡ senc_filled t c b → unwrap_or f 0 ≡ subsamples t c b
  unfolding subsamples
  sum_by h f e = ap (λ (o : Option ℕ). unwrap_or o 0) e ∙ long b.len 16 _ _ h

  -- a box that stands and passes has its head
  pub senc-stands : senc_ok t c b ≡ true → 0 < b.len → 16 ≤ b.len
  senc-stands k h = by (ltb b.len 16) refl
    where
      by : (x : Bool) → ltb b.len 16 ≡ x → 16 ≤ b.len
      by true e =
          let z : b.len ≡ 0 = eqb-true b.len 0 (senc-short (ltb-true _ _ e) ∙ k) in
          absurd (omega arith)
      by false e = ltb-false _ _ e

  -- and its entries fill it: those that it counts, with its subsamples
  pub senc-left : Inside c b → 16 ≤ b.len → senc_ok t c b ≡ true
      → Left c (entries_of t c b) (end_of b) (entries_of t c b).count (entries_of t c b).at (subsamples t c b)
  unfolding senc_filled
  senc-left i h k =
      record {
        here = entries-first (entries_of t c b) refl h;
        within = i.within;
        rest = (gate-inv flags (all (entries_of t c b)) (subsamples t c b) (is-with ∙ ap Some (sum_by h (senc_filled t c b) refl))).1;
      }
    where
      with-inv : (f : Option ℕ) → is_some f ≡ true → f ≡ Some (unwrap_or f 0)
      with-inv (Some n) e = refl
      with-inv None e = absurd (false≢true e)

      is-with : senc_filled t c b ≡ Some (unwrap_or (senc_filled t c b) 0)
      is-with = with-inv (senc_filled t c b) (senc-by h (senc_filled t c b) refl ∙ k)

  -- they can be walked, by what was read of them
  pub senc-few : Inside c b → senc_ok t c b ≡ true → 0 < b.len → {most : ℕ} → subsamples t c b ≤ most
      → {e : Entries} → e ≡ entries_of t c b → FewPairs c e e.count most
  senc-few i k h s q =
      let l = senc-left i (senc-stands k h) k in
      rw q (record { end = end_of b; pairs = subsamples t c b; here = l.here; within = l.within; filled = l.rest; few = s })
