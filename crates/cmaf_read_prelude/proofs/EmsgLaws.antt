-- One `emsg`, and the loop over a run of them that looks at each. Assumes nothing.
use Prim.Native.Nat.{ℕ, suc, ◌+◌, ◌-◌, ◌≤◌, ◌<◌}
use native.Mathlib.Nat.{sub-zero}
use native.Mathlib.Omega.{arith}
use mathlib.Core.Path.{◌≡◌, refl, sym, ◌∙◌, ap}
use mathlib.Core.Bool.{Bool, true, false, false≢true, ◌&&◌}
use mathlib.Core.List.{List}
use borrow.Author.Tests.{leb-true, le-leb, lt-leb, ltb-true, lt-ltb}
use lib.Dec.{eqb, ltb}
use lib.ListN.{length}
use Rattle.laws.specs.Tests.{◌and◌}
use Rattle.laws.proofs.TestLaws.{left, right, and_is, and-next, and-end}
use Rattle.boxes.specs.Box.{emsg}
use Rattle.byte_parts.specs.declared.Part.{Part}
use Rattle.cmaf_read_shape.specs.Parts.{Inside, end_of}
use Rattle.cmaf_read_shape.proofs.PartLaws.{box-lies}
use Rattle.cmaf_read_tree.specs.Numbers.{u32}
use Rattle.cmaf_read_prelude.specs.Emsg.{zero_from, scheme_at, scheme_end, value_end, emsg_ok, emsg_at, emsgs_ok}
use Rattle.cmaf_read_prelude.proofs.ZeroLaws.{zero-after, zero-before}

-- ---- a box that is looked for lies in its list

pub emsg-inside : (c : List ℕ) (at : ℕ) → at ≤ length c → Inside c (emsg_at c at)
emsg-inside c at h = box-lies c at (length c) emsg h (omega arith)

pub emsg-lies : (c : List ℕ) (p : ℕ) (b : Part) → b ≡ emsg_at c p → p ≤ length c → Inside c b
emsg-lies c p b e h = rw e (emsg-inside c p h)

-- ---- one box

module _ (c : List ℕ) (b : Part) where
  pub emsg-short : b.len < 32 → false ≡ emsg_ok c b
  unfolding emsg_ok ◌and◌
  emsg-short h = rw (lt-leb 32 b.len h)

  -- the first of three tests says nothing where it follows from the second
  spare : (p q r : Bool) → (q ≡ true → p ≡ true) → (q && r) ≡ (p and q and r)
  unfolding ◌and◌
  spare true q r f = sym (and_is q r)
  spare false true r f = absurd (false≢true (f refl))
  spare false false r f = refl

  -- what code finds in a box that has its fixed fields
  pub scheme-most : 32 ≤ b.len → Inside c b → (end s : ℕ) → end ≡ end_of b → s ≡ zero_from c (b.at + 32) end → s ≤ length c
  scheme-most h n end s ee es = omega (arith, es, zero-before c (b.at + 32) end (omega arith) (omega (arith, n.within)), n.within)

  pub emsg-long : 32 ≤ b.len → (end s v w : ℕ) → end ≡ end_of b
      → s ≡ zero_from c (b.at + 32) end → v ≡ zero_from c (s + 1) end → w ≡ u32 c (b.at + 8)
      → (ltb v end && eqb w 0x100_0000) ≡ emsg_ok c b
  unfolding emsg_ok ◌and◌ scheme_end value_end
  emsg-long h end s v w ee es ev ew =
      rw (le-leb 32 b.len h, ← ee, ← es, ← ev, ← ew)
      (spare (ltb s end) (ltb v end) (eqb w 0x100_0000) (λ e. lt-ltb s end (omega (arith, ltb-true v end e, ev, zero-after c (s + 1) end))))

  -- what a box that passed has: its fixed fields, and its strings one after another
  pub record Strings : Type 0 where
    pub long : 32 ≤ b.len
    pub scheme-from : scheme_at b ≤ scheme_end c b
    pub scheme-to : scheme_end c b < end_of b
    pub value-from : scheme_end c b + 1 ≤ value_end c b
    pub value-to : value_end c b < end_of b

  pub strings : emsg_ok c b ≡ true → Strings
  unfolding emsg_ok scheme_end value_end
  strings e =
      record {
        long = leb-true _ _ (left _ _ e);
        scheme-from = zero-after c (b.at + 32) (end_of b);
        scheme-to = ltb-true _ _ (left _ _ (right _ _ e));
        value-from = zero-after c (scheme_end c b + 1) (end_of b);
        value-to = ltb-true _ _ (left _ _ (right _ _ (right _ _ e)));
      }

-- the ends of the strings, as code finds them again
module _ (c : List ℕ) (b : Part) (ok : emsg_ok c b ≡ true) (end s : ℕ) (ee : end ≡ end_of b) (es : s ≡ zero_from c (b.at + 32) end) where
  pub scheme-is : s ≡ scheme_end c b
  unfolding scheme_end
  scheme-is = rw ee at es

  pub scheme-found : (b.at + 32 ≤ s) × (s < end)
  scheme-found = let t = strings c b ok in (omega (arith, scheme-is, t.scheme-from), omega (arith, scheme-is, t.scheme-to))

  module _ (v : ℕ) (ev : v ≡ zero_from c (s + 1) end) where
    pub value-is : v ≡ value_end c b
    unfolding value_end
    value-is = rw (ee, scheme-is) at ev

    pub value_found : (s + 1 ≤ v) × (v < end)
    value_found = let t = strings c b ok in (omega (arith, scheme-is, value-is, t.value-from), omega (arith, value-is, t.value-to))

-- ---- a run of boxes

module _ (c : List ℕ) (p k i : ℕ) where
  -- the next box and those after it
  pub emsgs-step : i < k → emsgs_ok c (k - i) p ≡ (emsg_ok c (emsg_at c p) and emsgs_ok c (k - (i + 1)) (end_of (emsg_at c p)))
  unfolding emsgs_ok
  emsgs-step h = let e : k - i ≡ suc (k - (i + 1)) = omega arith in rw e

-- the boxes before the one with the number i, which stands at p, are looked at, with this outcome
pub record Looking (c : List ℕ) (k at : ℕ) (ok : Bool) (p i : ℕ) : Type 0 where
  pub within : p ≤ length c
  pub high : i ≤ k
  pub rest : (ok and emsgs_ok c (k - i) p) ≡ emsgs_ok c k at

module _ (c : List ℕ) (k at : ℕ) where
  -- none is looked at yet
  pub looking-start : at ≤ length c → Looking c k at true at 0
  unfolding ◌and◌
  looking-start h = record { within = h; high = omega arith; rest = rw sub-zero }

  module _ (ok : Bool) (p i : ℕ) (h : Looking c k at ok p i) where
    -- one more
    pub looking-next : i < k → (b : Part) (r : Bool) (q : ℕ) → b ≡ emsg_at c p → r ≡ emsg_ok c b → q ≡ end_of b
        → Looking c k at (ok && r) q (i + 1)
    looking-next lt b r q eb er eq =
        record {
          within = rw (eq, eb) (emsg-inside c p h.within).within;
          high = omega arith;
          rest = and-next ok r _ ∙ ap (λ (t : Bool). ok and t) (rw (er, eq, eb) (sym (emsgs-step c p k i lt))) ∙ h.rest;
        }

    -- all are
    pub looking-end : k ≤ i → ok ≡ emsgs_ok c k at
    unfolding emsgs_ok
    looking-end le =
        let e : k - i ≡ 0 = omega arith in
        sym (rw e (and-end ok)) ∙ h.rest
