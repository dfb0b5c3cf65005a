-- An IV as a counter: how code reads one, finds the next, and what words it has. Assumes nothing.
use Prim.Native.Nat.{ℕ, suc, ◌+◌, ◌-◌, ◌*◌, ◌/◌, ◌%◌, ◌^◌, ◌≤◌, ◌<◌}
use native.Mathlib.Nat.{div-one, mod-eq_of_lt}
use native.Mathlib.Numerals.{add-one}
use native.Mathlib.Omega.{arith}
use mathlib.Core.Path.{◌≡◌, refl, sym, ◌∙◌, ap, ap₂}
use mathlib.Core.Bool.{Bool, true, false, false≢true, ◌&&◌}
use mathlib.Core.List.{List, [], ◌∷◌}
use mathlib.Core.Logic.{◌⊎◌, inl, inr}
use borrow.Author.Tests.{eqb-true, eq-eqb, leb-true, leb-false, le-leb, lt-leb}
use lib.Arith.{digits_div, digits_mod}
use lib.Dec.{eqb, leb}
use lib.ListN.{length, get_or}
use lib.Seq.{slice, slice-cons}
use Rattle.constants.specs.Maxima.{samples_most}
use Rattle.laws.proofs.SliceLaws.{slice-none}
use Rattle.laws.proofs.TestLaws.{and_left, and_right, same_test}
use Rattle.field_table.specs.Lines.{ivs_at}
use Rattle.iv_counter.specs.declared.Counter.{Counter}
use Rattle.iv_counter.specs.Counter.{counters, counter_of, counter_words, counter_at, top_of, Counts}

-- an IV has one word or two
abbrev pub Words : ℕ → Type 0
Words k = (k ≡ 1) ⊎ (k ≡ 2)

-- the words of the IV with the number i are within the room of all
pub iv-place : (k i : ℕ) → Words k → i + 1 ≤ samples_most → i * k + k ≤ 2 * samples_most
iv-place k i (inl e) h = rw e (omega arith)
iv-place k i (inr e) h = rw e (omega arith)

-- and so are those of n IVs
pub iv-room : (k n : ℕ) → Words k → n ≤ samples_most → n * k ≤ 2 * samples_most
iv-room k n (inl e) h = rw e (omega arith)
iv-room k n (inr e) h = rw e (omega arith)

-- the one that isn't two
pub one_word : (k : ℕ) → Words k → (k ≡ 2 → ⊥) → k ≡ 1
one_word k (inl e) h = e
one_word k (inr e) h = absurd (h e)

-- the largest counter, by the largest first word
pub most-is : (k : ℕ) → Words k → counters k - 1 ≡ top_of k * 2 ^ 64 + (2 ^ 64 - 1)
most-is k (inl e) = rw e
most-is k (inr e) = rw e

-- ---- an IV read

one-counter : (w : List ℕ) (at : ℕ) → at + 1 ≤ length w → counter_of (slice at (at + 1) w) ≡ get_or w at 0
unfolding counter_of
one-counter w at h =
    rw (slice-cons at (at + 1) w 0 (omega arith) h, slice-none (suc at) (at + 1) w (omega arith)) (omega arith)

two-counters : (w : List ℕ) (at : ℕ) → at + 2 ≤ length w → counter_of (slice at (at + 2) w) ≡ get_or w at 0 * 2 ^ 64 + get_or w (at + 1) 0
unfolding counter_of
two-counters w at h =
    rw (slice-cons at (at + 2) w 0 (omega arith) h, slice-cons (suc at) (at + 2) w 0 (omega arith) h, slice-none (suc (suc at)) (at + 2) w (omega arith), ← add-one at)
    (omega arith)

module _ (k i : ℕ) (w : List ℕ) (fits : ivs_at + 1 + i * k + k ≤ length w) (word : (j : ℕ) → get_or w j 0 < 2 ^ 64) where
  -- of one word
  pub read_one : k ≡ 1 → Counts k (counter_at k i w) (record { ok = true; high = 0; low = get_or w (ivs_at + 1 + i * k) 0 })
  unfolding counter_at
  read_one e =
      let at : ℕ = ivs_at + 1 + i * k in
      let v : counter_of (slice at (at + k) w) ≡ get_or w at 0 = ap (λ (m : ℕ). counter_of (slice at (at + m) w)) e ∙ one-counter w at (omega arith) in
      record {
        fits = sym (le-leb (counter_of (slice at (at + k) w)) (counters k - 1) (omega (arith, v, word at, most-is k (inl e))));
        is = λ h. omega (arith, v);
        top = omega arith;
      }

  -- of two
  pub read-two : k ≡ 2 → Counts k (counter_at k i w) (record { ok = true; high = get_or w (ivs_at + 1 + i * k) 0; low = get_or w (ivs_at + 1 + i * k + 1) 0 })
  unfolding counter_at
  read-two e =
      let at : ℕ = ivs_at + 1 + i * k in
      let v : counter_of (slice at (at + k) w) ≡ get_or w at 0 * 2 ^ 64 + get_or w (at + 1) 0 = ap (λ (m : ℕ). counter_of (slice at (at + m) w)) e ∙ two-counters w at (omega arith) in
      let first : get_or w at 0 ≤ top_of k = omega (arith, word at, ap top_of e) in
      record {
        fits = sym (le-leb (counter_of (slice at (at + k) w)) (counters k - 1) (omega (arith, v, first, word (at + 1), most-is k (inr e))));
        is = λ h. v;
        top = first;
      }

-- ---- the next one

-- a number that is no smaller fits where the first does, if it is known to
fits_on : (ok : Bool) (n m most : ℕ) → ok ≡ leb n most → n ≤ m → (ok ≡ true → m ≤ most) → ok ≡ leb m most
fits_on ok n m most e h f = same_test ok (leb m most) (λ z. le-leb m most (f z)) (λ z. e ∙ le-leb n most (let y = leb-true m most z in omega arith))

module _ (k n b : ℕ) (kk : Words k) (c : Counter) (h : Counts k n c) (few : b ≤ 2 ^ 64 - 1) where
  -- within its last word
  pub next-within : c.low ≤ 2 ^ 64 - 1 - b → Counts k (n + b) (record { ok = c.ok; high = c.high; low = c.low + b })
  next-within le =
      record {
        fits = fits_on c.ok n (n + b) (counters k - 1) h.fits (omega arith) (λ z. omega (arith, h.is z, h.top, most-is k kk));
        is = λ z. omega (arith, h.is z);
        top = h.top;
      }

  -- with one carried to its first
  pub next-carried : 2 ^ 64 - 1 - b < c.low → c.low ≤ 2 ^ 64 - 1 → c.high < top_of k
      → Counts k (n + b) (record { ok = c.ok; high = c.high + 1; low = c.low - (2 ^ 64 - 1 - b) - 1 })
  next-carried gt le room =
      record {
        fits = fits_on c.ok n (n + b) (counters k - 1) h.fits (omega arith) (λ z. omega (arith, h.is z, room, most-is k kk));
        is = λ z. omega (arith, h.is z);
        top = omega (arith, room);
      }

  -- past its size
  pub next_past : 2 ^ 64 - 1 - b < c.low → top_of k ≤ c.high → Counts k (n + b) (record { ok = false; high = 0; low = 0 })
  next_past gt full =
      record {
        fits = sym (lt-leb (n + b) (counters k - 1) (past c.ok refl));
        is = λ z. absurd (false≢true z);
        top = omega arith;
      }
    where
      past : (ok : Bool) → c.ok ≡ ok → counters k - 1 < n + b
      past true e = omega (arith, h.is e, most-is k kk)
      past false e = omega (arith, leb-false n (counters k - 1) (sym h.fits ∙ e))

-- ---- two of them compared

-- code's test of a counter beside one that has its size
pub compared : (k a b : ℕ) (d e : Counter) → Counts k a d → Counts k b e → e.ok ≡ true → d.low < 2 ^ 64 → e.low < 2 ^ 64
    → (d.ok && (eqb d.high e.high && eqb d.low e.low)) ≡ eqb a b
compared k a b d e p q good dl el =
    same_test (d.ok && (eqb d.high e.high && eqb d.low e.low)) (eqb a b)
    (λ z.
    let y = and_right d.ok (eqb d.high e.high && eqb d.low e.low) z in
    eq-eqb a b
    (omega (
      arith,
      p.is (and_left d.ok (eqb d.high e.high && eqb d.low e.low) z),
      q.is good,
      eqb-true d.high e.high (and_left (eqb d.high e.high) (eqb d.low e.low) y),
      eqb-true d.low e.low (and_right (eqb d.high e.high) (eqb d.low e.low) y),
    )))
    (λ z. back (eqb-true a b z))
  where
    back : a ≡ b → (d.ok && (eqb d.high e.high && eqb d.low e.low)) ≡ true
    back z =
        let ok : d.ok ≡ true = p.fits ∙ ap (λ (n : ℕ). leb n (counters k - 1)) z ∙ sym q.fits ∙ good in
        let sum : d.high * 2 ^ 64 + d.low ≡ e.high * 2 ^ 64 + e.low = sym (p.is ok) ∙ z ∙ q.is good in
        let high : d.high ≡ e.high = omega arith in
        let low : d.low ≡ e.low = omega arith in
        rw (ok, eq-eqb d.high e.high high, eq-eqb d.low e.low low)

-- ---- its words

module _ (k n : ℕ) (c : Counter) (h : Counts k n c) (good : c.ok ≡ true) (low : c.low < 2 ^ 64) where
  -- one word
  pub words-one : k ≡ 1 → counter_words k n ≡ c.low ∷ []
  unfolding counter_words
  words-one e =
      let v : n ≡ c.low = omega (arith, h.is good, h.top, ap top_of e) in
      rw (e, v) (ap (λ (m : ℕ). m ∷ []) (omega arith))

  -- two words
  pub words-two : k ≡ 2 → c.high < 2 ^ 64 → counter_words k n ≡ c.high ∷ (c.low ∷ [])
  unfolding counter_words
  words-two e high =
      let first : (n / 2 ^ 64) % 2 ^ 64 ≡ c.high = rw (h.is good, digits_div c.high {m = 2 ^ 64} low) (mod-eq_of_lt high) in
      let last : (n / 1) % 2 ^ 64 ≡ c.low = rw (div-one, h.is good) (digits_mod c.high low) in
      rw e (ap₂ (λ (a b : ℕ). a ∷ (b ∷ [])) first last)
