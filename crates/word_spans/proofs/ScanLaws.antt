-- The loops that collect the bits of a part of a list. Assumes nothing.
use Prim.Native.Nat.{ℕ, suc, ◌+◌, ◌-◌, ◌/◌, ◌≤◌, ◌<◌}
use native.Mathlib.Omega.{arith}
use mathlib.Core.Path.{◌≡◌, refl, sym, ◌∙◌, ap}
use mathlib.Core.List.{List, [], ◌∷◌, ◌++◌}
use lib.ListN.{length, get_or}
use lib.Seq.{slice, slice-cons}
use lib.Bits.{bit_or, or_comm, or_self, or_zero_r}
use Rattle.laws.specs.Tests.{all_bits}
use Rattle.laws.proofs.SliceLaws.{slice-none, slice-join}
use Rattle.laws.proofs.TestLaws.{or_assoc}

-- the bits of two parts that meet
bits-append : (xs ys : List ℕ) → all_bits (xs ++ ys) ≡ bit_or (all_bits xs) (all_bits ys)
unfolding all_bits
bits-append [] ys = refl
bits-append (x ∷ xs) ys = ap (bit_or x) (bits-append xs ys) ∙ sym (or_assoc x (all_bits xs) (all_bits ys))

pub bits-join : (w : List ℕ) (i m to : ℕ) → i ≤ m → m ≤ to → to ≤ length w
    → {a b : ℕ} → a ≡ all_bits (slice i m w) → b ≡ all_bits (slice m to w) → bit_or a b ≡ all_bits (slice i to w)
bits-join w i m to h k end ea eb = rw (ea, eb, slice-join i m to w h k end) (sym (bits-append (slice i m w) (slice m to w)))

-- one word by itself
pub bits-one : (w : List ℕ) (i : ℕ) → i < length w → get_or w i 0 ≡ all_bits (slice i (i + 1) w)
unfolding all_bits
bits-one w i h = rw (slice-cons i (i + 1) w 0 (omega arith) (omega arith), slice-none (suc i) (i + 1) w (omega arith)) (sym (or_zero_r (get_or w i 0)))

-- a part adds nothing to the whole
bits-part : (w : List ℕ) (i k m to : ℕ) → i ≤ k → k ≤ m → m ≤ to → to ≤ length w
    → bit_or (all_bits (slice i to w)) (all_bits (slice k m w)) ≡ all_bits (slice i to w)
bits-part w i k m to f g h end =
    let a = all_bits (slice i k w) in
    let b = all_bits (slice k m w) in
    let c = all_bits (slice m to w) in
    let whole : bit_or (bit_or a c) b ≡ all_bits (slice i to w) =
    or_assoc a c b
    ∙ ap (bit_or a) (or_comm c b)
    ∙ bits-join w i k to f (omega arith) end refl (bits-join w k m to g h end refl refl) in
    ap (λ (x : ℕ). bit_or x b) (sym whole) ∙ or_assoc (bit_or a c) b b ∙ ap (bit_or (bit_or a c)) (or_self b) ∙ whole

-- of two parts that meet or overlap, the second of which begins no earlier and ends no earlier
pub bits-over : (w : List ℕ) (i k m to : ℕ) → i ≤ k → k ≤ m → m ≤ to → to ≤ length w
    → {a b : ℕ} → a ≡ all_bits (slice i m w) → b ≡ all_bits (slice k to w) → bit_or a b ≡ all_bits (slice i to w)
bits-over w i k m to f g h end {a} {b} ea eb =
    let c = all_bits (slice k m w) in
    let d = all_bits (slice m to w) in
    rw (ea, eb)
    (ap (bit_or (all_bits (slice i m w))) (sym (bits-join w k m to g h end refl refl))
    ∙ sym (or_assoc (all_bits (slice i m w)) c d)
    ∙ ap (λ (x : ℕ). bit_or x d) (bits-part w i k m m f g (omega arith) (omega arith))
    ∙ bits-join w i m to (omega arith) h end refl refl)

-- of two steps of one length, which meet or overlap
pub bits-steps : (w : List ℕ) (n i p to : ℕ) → i ≤ p → p ≤ i + n → p + n ≡ to → to ≤ length w
    → {a b : ℕ} → a ≡ all_bits (slice i (i + n) w) → b ≡ all_bits (slice p (p + n) w) → bit_or a b ≡ all_bits (slice i to w)
bits-steps w n i p to h k et end ea eb = bits-over w i p (i + n) to h k (omega arith) end ea (rw et at eb)

-- of one to three words: the first, the one in the middle and the last
pub bits-three : (w : List ℕ) (from to : ℕ) → from < to → to ≤ from + 3 → to ≤ length w
    → bit_or (get_or w from 0) (bit_or (get_or w (from + (to - from) / 2) 0) (get_or w (to - 1) 0)) ≡ all_bits (slice from to w)
bits-three w from to h k end =
    let m = from + (to - from) / 2 in
    bits-over w from m (from + 1) to (omega arith) (omega arith) (omega arith) end (bits-one w from (omega arith))
    (bits-steps w 1 m (to - 1) to (omega arith) (omega arith) (omega arith) end (bits-one w m (omega arith)) (bits-one w (to - 1) (omega arith)))

-- two pairs: the first of both and the second of both, or one pair and the other
pub or-cross : (a b c d : ℕ) → bit_or (bit_or a c) (bit_or b d) ≡ bit_or (bit_or a b) (bit_or c d)
or-cross a b c d =
    or_assoc a c (bit_or b d)
    ∙ ap (bit_or a) (sym (or_assoc c b d) ∙ ap (λ (x : ℕ). bit_or x d) (or_comm c b) ∙ or_assoc b c d)
    ∙ sym (or_assoc a b (bit_or c d))

-- the bits of four parts of one length, as code groups them: two and two
pub bits-pairs : (w : List ℕ) (n i p q r to : ℕ) → i + n ≡ p → p + n ≡ q → q + n ≡ r → r + n ≡ to → to ≤ length w → {a b c d : ℕ}
    → a ≡ all_bits (slice i (i + n) w) → b ≡ all_bits (slice p (p + n) w) → c ≡ all_bits (slice q (q + n) w) → d ≡ all_bits (slice r (r + n) w)
    → bit_or (bit_or a b) (bit_or c d) ≡ all_bits (slice i to w)
bits-pairs w n i p q r to ep eq er et end ea eb ec ed =
    bits-join w i q to (omega arith) (omega arith) end
    (bits-join w i p q (omega arith) (omega arith) (omega arith) (rw ep at ea) (rw eq at eb))
    (bits-join w q r to (omega arith) (omega arith) end (rw er at ec) (rw et at ed))

-- of four words: in one lane the first and the third, in the other the second and the fourth
pub bits-four : (w : List ℕ) (i : ℕ) → i + 4 ≤ length w
    → bit_or (bit_or (get_or w i 0) (get_or w (i + 2) 0)) (bit_or (get_or w (i + 1) 0) (get_or w (i + 3) 0)) ≡ all_bits (slice i (i + 4) w)
bits-four w i h =
    or-cross (get_or w i 0) (get_or w (i + 1) 0) (get_or w (i + 2) 0) (get_or w (i + 3) 0)
    ∙ bits-pairs w 1 i (i + 1) (i + 2) (i + 3) (i + 4) (omega arith) (omega arith) (omega arith) (omega arith) h (bits-one w i (omega arith))
    (bits-one w (i + 1) (omega arith)) (bits-one w (i + 2) (omega arith)) (bits-one w (i + 3) (omega arith))

-- the bits of the words before the place i are collected
pub record Collected (w : List ℕ) (from to all i : ℕ) : Type 0 where
  pub inside : to ≤ length w
  pub begun : from ≤ i
  pub place : i ≤ to
  pub bits : all ≡ all_bits (slice from i w)

module _ (w : List ℕ) (from to : ℕ) where
  -- an empty part
  pub collect-none : to ≤ from → 0 ≡ all_bits (slice from to w)
  unfolding all_bits
  collect-none h = rw (slice-none from to w h)

  -- none is collected yet
  pub collect-start : to ≤ length w → from ≤ to → Collected w from to 0 from
  unfolding all_bits
  collect-start e h = record { inside = e; begun = omega arith; place = h; bits = rw (slice-none from from w (omega arith)) }

  module _ (all i : ℕ) (h : Collected w from to all i) where
    -- those of a part more
    pub collect-run : (m : ℕ) {a : ℕ} → i ≤ m → m ≤ to → a ≡ all_bits (slice i m w) → Collected w from to (bit_or all a) m
    collect-run m {a} p q e =
        record {
          inside = h.inside;
          begun = omega (arith, h.begun);
          place = q;
          bits = bits-join w from i m h.begun p (omega (arith, h.inside)) h.bits e;
        }

    -- those of the rest, and of some before it once more
    pub collect-last : (k : ℕ) {a : ℕ} → from ≤ k → k ≤ i → a ≡ all_bits (slice k to w) → bit_or all a ≡ all_bits (slice from to w)
    collect-last k p q e = bits-over w from k i to p q h.place h.inside h.bits e

    -- all are
    pub collect-end : to ≤ i → all ≡ all_bits (slice from to w)
    collect-end le = let e : i ≡ to = omega (arith, h.place) in rw e at h.bits
