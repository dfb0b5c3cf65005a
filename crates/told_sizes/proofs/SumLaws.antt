-- Laws of sums over a set's words. Assumes nothing.
use Prim.Native.Nat.{ℕ, ◌+◌, ◌-◌, ◌*◌, ◌^◌, ◌≤◌, ◌<◌}
use native.Mathlib.Nat.{add-zero, mul-le-mul_right}
use native.Mathlib.Omega.{arith}
use mathlib.Core.Path.{◌≡◌, sym, ◌∙◌, ap}
use mathlib.Core.Bool.{true}
use mathlib.Core.List.{List}
use lib.ListN.{length, get_or}
use lib.Seq.{slice, length-slice}
use Rattle.constants.specs.Maxima.{samples_most, subsamples_most}
use Rattle.laws.specs.Tests.{all_le, sum}
use Rattle.laws.proofs.SliceLaws.{slice-none, slice-join}
use Rattle.laws.proofs.TestLaws.{both, all_le-append, zeros-le, sum-append, sum-most, sum-next}
use Rattle.track.specs.declared.Track.{Track}
use Rattle.field_table.specs.Lines.{lines, line_for, set_len, size_at, clear_at, protected_at, iv_size_at}
use Rattle.field_table.specs.declared.lines.Line.{Line}
use Rattle.field_table.specs.declared.lines.Measure.{Measure}
use Rattle.field_set.specs.Lawful.{count_in, lawful}
use Rattle.field_set.proofs.LawfulLaws.{used_of, Region, lawful-facts, lawful-region}
use Rattle.told_sizes.specs.Sums.{bytes_of, pair_bytes, Summable}

-- ---- words added up

-- the words before i are added up, and what is left of them
pub record Adding (w : List ℕ) (from to n i : ℕ) : Type 0 where
  pub inside : to ≤ length w
  pub small : sum (slice from to w) < 2 ^ 64
  pub left : n + sum (slice i to w) ≡ sum (slice from to w)

module _ (w : List ℕ) (from to : ℕ) where
  pub add_start : to ≤ length w → sum (slice from to w) < 2 ^ 64 → Adding w from to 0 from
  add_start a b = record { inside = a; small = b; left = omega arith }

  module _ (n i : ℕ) (h : Adding w from to n i) where
    pub add-fits : i < to → n + get_or w i 0 < 2 ^ 64
    add-fits lt = omega (arith, sum-next w i to lt h.inside, h.left, h.small)

    pub add-more : i < to → Adding w from to (n + get_or w i 0) (i + 1)
    add-more lt = record { inside = h.inside; small = h.small; left = omega (arith, sum-next w i to lt h.inside, h.left) }

    pub add-end : to ≤ i → n ≡ sum (slice from to w)
    unfolding sum
    add-end le = let z : sum (slice i to w) ≡ 0 = ap sum (slice-none i to w le) in omega (arith, h.left)

-- ---- how large sums are

-- a part of words that keep a bound
pub part-most : (b f t p q : ℕ) (w : List ℕ) → all_le b (slice f t w) ≡ true → t ≤ length w → f ≤ p → p ≤ q → q ≤ t → sum (slice p q w) ≤ (t - f) * b
part-most b f t p q w e l x y z =
    let u : sum (slice f t w) ≡ sum (slice f p w) + sum (slice p t w) = ap sum (slice-join f p t w x (omega arith) l) ∙ sum-append (slice f p w) (slice p t w) in
    let v : sum (slice p t w) ≡ sum (slice p q w) + sum (slice q t w) = ap sum (slice-join p q t w y z l) ∙ sum-append (slice p q w) (slice q t w) in
    let m : sum (slice f t w) ≤ (t - f) * b = rw (length-slice f t w l) at (sum-most b (slice f t w) e) in
    omega (arith, u, v, m)

-- as many samples of one size
pub product_small : (n v : ℕ) → n ≤ samples_most → v ≤ 0xffff_ffff → n * v < 2 ^ 64
product_small n v a b = omega (arith, mul-le-mul_right v a)

module _ {w : List ℕ} (s : Summable w) where
  pub sizes-small : 1 < count_in w → sum (slice 3 (2 + count_in w) w) < 2 ^ 64
  unfolding lines line_for
  sizes-small h = omega (arith, part-most 0xffff_ffff 3 66 3 (2 + count_in w) w s.sizes (omega (arith, s.words)) (omega arith) (omega arith) (omega (arith, s.few)))

  pub size_small : get_or w (size_at + 1) 0 ≤ 0xffff_ffff
  unfolding lines line_for
  size_small =
      let l : (size_at + 2) ≤ length w = omega (arith, s.words) in
      omega (arith, part-most 0xffff_ffff (size_at + 1) (size_at + 2) (size_at + 1) (size_at + 2) w s.size l (omega arith) (omega arith) (omega arith), sum-next w (size_at + 1) (size_at + 2) (omega arith) l)

  module _ (j k : ℕ) (h : j + k ≤ subsamples_most) where
    pub clear-small : sum (slice ((clear_at + 1) + j) ((clear_at + 1) + j + k) w) ≤ 16776960
    unfolding lines line_for
    clear-small = omega (arith, part-most 0xffff (clear_at + 1) protected_at ((clear_at + 1) + j) ((clear_at + 1) + j + k) w s.clear (omega (arith, s.words)) (omega arith) (omega arith) (omega arith))

    pub protected-small : sum (slice ((protected_at + 1) + j) ((protected_at + 1) + j + k) w) ≤ 1099511627520
    unfolding lines line_for
    protected-small = omega (arith, part-most 0xffff_ffff (protected_at + 1) iv_size_at ((protected_at + 1) + j) ((protected_at + 1) + j + k) w s.protected (omega (arith, s.words)) (omega arith) (omega arith) (omega arith))

-- all words that a lawful region has room for keep its bound
pub bounded : (m : Measure) (l : Line) (w : List ℕ) → Region m l w → l.place + 1 + l.room ≤ length w
    → all_le l.bound (slice (l.place + 1) (l.place + 1 + l.room) w) ≡ true
bounded m l w r h =
    let f : ℕ = l.place + 1 in
    let u : ℕ = used_of m l w in
    rw (slice-join f (f + u) (f + l.room) w (omega arith) (omega (arith, r.room)) h, all_le-append)
    (both _ _ r.values (zeros-le l.bound _ r.rest))

-- a lawful set has such sums
pub lawful-summable : (t : Track) (w : List ℕ) → length w ≡ set_len → lawful t w ≡ true → Summable w
unfolding lines line_for
lawful-summable t w n e =
    record {
      words = n;
      few = (lawful-facts t w e).count;
      sizes = bounded _ _ w (lawful-region t w 0 e (omega arith)) (omega (arith, n));
      size = bounded _ _ w (lawful-region t w 5 e (omega arith)) (omega (arith, n));
      subsamples = (lawful-facts t w e).subsamples;
      clear = bounded _ _ w (lawful-region t w 11 e (omega arith)) (omega (arith, n));
      protected = bounded _ _ w (lawful-region t w 12 e (omega arith)) (omega (arith, n));
    }

-- ---- clear and protected bytes

-- no subsamples have no bytes
pub no_pairs : (w : List ℕ) → pair_bytes w 0 0 ≡ 0
unfolding bytes_of lines line_for sum
no_pairs w = rw (slice-none (clear_at + 1) (clear_at + 1) w (omega arith), slice-none (protected_at + 1) (protected_at + 1) w (omega arith))

-- of a number of subsamples, and of more behind them
bytes-join : (id : ℕ) (w : List ℕ) (j k : ℕ) → (line_for id lines).place + 1 + j + k ≤ length w → bytes_of id w 0 (j + k) ≡ bytes_of id w 0 j + bytes_of id w j k
unfolding bytes_of
bytes-join id w j k h =
    let at : ℕ = (line_for id lines).place + 1 in
    let z : at + 0 + j ≡ at + j = omega arith in
    let y : at + 0 + (j + k) ≡ at + j + k = omega arith in
    ap (λ (to : ℕ). sum (slice (at + 0) to w)) y
    ∙ ap sum (slice-join (at + 0) (at + j) (at + j + k) w (omega arith) (omega arith) h)
    ∙ sum-append (slice (at + 0) (at + j) w) (slice (at + j) (at + j + k) w)
    ∙ ap (λ (to : ℕ). sum (slice (at + 0) to w) + sum (slice (at + j) (at + j + k) w)) (sym z)

module _ {w : List ℕ} (s : Summable w) (j k : ℕ) (h : j + k ≤ subsamples_most) where
  pub pairs-join : pair_bytes w 0 (j + k) ≡ pair_bytes w 0 j + pair_bytes w j k
  unfolding lines line_for
  pairs-join = omega (arith, bytes-join 13 w j k (omega (arith, s.words)), bytes-join 15 w j k (omega (arith, s.words)))

-- of two parts of k words the first i of each are added up, and what is left of them
pub record Pairing (w : List ℕ) (a b k n i : ℕ) : Type 0 where
  pub first : a + k ≤ length w
  pub second : b + k ≤ length w
  pub small : sum (slice a (a + k) w) + sum (slice b (b + k) w) < 2 ^ 41
  pub left : n + (sum (slice (a + i) (a + k) w) + sum (slice (b + i) (b + k) w)) ≡ sum (slice a (a + k) w) + sum (slice b (b + k) w)

module _ (w : List ℕ) (a b k n i : ℕ) (h : Pairing w a b k n i) (lt : i < k) where
  -- the next word of each, and those after it
  next-two : n + (get_or w (a + i) 0 + get_or w (b + i) 0) + (sum (slice (a + (i + 1)) (a + k) w) + sum (slice (b + (i + 1)) (b + k) w))
      ≡ sum (slice a (a + k) w) + sum (slice b (b + k) w)
  next-two =
      let p : a + (i + 1) ≡ a + i + 1 = omega arith in
      let q : b + (i + 1) ≡ b + i + 1 = omega arith in
      rw (p, q) (omega (arith, h.left, sum-next w (a + i) (a + k) (omega arith) h.first, sum-next w (b + i) (b + k) (omega arith) h.second))

  pub pair_fits : n + (get_or w (a + i) 0 + get_or w (b + i) 0) < 2 ^ 41
  pair_fits = omega (arith, next-two, h.small)

  pub pair-more : Pairing w a b k (n + (get_or w (a + i) 0 + get_or w (b + i) 0)) (i + 1)
  pair-more = record { first = h.first; second = h.second; small = h.small; left = next-two }

module _ {w : List ℕ} (s : Summable w) (j k : ℕ) (h : j + k ≤ subsamples_most) where
  pub pair-start : Pairing w (clear_at + 1 + j) (protected_at + 1 + j) k 0 0
  pair-start =
      record {
        first = omega (arith, s.words);
        second = omega (arith, s.words);
        small = omega (arith, clear-small s j k h, protected-small s j k h);
        left = rw (add-zero (clear_at + 1 + j), add-zero (protected_at + 1 + j)) (omega arith);
      }

  pub pair_end : (n i : ℕ) → Pairing w (clear_at + 1 + j) (protected_at + 1 + j) k n i → k ≤ i → (n ≡ pair_bytes w j k) × (n < 2 ^ 41)
  unfolding bytes_of lines line_for sum
  pair_end n i p le =
      let x : sum (slice (clear_at + 1 + j + i) (clear_at + 1 + j + k) w) ≡ 0 = ap sum (slice-none (clear_at + 1 + j + i) (clear_at + 1 + j + k) w (omega arith)) in
      let y : sum (slice (protected_at + 1 + j + i) (protected_at + 1 + j + k) w) ≡ 0 = ap sum (slice-none (protected_at + 1 + j + i) (protected_at + 1 + j + k) w (omega arith)) in
      (omega (arith, p.left), omega (arith, p.left, p.small))
