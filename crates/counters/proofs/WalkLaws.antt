-- A walk over the samples of a set: where it stands, and the counters that are still to follow. Assumes nothing.
use Prim.Native.Nat.{ℕ, suc, ◌+◌, ◌-◌, ◌*◌, ◌^◌, ◌≤◌, ◌<◌}
use native.Mathlib.Numerals.{add-one}
use native.Mathlib.Omega.{arith}
use mathlib.Core.Path.{◌≡◌, refl, sym, ◌∙◌, ap}
use mathlib.Core.Bool.{Bool, true, false, cond}
use mathlib.Core.List.{List, [], ◌∷◌}
use mathlib.Core.Logic.{⊎_elim, inl, inr}
use borrow.Author.Tests.{not-false}
use lib.Dec.{eqb, leb}
use lib.ListN.{length, get_or}
use lib.Seq.{slice}
use Rattle.constants.specs.Maxima.{samples_most, subsamples_most}
use Rattle.laws.specs.Tests.{all_zero}
use Rattle.laws.proofs.TestLaws.{and_left, zeros-le, sum-next}
use Rattle.track.specs.declared.Track.{Track}
use Rattle.track.specs.Track.{cenc}
use Rattle.field_table.specs.Lines.{lines, line_for, set_len, ivs_at, subsamples_at, first_flags_at, subsamples_line}
use Rattle.field_set.specs.Lawful.{has, in_use, value_at, count_in, lawful}
use Rattle.field_set.proofs.LawfulLaws.{lawful-region}
use Rattle.field_set.proofs.RuleLaws.{ruled}
use Rattle.field_set.proofs.ValueLaws.{pairs_left, pairs-all, pairs_end, pairs-on}
use Rattle.told_sizes.specs.Sums.{Summable}
use Rattle.told_sizes.proofs.SumLaws.{lawful-summable, part-most}
use Rattle.iv_counter.specs.declared.Counter.{Counter}
use Rattle.counters.specs.declared.follow.Walk.{Walk}
use Rattle.iv_counter.specs.Counter.{blocks, following, counters, counter_at}
use Rattle.counters.specs.Protected.{protected_of, protected_from}
use Rattle.counters.specs.Follow.{iv_words, Behind, Passed}
use Rattle.iv_counter.proofs.CounterLaws.{Words, iv-place, read_one, read-two}
use Rattle.counters.proofs.IvsLaws.{iv-words}
use Rattle.counters.proofs.ProtectedLaws.{some-samples}

-- ---- the set that is walked

-- the counter that words are has their size
pub stands-fit : (k i : ℕ) (w : List ℕ) → Words k → i + 1 ≤ samples_most → length w ≡ set_len → ((j : ℕ) → get_or w j 0 < 2 ^ 64)
    → leb (counter_at k i w) (counters k - 1) ≡ true
stands-fit k i w kk few long word = by kk
  where
    room : ivs_at + 1 + i * k + k ≤ length w
    room = omega (arith, iv-place k i kk few, long)

    by : Words k → leb (counter_at k i w) (counters k - 1) ≡ true
    by (inl e) = sym (read_one k i w room word e).fits
    by (inr e) = sym (read-two k i w room word e).fits

-- a subsample count that isn't in use is 0
no_pairs : (t : Track) (w : List ℕ) → length w ≡ set_len → lawful t w ≡ true → has 11 w ≡ false → (i : ℕ) → i < samples_most → value_at 11 i w ≡ 0
unfolding has in_use lines line_for
no_pairs t w long law off i lt =
    let at : ℕ = subsamples_at + 1 + i in
    let none : eqb (get_or w subsamples_at 0) 0 ≡ true = not-false (eqb (get_or w subsamples_at 0) 0) off in
    let zeros : all_zero (slice (subsamples_at + 1) first_flags_at w) ≡ true = rw none at (lawful-region t w subsamples_line law (omega arith)).rest in
    omega (
      arith,
      part-most 0 (subsamples_at + 1) first_flags_at at (at + 1) w (zeros-le 0 _ zeros) (omega arith) (omega arith) (omega arith) (omega arith),
      sum-next w at (at + 1) (omega arith) (omega arith),
    )

-- what a walk needs of a set, the IVs of which have k words each
pub record Walked (k : ℕ) (x : List ℕ) : Type 0 where
  pub words : Words k
  pub sums : Summable x
  pub stored : (i : ℕ) → i < samples_most → value_at 11 i x ≡ cond (has 11 x) (value_at 11 i x) 0

-- a lawful one has it
pub walked : (t : Track) (k : ℕ) (x : List ℕ) → length x ≡ set_len → lawful t x ≡ true → Words k → Walked k x
walked t k x long law few = record { words = few; sums = lawful-summable t x long law; stored = λ i lt. by (has 11 x) refl i lt }
  where
    by : (b : Bool) → has 11 x ≡ b → (i : ℕ) → i < samples_most → value_at 11 i x ≡ cond b (value_at 11 i x) 0
    by true e i lt = refl
    by false e i lt = no_pairs t x long law e i lt

-- what is known where it begins, behind a reference with IVs
pub record Begun (t : Track) (r : List ℕ) : Type 0 where
  pub words : Words (iv_words t)
  pub long : length r ≡ set_len
  pub some : 1 ≤ count_in r
  pub few : count_in r ≤ samples_most

pub begun : (t : Track) (last : ℕ) (r x : List ℕ) → Behind t last r x → has 9 r ≡ true → Begun t r
begun t last r x h a =
    record {
      words = iv-words t.protection t.iv_size h.iv (and_left (eqb t.protection cenc) _ (sym (ruled t r (h.old a)).ivs ∙ a));
      long = h.old-words;
      some = some-samples t r (h.old a) a;
      few = (lawful-summable t r h.old-words (h.old a)).few;
    }

-- ---- where the walk stands

-- before the sample i
pub record Place (x : List ℕ) (v : Walk) (i : ℕ) : Type 0 where
  pub inside : i ≤ count_in x
  pub pairs : v.j + pairs_left x (count_in x) i ≤ subsamples_most
  pub small : v.bytes ≤ 2 ^ 48

module _ {k : ℕ} {x : List ℕ} (s : Walked k x) where
  pub place-start : (c : Counter) (last : ℕ) → last ≤ 2 ^ 48 → Place x (record { c = c; bytes = last; j = 0 }) 0
  place-start c last h = record { inside = omega arith; pairs = omega (arith, pairs-all x (count_in x), s.sums.subsamples); small = h }

  module _ (v : Walk) (i : ℕ) (h : Place x v i) (lt : i < count_in x) where
    on : v.j + value_at 11 i x + pairs_left x (count_in x) (i + 1) ≤ subsamples_most
    on = pairs-on x (count_in x) i s.sums.words s.sums.few lt v.j subsamples_most (s.stored i (omega (arith, s.sums.few))) h.pairs

    -- its subsamples are among the first 256
    pub place-fits : v.j + value_at 11 i x ≤ subsamples_most
    place-fits = omega (arith, on)

    pub place-next : (t : Track) (c : Counter) (w : Walk) → Passed t x c i v.j w → Place x w (i + 1)
    place-next t c w p =
        record {
          inside = omega arith;
          pairs = ⊎_elim (λ q. omega (arith, on, q.2)) (λ q. omega (arith, h.pairs, pairs_end x (count_in x) (i + 1) q.0, q.1)) p.on;
          small = p.small;
        }

-- ---- what is still to follow

-- the protected bytes from the sample i on
abbrev pub bytes_left : Track → List ℕ → ℕ → ℕ → ℕ → List ℕ
bytes_left t x payload i j = protected_from t x payload (count_in x - i) i j

-- the counter of the sample i, and those behind it
pub follow-head : (t : Track) (x : List ℕ) (payload n bytes j i : ℕ) → i < count_in x
    → following n bytes (bytes_left t x payload i j)
    ≡ (n + blocks bytes) ∷ following (n + blocks bytes) (protected_of t x payload i j) (bytes_left t x payload (i + 1) (j + value_at 11 i x))
unfolding following protected_from
follow-head t x payload n bytes j i lt = let m : count_in x - i ≡ suc (count_in x - suc i) = omega arith in rw (m, add-one i)

-- by where the walk stands behind it
pub follow-next : (t : Track) (x : List ℕ) (payload n bytes j i : ℕ) (c : Counter) (w : Walk) → i < count_in x → Passed t x c i j w
    → following n bytes (bytes_left t x payload i j) ≡ (n + blocks bytes) ∷ following (n + blocks bytes) w.bytes (bytes_left t x payload (i + 1) w.j)
unfolding following protected_from
follow-next t x payload n bytes j i c w lt p = follow-head t x payload n bytes j i lt ∙ ap (λ (l : List ℕ). (n + blocks bytes) ∷ l) rest
  where
    rest : following (n + blocks bytes) (protected_of t x payload i j) (bytes_left t x payload (i + 1) (j + value_at 11 i x))
        ≡ following (n + blocks bytes) w.bytes (bytes_left t x payload (i + 1) w.j)
    rest = ⊎_elim (λ q. rw (q.1 payload, q.2)) (λ q. let z : count_in x - (i + 1) ≡ 0 = omega (arith, q.0) in rw z) p.on

-- none is left
pub follow-end : (t : Track) (x : List ℕ) (payload n bytes j i : ℕ) → count_in x ≤ i → following n bytes (bytes_left t x payload i j) ≡ []
unfolding following protected_from
follow-end t x payload n bytes j i le = let z : count_in x - i ≡ 0 = omega arith in rw z
