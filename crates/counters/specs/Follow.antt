-- The IVs that a chunk has if each follows. 02, order 6: "The first IV follows from the last sample of the previous chunk".
use Rattle.std.specs.Prelude.{ℕ, ◌+◌, ◌-◌, ◌*◌, ◌/◌, ◌^◌, ◌≤◌, ◌<◌, ◌≡◌, Bool, true, ◌&&◌, List, ◌⊎◌, length}
use Rattle.std.proofs.Math.Seq.{slice}
use Rattle.std.proofs.lemmas.List.Edits.{sets}
use Rattle.laws.specs.Tests.{all_le, same}
use Rattle.track.specs.declared.Track.{Track}
use Rattle.track.specs.Track.{iv_ok}
use Rattle.field_table.specs.Lines.{set_len, ivs_at}
use Rattle.field_set.specs.Lawful.{has, value_at, count_in, lawful}
use Rattle.iv_counter.specs.declared.Counter.{Counter}
use Rattle.counters.specs.declared.follow.Walk.{Walk}
use Rattle.iv_counter.specs.Counter.{following, counters, counter_at, counters_of, all_words}
use Rattle.counters.specs.Protected.{protected_of, protected_from}

-- ==== The rules

-- how many words an IV has
abbrev pub iv_words : Track → ℕ
iv_words t = t.iv_size / 8

-- the counters of the IVs that a set has
abbrev pub counters_in : Track → List ℕ → List ℕ
counters_in t w = counters_of (iv_words t) (count_in w) (slice (ivs_at + 1) (ivs_at + 1 + count_in w * iv_words t) w)

-- behind the reference's set r, whose last sample has so many protected bytes, and for the samples of the set x
module _ (t : Track) (last : ℕ) (r x : List ℕ) (payload : ℕ) where
  -- the counters of the IVs that follow
  unfoldable pub derived : List ℕ
  derived = following (counter_at (iv_words t) (count_in r - 1) r) last (protected_from t x payload (count_in x) 0 0)

  -- the IVs of x are those. "after a chunk without samples .. id 9 always stands": there is one to follow from. One that goes round to 0 isn't among them, since
  -- none is past its size.
  unfoldable pub ivs_follow : Bool
  ivs_follow = has 9 r && (has 9 x && same derived (counters_in t x))

  -- none of them passes its size
  unfoldable pub derived_fit : Bool
  derived_fit = all_le (counters (iv_words t) - 1) derived

  -- the set with them in their room
  unfoldable pub with_derived : List ℕ
  with_derived = sets x (ivs_at + 1) (all_words (iv_words t) derived)

-- ==== What only mirrors the code

-- a lawful set behind a lawful reference
pub record Behind (t : Track) (last : ℕ) (r x : List ℕ) : Type 0 where
  pub old-words : length r ≡ set_len
  pub new-words : length x ≡ set_len
  pub old : has 9 r ≡ true → lawful t r ≡ true
  pub new : lawful t x ≡ true
  pub iv : iv_ok t.protection t.iv_size ≡ true
  pub small : last ≤ 2 ^ 48

-- they were put there, or one passes its size
pub record DerivedAs (t : Track) (last : ℕ) (r x : List ℕ) (payload : ℕ) (ok : Bool) (after : List ℕ) : Type 0 where
  pub answered : ok ≡ derived_fit t last r x payload
  pub stored : ok ≡ true → after ≡ with_derived t last r x payload
  pub long : length after ≡ length x

-- the sample i with the counter c, whose first subsample has the number j, is passed: its protected bytes and its subsamples are taken up, but not those of the last
pub record Passed (t : Track) (x : List ℕ) (c : Counter) (i j : ℕ) (v : Walk) : Type 0 where
  pub own : v.c ≡ c
  pub small : v.bytes ≤ 2 ^ 48
  pub on : ((i + 1 < count_in x) × ((payload : ℕ) → v.bytes ≡ protected_of t x payload i j) × (v.j ≡ j + value_at 11 i x))
      ⊎ ((count_in x ≤ i + 1) × (v.j ≡ j))

-- the counters of the samples of x, behind the counter n of a sample with so many protected bytes
abbrev pub due : Track → ℕ → ℕ → List ℕ → ℕ → List ℕ
due t n last x payload = following n last (protected_from t x payload (count_in x) 0 0)

-- for IVs of k words each
module _ (t : Track) (k n last : ℕ) (x : List ℕ) (payload : ℕ) where
  -- the IVs of x are those
  abbrev pub all_follow : Bool
  all_follow = same (due t n last x payload) (counters_of k (count_in x) (slice (ivs_at + 1) (ivs_at + 1 + count_in x * k) x))

  -- they were put there, or one passes its size
  pub record AllPut (ok : Bool) (after : List ℕ) : Type 0 where
    pub answered : ok ≡ all_le (counters k - 1) (due t n last x payload)
    pub stored : ok ≡ true → after ≡ sets x (ivs_at + 1) (all_words k (due t n last x payload))
    pub long : length after ≡ length x
