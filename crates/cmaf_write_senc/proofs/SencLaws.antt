-- The bytes of `senc`: what a turn of each loop writes of them, their length, and the head as words. Assumes nothing.
use Prim.Native.Nat.{ℕ, zero, suc, ◌+◌, ◌-◌, ◌*◌, ◌/◌, ◌≤◌, ◌<◌}
use native.Mathlib.Nat.{suc-mul, zero-mul, mul-le-mul}
use native.Mathlib.Numerals.{add-one}
use native.Mathlib.Omega.{arith}
use mathlib.Core.Path.{◌≡◌, refl, sym, ◌∙◌, ap}
use mathlib.Core.Bool.{Bool, true, false}
use mathlib.Core.List.{List, [], ◌∷◌, ◌++◌, append_assoc}
use lib.ListN.{length, length-append}
use Rattle.constants.specs.Maxima.{samples_most}
use Rattle.laws.specs.Bytes.{be}
use Rattle.laws.specs.Tests.{sum}
use Rattle.laws.proofs.BytesLaws.{length-be}
use Rattle.track.specs.declared.Track.{Track}
use Rattle.field_table.specs.Lines.{set_len}
use Rattle.field_set.specs.Lawful.{has, values_of, value_at, count_in}
use Rattle.boxes.specs.Box.{words, flag_when, when}
use Rattle.boxes.specs.Box as B
use Rattle.boxes.proofs.BoxLaws.{length-full_box, words-one, full_box-head}
use Rattle.cmaf_write_senc.specs.Protected.{iv_bytes, subsamples, senc_entries, senc_box}
use Rattle.field_set.proofs.ValueLaws.{pairs_left, pairs-all, pairs_end, pairs_next}

-- ---- the words of an IV, and subsamples

pub iv-length : (w : List ℕ) (k i : ℕ) → length (iv_bytes w k i) ≡ 8 * k
unfolding iv_bytes
iv-length w zero i = refl
iv-length w (suc k) i = simp (length-append, length-be) (omega (arith, iv-length w k (suc i)))

pub iv-end : (w : List ℕ) (end j : ℕ) → end ≤ j → iv_bytes w (end - j) j ≡ []
unfolding iv_bytes
iv-end w end j h = let e : end - j ≡ 0 = omega arith in rw e

pub iv-next : (w : List ℕ) (end j : ℕ) → j < end → iv_bytes w (end - j) j ≡ be 8 (value_at 9 j w) ++ iv_bytes w (end - (j + 1)) (j + 1)
unfolding iv_bytes
iv-next w end j h = let e : end - j ≡ suc (end - suc j) = omega arith in rw (add-one j, e)

pub subsamples-length : (w : List ℕ) (k j : ℕ) → length (subsamples w k j) ≡ 6 * k
unfolding subsamples
subsamples-length w zero j = refl
subsamples-length w (suc k) j = simp (length-append, length-be) (omega (arith, subsamples-length w k (suc j)))

pub subsamples-end : (w : List ℕ) (end j : ℕ) → end ≤ j → subsamples w (end - j) j ≡ []
unfolding subsamples
subsamples-end w end j h = let e : end - j ≡ 0 = omega arith in rw e

pub subsamples-next : (w : List ℕ) (end j : ℕ) → j < end
    → subsamples w (end - j) j ≡ (be 2 (value_at 13 j w) ++ be 4 (value_at 15 j w)) ++ subsamples w (end - (j + 1)) (j + 1)
unfolding subsamples
subsamples-next w end j h = let e : end - j ≡ suc (end - suc j) = omega arith in rw (add-one j, e) (sym (append_assoc (be 2 (value_at 13 j w)) (be 4 (value_at 15 j w)) _))

-- ---- entries

-- an IV of one or two words lies in the field's region
pub iv-inside : {n i v : ℕ} → i < n → n ≤ samples_most → v ≤ 2 → i * v + v ≤ 2 * samples_most
iv-inside {n} {i} {v} h f s = let k : suc i ≤ samples_most = omega arith in let m : suc i * v ≤ samples_most * 2 = mul-le-mul k s in omega (arith, suc-mul i v)

map-length : (b : Bool) (w : List ℕ) (v j : ℕ) → length (when b (be 2 v ++ subsamples w v j)) ≡ flag_when b 2 + 6 * flag_when b v
map-length true w v j = simp (length-append, length-be) (omega (arith, subsamples-length w v j))
map-length false w v j = refl

pub map-room : (w : List ℕ) (k j : ℕ) → has 11 w ≡ true → length (when (has 11 w) (be 2 k ++ subsamples w k j)) ≡ 2 + 6 * k
map-room w k j e = rw e (map-length true w k j)

module _ (t : Track) (w : List ℕ) where
  -- the words of an IV in an entry
  abbrev ivs : ℕ
  ivs = flag_when (has 9 w) (t.iv_size / 8)

  -- the bytes of an IV and of a count of subsamples in an entry
  abbrev pub entry_head : ℕ
  entry_head = 8 * ivs + flag_when (has 11 w) 2

  iv-of : (b : Bool) (k i : ℕ) → when b (iv_bytes w k (i * k)) ≡ iv_bytes w (flag_when b k) (i * flag_when b k)
  unfolding iv_bytes
  iv-of true k i = refl
  iv-of false k i = refl

  map_of : (b : Bool) (v j : ℕ) → when b (be 2 v ++ subsamples w v j) ≡ when b (be 2 (flag_when b v) ++ subsamples w (flag_when b v) j)
  map_of true v j = refl
  map_of false v j = refl

  -- one entry, and the rest
  entries-step : (k i j : ℕ)
      → let c = flag_when (has 11 w) (value_at 11 i w) in
      senc_entries t w (suc k) i j ≡ iv_bytes w ivs (i * ivs) ++ (when (has 11 w) (be 2 c ++ subsamples w c j) ++ senc_entries t w k (suc i) (j + c))
  unfolding senc_entries
  entries-step k i j = rw (← iv-of (has 9 w) (t.iv_size / 8) i, ← map_of (has 11 w) (value_at 11 i w) j)

  module _ (n i j : ℕ) (h : i < n) {v c : ℕ} (p : v ≡ ivs) (q : c ≡ flag_when (has 11 w) (value_at 11 i w)) where
    pub entries_next : senc_entries t w (n - i) i j ≡ (iv_bytes w v (i * v) ++ when (has 11 w) (be 2 c ++ subsamples w c j)) ++ senc_entries t w (n - (i + 1)) (i + 1) (j + c)
    entries_next =
        let d : n - i ≡ suc (n - suc i) = omega arith in
        rw (add-one i, d, p, q) (entries-step (n - suc i) i j ∙ sym (append_assoc (iv_bytes w ivs (i * ivs)) _ _))

    pub entries-room : length (senc_entries t w (n - i) i j)
        ≡ length (iv_bytes w v (i * v)) + length (when (has 11 w) (be 2 c ++ subsamples w c j)) + length (senc_entries t w (n - (i + 1)) (i + 1) (j + c))
    entries-room = ap length entries_next ∙ simp length-append

  pub entries-end : (n i j : ℕ) → n ≤ i → senc_entries t w (n - i) i j ≡ []
  unfolding senc_entries
  entries-end n i j h = let e : n - i ≡ 0 = omega arith in rw e

  module _ (n : ℕ) (long : length w ≡ set_len) (few : n ≤ samples_most) where
    pub entries-length : (k i j : ℕ) → i + k ≡ n → length (senc_entries t w k i j) ≡ k * entry_head + 6 * pairs_left w n i
    unfolding senc_entries
    entries-length zero i j e = omega (arith, zero-mul entry_head, pairs_end w n i (omega arith))
    entries-length (suc k) i j e =
        let c : ℕ = flag_when (has 11 w) (value_at 11 i w) in
        let rest : length (senc_entries t w k (suc i) (j + c)) ≡ k * entry_head + 6 * pairs_left w n (suc i) = entries-length k (suc i) (j + c) (omega arith) in
        let map : length (when (has 11 w) (be 2 (value_at 11 i w) ++ subsamples w (value_at 11 i w) j)) ≡ flag_when (has 11 w) 2 + 6 * c = map-length (has 11 w) w (value_at 11 i w) j in
        let iv : length (when (has 9 w) (iv_bytes w (t.iv_size / 8) (i * (t.iv_size / 8)))) ≡ 8 * ivs =
        ap length (iv-of (has 9 w) (t.iv_size / 8) i) ∙ iv-length w ivs (i * ivs) in
        simp length-append (omega (arith, rest, map, iv, suc-mul k entry_head, pairs_next w n i long few (omega arith)))

-- ---- the box

-- the heads of all entries
pub heads-small : {n h : ℕ} → n ≤ samples_most → h ≤ 18 → n * h ≤ 18 * samples_most
heads-small p q = mul-le-mul p q

module _ (t : Track) (w : List ℕ) where
  pub senc-parts : length (senc_box t w) ≡ 16 + length (senc_entries t w (count_in w) 0 0)
  unfolding senc_box
  senc-parts =
      length-full_box B.senc 0 (flag_when (has 11 w) 2) (be 4 (count_in w) ++ senc_entries t w (count_in w) 0 0)
      ∙ simp (length-append, length-be) (omega arith)

  module _ (long : length w ≡ set_len) (few : count_in w ≤ samples_most) where
    pub senc-length : length (senc_box t w) ≡ 16 + (count_in w * entry_head t w + 6 * sum (values_of 11 (count_in w) w))
    senc-length = senc-parts ∙ ap (λ (k : ℕ). 16 + k) (entries-length t w (count_in w) long few (count_in w) 0 0 (omega arith) ∙ rw pairs-all)

  -- the four words before the entries
  pub senc-words : {size flags : ℕ} → size ≡ length (senc_box t w) → flags ≡ flag_when (has 11 w) 2
      → words (size ∷ B.senc ∷ flags ∷ count_in w ∷ []) ++ senc_entries t w (count_in w) 0 0 ≡ senc_box t w
  unfolding senc_box
  senc-words {size} {flags} e f =
      let n : ℕ = count_in w in
      let entries : List ℕ = senc_entries t w n 0 0 in
      full_box-head B.senc 0 (flag_when (has 11 w) 2) size flags (n ∷ []) entries {body = be 4 n ++ entries}
      (ap (λ (x : List ℕ). x ++ entries) (words-one n))
      (omega arith)
      (e ∙ length-full_box B.senc 0 (flag_when (has 11 w) 2) (be 4 n ++ entries))
