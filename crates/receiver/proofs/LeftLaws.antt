-- IVs that an object leaves out: that it does so, by its index and by the rules, and what the new set has then. Assumes nothing.
use Prim.Native.Nat.{ℕ, ◌+◌, ◌-◌, ◌*◌, ◌≤◌}
use native.Mathlib.Omega.{arith}
use mathlib.Core.Path.{◌≡◌, refl, ◌∙◌, ap}
use mathlib.Core.Bool.{Bool, true, false, cond, not, ◌&&◌, ◌||◌}
use mathlib.Core.List.{List}
use Rattle.std.specs.Prelude.{Some, None}
use lib.Dec.{eqb}
use lib.ListN.{length, get_or}
use lib.Seq.{slice, sets, length-sets}
use Rattle.laws.specs.Options.{is_some}
use Rattle.laws.proofs.TestLaws.{and_right}
use Rattle.wire.specs.declared.form.Row.{Row}
use Rattle.track.specs.declared.Track.{Track}
use Rattle.field_table.specs.Lines.{set_len, ivs_at, subsamples_at}
use Rattle.field_set.specs.Lawful.{has, count_in, lawful as lawful_set}
use Rattle.field_set.proofs.LawfulLaws.{lawful-facts}
use Rattle.effective.specs.Sums.{sizes_ok, protected_ok}
use Rattle.iv_counter.specs.Counter.{all_words}
use Rattle.counters.specs.Follow.{iv_words, derived, derived_fit, with_derived}
use Rattle.counters.proofs.BesideLaws.{beside-length, beside-sizes, beside-protected}
use Rattle.counters.proofs.IvsLaws.{ivs-in}
use Rattle.counters.proofs.BackLaws.{all-words-length, derived-length}
use Rattle.counters.proofs.RoomLaws.{derived-lawful}
use Rattle.share_words.specs.Share.{last_at}
use Rattle.locmaf_read_index.specs.Places.{stands_at, number_at}
use Rattle.locmaf_read_block.specs.Entries.{body}
use Rattle.locmaf_read_said.specs.Said.{Says, says_in}
use Rattle.locmaf_read_head.specs.declared.head.Place.{Place}
use Rattle.receiver.specs.Object.{is_delta, saying, payload}
use Rattle.receiver.specs.Receive.{track, reference, told_set, left_out, ivs_fit, new_set}
use Rattle.receiver.specs.Judge.{Judgeable, Split, left_in, IvsAs}

-- ---- a set with IVs in their room

-- what a set y has as the lawful set x has it, on the track t and with so many bytes of payload
pub record Like (t : Track) (x y : List ℕ) (payload : ℕ) : Type 0 where
  pub long : length y ≡ set_len
  pub good : lawful_set t y ≡ true
  pub sizes : sizes_ok t y payload ≡ sizes_ok t x payload
  pub sums : protected_ok t y payload ≡ protected_ok t x payload

module _ (t : Track) (last : ℕ) (r x : List ℕ) (payload : ℕ) (long : length x ≡ set_len) (good : lawful_set t x ≡ true) where
  -- the words of the IVs that follow
  abbrev words : List ℕ
  words = all_words (iv_words t) (derived t last r x payload)

  -- they have room where IVs stand
  words-room : has 9 x ≡ true → ivs_at + 1 + length words ≤ subsamples_at
  words-room on =
      let much : length words ≡ count_in x * iv_words t
      = all-words-length (iv_words t) (derived t last r x payload) ∙ ap (λ (n : ℕ). n * iv_words t) (derived-length t last r x payload) in
      omega (arith, much, (ivs-in t x good on).room)

  -- and the set has all as it was but for them
  with-like : has 9 x ≡ true → Like t x (with_derived t last r x payload) payload
  unfolding with_derived
  with-like on =
      record {
        long = beside-length x words (words-room on) ∙ long;
        good = derived-lawful t last r x payload long good on;
        sizes = beside-sizes x words (words-room on) (lawful-facts t x good).count t payload;
        sums = beside-protected x words (words-room on) (lawful-facts t x good).count t payload;
      }

  -- whether they are put there or not
  either-like : (b : Bool) → (b ≡ true → has 9 x ≡ true) → Like t x (cond b (with_derived t last r x payload) x) payload
  either-like true h = with-like (h refl)
  either-like false h = record { long = long; good = good; sizes = refl; sums = refl }

-- ---- what is left out

module _ (F : List Row) (o s : List ℕ) where
  -- IVs stand that are left out
  left-stand : left_out F o s ≡ true → has 9 (told_set F o s) ≡ true
  unfolding left_out
  left-stand e = and_right (has 9 (reference F o s)) _ (and_right (not (is_some (saying F o 9))) _ (and_right (is_delta F o) _ e))

  -- the new set has as many words as the object tells
  pub new-long : length (new_set F o s) ≡ length (told_set F o s)
  unfolding new_set with_derived
  new-long = go (left_out F o s)
    where
      ivs : List ℕ
      ivs = all_words (iv_words (track F o s)) (derived (track F o s) (get_or s last_at 0) (reference F o s) (told_set F o s) (length (payload F o)))

      go : (b : Bool) → length (cond b (sets (told_set F o s) (ivs_at + 1) ivs) (told_set F o s)) ≡ length (told_set F o s)
      go true = length-sets (told_set F o s) (ivs_at + 1) ivs
      go false = refl

  -- and all as it tells it, but for them
  pub new-like : length (told_set F o s) ≡ set_len → lawful_set (track F o s) (told_set F o s) ≡ true
      → Like (track F o s) (told_set F o s) (new_set F o s) (length (payload F o))
  unfolding new_set
  new-like long good =
      either-like (track F o s) (get_or s last_at 0) (reference F o s) (told_set F o s) (length (payload F o)) long good (left_out F o s) left-stand

  -- a full object leaves none out
  none_left : is_delta F o ≡ false → left_out F o s ≡ false
  unfolding left_out
  none_left d = rw d

  -- so that none can pass its size
  pub full-fits : is_delta F o ≡ false → ivs_fit F o s ≡ true
  unfolding ivs_fit
  full-fits d = rw (none_left d)

  -- and its set is as it tells it
  pub full-set : is_delta F o ≡ false → new_set F o s ≡ told_set F o s
  unfolding new_set
  full-set d = rw (none_left d)

-- ---- by the index

-- nothing is said of id 9 just where it doesn't stand
unsaid : (F : List Row) (o index : List ℕ) → eqb (get_or index (stands_at 9) 0) 0 ≡ not (is_some (says_in F o index 9))
unfolding says_in body
unsaid F o index = go (eqb (get_or index (stands_at 9) 0) 0)
  where
    bytes : List ℕ
    bytes = slice (get_or index (stands_at 9) 0 - 1) (get_or index (stands_at 9) 0 - 1 + get_or index (number_at 9) 0) o

    go : (b : Bool) → b ≡ not (is_some (cond b None (Some bytes)))
    go true = refl
    go false = refl

module _ {F : List Row} {o s : List ℕ} {t : Track} {p : Place} {index ev y : List ℕ} (head : Judgeable F o s t p)
    (split : Split F o index ev) (told : y ≡ told_set F o s) where
  -- the code's test is the rules'
  left_is : left_in p.delta s index y ≡ left_out F o s
  unfolding left_in left_out
  left_is =
      let d : p.delta ≡ is_delta F o = ap (λ (q : Place). q.delta) head.place in
      let n : eqb (get_or index (stands_at 9) 0) 0 ≡ not (is_some (saying F o 9)) = unsaid F o index ∙ ap (λ (f : Says). not (is_some (f 9))) split.says in
      λ j. d j && (n j && (has 9 (reference F o s) && has 9 (told j)))

  module _ {n : ℕ} {z : List ℕ} (h : IvsAs t p.delta s index y (length (payload F o)) n z) where
    -- and so is the number
    pub ivs-number : n ≡ cond (ivs_fit F o s) 0 21
    unfolding ivs_fit
    ivs-number =
        h.answered
        ∙ (λ j. cond (not (left_is j) || derived_fit (head.track j) (get_or s last_at 0) (reference F o s) (told j) (length (payload F o))) 0 21)

    -- and the words
    pub ivs-words : n ≡ 0 → z ≡ new_set F o s
    unfolding new_set
    ivs-words e =
        h.stored e
        ∙ (λ j. cond (left_is j) (with_derived (head.track j) (get_or s last_at 0) (reference F o s) (told j) (length (payload F o))) (told j))
