-- What is known of the share that an object is received on. Assumes nothing.
use Prim.Native.Nat.{ℕ, ◌+◌, ◌-◌, ◌≤◌, ◌<◌}
use native.Mathlib.Omega.{arith}
use mathlib.Core.Path.{◌≡◌, refl, sym, ◌∙◌, ap}
use mathlib.Core.Bool.{Bool, true, false, cond, not, ◌&&◌, ◌||◌}
use mathlib.Core.List.{List}
use borrow.Author.Tests.{leb-true, not-true}
use lib.Dec.{eqb, leb}
use lib.ListN.{length, get_or, take, drop}
use lib.Seq.{slice, get_or-drop, get_or-take}
use Rattle.laws.specs.Tests.{all_zero}
use Rattle.laws.proofs.TestLaws.{and_left, and_right, zeros-are}
use Rattle.wire.specs.declared.form.Row.{Row}
use Rattle.track.proofs.TrackLaws.{ranges, lawful-iv}
use Rattle.field_set.specs.Lawful.{lawful as lawful_set}
use Rattle.slots.specs.declared.lawful.Side.TheVariants.{Receiver}
use Rattle.share_words.specs.Share.{share_len, held_at, prft_at, ntp_at, version_at, prft_flags_at, media_time_at, prft_end, set_at}
use Rattle.slots.specs.Share.{u24, u62, asked_of, track_of, prft_ok, reference_ok, is_open, lawful}
use Rattle.locmaf_read_index.proofs.AnswerLaws.{blank-zeros}
use Rattle.track.specs.Track.{u32, iv_ok}
use Rattle.reference.proofs.OpenLaws.{Opened, opened-facts, held-facts}
use Rattle.receiver.specs.Object.{is_delta}
use Rattle.receiver.specs.Receive.{held_ok}

-- a reference is held where a delta is not refused for it
pub delta-held : (F : List Row) (o s : List ℕ) → held_ok F o s ≡ true → is_delta F o ≡ true → eqb (get_or s held_at 0) 0 ≡ false
unfolding held_ok
delta-held F o s h d = let n : not (eqb (get_or s held_at 0) 0) ≡ true = rw d at h in not-true _ n

-- a word of zeros
zero-at : (xs : List ℕ) (i : ℕ) → all_zero xs ≡ true → get_or xs i 0 ≡ 0
zero-at xs i e = ap (λ (l : List ℕ). get_or l i 0) (zeros-are xs e) ∙ blank-zeros (length xs) i

module _ (s : List ℕ) (l : length s ≡ share_len) where
  -- where the words from the `prft` on are zeros
  zero-behind : (i : ℕ) → all_zero (drop prft_at s) ≡ true → get_or s (prft_at + i) 0 ≡ 0
  zero-behind i e = sym (get_or-drop prft_at s i 0) ∙ zero-at (drop prft_at s) i e

  -- a word of the `prft`, where there is none
  zero-prft : (i : ℕ) → ntp_at + i < prft_end → all_zero (slice ntp_at prft_end s) ≡ true → get_or s (ntp_at + i) 0 ≡ 0
  zero-prft i h e =
      sym (get_or-drop ntp_at (take prft_end s) i 0 ∙ get_or-take prft_end s (ntp_at + i) 0 (omega arith)) ∙ zero-at (slice ntp_at prft_end s) i e

  module _ (h : lawful Receiver s ≡ true) (o : is_open s ≡ true) where
    facts : Opened Receiver s
    facts = opened-facts Receiver s h o

    -- the size of IVs
    pub iv-most : (track_of s).iv_size ≤ 16
    iv-most = (ranges (asked_of s) facts.track).iv-size

    -- which is one that the protection has
    pub iv-right : iv_ok (track_of s).protection (track_of s).iv_size ≡ true
    iv-right = lawful-iv (asked_of s) facts.track

    -- no reference is held, and then its words are zeros
    pub none-held : eqb (get_or s held_at 0) 0 ≡ true → all_zero (drop prft_at s) ≡ true
    unfolding reference_ok
    none-held e = rw e at facts.reference

    -- or one that is lawful, with its `prft`
    pub one-held : eqb (get_or s held_at 0) 0 ≡ false → (prft_ok s ≡ true) × (lawful_set (track_of s) (drop set_at s) ≡ true)
    one-held e = held-facts (track_of s) s facts.reference e

    -- a delta is read against a lawful set
    pub delta-lawful : (F : List Row) (ob : List ℕ) → held_ok F ob s ≡ true → is_delta F ob ≡ true → lawful_set (track_of s) (drop set_at s) ≡ true
    delta-lawful F ob k d = (one-held (delta-held F ob s k d)).1

    -- the version and the flags that are kept fit their box
    pub kept_small : (get_or s version_at 0 ≤ 1) × (get_or s prft_flags_at 0 ≤ 0xffffff)
    unfolding prft_ok
    kept_small = go (eqb (get_or s held_at 0) 0) refl
      where
        none : get_or s version_at 0 ≡ 0 → get_or s prft_flags_at 0 ≡ 0 → (get_or s version_at 0 ≤ 1) × (get_or s prft_flags_at 0 ≤ 0xffffff)
        none v f = (omega arith, omega arith)

        two : (b : Bool)
            → cond b (all_zero (slice ntp_at prft_end s))
            (eqb (get_or s prft_at 0) 1
            && (leb (get_or s version_at 0) 1
            && ((eqb (get_or s version_at 0) 1 || leb (get_or s media_time_at 0) u32)
            && (leb (get_or s prft_flags_at 0) u24
            && (leb (get_or s ntp_at 0) u62
            && leb (get_or s media_time_at 0) u62)))))
            ≡ true
            → (get_or s version_at 0 ≤ 1) × (get_or s prft_flags_at 0 ≤ 0xffffff)
        two true e = none (zero-prft (version_at - ntp_at) (omega arith) e) (zero-prft (prft_flags_at - ntp_at) (omega arith) e)
        two false e =
            let a = and_right (eqb (get_or s prft_at 0) 1) _ e in
            let b = and_right (leb (get_or s version_at 0) 1) _ a in
            let d = and_right (eqb (get_or s version_at 0) 1 || leb (get_or s media_time_at 0) u32) _ b in
            (leb-true _ _ (and_left (leb (get_or s version_at 0) 1) _ a), leb-true _ _ (and_left (leb (get_or s prft_flags_at 0) u24) _ d))

        go : (b : Bool) → eqb (get_or s held_at 0) 0 ≡ b → (get_or s version_at 0 ≤ 1) × (get_or s prft_flags_at 0 ≤ 0xffffff)
        go true q = none (zero-behind (version_at - prft_at) (none-held q)) (zero-behind (prft_flags_at - prft_at) (none-held q))
        go false q = two (eqb (get_or s prft_at 0) 0) (one-held q).0
