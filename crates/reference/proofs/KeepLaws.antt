-- The words that an accepted object leaves in a share, stored one after another. Assumes nothing.
use Prim.Native.Nat.{ℕ, ◌+◌, ◌-◌, ◌≤◌, ◌<◌}
use native.Mathlib.Nat.{add-zero}
use native.Mathlib.Omega.{arith}
use mathlib.Core.Path.{◌≡◌, refl, sym, ◌∙◌, ap}
use mathlib.Core.Bool.{Bool, true, false, false≢true, cond, not, ◌||◌}
use mathlib.Core.List.{List, [], ◌∷◌, ◌++◌, append_assoc, append-nil}
use borrow.Author.Tests.{eqb-true, not-true, not-false}
use lib.Dec.{eqb}
use lib.ListN.{length, get_or, take, drop, replicate, length-append, length-drop, drop_of_length-le, take-append-drop}
use lib.Seq.{slice, sets, sets-eq, take_at, length-sets, length-take-le, length-slice, take_all, take-take, take-append-add, drop-append-add, drop-drop, get_or-drop, paste, paste-zero, take-paste, drop-paste, length-paste}
use Rattle.laws.specs.Tests.{all_zero}
use Rattle.laws.proofs.SliceLaws.{slice-lent, slice-join, slice-to-end, slice-drop}
use Rattle.laws.proofs.TestLaws.{zeros-are}
use Rattle.prft_value.specs.declared.Prft.{Prft}
use Rattle.effective.specs.declared.expected.Expected.{Expected}
use Rattle.effective.specs.Expected.{next_time, expected_by}
use Rattle.counters.specs.Protected.{last_protected}
use Rattle.field_table.specs.Lines.{lines, bmdt_at, sizes_at, set_len, line_count, place_of}
use Rattle.field_set.specs.Lawful.{Tidy}
use Rattle.field_set.proofs.TidyLaws.{place_inside}
use Rattle.share_words.specs.Share.{accepted_at, prft_at, prft_end, past_at, set_at, share_len}
use Rattle.slots.specs.Share.{track_of}
use Rattle.reference.specs.Kept.{prft_words, beside_words, stored_words, renewed}

-- ---- the loop of `copy_set`: of the set, what stands before a place is the new one's, and the rest the old one's

-- what is pasted, some more of it, and what was there behind that
joined : (d : List ℕ) (at : ℕ) (s : List ℕ) (n m : ℕ) → n ≤ m → m ≤ length s
    → ((take at d ++ take n s) ++ slice n m s) ++ drop (at + m) d ≡ paste d at s m
joined d at s n m h k =
    let e : take n s ++ slice n m s ≡ take m s =
    ap (λ (z : List ℕ). z ++ slice n m s) (sym (take-take n m s h)) ∙ take-append-drop n (take m s) in
    ap (λ (z : List ℕ). z ++ drop (at + m) d) (append_assoc (take at d) (take n s) (slice n m s) ∙ ap (λ (z : List ℕ). take at d ++ z) e)

module _ (d : List ℕ) (at : ℕ) (s : List ℕ) (n m : ℕ) (h : n ≤ m) (k : m ≤ length s) (r : at + m ≤ length d) where
  -- more is stored
  paste_more : sets (paste d at s n) (at + n) (slice n m s) ≡ paste d at s m
  paste_more =
      let v : List ℕ = slice n m s in
      let l : length v ≡ m - n = length-slice n m s k in
      let a : at + n + length v ≡ at + m = omega arith in
      let b : drop (at + n + length v) (paste d at s n) ≡ drop (at + m) d =
      sym (drop-drop (length v) (at + n) (paste d at s n))
      ∙ ap (drop (length v)) (drop-paste d at s n (omega arith) (omega arith))
      ∙ drop-drop (length v) (at + n) d
      ∙ ap (λ (z : ℕ). drop z d) a in
      sets-eq v (paste d at s n) (at + n) (omega (arith, length-paste d at s n (omega arith) (omega arith)))
      ∙ ap (λ (z : List ℕ). z ++ v ++ drop (at + n + length v) (paste d at s n)) (take-paste d at s n (omega arith) (omega arith))
      ∙ ap (λ (z : List ℕ). (take at d ++ take n s ++ v) ++ z) b
      ∙ joined d at s n m h k

  -- or stands there already
  paste-same : slice (at + n) (at + m) d ≡ slice n m s → paste d at s n ≡ paste d at s m
  paste-same e =
      let f : drop (at + n) d ≡ slice n m s ++ drop (at + m) d =
      sym (slice-to-end (at + n) (length d) d refl)
      ∙ slice-join (at + n) (at + m) (length d) d (omega arith) r (omega arith)
      ∙ (λ i. e i ++ slice-to-end (at + m) (length d) d refl i) in
      ap (λ (z : List ℕ). (take at d ++ take n s) ++ z) f
      ∙ sym (append_assoc (take at d ++ take n s) (slice n m s) (drop (at + m) d))
      ∙ joined d at s n m h k

-- what stands before the words that are stored
front_kept : (s vs : List ℕ) (i : ℕ) → i + length vs ≤ length s → take i (sets s i vs) ≡ take i s
front_kept s vs i h =
    let l : length (take i s) ≡ i = length-take-le i s (omega arith) in
    ap (take i) (sets-eq vs s i h ∙ append_assoc (take i s) vs (drop (i + length vs) s)) ∙ take_at (take i s) (vs ++ drop (i + length vs) s) i l

-- two parts of zeros that are as long
zeros-same : (a b : List ℕ) → all_zero a ≡ true → all_zero b ≡ true → length a ≡ length b → a ≡ b
zeros-same a b p q e = zeros-are a p ∙ ap (λ (n : ℕ). replicate n 0) e ∙ sym (zeros-are b q)

-- neither of two words is set
pub unmarked-both : (a b : ℕ) → (not (eqb a 0) || not (eqb b 0)) ≡ false → (a ≡ 0) × (b ≡ 0)
unmarked-both a b e = (eqb-true a 0 (or-first (eqb a 0) (eqb b 0) e), eqb-true b 0 (or-second (eqb a 0) (eqb b 0) e))
  where
    or-first : (p q : Bool) → (not p || not q) ≡ false → p ≡ true
    or-first true q h = refl
    or-first false q h = absurd (false≢true (sym h))

    or-second : (p q : Bool) → (not p || not q) ≡ false → q ≡ true
    or-second true true h = refl
    or-second true false h = absurd (false≢true (sym h))
    or-second false q h = absurd (false≢true (sym h))

-- what the words are like before
pub record Copyable (x s₀ : List ℕ) : Type 0 where
  pub share : length s₀ ≡ share_len
  pub long : length x ≡ set_len
  pub old : Tidy (drop set_at s₀)
  pub new : Tidy x

-- the fields of the first i lines are copied
pub record Moving (x s₀ s : List ℕ) (from i : ℕ) : Type 0 where
  pub before : Copyable x s₀
  pub high : i ≤ line_count
  pub place : from ≡ place_of i
  pub inside : from ≤ set_len
  pub words : s ≡ paste s₀ set_at x from
  pub same : length s ≡ length s₀

module _ (x s₀ : List ℕ) (b : Copyable x s₀) where
  moving : (i from : ℕ) (s : List ℕ) → i ≤ line_count → from ≡ place_of i → from ≤ set_len → s ≡ paste s₀ set_at x from → Moving x s₀ s from i
  moving i from s h p k e =
      record {
        before = b;
        high = h;
        place = p;
        inside = k;
        words = e;
        same = ap length e ∙ length-paste s₀ set_at x from (omega (arith, b.share)) (omega (arith, b.long));
      }

-- the same of a loop that began on words of which BMDT and the sample count were copied
pub record Turning (x s₁ s : List ℕ) (from i : ℕ) : Type 0 where
  pub base : List ℕ
  pub front : take set_at base ≡ take set_at s₁
  pub moves : Moving x base s from i

module _ (x s₀ : List ℕ) (b : Copyable x s₀) (s₁ : List ℕ) (e : s₁ ≡ sets s₀ set_at (slice bmdt_at sizes_at x)) where
  -- the words before the set stay
  pub begun : take set_at s₁ ≡ take set_at s₀
  begun =
      ap (take set_at) e
      ∙ front_kept s₀ (slice bmdt_at sizes_at x) set_at (omega (arith, length-slice bmdt_at sizes_at x (omega (arith, b.long)), b.share))

  pub start : Turning x s₁ s₁ sizes_at 0
  unfolding place_of lines
  start =
      record {
        base = s₀;
        front = sym begun;
        moves =
            moving x s₀ b 0 sizes_at s₁ (omega arith) refl (omega arith)
            (e
            ∙ ap (λ (z : List ℕ). sets z set_at (slice bmdt_at sizes_at x)) (paste-zero s₀ set_at x)
            ∙ paste_more s₀ set_at x bmdt_at sizes_at (omega arith) (omega (arith, b.long)) (omega (arith, b.share)));
      }

module _ (x s₀ s : List ℕ) (from i : ℕ) (h : Moving x s₀ s from i) where
  b : Copyable x s₀
  b = h.before

  -- no line is left
  pub end : line_count ≤ i → s ≡ take set_at s₀ ++ x
  unfolding place_of lines
  end k =
      let e : i ≡ line_count = omega (arith, h.high) in
      let f : from ≡ set_len = h.place ∙ ap place_of e in
      let t : take set_len x ≡ x = take_all set_len x (omega (arith, b.long)) in
      let n : length s₀ ≤ set_at + set_len = omega (arith, b.share) in
      let r : drop (set_at + set_len) s₀ ≡ [] = drop_of_length-le s₀ n in
      h.words
      ∙ ap (paste s₀ set_at x) f
      ∙ (λ j. take set_at s₀ ++ t j ++ r j)
      ∙ append-nil (take set_at s₀ ++ x)

  module _ (lt : i < line_count) (to : ℕ) (p : to ≡ place_of (i + 1)) where
    pub further : (from < to) × (to ≤ set_len)
    further = (omega (arith, p, h.place, (place_inside i lt).0), omega (arith, p, (place_inside i lt).1))

    -- the next line's field is copied
    pub copied : (s' : List ℕ) → s' ≡ sets s (set_at + from) (slice from (from + (to - from)) x) → Moving x s₀ s' to (i + 1)
    copied s' e =
        let n : from + (to - from) ≡ to = omega (arith, further.0) in
        moving x s₀ b (i + 1) to s' (omega arith) p further.1
        (e
        ∙ (λ j. sets (h.words j) (set_at + from) (slice from (n j) x))
        ∙ paste_more s₀ set_at x from to (omega (arith, further.0)) (omega (arith, further.1, b.long)) (omega (arith, further.1, b.share)))

    -- the old word at its place
    here : get_or s (set_at + from) 0 ≡ get_or (drop set_at s₀) from 0
    here =
        ap (λ (z : List ℕ). get_or z (set_at + from) 0) h.words
        ∙ sym (ap (λ (k : ℕ). get_or (paste s₀ set_at x from) k 0) (add-zero (set_at + from)))
        ∙ sym (get_or-drop (set_at + from) (paste s₀ set_at x from) 0 0)
        ∙ ap (λ (z : List ℕ). get_or z 0 0) (drop-paste s₀ set_at x from (omega (arith, b.share)) (omega (arith, h.inside, b.long)))
        ∙ get_or-drop (set_at + from) s₀ 0 0
        ∙ ap (λ (k : ℕ). get_or s₀ k 0) (add-zero (set_at + from))
        ∙ sym (get_or-drop set_at s₀ from 0)

    -- or it stands in neither set
    pub stays : (s' : List ℕ) → s' ≡ s → get_or s (set_at + from) 0 ≡ 0 → get_or x from 0 ≡ 0 → Moving x s₀ s' to (i + 1)
    stays s' q u v =
        let w : length (drop set_at s₀) ≡ set_len = omega (arith, length-drop set_at s₀, b.share) in
        let old : all_zero (slice from to (drop set_at s₀)) ≡ true =
        rw (h.place, p) (b.old.nothing i lt (rw h.place at (sym here ∙ u))) in
        let new : all_zero (slice from to x) ≡ true = rw (h.place, p) (b.new.nothing i lt (rw h.place at v)) in
        let e : slice from to (drop set_at s₀) ≡ slice from to x =
        zeros-same _ _ old new
        (length-slice from to (drop set_at s₀) (omega (arith, further.1)) ∙ sym (length-slice from to x (omega (arith, further.1, b.long)))) in
        moving x s₀ b (i + 1) to s' (omega arith) p further.1
        (q
        ∙ h.words
        ∙ paste-same s₀ set_at x from to (omega (arith, further.0)) (omega (arith, further.1, b.long)) (omega (arith, further.1, b.share))
        (sym (slice-drop set_at from to s₀ (omega (arith, b.share))) ∙ e))

-- ---- the reference

-- the first e words after some were stored from the place i up to the place a
stored : (s vs : List ℕ) (i a e : ℕ) → i + length vs ≡ a → a ≤ e → e ≤ length s → take e (sets s i vs) ≡ take i s ++ (vs ++ slice a e s)
stored s vs i a e q h k =
    let w : sets s i vs ≡ (take i s ++ vs) ++ drop a s =
    sets-eq vs s i (omega arith) ∙ ap (λ (z : ℕ). (take i s ++ vs) ++ drop z s) q in
    let l : length (take i s ++ vs) ≡ a = omega (arith, length-append (take i s) vs, length-take-le i s (omega arith)) in
    let n : e ≡ length (take i s ++ vs) + (e - a) = omega arith in
    ap (take e) w
    ∙ ap (λ (z : ℕ). take z ((take i s ++ vs) ++ drop a s)) n
    ∙ take-append-add (take i s ++ vs) (drop a s) (e - a)
    ∙ ap (λ (z : List ℕ). (take i s ++ vs) ++ z) (slice-lent a e s h k)
    ∙ append_assoc (take i s) vs (slice a e s)

-- and those after them
rest-stays : (s vs : List ℕ) (i e : ℕ) → i + length vs ≤ e → e ≤ length s → drop e (sets s i vs) ≡ drop e s
rest-stays s vs i e h k =
    let l : length (take i s ++ vs) ≡ i + length vs = omega (arith, length-append (take i s) vs, length-take-le i s (omega arith)) in
    let n : e ≡ length (take i s ++ vs) + (e - (i + length vs)) = omega arith in
    let q : i + length vs + (e - (i + length vs)) ≡ e = omega arith in
    ap (drop e) (sets-eq vs s i (omega arith))
    ∙ ap (λ (z : ℕ). drop z ((take i s ++ vs) ++ drop (i + length vs) s)) n
    ∙ drop-append-add (take i s ++ vs) (drop (i + length vs) s) (e - (i + length vs))
    ∙ drop-drop (e - (i + length vs)) (i + length vs) s
    ∙ ap (λ (z : ℕ). drop z s) q

-- the words s after the stores: the new words of the share, but for the set, and as many as there were
pub record Kept (delta : Bool) (p : Prft) (q : ℕ) (x s₀ s : List ℕ) : Type 0 where
  pub long : length s ≡ length s₀
  pub rest : drop set_at s ≡ drop set_at s₀
  pub words : take set_at s ++ x ≡ stored_words delta q p x s₀

-- the mark of a `prft`
pub marked : (p : Prft) (m : ℕ) → p.stands ≡ true → m ≡ 1 → m ≡ cond p.stands 1 0
marked p m h e = rw h e

pub unmarked : (p : Prft) (m : ℕ) → p.stands ≡ false → m ≡ 0 → m ≡ cond p.stands 1 0
unmarked p m h e = rw h e

module _ (delta : Bool) (p : Prft) (q : ℕ) (x s₀ : List ℕ) (l : length s₀ ≡ share_len) where
  -- a delta object leaves the `prft`
  delta-words : take set_at (sets s₀ accepted_at (q ∷ 1 ∷ [])) ++ x ≡ stored_words true q p x s₀
  unfolding stored_words
  delta-words =
      ap (λ (z : List ℕ). z ++ x)
      (stored s₀ (q ∷ 1 ∷ []) accepted_at prft_at set_at refl (omega arith) (omega arith)
      ∙ ap (λ (z : List ℕ). take accepted_at s₀ ++ (q ∷ 1 ∷ z)) (slice-join prft_at prft_end set_at s₀ (omega arith) (omega arith) (omega arith)))
      ∙ append_assoc (take accepted_at s₀) (q ∷ 1 ∷ (slice prft_at prft_end s₀ ++ slice past_at set_at s₀)) x
      ∙ ap (λ (z : List ℕ). take accepted_at s₀ ++ (q ∷ 1 ∷ z)) (append_assoc (slice prft_at prft_end s₀) (slice past_at set_at s₀) x)

  -- a full object replaces it
  full-words : take set_at (sets s₀ accepted_at (q ∷ 1 ∷ prft_words p)) ++ x ≡ stored_words false q p x s₀
  unfolding stored_words prft_words
  full-words =
      ap (λ (z : List ℕ). z ++ x) (stored s₀ (q ∷ 1 ∷ prft_words p) accepted_at prft_end set_at refl (omega arith) (omega arith))
      ∙ append_assoc (take accepted_at s₀) (q ∷ 1 ∷ (prft_words p ++ slice past_at set_at s₀)) x

  pub kept-delta : not delta ≡ false → (s : List ℕ) → s ≡ sets s₀ accepted_at (q ∷ 1 ∷ []) → Kept delta p q x s₀ s
  kept-delta d s e =
      record {
        long = ap length e ∙ length-sets s₀ accepted_at (q ∷ 1 ∷ []);
        rest = ap (drop set_at) e ∙ rest-stays s₀ (q ∷ 1 ∷ []) accepted_at set_at (omega arith) (omega arith);
        words =
            ap (λ (z : List ℕ). take set_at z ++ x) e ∙ delta-words ∙ ap (λ (b : Bool). stored_words b q p x s₀) (sym (not-false delta d));
      }

  pub kept_full : not delta ≡ true → (m : ℕ) → m ≡ cond p.stands 1 0 → (s : List ℕ)
      → s ≡ sets s₀ accepted_at (q ∷ 1 ∷ m ∷ p.ntp.0 ∷ p.media.0 ∷ p.version ∷ p.flags ∷ []) → Kept delta p q x s₀ s
  unfolding prft_words
  kept_full d m k s e =
      let f : s ≡ sets s₀ accepted_at (q ∷ 1 ∷ prft_words p) =
      e ∙ ap (λ (z : ℕ). sets s₀ accepted_at (q ∷ 1 ∷ z ∷ p.ntp.0 ∷ p.media.0 ∷ p.version ∷ p.flags ∷ [])) k in
      record {
        long = ap length f ∙ length-sets s₀ accepted_at (q ∷ 1 ∷ prft_words p);
        rest = ap (drop set_at) f ∙ rest-stays s₀ (q ∷ 1 ∷ prft_words p) accepted_at set_at (omega arith) (omega arith);
        words = ap (λ (z : List ℕ). take set_at z ++ x) f ∙ full-words ∙ ap (λ (b : Bool). stored_words b q p x s₀) (sym (not-true delta d));
      }

-- what is kept beside the set is stored in its three words
pub three-stored : (payload : ℕ) (s : List ℕ) (e : Expected) (last : ℕ) → length s ≡ share_len → e ≡ expected_by (next_time (track_of s) (drop set_at s))
    → last ≡ last_protected (track_of s) (drop set_at s) payload → sets s past_at (e.past ∷ e.time ∷ last ∷ []) ≡ renewed payload s
unfolding renewed
three-stored payload s e last l h g =
    sets-eq (e.past ∷ e.time ∷ last ∷ []) s past_at (omega arith)
    ∙ append_assoc (take past_at s) (e.past ∷ e.time ∷ last ∷ []) (drop set_at s)
    ∙ (λ j. take past_at s ++ (beside_words (h j) (g j) ++ drop set_at s))

-- and with the set, still as many
pub copied-long : (x s₀ s : List ℕ) → length s₀ ≡ share_len → length x ≡ set_len → length s ≡ length s₀ → length (take set_at s ++ x) ≡ length s₀
copied-long x s₀ s l k e = omega (arith, length-append (take set_at s) x, length-take-le set_at s (omega arith))
