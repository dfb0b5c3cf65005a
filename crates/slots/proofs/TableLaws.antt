-- What each return of a public call shows, for any call on a share; and what it leaves in that share. Assumes nothing.
use Rattle.std.specs.Prelude.{Result, Ok, Err}
use Prim.Native.Nat.{ℕ, ◌+◌, ◌-◌, ◌*◌, ◌<◌, ◌≤◌}
use native.Mathlib.Nat.{add-sub_cancel_left}
use native.Mathlib.Omega.{arith}
use mathlib.Core.Path.{◌≡◌, sym, ◌∙◌, ap}
use mathlib.Core.List.{List, ◌++◌}
use borrow.Author.Tests.{eq-eqb, eqb-true, ne_eqb, le-leb, leb-true, lt-leb}
use lib.ListN.{length, take, drop, replicate, length-drop, take-append-drop}
use lib.Seq.{length-take-le, take_at, drop_at}
use Rattle.laws.proofs.LadderLaws.{broken, passed, top, ladder-seen, climbs}
use Rattle.slots.proofs.AnswerLaws.{by_answer, answered_ok}
use Rattle.laws.proofs.ListLaws.{drop-replicate, take-replicate}
use Rattle.share_words.specs.Share.{share_len, fresh, slot_count, table_len}
use Rattle.slots.specs.Table.{Out, out, share_at, put_share, table_rungs, place_in, on_table}
use Rattle.slots.specs.Laws.{after, Keeps}

module _ {X : Type 0} (refuse : ℕ → X) (f : List ℕ → Out X) (t : List ℕ) (slot : ℕ) where
  pub wrong-length : (length t ≡ table_len → ⊥) → out (refuse 18) t ≡ on_table refuse f t slot
  unfolding on_table
  wrong-length h = broken _ 18 _ _ _ (ne_eqb _ _ h)

  pub wrong-slot : length t ≡ table_len → 7 < slot → out (refuse 1) t ≡ on_table refuse f t slot
  unfolding on_table
  wrong-slot e h = passed _ 18 _ _ _ (eq-eqb _ _ e) (broken _ 1 _ _ _ (lt-leb _ _ h))

  -- a slot of a table, with its share as it is at that moment
  pub right-slot : length t ≡ table_len → slot ≤ 7 → out (f (share_at t slot)).answer (put_share t slot (f (share_at t slot)).words) ≡ on_table refuse f t slot
  unfolding on_table
  right-slot e h = passed _ 18 _ _ _ (eq-eqb _ _ e) (passed _ 1 _ _ _ (le-leb slot 7 h) (top _ _))

  -- the share was lent as the part from the slot's start on; the callee answered x and left the words s there
  pub on-share : (at : ℕ) → at ≡ slot * share_len → (x : X) (s : List ℕ) → length t ≡ table_len → slot ≤ 7
      → out x s ≡ f (take (at + share_len - at) (drop at t))
      → out x (take at t ++ (s ++ drop (at + share_len - at) (drop at t))) ≡ on_table refuse f t slot
  on-share at start x s e h q =
      let k : at + share_len - at ≡ share_len = add-sub_cancel_left at share_len in
      rw (k, start) (ap (λ (o : Out X). out o.answer (put_share t slot o.words)) (rw (k, start) at q) ∙ right-slot e h)

  -- no share was lent: the number that was given instead is the answer
  pub no-place : {k : ℕ} → Err k ≡ place_in t slot → out (refuse k) t ≡ on_table refuse f t slot
  unfolding on_table place_in
  no-place {k} e = by_answer (table_rungs t slot) (slot * share_len) (λ n. out (refuse n) t) _ (Err k) e

  -- the share was lent; the callee answered x and left the words s there
  pub on-place : {at : ℕ} → Ok at ≡ place_in t slot → (x : X) (s : List ℕ) → out x s ≡ f (take (at + share_len - at) (drop at t))
      → out x (take at t ++ (s ++ drop (at + share_len - at) (drop at t))) ≡ on_table refuse f t slot
  unfolding place_in
  on-place {at} e x s q =
      let h = answered_ok (table_rungs t slot) (slot * share_len) at e in
      on-share at h.1 x s (eqb-true _ _ h.0.0) (leb-true slot 7 h.0.1.0) q

  -- what holds of a table of another length, of another slot, and of the call on the share, holds of the call on the table
  pub by_cases : (P : Out X → Type 0) → P (out (refuse 18) t) → P (out (refuse 1) t)
      → (length t ≡ table_len → slot < slot_count → P (out (f (share_at t slot)).answer (put_share t slot (f (share_at t slot)).words)))
      → P (on_table refuse f t slot)
  unfolding on_table
  by_cases P a b c =
      climbs P (λ k. out (refuse k) t) (table_rungs t slot) _ (a, (b, tt)) (λ h. c (eqb-true _ _ h.0) (omega (arith, leb-true slot 7 h.1.0)))

-- ---- where a share starts

module _ (t : List ℕ) (slot : ℕ) where
  pub place-wrong : (length t ≡ table_len → ⊥) → Err 18 ≡ place_in t slot
  unfolding place_in
  place-wrong h = broken _ 18 _ _ _ (ne_eqb _ _ h)

  module _ (e : length t ≡ table_len) where
    pub place_over : 7 < slot → Err 1 ≡ place_in t slot
    unfolding place_in
    place_over h = passed _ 18 _ _ _ (eq-eqb _ _ e) (broken _ 1 _ _ _ (lt-leb _ _ h))

    pub place-right : slot ≤ 7 → {at : ℕ} → at ≡ slot * share_len → Ok at ≡ place_in t slot
    unfolding place_in
    place-right h i = passed _ 18 _ _ _ (eq-eqb _ _ e) (passed _ 1 _ _ _ (le-leb slot 7 h) (ap (λ (n : ℕ). Ok n) i ∙ top _ _))

-- ---- a share in its place

-- the share's own words put back
pub share_back : (t : List ℕ) (i : ℕ) → put_share t i (share_at t i) ≡ t
share_back t i = go share_len (i * share_len)
  where
    go : (n at : ℕ) → take at t ++ (take n (drop at t) ++ drop n (drop at t)) ≡ t
    go n at = simp take-append-drop

module _ (t : List ℕ) (i : ℕ) (l : length t ≡ table_len) (h : i < slot_count) where
  pub share-long : length (share_at t i) ≡ share_len
  share-long = length-take-le share_len (drop (i * share_len) t) (simp length-drop (omega arith))

  -- words in the place of a share
  pub share-put : (s : List ℕ) → length s ≡ share_len → share_at (put_share t i s) i ≡ s
  share-put s e =
      let at : ℕ = i * share_len in
      let before : length (take at t) ≡ at = length-take-le at t (omega arith) in
      ap (take share_len) (drop_at (take at t) (s ++ drop share_len (drop at t)) at before) ∙ take_at s (drop share_len (drop at t)) share_len e

-- what a call leaves in the share that it names
pub left_there : {X : Type 0} (refuse : ℕ → X) (f : List ℕ → Out X) → Keeps f → (t : List ℕ) (i : ℕ) → length t ≡ table_len → i < slot_count
    → share_at (after refuse f i t) i ≡ (f (share_at t i)).words
left_there {X} refuse f k t i l h =
    ap (λ (o : Out X). share_at o.words i) (sym (right-slot refuse f t i l (omega arith)))
    ∙ share-put t i l h (f (share_at t i)).words (k.keeps (share_at t i) (share-long t i l h))

-- what is seen of a call's answer on the table is the call whose answer is seen so
pub table-seen : {X Y : Type 0} (h : X → Y) (refuse : ℕ → X) (f : List ℕ → Out X) (t : List ℕ) (slot : ℕ)
    → on_table (λ k. h (refuse k)) (λ s. out (h (f s).answer) (f s).words) t slot
    ≡ out (h (on_table refuse f t slot).answer) (on_table refuse f t slot).words
unfolding on_table
table-seen {X} h refuse f t slot =
    sym
    (ladder-seen (λ (a : Out X). out (h a.answer) a.words) (table_rungs t slot) (λ k. out (refuse k) t)
    (out (f (share_at t slot)).answer (put_share t slot (f (share_at t slot)).words)))

-- a share of the table of zeros
pub zero-share : (i : ℕ) → i < slot_count → share_at (replicate table_len 0) i ≡ fresh
zero-share i h = ap (take share_len) (drop-replicate (i * share_len) table_len 0) ∙ take-replicate share_len (table_len - i * share_len) 0 (omega arith)
