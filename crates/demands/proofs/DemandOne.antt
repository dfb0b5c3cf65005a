-- Demand 1: what is known of each call on a share, carried over to the table. Assumes nothing.
use Prim.Native.Nat.{ℕ}
use native.Mathlib.Omega.{arith}
use mathlib.Core.Path.{◌≡◌, refl, sym, ◌∙◌, ap, subst}
use mathlib.Core.Bool.{Bool, true, false, false≢true, not}
use mathlib.Core.List.{List, [], ◌∷◌, Memᴰ}
use borrow.Author.Tests.{not-true}
use lib.ListN.{length}
use lib.Seq.{drop-length}
use Rattle.laws.specs.Tests.{◌and◌}
use Rattle.laws.proofs.SliceLaws.{drop-last}
use Rattle.laws.proofs.TestLaws.{left, right}
use Rattle.slots.specs.Share.{lawful}
use Rattle.slots.specs.Table.{Out, out, share_at, put_share}
use Rattle.slots.proofs.TableLaws.{by_cases, share_back}
use Rattle.slots.proofs.Apart.{table-long, others-stay, shares-lawful}
use Rattle.slots.proofs.StaysLawful.{all-fresh, open-refuses, close-refuses, group-refuses}
use Rattle.answers.specs.Refusals.{dropped_by}
use Rattle.answers.specs.Took.{Took, refused, PastStays}
use Rattle.answers.proofs.TookLaws.{refused-past}
use Rattle.encoder.specs.Laws.{Refused as Kept}
use Rattle.encoder.proofs.Theorems.{encode-refuses}
use Rattle.receiver.proofs.Theorems.{receive-refuses}
use Rattle.receiver.specs.Receive.{receiving}
use Rattle.receiver.proofs.AlikeTheorems.{full-forgets}
use Rattle.cmaf_read_facts.specs.Given.{F}
use Rattle.demands.specs.One.{Call, opens, closes, starts, encodes, receives, alone, gives, side_of, lent_to, output_of, order, Drops, Refused, Done, DemandOne}
use Rattle.demands.proofs.OneRules.{exactly}
use Rattle.demands.proofs.OneShares.{on_share, gives-is, keeps, share-lawful, share-does, share-past, Last, share-last}

-- what holds of the refusals 18 and 1, which drop nothing, and of the share's call, holds of the call
carried : (a : Call) (slot : ℕ) (t : List ℕ) (P : Out Took → Type 0)
    → ((k : ℕ) → (k ≡ 0 → ⊥) → (Drops k → ⊥) → P (out (refused (output_of a) k) t))
    → P (out (on_share a (share_at t slot)).answer (put_share t slot (on_share a (share_at t slot)).words)) → P (gives a slot t)
carried a slot t P r q =
    subst P (sym (gives-is a slot t))
    (by_cases (refused (output_of a)) (on_share a) t slot P (r 18 (λ z. omega arith) (λ d. false≢true d))
    (r 1 (λ z. omega arith) (λ d. false≢true d)) (λ l h. q))

-- ---- refusals

-- a number that isn't one of those that drop the reference
outside : (k : ℕ) → (Drops k → ⊥) → dropped_by k ≡ false
outside k n = go (dropped_by k) refl
  where
    go : (b : Bool) → dropped_by k ≡ b → b ≡ false
    go true e = absurd (n e)
    go false e = refl

-- none of these numbers is one of them
unfoldable spared : List ℕ → Bool
spared [] = true
spared (n ∷ ns) = not (dropped_by n) and spared ns

none-drops : (k : ℕ) (ns : List ℕ) → spared ns ≡ true → Memᴰ k ns → Drops k → ⊥
unfolding spared
none-drops k [] e m d = elim m [ ]
none-drops k (n ∷ ns) e (Memᴰ.head q) d =
    false≢true (sym (not-true _ (left _ _ e)) ∙ ap dropped_by (sym q) ∙ d)
none-drops k (n ∷ ns) e (Memᴰ.tail m) d = none-drops k ns (right _ _ e) m d

-- a call that keeps the share that it refuses, and answers none of them
stays : (a : Call) → spared (0 ∷ order a) ≡ true → ((s : List ℕ) → ((on_share a s).answer.number ≡ 0 → ⊥) → Kept (output_of a) s (on_share a s))
    → (slot : ℕ) (t : List ℕ) → ((gives a slot t).answer.number ≡ 0 → ⊥) → Refused (output_of a) slot t (gives a slot t)
stays a e r slot t n =
    let q : Kept (output_of a) t (gives a slot t) =
    carried a slot t (λ (x : Out Took). (x.answer.number ≡ 0 → ⊥) → Kept (output_of a) t x)
    (λ k _ _ _. record { front = refl; payload = refl; untouched = refl; kept = refl })
    (λ m.
    let p = r (share_at t slot) m in
    record { front = p.front; payload = p.payload; untouched = p.untouched; kept = ap (put_share t slot) p.kept ∙ share_back t slot })
    n in
    record {
      untouched = q.untouched;
      front = q.front;
      payload = q.payload;
      drops = λ d. absurd (none-drops _ (0 ∷ order a) e (exactly a slot t).known d);
      kept = λ _. q.kept;
    }

number-kept : {x : Out ℕ} {s : List ℕ} → x.words ≡ s → Kept [] s (alone x)
number-kept e = record { front = refl; payload = refl; untouched = refl; kept = e }

refuses : (a : Call) (slot : ℕ) (t : List ℕ) → ((gives a slot t).answer.number ≡ 0 → ⊥) → Refused (output_of a) slot t (gives a slot t)
unfolding spared ◌and◌
refuses (opens side a) slot t = stays (opens side a) refl (λ s n. number-kept (open-refuses side a s n)) slot t
refuses (closes side) slot t = stays (closes side) refl (λ s n. number-kept (close-refuses side s n)) slot t
refuses (starts side) slot t = stays (starts side) refl (λ s n. number-kept (group-refuses side s n)) slot t
refuses (encodes wish c output) slot t = stays (encodes wish c output) refl (encode-refuses F wish c output) slot t
refuses (receives o output) slot t =
    carried (receives o output) slot t (λ (x : Out Took). (x.answer.number ≡ 0 → ⊥) → Refused output slot t x)
    (λ k _ n _. record { untouched = refl; front = refl; payload = refl; drops = λ d. absurd (n d); kept = λ _. refl })
    (λ m.
    let q = receive-refuses F o output (share_at t slot) m in
    record {
      untouched = q.untouched;
      front = q.front;
      payload = q.payload;
      drops = λ d. ap (put_share t slot) (q.drops d);
      kept = λ d. ap (put_share t slot) (q.kept (outside (receiving F o output (share_at t slot)).answer.number d)) ∙ share_back t slot;
    })

-- ---- what is done

does : (a : Call) (slot : ℕ) (t : List ℕ) → (gives a slot t).answer.number ≡ 0 → Done a slot t (gives a slot t)
does a slot t =
    carried a slot t (λ (x : Out Took). x.answer.number ≡ 0 → Done a slot t x) (λ k n _ z. absurd (n z))
    (λ z.
    let q = share-does a (share_at t slot) z in
    record { words = ap (put_share t slot) q.0; payload = q.1 })

past : (a : Call) (slot : ℕ) (t : List ℕ) → PastStays (output_of a) (gives a slot t).answer
past a slot t =
    carried a slot t (λ (x : Out Took). PastStays (output_of a) x.answer) (λ k _ _. refused-past (output_of a) k) (share-past a (share_at t slot))

last : (a : Call) (slot : ℕ) (t : List ℕ) → Last (lent_to a) (gives a slot t).answer
last a slot t =
    carried a slot t (λ (x : Out Took). Last (lent_to a) x.answer)
    (λ k _ _. drop-last (length (lent_to a)) (lent_to a) [] (sym (drop-length (lent_to a)))) (share-last a (share_at t slot))

-- ---- the demand

pub demand-one : DemandOne
demand-one =
    record {
      exactly = exactly;
      refuses = refuses;
      does = does;
      past = past;
      last = last;
      others =
          λ a slot t j d h.
          ap (λ (x : Out Took). share_at x.words j) (gives-is a slot t) ∙ others-stay Took (refused (output_of a)) (on_share a) (keeps a) slot j d h t;
      long = λ a slot t. ap (λ (x : Out Took). length x.words) (gives-is a slot t) ∙ table-long (refused (output_of a)) (on_share a) (keeps a) slot t;
      stays-lawful =
          λ a slot t b j h w.
          ap (λ (x : Out Took). lawful (side_of a) (share_at x.words j)) (gives-is a slot t)
          ∙ shares-lawful (refused (output_of a)) (on_share a) (keeps a) (side_of a) (share-lawful a b) slot j h t w;
      fresh-lawful = all-fresh;
      forgets = full-forgets;
    }
