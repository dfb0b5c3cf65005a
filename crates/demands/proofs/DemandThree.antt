-- Demand 3: any number of changes keeps what every call is told, and the table at the end. Assumes nothing.
use Prim.Native.Nat.{ℕ, suc, ◌+◌}
use native.Mathlib.Nat.{add-zero, zero-add, add-suc, suc-add}
use mathlib.Core.Path.{◌≡◌, refl, sym, ◌∙◌, ap, subst}
use mathlib.Core.List.Permᴰ
use mathlib.Core.List.{List, [], ◌∷◌, map, Permᴰ}
use lib.ListN.{replicate}
use Rattle.share_words.specs.Share.{table_len}
use Rattle.receiver.proofs.ObjectSplit.{parts-of, parts-once}
use Rattle.cmaf_read_facts.specs.Given.{F}
use Rattle.demands.specs.Three.{Call, Told, told, call, answers, table_after, Numbered, numbered_from, calls_of, numbers_of}
use Rattle.demands.specs.Three.{Changed, swap, reorder, behind, ◌then◌, none, answer_to, Kept, DemandThree}
use Rattle.demands.proofs.OneChange.{tables-same, told_same, received-same, told-reordered}

-- every call of a run is told what f says of its number
abbrev Answered : (ℕ → Told) → List Numbered → List ℕ → Type 0
Answered f [] t = Unit {0}
Answered f (x ∷ xs) t = (told x.made t ≡ f x.number) × Answered f xs (call x.made t).words

-- whatever is said of the numbers, on whatever table: what a change keeps
record Alike (xs ys : List Numbered) : Type 0 where
  answered : (f : ℕ → Told) (t : List ℕ) → Answered f xs t → Answered f ys t
  table : (t : List ℕ) → table_after (calls_of xs) t ≡ table_after (calls_of ys) t
  numbers : Permᴰ (numbers_of xs) (numbers_of ys)

alike : {xs ys : List Numbered} → Changed xs ys → Alike xs ys
unfolding table_after
alike (swap a b {after} d) =
    let x : Call = a.made in
    let y : Call = b.made in
    record {
      answered = λ f t h. (
        sym (told_same y x (λ e. d (sym e)) t) ∙ h.1.0,
        (told_same x y d t ∙ h.0, subst (Answered f after) (tables-same x y d t) h.1.1),
      );
      table = λ t. ap (table_after (calls_of after)) (tables-same x y d t);
      numbers = Permᴰ.swap refl refl;
    }
alike (reorder k slot {o} {o'} room {after} r) =
    record {
      answered = λ f t h. (
        sym (told-reordered slot o o' room r t) ∙ h.0,
        subst (Answered f after) (λ j. (received-same slot o o' room r t j).words) h.1,
      );
      table = λ t. ap (table_after (calls_of after)) (λ j. (received-same slot o o' room r t j).words);
      numbers = Permᴰ.refl (k ∷ numbers_of after);
    }
alike (behind a c) =
    let h = alike c in
    record {
      answered = λ f t q. (q.0, h.answered f (call a.made t).words q.1);
      table = λ t. h.table (call a.made t).words;
      numbers = Permᴰ.cons refl h.numbers;
    }
alike (◌then◌ c d) =
    let h = alike c in
    let k = alike d in
    record {
      answered = λ f t q. k.answered f t (h.answered f t q);
      table = λ t. h.table t ∙ k.table t;
      numbers = Permᴰ.trans h.numbers k.numbers;
    }
alike (none {xs}) = record { answered = λ f t q. q; table = λ t. refl; numbers = Permᴰ.refl (numbers_of xs) }

-- ---- by their places

-- the calls of a run that was just numbered
calls_are : (k : ℕ) (calls : List Call) → calls_of (numbered_from k calls) ≡ calls
calls_are k [] = refl
calls_are k (a ∷ calls) = ap (λ (l : List Call). a ∷ l) (calls_are (suc k) calls)

-- a run is told what its answers say, by their places
answered-from : (f : ℕ → Told) (k : ℕ) (calls : List Call) (t : List ℕ) → ((i : ℕ) → answer_to calls t i ≡ f (k + i)) → Answered f (numbered_from k calls) t
unfolding answers
answered-from f k [] t h = tt
answered-from f k (a ∷ calls) t h =
    (h 0 ∙ ap f (add-zero k), answered-from f (suc k) calls (call a t).words (λ i. h (suc i) ∙ ap f (add-suc k i ∙ sym (suc-add k i))))

-- the answers of a run that is told what f says
answers-are : (f : ℕ → Told) (ys : List Numbered) (t : List ℕ) → Answered f ys t → answers (calls_of ys) t ≡ map (λ (y : Numbered). f y.number) ys
unfolding answers
answers-are f [] t h = refl
answers-are f (y ∷ ys) t h = let rest = answers-are f ys (call y.made t).words h.1 in λ j. h.0 j ∷ rest j

kept : (t : List ℕ) (calls : List Call) (ys : List Numbered) → Changed (numbered_from 0 calls) ys → Kept t calls ys
kept t calls ys c =
    let h = alike c in
    let f : ℕ → Told = answer_to calls t in
    record {
      numbers = h.numbers;
      answered = answers-are f ys t (h.answered f t (answered-from f 0 calls t (λ i. ap f (sym (zero-add i)))));
      table = sym (h.table t) ∙ ap (λ (l : List Call). table_after l t) (calls_are 0 calls);
    }

-- the demand, of any table, and so of a fresh one
pub demand-three : DemandThree
demand-three = record { any = kept; fresh = kept (replicate table_len 0); parted = parts-of F; once = parts-once F }
