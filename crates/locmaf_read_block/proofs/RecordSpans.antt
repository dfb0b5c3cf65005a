-- Where a record lies: how many bytes it takes, and that its parts are among them. Assumes nothing.
use Prim.Native.Nat.{ℕ, ◌+◌, ◌-◌, ◌≤◌, ◌<◌}
use native.Mathlib.Omega.{arith}
use mathlib.Core.Path.{◌≡◌, refl}
use mathlib.Core.Bool.{Bool, true, false, cond}
use mathlib.Core.List.{List}
use borrow.Author.Tests.{leb-true}
use lib.Dec.{leb}
use lib.ListN.{length, drop, length-drop}
use Rattle.wire.specs.declared.form.Row.{Row}
use Rattle.std.specs.Prelude.{Option, Some, None}
use Rattle.std.proofs.lemmas.Option.{none-some, some_pair_parts}
use Rattle.wire.specs.Varint.{read_f, on_got}
use Rattle.wire.proofs.VarintLaws.{read-size}
use Rattle.byte_parts.specs.declared.Part.{Part}
use Rattle.locmaf_read_block.specs.declared.records.Record.{Record}
use Rattle.locmaf_read_block.specs.declared.records.Marks.{Marks}
use Rattle.locmaf_read_block.specs.Tuples.{part}
use Rattle.locmaf_read_block.specs.Records.{number, text_at, marks_at, record_of, record_f}
use Rattle.locmaf_read_block.specs.Front.{on_read}

-- what is known of an outcome that needs a varint at the place q
pub record NumberAt {A : Type 0} (q : ℕ) (s : List ℕ) (f : ℕ → ℕ → A) (o : A) : Type 0 where
  pub value : ℕ
  pub place : ℕ
  pub grows : q < place
  pub within : place ≤ length s
  pub so : f value place ≡ o

number-inv : {A : Type 0} (F : List Row) (q : ℕ) (s : List ℕ) (f : ℕ → ℕ → A) (z o : A) → number F q s f z ≡ o → (z ≡ o → ⊥) → NumberAt q s f o
unfolding number
number-inv {A} F q s f z o e n = go (read_f F (drop q s)) refl e
  where
    go : (g : Option (ℕ × ℕ)) → read_f F (drop q s) ≡ g → on_got g (λ v k. f v (q + k)) z ≡ o → NumberAt q s f o
    go (Some (v, k)) r d =
        let b = read-size F (drop q s) v k r in
        record {
          value = v;
          place = q + k;
          grows = omega (arith, b.0);
          within = omega (arith, b.0, b.1, length-drop q s);
          so = d;
        }
    go None r d = absurd (n d)

-- a part lies between two places
abbrev pub Inside : ℕ → ℕ → Part → Type 0
Inside from to p = (from ≤ p.at) × (p.at + p.len ≤ to)

pub record TextSpans (base q : ℕ) (s : List ℕ) (p : Part) (next : ℕ) : Type 0 where
  pub grows : q < next
  pub within : next ≤ length s
  pub inside : Inside base (base + next) p

pub text-spans : (F : List Row) (base q : ℕ) (s : List ℕ) (p : Part) (next : ℕ) → text_at F base q s ≡ Some (p, next) → TextSpans base q s p next
unfolding text_at
text-spans F base q s p next e =
    let i = number-inv F q s _ None (Some (p, next)) e (none-some _) in
    go i.value i.place i.grows i.within (leb i.value (length s - i.place)) refl i.so
  where
    go : (n k : ℕ) → q < k → k ≤ length s → (b : Bool) → leb n (length s - k) ≡ b → ◌≡◌ {A = Option (Part × ℕ)} (cond b (Some (part (base + k) n, k + n)) None) (Some (p, next))
        → TextSpans base q s p next
    go n k h₁ h₂ true t d =
        let w = some_pair_parts (part (base + k) n) p (k + n) next d in
        let l : n ≤ length s - k = leb-true _ _ t in
        record { grows = omega arith; within = omega arith; inside = rw (← w.0) (omega arith, omega arith) }
    go n k h₁ h₂ false t d = absurd (none-some _ d)

pub marks-spans : (F : List Row) (q : ℕ) (s : List ℕ) (m : Marks) (next : ℕ) → marks_at F q s ≡ Some (m, next) → (q + 4 ≤ next) × (next ≤ length s)
unfolding marks_at
marks-spans F q s m next e =
    let i = number-inv F q s _ None (Some (m, next)) e never in
    let j = number-inv F i.place s _ None (Some (m, next)) i.so never in
    let k = number-inv F j.place s _ None (Some (m, next)) j.so never in
    let l = number-inv F k.place s _ None (Some (m, next)) k.so never in
    let w = some_pair_parts (record { timescale = i.value; time = j.value; duration = k.value; id = l.value }) m l.place next l.so in
    (omega (arith, i.grows, j.grows, k.grows, l.grows, w.1), omega (arith, l.within, w.1))
  where
    never : ◌≡◌ {A = Option (Marks × ℕ)} None (Some (m, next)) → ⊥
    never n = none-some _ n

pub record RecordSpans (base : ℕ) (s : List ℕ) (r : Record) (k : ℕ) : Type 0 where
  pub seven : 7 ≤ k
  pub within : k ≤ length s
  pub scheme : Inside base (base + k) r.scheme
  pub value : Inside base (base + k) r.value
  pub message : Inside base (base + k) r.message

pub record-spans : (F : List Row) (base : ℕ) (s : List ℕ) (r : Record) (k : ℕ) → record_f F base s ≡ Some (r, k) → RecordSpans base s r k
unfolding record_f
record-spans F base s r k e = first (text_at F base 0 s) refl e
  where
    Gives : Option (Record × ℕ) → Type 0
    Gives o = o ≡ Some (r, k)

    never : {X : Type 0} → Gives None → X
    never n = absurd (none-some _ n)

    fourth : (p v : Part) (a b c : ℕ) (m : Marks) → TextSpans base 0 s p a → TextSpans base a s v b → (b + 4 ≤ c) × (c ≤ length s)
        → (t : Option (Part × ℕ)) → text_at F base c s ≡ t → Gives (on_read t (λ u d. Some (record_of p v m u, d)) None) → RecordSpans base s r k
    fourth p v a b c m h₁ h₂ h₃ (Some (u, d)) q n =
        let h₄ = text-spans F base c s u d q in
        let w = some_pair_parts (record_of p v m u) r d k n in
        rw (← w.0, ← w.1)
        (record {
          seven = omega (arith, h₁.grows, h₂.grows, h₃.0, h₄.grows);
          within = h₄.within;
          scheme = (h₁.inside.0, omega (arith, h₁.inside.1, h₂.grows, h₃.0, h₄.grows));
          value = (h₂.inside.0, omega (arith, h₂.inside.1, h₃.0, h₄.grows));
          message = h₄.inside;
        })
    fourth p v a b c m h₁ h₂ h₃ None q n = never n

    third : (p v : Part) (a b : ℕ) → TextSpans base 0 s p a → TextSpans base a s v b → (t : Option (Marks × ℕ)) → marks_at F b s ≡ t
        → Gives (on_read t (λ m c. on_read (text_at F base c s) (λ u d. Some (record_of p v m u, d)) None) None) → RecordSpans base s r k
    third p v a b h₁ h₂ (Some (m, c)) q n = fourth p v a b c m h₁ h₂ (marks-spans F b s m c q) (text_at F base c s) refl n
    third p v a b h₁ h₂ None q n = never n

    second : (p : Part) (a : ℕ) → TextSpans base 0 s p a → (t : Option (Part × ℕ)) → text_at F base a s ≡ t
        → Gives (on_read t (λ v b. on_read (marks_at F b s) (λ m c. on_read (text_at F base c s) (λ u d. Some (record_of p v m u, d)) None) None) None)
        → RecordSpans base s r k
    second p a h (Some (v, b)) q n = third p v a b h (text-spans F base a s v b q) (marks_at F b s) refl n
    second p a h None q n = never n

    first : (t : Option (Part × ℕ)) → text_at F base 0 s ≡ t
        → Gives (on_read t (λ p a. on_read (text_at F base a s) (λ v b. on_read (marks_at F b s) (λ m c. on_read (text_at F base c s) (λ u d. Some (record_of p v m u, d)) None) None) None) None)
        → RecordSpans base s r k
    first (Some (p, a)) q n = second p a (text-spans F base 0 s p a q) (text_at F base a s) refl n
    first None q n = never n
