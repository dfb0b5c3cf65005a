-- The records of a list: each lies inside it, and where its words stand. Assumes nothing.
use Prim.Native.Nat.{ℕ, zero, suc, ◌+◌, ◌*◌, ◌≤◌}
use native.Mathlib.Omega.{arith}
use mathlib.Core.Path.{◌≡◌, refl, ◌∙◌, ap, subst}
use mathlib.Core.Bool.{Bool, true, false}
use mathlib.Core.List.{List, [], ◌∷◌, ◌++◌}
use borrow.Author.Tests.{eqb-true, eqb-false}
use lib.Dec.{eqb}
use lib.ListN.{length, drop, length-append, length-drop}
use lib.Seq.{drop-append-add, drop-nil}
use Rattle.event_value.specs.Events.{event_words}
use Rattle.wire.specs.declared.form.Row.{Row}
use Rattle.locmaf_read_block.specs.declared.records.Record.{Record}
use Rattle.std.specs.Prelude.{Option, Some, None}
use Rattle.locmaf_read_block.specs.Records.{record_f, records_run, records_f, record_words, words_of}
use Rattle.laws.specs.Each.{AllOf}
use Rattle.locmaf_read_block.proofs.NumberLaws.{wholly-inv}
use Rattle.locmaf_read_block.proofs.RecordSpans.{Inside, record-spans}
use Rattle.locmaf_read_block.proofs.KeptLaws.{records-none, records-cut, records-one}

-- ten words a record
pub length-words : (rs : List Record) → length (words_of rs) ≡ event_words * length rs
unfolding words_of
length-words [] = refl
length-words (r ∷ rs) = omega (arith, length-append (record_words r) (words_of rs), length-words rs)

-- behind those of the first j stand those of the others
pub words-drop : (j : ℕ) (rs : List Record) → drop (event_words * j) (words_of rs) ≡ words_of (drop j rs)
unfolding words_of
words-drop zero rs = refl
words-drop (suc j) [] = drop-nil (event_words * suc j)
words-drop (suc j) (r ∷ rs) =
    let e : event_words * suc j ≡ event_words + event_words * j = omega arith in
    ap (λ (n : ℕ). drop n (record_words r ++ words_of rs)) e ∙ drop-append-add (record_words r) (words_of rs) (event_words * j) ∙ words-drop j rs

-- a record lies between two places
pub record Lies (from to : ℕ) (r : Record) : Type 0 where
  pub scheme : Inside from to r.scheme
  pub value : Inside from to r.value
  pub message : Inside from to r.message

module _ (F : List Row) (from to : ℕ) where
  lie-within : (n base : ℕ) (s : List ℕ) → length s ≤ n → from ≤ base → base + length s ≤ to → AllOf (Lies from to) (records_run F base s).items
  lie-within zero base s h f t = rw (records-none F base s (omega arith)) tt
  lie-within (suc n) base s h f t = go (record_f F base s) refl (λ k u v w. lie-within n (base + k) (drop k s) u v w)
    where
      none : (b : Bool) → eqb (length s) 0 ≡ b → record_f F base s ≡ None → AllOf (Lies from to) (records_run F base s).items
      none true q e = rw (records-none F base s (eqb-true _ _ q)) tt
      none false q e = let z : length s ≡ 0 → ⊥ = eqb-false (length s) 0 q in rw (records-cut F base s (omega arith) e) tt

      go : (g : Option (Record × ℕ)) → record_f F base s ≡ g
          → ((k : ℕ) → length (drop k s) ≤ n → from ≤ base + k → base + k + length (drop k s) ≤ to
          → AllOf (Lies from to) (records_run F (base + k) (drop k s)).items)
          → AllOf (Lies from to) (records_run F base s).items
      go (Some (r, k)) q ih =
          let z = record-spans F base s r k q in
          let l = length-drop k s in
          rw (records-one F base s r k q) (
            record {
              scheme = (omega (arith, z.scheme.0), omega (arith, z.scheme.1, z.within));
              value = (omega (arith, z.value.0), omega (arith, z.value.1, z.within));
              message = (omega (arith, z.message.0), omega (arith, z.message.1, z.within));
            },
            ih k (omega (arith, z.seven, l)) (omega arith) (omega (arith, z.within, l)),
          )
      go None q ih = none (eqb (length s) 0) refl q

-- every record of a list lies inside it
all_lie : (F : List Row) (base : ℕ) (s : List ℕ) → AllOf (Lies base (base + length s)) (records_run F base s).items
all_lie F base s = lie-within F base (base + length s) (length s) base s (omega arith) (omega arith) (omega arith)

pub records-lie : (F : List Row) (base : ℕ) (s : List ℕ) (rs : List Record) → records_f F base s ≡ Some rs → AllOf (Lies base (base + length s)) rs
unfolding records_f
records-lie F base s rs e = subst (AllOf (Lies base (base + length s))) (wholly-inv (records_run F base s) rs e).1 (all_lie F base s)
