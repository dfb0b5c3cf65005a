-- What a tuple weighs, from what its entry's bytes say. Assumes nothing.
use Prim.Native.Nat.{ℕ, ◌+◌, ◌%◌, ◌≤◌}
use native.Mathlib.Nat.{add-sub_cancel_left}
use mathlib.Core.Path.{◌≡◌, refl, sym, ◌∙◌, ap}
use mathlib.Core.Bool.{Bool, true, false, cond, ◌||◌}
use mathlib.Core.List.{List, [], ◌∷◌}
use borrow.Author.Tests.{eqb-true}
use lib.Dec.{eqb}
use lib.ListN.{length, length-map}
use lib.Seq.{length-slice}
use Rattle.wire.specs.declared.form.Row.{Row}
use Rattle.byte_parts.specs.declared.Part.{Part}
use Rattle.locmaf_read_block.specs.declared.tuples.Kind.TheVariants.{Scalar, Numbers, Raw, Records}
use Rattle.std.specs.Prelude.{Option, Some, None}
use Rattle.locmaf_read_block.specs.declared.records.Record.{Record}
use Rattle.locmaf_read_block.specs.Front.{Series, wholly}
use Rattle.locmaf_read_block.specs.Tuples.{kind_of, bytes_of}
use Rattle.locmaf_read_block.specs.Numbers.{numbers_run, numbers_f, counted, count_at}
use Rattle.locmaf_read_block.specs.Records.{records_run, records_f}
use Rattle.locmaf_read_index.specs.Index.{weighed}
use Rattle.laws.specs.Options.{on_option, is_some}
use Rattle.locmaf_read_block.specs.Entries.{body}
use Rattle.locmaf_read_block.proofs.NumberLaws.{count-inside}
use Rattle.locmaf_read_block.proofs.MovedLaws.{run_moved}

counted-some : {A : Type 0} (r : Series A) → is_some (wholly r) ≡ is_some (counted r)
unfolding wholly counted
counted-some r = go r.whole
  where
    go : (w : Bool) → is_some (cond w (Some r.items) None) ≡ is_some (cond w (Some (length r.items)) None)
    go true = refl
    go false = refl

counted-length : {A : Type 0} (r : Series A) (k : ℕ) (xs : List A) → counted r ≡ Some k → wholly r ≡ Some xs → k ≡ length xs
unfolding wholly counted
counted-length {A} r k xs = go r.whole
  where
    go : (w : Bool) → cond w (Some (length r.items)) None ≡ Some k → cond w (Some r.items) None ≡ Some xs → k ≡ length xs
    go true d e = let q : r.items ≡ xs = cc in let n : length r.items ≡ k = cc in sym n ∙ ap length q
    go false d e = cc

counted-wholly : {A : Type 0} (r : Series A) (k : ℕ) → counted r ≡ Some k → (wholly r ≡ Some r.items) × (k ≡ length r.items)
unfolding wholly counted
counted-wholly {A} r k = go r.whole
  where
    go : (w : Bool) → cond w (Some (length r.items)) None ≡ Some k → (cond w (Some r.items) None ≡ Some r.items) × (k ≡ length r.items)
    go true d = (refl, cc)
    go false d = cc

same_some : {A B : Type 0} (o : Option A) (y : B) → is_some (on_option o (λ _. Some y) None) ≡ is_some o
same_some (Some x) y = refl
same_some None y = refl

module _ (F : List Row) (s : List ℕ) (id n : ℕ) (p : Part) (h : p.at + p.len ≤ length s)
    (scalar : id % 2 ≡ 0 → numbers_f F (bytes_of s p) ≡ Some (n ∷ []))
  where
    -- wherever a list of records stands, as many are read
    records-count : counted (records_run F p.at (bytes_of s p)) ≡ counted (records_run F 0 (bytes_of s p))
    unfolding counted
    records-count = rw (run_moved F p.at (bytes_of s p), length-map)

    records-some : is_some (on_option (records_f F 0 (bytes_of s p)) (λ _. Some (bytes_of s p)) None) ≡ is_some (counted (records_run F p.at (bytes_of s p)))
    unfolding records_f
    records-some =
        same_some (wholly (records_run F 0 (bytes_of s p))) (bytes_of s p)
        ∙ counted-some (records_run F 0 (bytes_of s p))
        ∙ ap is_some (sym records-count)

    numbers-some : is_some (numbers_f F (bytes_of s p)) ≡ is_some (count_at F s p.at (p.at + p.len))
    unfolding numbers_f
    numbers-some = counted-some (numbers_run F (bytes_of s p)) ∙ ap is_some (sym (count-inside F s p.at (p.at + p.len) h))

    -- nothing in a tuple is cut just where its bytes are readable
    pub kind-readable : is_some (body F id (bytes_of s p)) ≡ is_some (weighed F s (kind_of id p))
    unfolding body kind_of weighed
    kind-readable = go (eqb (id % 2) 0) refl (eqb id 25) (eqb id 9 || eqb id 23)
      where
        go : (a : Bool) → eqb (id % 2) 0 ≡ a → (b c : Bool)
            → is_some (cond a (numbers_f F (bytes_of s p)) (cond b (on_option (records_f F 0 (bytes_of s p)) (λ _. Some (bytes_of s p)) None) (cond c (Some (bytes_of s p)) (numbers_f F (bytes_of s p)))))
            ≡ is_some (weighed F s (cond a (Scalar p) (cond b (Records p) (cond c (Raw p) (Numbers p)))))
        go true q b c = rw (scalar (eqb-true _ _ q))
        go false q true c = records-some
        go false q false true = refl
        go false q false false = numbers-some

    numbers-length : (k : ℕ) (zs : List ℕ) → count_at F s p.at (p.at + p.len) ≡ Some k → numbers_f F (bytes_of s p) ≡ Some zs → k ≡ length zs
    unfolding numbers_f
    numbers-length k zs d e =
        counted-length (numbers_run F (bytes_of s p)) k zs (sym (count-inside F s p.at (p.at + p.len) h) ∙ d) e

    -- how many numbers it then has
    pub kind-count : (k : ℕ) (zs : List ℕ) → (id ≡ 25 → ⊥) → weighed F s (kind_of id p) ≡ Some k → body F id (bytes_of s p) ≡ Some zs → k ≡ length zs
    unfolding body kind_of weighed
    kind-count k zs other = go (eqb (id % 2) 0) refl (eqb id 25) refl (eqb id 9 || eqb id 23)
      where
        go : (a : Bool) → eqb (id % 2) 0 ≡ a → (b : Bool) → eqb id 25 ≡ b → (c : Bool)
            → weighed F s (cond a (Scalar p) (cond b (Records p) (cond c (Raw p) (Numbers p)))) ≡ Some k
            → cond a (numbers_f F (bytes_of s p)) (cond b (on_option (records_f F 0 (bytes_of s p)) (λ _. Some (bytes_of s p)) None) (cond c (Some (bytes_of s p)) (numbers_f F (bytes_of s p)))) ≡ Some zs
            → k ≡ length zs
        go true q b r c d e =
            let x : zs ≡ n ∷ [] = cc (scalar (eqb-true _ _ q)) in
            let y : 1 ≡ k = cc in
            sym y ∙ ap length (sym x)
        go false q true r c d e = absurd (other (eqb-true _ _ r))
        go false q false r true d e =
            let x : bytes_of s p ≡ zs = cc in
            let y : p.len ≡ k = cc in
            sym y ∙ sym (length-slice p.at (p.at + p.len) s h ∙ add-sub_cancel_left p.at p.len) ∙ ap length x
        go false q false r false d e = numbers-length k zs d e

    -- and how many records
    pub records-counted : (k : ℕ) → weighed F s (Records p) ≡ Some k
        → (rs : List Record) × (records_f F p.at (bytes_of s p) ≡ Some rs) × (k ≡ length rs) × ((records_run F p.at (bytes_of s p)).items ≡ rs)
    unfolding weighed records_f
    records-counted k e =
        let w = counted-wholly (records_run F p.at (bytes_of s p)) k e in
        ((records_run F p.at (bytes_of s p)).items, w.0, w.1, refl)
