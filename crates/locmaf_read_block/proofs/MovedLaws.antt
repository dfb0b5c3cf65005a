-- A list of records that stands elsewhere holds the same records, each part moved with it. Assumes nothing.
use Prim.Native.Nat.{ℕ, zero, suc, ◌+◌, ◌-◌, ◌≤◌}
use native.Mathlib.Nat.{add_assoc, add-suc, add-zero}
use native.Mathlib.Omega.{arith}
use mathlib.Core.Path.{◌≡◌, refl, sym, ◌∙◌, ap}
use mathlib.Core.Bool.{Bool, true, false, cond}
use mathlib.Core.List.{List, [], ◌∷◌, map}
use lib.Dec.{leb}
use lib.ListN.{length, drop}
use lib.Seq.{slice}
use Rattle.laws.proofs.SliceLaws.{take-slice, drop-slice}
use Rattle.wire.specs.declared.form.Row.{Row}
use Rattle.locmaf_read_block.specs.declared.records.Record.{Record}
use Rattle.std.specs.Prelude.{Option, Some, None, option_map}
use Rattle.wire.specs.Varint.{read_f, on_got}
use Rattle.byte_parts.specs.declared.Part.{Part}
use Rattle.locmaf_read_block.specs.declared.records.Marks.{Marks}
use Rattle.locmaf_read_block.specs.Front.{Front, off, cut, on_front, Series, series, before, taken, wholly, on_read}
use Rattle.locmaf_read_block.specs.Tuples.{part, bytes_of}
use Rattle.locmaf_read_block.specs.Records.{number, text_at, marks_at, record_of, record_f, record_front, records_run, records_f, moved_part, moved}

-- ---- over any front

abbrev pub map_series : {A B : Type 0} → (A → B) → Series A → Series B
map_series f r = series (map f r.items) r.whole

module _ {A B : Type 0} (f : A → B) (d : ℕ) (a : ℕ → List ℕ → Front A) (b : ℕ → List ℕ → Front B)
    (same : (at : ℕ) (s : List ℕ) → b (d + at) s ≡ on_front (a at s) (λ x k. off (f x) k) cut)
  where
    pub taken-moved : (k at : ℕ) (s : List ℕ) → taken b k (d + at) s ≡ map_series f (taken a k at s)
    unfolding taken
    taken-moved k at [] = refl
    taken-moved (suc k) at (x ∷ s) = rw (← add-suc d at) (taken-moved k (suc at) s)
    taken-moved zero at (x ∷ s) = rw (same at (x ∷ s), ← add-suc d at) (go (a at (x ∷ s)) (λ k. taken-moved k (suc at) s))
      where
        go : (g : Front A) → ((k : ℕ) → taken b k (d + suc at) s ≡ map_series f (taken a k (suc at) s))
            → on_front (on_front g (λ y k. off (f y) k) cut) (λ y k. before y (taken b (k - 1) (d + suc at) s)) (series [] false)
            ≡ map_series f (on_front g (λ y k. before y (taken a (k - 1) (suc at) s)) (series [] false))
        go (off y k) ih = ap (before (f y)) (ih (k - 1))
        go cut ih = refl

-- ---- records

module _ (F : List Row) (d base : ℕ) where
  text-moved : (q : ℕ) (s : List ℕ) → text_at F (d + base) q s ≡ on_read (text_at F base q s) (λ p next. Some (moved_part d p, next)) None
  unfolding text_at number
  text-moved q s = go (read_f F (drop q s))
    where
      one : (n k : ℕ) (b : Bool)
          → ◌≡◌ {A = Option (Part × ℕ)}
          (cond b (Some (part (d + base + (q + k)) n, q + k + n)) None)
          (on_read (cond b (Some (part (base + (q + k)) n, q + k + n)) None) (λ p next. Some (moved_part d p, next)) None)
      one n k true = rw (add_assoc d base (q + k))
      one n k false = refl

      go : (g : Option (ℕ × ℕ))
          → ◌≡◌ {A = Option (Part × ℕ)}
          (on_got g (λ n k. cond (leb n (length s - (q + k))) (Some (part (d + base + (q + k)) n, q + k + n)) None) None)
          (on_read (on_got g (λ n k. cond (leb n (length s - (q + k))) (Some (part (base + (q + k)) n, q + k + n)) None) None) (λ p next. Some (moved_part d p, next)) None)
      go (Some (n, k)) = one n k (leb n (length s - (q + k)))
      go None = refl

  record-moved : (s : List ℕ) → record_f F (d + base) s ≡ on_read (record_f F base s) (λ r k. Some (moved d r, k)) None
  unfolding record_f moved
  record-moved s = rw (text-moved 0 s) (first (text_at F base 0 s))
    where
      fourth : (p v : Part) (m : Marks) (t : Option (Part × ℕ))
          → ◌≡◌ {A = Option (Record × ℕ)}
          (on_read (on_read t (λ u next. Some (moved_part d u, next)) None) (λ u k. Some (record_of (moved_part d p) (moved_part d v) m u, k)) None)
          (on_read (on_read t (λ u k. Some (record_of p v m u, k)) None) (λ r k. Some (moved d r, k)) None)
      fourth p v m (Some (u, k)) = refl
      fourth p v m None = refl

      third : (p v : Part) (t : Option (Marks × ℕ))
          → ◌≡◌ {A = Option (Record × ℕ)}
          (on_read t (λ m c. on_read (text_at F (d + base) c s) (λ u k. Some (record_of (moved_part d p) (moved_part d v) m u, k)) None) None)
          (on_read (on_read t (λ m c. on_read (text_at F base c s) (λ u k. Some (record_of p v m u, k)) None) None) (λ r k. Some (moved d r, k)) None)
      third p v (Some (m, c)) = rw (text-moved c s) (fourth p v m (text_at F base c s))
      third p v None = refl

      second : (p : Part) (t : Option (Part × ℕ))
          → ◌≡◌ {A = Option (Record × ℕ)}
          (on_read (on_read t (λ v next. Some (moved_part d v, next)) None)
          (λ v b. on_read (marks_at F b s) (λ m c. on_read (text_at F (d + base) c s) (λ u k. Some (record_of (moved_part d p) v m u, k)) None) None)
          None)
          (on_read (on_read t (λ v b. on_read (marks_at F b s) (λ m c. on_read (text_at F base c s) (λ u k. Some (record_of p v m u, k)) None) None) None) (λ r k. Some (moved d r, k)) None)
      second p (Some (v, b)) = third p v (marks_at F b s)
      second p None = refl

      first : (t : Option (Part × ℕ))
          → ◌≡◌ {A = Option (Record × ℕ)}
          (on_read (on_read t (λ p next. Some (moved_part d p, next)) None)
          (λ p a. on_read (text_at F (d + base) a s) (λ v b. on_read (marks_at F b s) (λ m c. on_read (text_at F (d + base) c s) (λ u k. Some (record_of p v m u, k)) None) None) None)
          None)
          (on_read (on_read t (λ p a. on_read (text_at F base a s) (λ v b. on_read (marks_at F b s) (λ m c. on_read (text_at F base c s) (λ u k. Some (record_of p v m u, k)) None) None) None) None) (λ r k. Some (moved d r, k)) None)
      first (Some (p, a)) = rw (text-moved a s) (second p (text_at F base a s))
      first None = refl

  front-moved : (s : List ℕ) → record_front F (d + base) s ≡ on_front (record_front F base s) (λ r k. off (moved d r) k) cut
  unfolding record_front
  front-moved s = rw (record-moved s) (go (record_f F base s))
    where
      go : (t : Option (Record × ℕ))
          → on_read (on_read t (λ r k. Some (moved d r, k)) None) off cut ≡ on_front (on_read t off cut) (λ r k. off (moved d r) k) cut
      go (Some (r, k)) = refl
      go None = refl

module _ (F : List Row) (base : ℕ) (s : List ℕ) where
  pub run_moved : records_run F base s ≡ map_series (moved base) (records_run F 0 s)
  unfolding records_run
  run_moved =
      ap (λ (n : ℕ). taken (record_front F) 0 n s) (sym (add-zero base))
      ∙ taken-moved (moved base) base (record_front F) (record_front F) (λ at r. front-moved F base at r) 0 0 s

  pub records-moved : records_f F base s ≡ option_map (map (moved base)) (records_f F 0 s)
  unfolding records_f wholly
  records-moved = rw run_moved (go (records_run F 0 s).whole)
    where
      go : (w : Bool)
          → cond w (Some (map (moved base) (records_run F 0 s).items)) None ≡ option_map (map (moved base)) (cond w (Some (records_run F 0 s).items) None)
      go true = refl
      go false = refl

-- the bytes of a part that was moved with its list are those of the part in the list
pub part_moved : (s : List ℕ) (d n : ℕ) (p : Part) → p.at + p.len ≤ n → d + n ≤ length s → bytes_of s (moved_part d p) ≡ bytes_of (slice d (d + n) s) p
part_moved s d n p h k =
    let a : ℕ = p.at in
    let l : ℕ = p.len in
    sym
    (ap (drop a) (take-slice d (d + n) (a + l) s (omega arith) k)
    ∙ drop-slice d (d + (a + l)) a s
    ∙ ap (λ (m : ℕ). slice (d + a) m s) (sym (add_assoc d a l)))
