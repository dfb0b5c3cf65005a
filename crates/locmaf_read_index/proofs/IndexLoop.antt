-- One tuple with its count, and the loop of `index`: the tuples that were noted, with those that are left, are the whole. Assumes nothing.
use Prim.Native.Nat.{ℕ, ◌+◌, ◌-◌, ◌≤◌, ◌<◌}
use native.Mathlib.Omega.{arith}
use mathlib.Core.Path.{◌≡◌, refl, sym, ◌∙◌, ap}
use mathlib.Core.Bool.{Bool, true, false, cond, ◌&&◌}
use mathlib.Core.List.{List, [], ◌∷◌}
use lib.ListN.{length}
use lib.Seq.{slice, sets, length-sets}
use Rattle.event_value.specs.Events.{events_len}
use Rattle.constants.specs.Maxima.{block_most}
use Rattle.locmaf_read_index.specs.Places.{index_len, stands_at}
use Rattle.wire.specs.declared.form.Row.{Row}
use Rattle.locmaf_read_block.specs.declared.tuples.Kind.{Kind}
use Rattle.locmaf_read_block.specs.declared.tuples.Kind.TheVariants.{Scalar, Numbers, Raw, Records}
use Rattle.locmaf_read_block.specs.declared.tuples.Tuple.{Tuple}
use Rattle.std.specs.Prelude.{Option, Some, None}
use Rattle.std.proofs.lemmas.Option.{none-some, same_Some}
use Rattle.locmaf_read_index.specs.declared.index.Indexed.TheVariants.{Cut}
use Rattle.locmaf_read_block.specs.Front.{Series}
use Rattle.locmaf_read_block.specs.Tuples.{part_of, tuple_f, tuple_at, tuples_run}
use Rattle.locmaf_read_index.specs.Index.{fresh, noted, weighed, heard, entry_at, heard_at, index, told, indexed, index_run, index_at, Weighable, Enterable, Indexable}
use Rattle.locmaf_read_block.proofs.TupleLaws.{inside}
use Rattle.locmaf_read_block.proofs.TupleRuns.{Took, took, tuples-done, tuples-cut, tuples-one}

-- no words are lost
pub noted-length : (words : List ℕ) (t : Tuple) (count : ℕ) → length (noted words t count) ≡ length words
unfolding noted
noted-length words t count = go (fresh words t.id)
  where
    go : (b : Bool) → length (cond b (sets words (stands_at t.id) (((part_of t.kind).at + 1) ∷ t.number ∷ count ∷ [])) words) ≡ length words
    go true = simp length-sets
    go false = refl

pub heard-length : (F : List Row) (s : List ℕ) (k : Kind) (events : List ℕ) → length (heard F s k events) ≡ length events
unfolding heard
heard-length F s (Scalar p) events = refl
heard-length F s (Numbers p) events = refl
heard-length F s (Raw p) events = refl
heard-length F s (Records p) events = simp length-sets

-- what is lent for the tuple that was read
pub lends : (F : List Row) (s : List ℕ) (p end : ℕ) (events : List ℕ) → Enterable s p end events → (t : Tuple) (next : ℕ) → Took F s p end t next
    → Weighable s t.kind events
lends F s p end events h t next k =
    record {
      inside = omega (arith, k.ends, k.within, h.inside);
      block = omega (arith, k.ends, k.starts, k.within, h.block);
      list = h.list;
    }

-- a tuple that was read with its count
pub record Entered (F : List Row) (s : List ℕ) (p end : ℕ) (events : List ℕ) (t : Tuple) (count next : ℕ) : Type 0 where
  pub took : Took F s p end t next
  pub counts : weighed F s t.kind ≡ Some count
  pub hears : heard_at F s p end events ≡ heard F s t.kind events

pub entered : (F : List Row) (s : List ℕ) (p end : ℕ) (events : List ℕ) → Enterable s p end events → (t : Tuple) (count next : ℕ)
    → Some (t, count, next) ≡ entry_at F s p end → Entered F s p end events t count next
unfolding entry_at heard_at
entered F s p end events h t count next e = taken (tuple_at F s p end) refl
  where
    weigh : (u : Tuple) (n : ℕ) → tuple_at F s p end ≡ Some (u, n) → (m : Option ℕ) → weighed F s u.kind ≡ m → Entered F s p end events t count next
    weigh u n q (Some k) w =
        let f : entry_at F s p end ≡ Some (u, k, n) = rw (q, w) in
        let a = same_Some {A = Tuple × ℕ × ℕ} (t, count, next) (u, k, n) (e ∙ f) in
        let b : t ≡ u = ap (λ (x : Tuple × ℕ × ℕ). x.0) a in
        let c : count ≡ k = ap (λ (x : Tuple × ℕ × ℕ). x.1) a in
        let d : next ≡ n = ap (λ (x : Tuple × ℕ × ℕ). x.2) a in
        let z : Some (t, next) ≡ tuple_at F s p end = rw (b, d) (sym q) in
        record {
          took = took F s p end t next h.inside h.some z;
          counts = rw b (w ∙ ap Some (sym c));
          hears = rw (← z);
        }
    weigh u n q None w = absurd (none-some (t, count, next) (sym (e ∙ rw (q, w))))

    taken : (g : Option (Tuple × ℕ)) → tuple_at F s p end ≡ g → Entered F s p end events t count next
    taken (Some (u, n)) q = weigh u n q (weighed F s u.kind) refl
    taken None q = absurd (none-some (t, count, next) (sym (e ∙ rw q)))

pub record Indexing (F : List Row) (s : List ℕ) (at end : ℕ) (words₀ events₀ words events : List ℕ) (clean : Bool) (p : ℕ) : Type 0 where
  pub bytes : end ≤ length s
  pub block : end - p ≤ block_most
  pub room : length words ≡ index_len
  pub list : length events ≡ events_len
  pub room₀ : length words₀ ≡ index_len
  pub list₀ : length events₀ ≡ events_len
  pub whole : index_run F s (tuples_run F p (slice p end s)) clean words events ≡ index_at F s at end words₀ events₀

module _ (F : List Row) (s : List ℕ) (at end : ℕ) (words₀ events₀ : List ℕ) where
  pub start : Indexable s at end words₀ events₀ → Indexing F s at end words₀ events₀ words₀ events₀ true at
  unfolding index_at
  start h =
      record {
        bytes = h.inside;
        block = h.block;
        room = h.room;
        list = h.list;
        room₀ = h.room;
        list₀ = h.list;
        whole = refl;
      }

  module _ (words events : List ℕ) (clean : Bool) (p : ℕ) (i : Indexing F s at end words₀ events₀ words events clean p) where
    pub done : end ≤ p → index (told clean) words events ≡ index_at F s at end words₀ events₀
    unfolding indexed
    done h = sym (ap (λ (r : Series Tuple). index_run F s r clean words events) (tuples-done F s p end h)) ∙ i.whole

    module _ (lt : p < end) where
      -- what the next tuple is lent
      pub enters : Enterable s p end events
      enters = record { some = lt; inside = i.bytes; block = i.block; list = i.list }

      one : (t : Tuple) (next : ℕ) → Took F s p end t next
          → index_run F s (tuples_run F p (slice p end s)) clean words events
          ≡ indexed F s (t ∷ (tuples_run F next (slice next end s)).items) (tuples_run F next (slice next end s)).whole clean words events
      one t next k = ap (λ (u : Series Tuple). index_run F s u clean words events) (tuples-one F s p end i.bytes lt t next k)

      -- it is cut
      pub cut : None ≡ entry_at F s p end → index Cut words (heard_at F s p end events) ≡ index_at F s at end words₀ events₀
      unfolding entry_at heard_at indexed
      cut e = taken (tuple_at F s p end) refl
        where
          weigh : (t : Tuple) (next : ℕ) → tuple_at F s p end ≡ Some (t, next) → (m : Option ℕ) → weighed F s t.kind ≡ m
              → index Cut words (heard F s t.kind events) ≡ index_at F s at end words₀ events₀
          weigh t next q (Some k) w = absurd (none-some (t, k, next) (e ∙ rw (q, w)))
          weigh t next q None w = sym (one t next (took F s p end t next i.bytes lt (sym q)) ∙ rw w) ∙ i.whole

          taken : (g : Option (Tuple × ℕ)) → tuple_at F s p end ≡ g → index Cut words (heard_at F s p end events) ≡ index_at F s at end words₀ events₀
          taken (Some (t, next)) q = rw q (weigh t next q (weighed F s t.kind) refl)
          taken None q =
              let r : tuple_f F p (slice p end s) ≡ None = sym (sym q ∙ inside F s p end i.bytes) in
              rw q (sym (ap (λ (u : Series Tuple). index_run F s u clean words events) (tuples-cut F s p end i.bytes lt r)) ∙ i.whole)

      -- it is whole
      pub read : (t : Tuple) (count next : ℕ) → Some (t, count, next) ≡ entry_at F s p end → Entered F s p end events t count next
      read t count next e = entered F s p end events enters t count next e

      pub more : (t : Tuple) (count next : ℕ) → Entered F s p end events t count next
          → Indexing F s at end words₀ events₀ (noted words t count) (heard_at F s p end events) (fresh words t.id && clean) next
      unfolding indexed
      more t count next k =
          record {
            bytes = i.bytes;
            block = omega (arith, i.block, k.took.two);
            room = noted-length words t count ∙ i.room;
            list = rw k.hears (heard-length F s t.kind events) ∙ i.list;
            room₀ = i.room₀;
            list₀ = i.list₀;
            whole = rw k.hears (sym (one t next k.took ∙ rw k.counts) ∙ i.whole);
          }
