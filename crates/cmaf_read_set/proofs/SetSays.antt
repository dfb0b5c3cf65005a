-- What the set of a chunk says of each id, by what stands in the chunk. Assumes nothing.
use Prim.Native.Nat.{ℕ, suc, ◌+◌, ◌-◌, ◌<◌}
use native.Mathlib.Nat.{zero-add}
use native.Mathlib.Omega.{arith}
use mathlib.Core.Path.{◌≡◌, refl, sym, ◌∙◌, ap}
use mathlib.Core.Bool.{Bool, true, false, false≢true, cond, not, ◌&&◌}
use mathlib.Core.List.{List, [], ◌∷◌, map}
use borrow.Author.Tests.{eqb-true}
use lib.Dec.{eqb}
use lib.ListN.{length, get_or, take}
use Rattle.media.specs.Flags.{five_of}
use Rattle.track.specs.declared.Track.{Track}
use Rattle.cmaf_read_shape.specs.declared.inner.Inner.{Inner}
use Rattle.laws.specs.Options.{is_some}
use Rattle.field_table.specs.declared.lines.Line.{Line}
use Rattle.field_table.specs.Lines.{lines, line_for, line_number, set_len, bmdt_at, count_at}
use Rattle.field_set.specs.Lawful.{has}
use Rattle.field_rules.specs.Fields.{Held}
use Rattle.field_rules.specs.Words.{set_words}
use Rattle.field_rules.proofs.SetLaws.{Around, AllFit, words-start, words_count, words-length, words-for, words-has}
use Rattle.field_rules.proofs.StandLaws.{first_of, Stand, stand-around, stand-value, stand-front, stand-past}
use Rattle.cmaf_read_moof.specs.declared.defaults.Defaults.{Defaults}
use Rattle.cmaf_read_trun.specs.declared.rows.Run.{Run}
use Rattle.cmaf_read_shape.specs.Words.{bit_of}
use Rattle.cmaf_read_moof.specs.Headers.{bmdt_of}
use Rattle.cmaf_read_trun.specs.Rows.{durations, offsets, sample_flags, first, has_column, first_flags}
use Rattle.cmaf_read_trun.specs.Samples.{column_of}
use Rattle.cmaf_read_senc.specs.declared.entries.Entries.{Entries}
use Rattle.cmaf_read_senc.specs.Entries.{length_at}
use Rattle.cmaf_read_set.specs.Entries.{all_from, all_ivs, all_counts, all_clear, all_protected}
use Rattle.cmaf_read_samples.specs.Held.{raised, held_if}
use Rattle.cmaf_read_set.specs.Set.{run, size, equal, several, entries, has_ivs, has_map, held_for, field_of, chunk_set}
use Rattle.cmaf_read_set.specs.Set as G

-- ---- a field of a set

-- whether it stands, and its values
pub record Says (w : List ℕ) (id : ℕ) (b : Bool) (vs : List ℕ) : Type 0 where
  pub stands : has id w ≡ b
  pub values : has id w ≡ true → Stand id w 0 vs

-- its value with a number
pub says-value : {w : List ℕ} {id : ℕ} {b : Bool} {vs : List ℕ} → Says w id b vs → has id w ≡ true → (i : ℕ) → i < length vs
    → get_or w (first_of id + i) 0 ≡ get_or vs i 0
says-value s h i lt = rw zero-add at (stand-value (s.values h) i lt)

-- or another one where it doesn't stand
pub says-choice : {w : List ℕ} {id : ℕ} {b : Bool} {vs : List ℕ} → Says w id b vs → (i v d : ℕ) → (b ≡ true → i < length vs)
    → (b ≡ true → get_or vs i 0 ≡ v) → cond (has id w) (get_or w (first_of id + i) 0) d ≡ cond b v d
says-choice {w} {id} {b} {vs} s i v d lt e = rw s.stands (by b refl)
  where
    by : (x : Bool) → b ≡ x → cond x (get_or w (first_of id + i) 0) d ≡ cond x v d
    by true q = says-value s (s.stands ∙ q) i (lt q) ∙ e q
    by false q = refl

-- a value that is said where it differs from what its absence says
pub says_other : {w : List ℕ} {id v : ℕ} (own : ℕ) → Says w id (not (eqb v own)) (v ∷ []) → cond (has id w) (get_or w (first_of id + 0) 0) own ≡ v
says_other {w} {id} {v} own s = says-choice s 0 v own (λ _. omega arith) (λ _. refl) ∙ by (eqb v own) refl
  where
    by : (x : Bool) → eqb v own ≡ x → cond (not x) v own ≡ v
    by true e = sym (eqb-true v own e)
    by false e = refl

-- of a line of the table
says-line : (b n : ℕ) (f : Line → Held) → AllFit f → (id : ℕ) → line_number id lines < 14 → (s : Bool) (vs : List ℕ)
    → f (line_for id lines) ≡ held_if s vs → Says (set_words b n f) id s vs
unfolding held_if
says-line b n f h id k s vs e = record { stands = stands ∙ is s; values = λ q. there s (sym (stands ∙ is s) ∙ q) (rw e at (words-for b n f h id k)) }
  where
    stands : has id (set_words b n f) ≡ is_some (held_if s vs)
    stands = words-has b n f h id k ∙ ap is_some e

    is : (x : Bool) → is_some (held_if x vs) ≡ x
    is true = refl
    is false = refl

    there : (x : Bool) → x ≡ true → Around (line_for id lines) (held_if x vs) (set_words b n f) → Stand id (set_words b n f) 0 vs
    there true q o = stand-around o
    there false q o = absurd (false≢true q)

-- ---- a list of what the entries of a `senc` say

module _ (c : List ℕ) (e : Entries) (of : ℕ → List ℕ) (k at : ℕ) {id : ℕ} {w : List ℕ} {j : ℕ} (s : Stand id w j (all_from c e of (suc k) at)) where
  -- the first of them
  pub entry-stands : Stand id w j (of at)
  unfolding all_from
  entry-stands = stand-front (of at) (all_from c e of k (at + length_at c e at)) s

  -- and those behind it
  pub rest-stands : {n : ℕ} → j + length (of at) ≡ n → Stand id w n (all_from c e of k (at + length_at c e at))
  unfolding all_from
  rest-stands h = stand-past (of at) (all_from c e of k (at + length_at c e at)) h s

-- ---- the set of a chunk

module _ (t : Track) (c : List ℕ) (f : Inner) where
  abbrev w : List ℕ
  w = chunk_set t c f

  abbrev r : Run
  r = run t c f

  abbrev d : Defaults
  d = G.defaults t c f

  abbrev e : Entries
  e = entries t c f

  -- its length, BMDT and count of samples, and then id by id: 1, 2, 3 and so on
  pub record Said : Type 0 where
    pub long : length w ≡ set_len
    pub bmdt : get_or w bmdt_at 0 ≡ bmdt_of c f.tfdt
    pub count : get_or w count_at 0 ≡ r.count
    pub sizes : Says w 1 (several t c f && not (equal t c f)) (take (r.count - 1) (G.sizes t c f))
    pub description : Says w 2 (not (eqb d.description t.description)) (d.description ∷ [])
    pub each-duration : Says w 3 (has_column r durations) (column_of c r durations)
    pub duration : Says w 4 (not (eqb d.duration t.duration)) (d.duration ∷ [])
    pub each-offset : Says w 5 (has_column r offsets) (map raised (column_of c r offsets))
    pub same-size : Says w 6 (several t c f && (equal t c f && not (eqb (size t c f) t.size && not (eqb (size t c f) 0)))) (size t c f ∷ [])
    pub each-flags : Says w 7 (has_column r sample_flags) (map five_of (column_of c r sample_flags))
    pub flags : Says w 8 (not (eqb (five_of d.flags) t.flags)) (five_of d.flags ∷ [])
    pub ivs : Says w 9 (has_ivs t c f) (all_ivs c e e.count e.at)
    pub counts : Says w 11 (has_map t c f) (all_counts c e e.count e.at)
    pub first-flags : Says w 12 (eqb (bit_of r.word first) 1) (five_of (first_flags c f.trun) ∷ [])
    pub clear : Says w 13 (has_map t c f) (all_clear c e e.count e.at)
    pub protected : Says w 15 (has_map t c f) (all_protected c e e.count e.at)
    pub iv-size : has 16 w ≡ false

  pub set_says : AllFit (field_of t c f) → Said
  unfolding chunk_set held_for held_if line_for line_number lines
  set_says fit =
      record {
        long = words-length _ _ (field_of t c f) fit;
        bmdt = words-start _ _ (field_of t c f);
        count = words_count _ _ (field_of t c f);
        sizes = says-line _ _ (field_of t c f) fit 1 (omega arith) _ _ refl;
        description = says-line _ _ (field_of t c f) fit 2 (omega arith) _ _ refl;
        each-duration = says-line _ _ (field_of t c f) fit 3 (omega arith) _ _ refl;
        duration = says-line _ _ (field_of t c f) fit 4 (omega arith) _ _ refl;
        each-offset = says-line _ _ (field_of t c f) fit 5 (omega arith) _ _ refl;
        same-size = says-line _ _ (field_of t c f) fit 6 (omega arith) _ _ refl;
        each-flags = says-line _ _ (field_of t c f) fit 7 (omega arith) _ _ refl;
        flags = says-line _ _ (field_of t c f) fit 8 (omega arith) _ _ refl;
        ivs = says-line _ _ (field_of t c f) fit 9 (omega arith) _ _ refl;
        counts = says-line _ _ (field_of t c f) fit 11 (omega arith) _ _ refl;
        first-flags = says-line _ _ (field_of t c f) fit 12 (omega arith) _ _ refl;
        clear = says-line _ _ (field_of t c f) fit 13 (omega arith) _ _ refl;
        protected = says-line _ _ (field_of t c f) fit 15 (omega arith) _ _ refl;
        iv-size = words-has _ _ (field_of t c f) fit 16 (omega arith);
      }
