-- Deletions and the sample count, which are asked before the fields. Assumes nothing.
use Prim.Native.Nat.{ℕ, ◌≤◌}
use native.Mathlib.Omega.{arith}
use mathlib.Core.Path.{◌≡◌, refl, sym, ◌∙◌, ap}
use mathlib.Core.Bool.{Bool, true, false, not}
use mathlib.Core.List.{List, [], ◌∷◌}
use lib.ListN.{length, set, replicate}
use Rattle.constants.specs.Maxima.{samples_most}
use Rattle.laws.proofs.GateLaws.{failed, held}
use Rattle.laws.proofs.LadderLaws.{broken, passed}
use Rattle.wire.specs.declared.form.Row.{Row}
use Rattle.wire.specs.declared.zigzag.Coding.{Coding}
use Rattle.std.specs.Prelude.{Option, Some, None}
use Rattle.track.specs.declared.Track.{Track}
use Rattle.field_table.specs.Lines.{set_len}
use Rattle.field_set.specs.Lawful.{lawful}
use Rattle.locmaf_read_said.specs.Said.{Says, scalar_in, says_in, Telling}
use Rattle.locmaf_read_said.specs.declared.against.Against.{Against}
use Rattle.locmaf_read_said.specs.Deletions.{MarkedAs}
use Rattle.field_rules.specs.Words.{set_words, no_fields}
use Rattle.locmaf_read_said.specs.Against.{against_of}
use Rattle.locmaf_read_set.specs.Read.{count_from, count_reached, new_words, field_rungs, set_rungs, Readable, ReadAs}
use Rattle.locmaf_read_said.proofs.TellingLaws.{scalar-says, all-marked}
use Rattle.field_rules.proofs.SetLaws.{words-none}
use Rattle.wire.proofs.ZigzagLaws.{reached-most}
use Rattle.field_table.proofs.LineLaws.{zeros-long}
use Rattle.locmaf_read_set.proofs.ReadableLaws.{was-small}
use Rattle.locmaf_read_set.proofs.LastLaws.{refused}

same_count : (m n : ℕ) → Some m ≡ Some n → m ≡ n
same_count m n e = cc

-- a count that was reached keeps the maximum
count_most : (coding : Coding) (m : Option (List ℕ)) (old n : ℕ) → old ≤ samples_most → count_from coding m old ≡ Some n → n ≤ samples_most
unfolding count_from
count_most coding None old n h e = let z : old ≡ n = same_count old n e in omega arith
count_most coding (Some []) old n h e = let z : old ≡ n = same_count old n e in omega arith
count_most coding (Some (z ∷ zs)) old n h e = reached-most coding old samples_most z n e

pub found-few : (t : Track) (delta : Bool) (r : List ℕ) (a : Against) → a ≡ against_of t delta r → t.iv_size ≤ 16 → (delta ≡ true → lawful t r ≡ true)
    → (m : Option (List ℕ)) (g : Option ℕ) → g ≡ count_from a.coding m a.was.count → (n : ℕ) → g ≡ Some n → n ≤ samples_most
found-few t delta r a ea iv law m g eg n en = count_most a.coding m a.was.count n (rw ea (was-small t delta r iv law).count) (sym eg ∙ en)

module _ (F : List Row) (o index : List ℕ) (t : Track) (delta : Bool) (r : List ℕ) (a : Against) (ea : a ≡ against_of t delta r) (g : Option ℕ)
    (eg : g ≡ count_from a.coding (scalar_in index 14) a.was.count) where
  -- the count that code finds
  count-found : count_reached t delta r (says_in F o index) ≡ g
  unfolding count_reached
  count-found = sym (eg ∙ rw (ea, scalar-says F o index 14 refl))

  held-is : a.held ≡ delta
  held-is = ap (λ (z : Against). z.held) ea

  module _ (words : length r ≡ set_len) (iv : t.iv_size ≤ 16) (law : delta ≡ true → lawful t r ≡ true) where
    -- no count is reached
    pub refuse-count : g ≡ None → (b : Bool) (gone : List ℕ) → MarkedAs r (says_in F o index) b gone → not b ≡ false → (x : List ℕ) → x ≡ replicate set_len 0
        → ReadAs (set_rungs t delta r (says_in F o index)) (new_words t delta r (says_in F o index) 0) 15 x
    unfolding set_rungs
    refuse-count e b gone m q x ex =
        refused _ _ 15 x (λ z. omega arith)
        (passed _ 14 _ (λ k. k) 0 (held m.answered q) (broken _ 15 _ (λ k. k) 0 (rw (count-found ∙ e))))
        (zeros-long ex)

    module _ (n : ℕ) (en : g ≡ Some n) where
      pub found-count : count_reached t a.held r (says_in F o index) ≡ Some n
      found-count = rw held-is (count-found ∙ en)

      -- what the fields are read from
      pub readable : Telling F o index → (b : Bool) (gone : List ℕ) → MarkedAs r (says_in F o index) b gone → not b ≡ false → Readable F o index gone t a r
      readable h b gone m q =
          record {
            marked = all-marked F o index h gone (m.marked (held refl q));
            against = ea ∙ ap (λ (d : Bool). against_of t d r) (sym held-is);
            words = words;
            lawful = rw held-is law;
            iv = iv;
          }

      -- the fields were read
      pub read-on : (b : Bool) (gone : List ℕ) → MarkedAs r (says_in F o index) b gone → not b ≡ false → (k : ℕ) (x : List ℕ)
          → ReadAs (field_rungs t a.held r (says_in F o index)) (new_words t a.held r (says_in F o index) 0) k x
          → ReadAs (set_rungs t delta r (says_in F o index)) (new_words t delta r (says_in F o index) 0) k x
      unfolding set_rungs
      read-on b gone m q k x h =
          let f : ReadAs (field_rungs t delta r (says_in F o index)) (new_words t delta r (says_in F o index) 0) k x = rw held-is at h in
          record {
            answered = passed _ 14 _ (λ k. k) 0 (held m.answered q) (passed _ 15 _ (λ k. k) 0 (rw (count-found ∙ en)) f.answered);
            stored = f.stored;
            long = f.long;
          }

-- an id may not be deleted
pub refuse-deletions : (t : Track) (delta : Bool) (r : List ℕ) (says : Says) (b : Bool) (gone : List ℕ) → MarkedAs r says b gone → not b ≡ true
    → (x : List ℕ) → x ≡ replicate set_len 0 → ReadAs (set_rungs t delta r says) (new_words t delta r says 0) 14 x
unfolding set_rungs
refuse-deletions t delta r says b gone m q x ex =
    refused _ _ 14 x (λ z. omega arith) (broken _ 14 _ (λ k. k) 0 (failed m.answered q)) (zeros-long ex)

-- the words that the fields are stored into
pub words-start-at : (n : ℕ) (x : List ℕ) → x ≡ replicate set_len 0 → set x 1 n ≡ set_words 0 n no_fields
words-start-at n x e = ap (λ (z : List ℕ). set z 1 n) e ∙ words-none n
