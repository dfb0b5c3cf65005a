-- A field of IVs of which an object says nothing is room of zeros, where it stands. Assumes nothing.
use Prim.Native.Nat.{ℕ, ◌≤◌, ◌<◌}
use native.Mathlib.Omega.{arith}
use mathlib.Core.Path.{◌≡◌, refl, sym, ◌∙◌, ap}
use mathlib.Core.Bool.{Bool, true, false, false≢true, cond}
use mathlib.Core.List.{List}
use Rattle.std.specs.Prelude.{Some, None}
use lib.ListN.{length, replicate, length-replicate}
use Rattle.laws.specs.Options.{is_some}
use Rattle.laws.specs.Tests.{among}
use Rattle.wire.specs.declared.zigzag.Coding.{Coding}
use Rattle.track.specs.declared.Track.{Track}
use Rattle.field_table.specs.declared.lines.Want.TheVariants.{Ivs}
use Rattle.field_table.specs.declared.lines.Line.{Line}
use Rattle.field_table.specs.declared.lines.Measure.{Measure}
use Rattle.field_table.specs.Lines.{lines, line_for, line_number, set_len, wanted, line_count}
use Rattle.field_set.specs.Lawful.{has, values_of, lawful}
use Rattle.locmaf_read_said.specs.Said.{Says, unsent, saying, saying_of}
use Rattle.locmaf_read_field.specs.Cells.{well, carried, cell_of}
use Rattle.field_rules.specs.Fields.{Held, numbers, coding_for, stood}
use Rattle.field_rules.specs.Words.{was_of}
use Rattle.field_rules.proofs.SetLaws.{words-has, words-values}
use Rattle.locmaf_read_set.specs.Read.{came_of, came, field_of, new_words}
use Rattle.locmaf_read_set.proofs.CameLaws.{no_field, same-field}
use Rattle.locmaf_read_set.proofs.NewSetLaws.{Taken, lengths, new-fits}

-- the field of id 9 is of IVs
nine-ivs : (line_for 9 lines).want ≡ Ivs
unfolding line_for lines
nine-ivs = refl

-- its line has its id
nine-id : (line_for 9 lines).id ≡ 9
unfolding line_for lines
nine-id = refl

-- id 9 is in the table
pub nine-known : line_number 9 lines < line_count
unfolding line_number lines
nine-known = omega arith

-- an id of which nothing is said is omitted, or deleted
said-none : (says : Says) (id : ℕ) → says id ≡ None → saying_of says id ≡ unsent (among id (numbers (says 27)))
unfolding saying_of
said-none says id e = ap (λ o. saying o (among id (numbers (says 27)))) e

-- IVs that are not sent: b says that they are deleted
left-cell : (t : Track) (coding : Coding) (held : Bool) (r : List ℕ) (was : Measure) (l : Line) (m : Measure) → l.want ≡ Ivs → (b : Bool) (vs : List ℕ)
    → (cell_of t coding held r was l m (unsent b)).field ≡ Some vs → vs ≡ replicate (wanted Ivs m) 0
unfolding cell_of carried
left-cell t coding held r was l m w true vs e = no_field e
left-cell t coding held r was l m w false vs e = go (stood held r l) (rw w at e)
  where
    go : (b : Bool) → (cond b (well (Some (replicate (wanted Ivs m) 0))) (well None)).field ≡ Some vs → vs ≡ replicate (wanted Ivs m) 0
    go true q = sym (same-field q)
    go false q = no_field q

-- a field whose values are known is known where it is there
held-is : (h : Held) (ws : List ℕ) → ((vs : List ℕ) → h ≡ Some vs → vs ≡ ws) → is_some h ≡ true → h ≡ Some ws
held-is None ws k e = absurd (false≢true e)
held-is (Some vs) ws k e = ap Some (k vs refl)

module _ (t : Track) (delta : Bool) (r : List ℕ) (says : Says) (unsaid : says 9 ≡ None) where
  -- the field of id 9, where nothing is said of it
  pub left-zeros : (vs : List ℕ) → field_of t delta r says (line_for 9 lines) ≡ Some vs → vs ≡ replicate (wanted Ivs (lengths t delta r says)) 0
  unfolding came came_of
  left-zeros vs e =
      let q : saying_of says (line_for 9 lines).id ≡ unsent (among 9 (numbers (says 27))) = rw nine-id (said-none says 9 unsaid) in
      left-cell t (coding_for delta) delta r (was_of t delta r) (line_for 9 lines) (lengths t delta r says) nine-ivs (among 9 (numbers (says 27))) vs
      (rw (field_of, q) at e)

  module _ (words : length r ≡ set_len) (good : delta ≡ true → lawful t r ≡ true) (k : Taken t delta r says) (iv : t.iv_size ≤ 16) (bmdt : ℕ)
      (stands : has 9 (new_words t delta r says bmdt) ≡ true) where
    -- it is known where it stands in the new words
    pub left-field : field_of t delta r says (line_for 9 lines) ≡ Some (replicate (wanted Ivs (lengths t delta r says)) 0)
    left-field =
        held-is (field_of t delta r says (line_for 9 lines)) _ left-zeros
        (sym (words-has bmdt _ (field_of t delta r says) (new-fits t delta r says words good k iv) 9 nine-known) ∙ stands)

    -- and its values there are zeros
    pub left-values : values_of 9 (wanted Ivs (lengths t delta r says)) (new_words t delta r says bmdt) ≡ replicate (wanted Ivs (lengths t delta r says)) 0
    left-values =
        words-values bmdt _ (field_of t delta r says) (new-fits t delta r says words good k iv) 9 nine-known (wanted Ivs (lengths t delta r says))
        (λ vs e. ap length (left-zeros vs e) ∙ length-replicate {A = ℕ} (wanted Ivs (lengths t delta r says)) 0)
        ∙ ap numbers left-field
