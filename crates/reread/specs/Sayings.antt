-- What the items of a field say of it, and what is then said of a whole set.
-- ==== What only proofs need
use Rattle.std.specs.Prelude.{ℕ, ◌<◌, ◌≡◌, Bool, true, cond, List, [], ◌∷◌, eqb, get_or, Option, Some, None}
use Rattle.wire.specs.Zigzag.{wire_of}
use Rattle.runs.specs.Run.{first}
use Rattle.locmaf_read_block.specs.Wires.{wires}
use Rattle.track.specs.declared.Track.{Track}
use Rattle.field_table.specs.declared.lines.Line.{Line}
use Rattle.field_table.specs.Lines.{lines, spare, count_at, absent_value, line_count}
use Rattle.locmaf_read_said.specs.Said.{Says, Saying, saying}
use Rattle.field_rules.specs.Fields.{numbers, coding_for, coding_of, is_ivs}
use Rattle.locmaf_read_set.specs.Read.{count_reached, brands_fit}
use Rattle.locmaf_write_block.specs.declared.cells.Change.{Change}
use Rattle.locmaf_write_block.specs.declared.cells.Change.TheVariants.{Omitted, Deleted, Sent}
use Rattle.locmaf_write_tuples.specs.Items.{wide_bytes}
use Rattle.locmaf_write_block.specs.Changes.{news, olds, change_of}
use Rattle.locmaf_write_block.specs.Fields.{is_deleted, gone_of}

-- what stands of a change: the numbers of one that is sent
abbrev pub numbers_by : Change → List ℕ → Option (List ℕ)
numbers_by Omitted zs = None
numbers_by Deleted zs = None
numbers_by Sent zs = Some zs

module _ (t : Track) (delta : Bool) (r x : List ℕ) (l : Line) where
  -- the numbers of a field that is sent: the bytes of the IVs, one number, or a list
  unfoldable pub sent_numbers : List ℕ
  sent_numbers =
      let coding = coding_of (coding_for delta) l.absent in
      let base = absent_value t l.absent in
      cond (is_ivs l.want) (wide_bytes (news t delta r x l))
      (cond (eqb l.room 1) (wire_of coding (first base (olds t delta r x l)) (first 0 (news t delta r x l)) ∷ [])
      (wires coding base (olds t delta r x l) (news t delta r x l)))

module _ (t : Track) (delta follow : Bool) (r x : List ℕ) (l : Line) where
  -- what stands for its id
  unfoldable pub line_says : Option (List ℕ)
  line_says = numbers_by (change_of t delta follow r x l) (sent_numbers t delta r x l)

  -- and what is said of it, with the ids that are deleted
  unfoldable pub line_saying : Saying
  line_saying = saying line_says (is_deleted (change_of t delta follow r x l))

-- all that a set x is read from: its fields, the ids that are deleted, how many samples there are, and brands that fit
pub record SetSaid (t : Track) (delta follow : Bool) (r x : List ℕ) (f : Says) : Type 0 where
  pub line : (i : ℕ) → i < line_count → f (get_or lines i spare).id ≡ line_says t delta follow r x (get_or lines i spare)
  pub gone : numbers (f 27) ≡ gone_of t delta follow r x lines
  pub count : count_reached t delta r f ≡ Some (get_or x count_at 0)
  pub brands : brands_fit (f 23) ≡ true
