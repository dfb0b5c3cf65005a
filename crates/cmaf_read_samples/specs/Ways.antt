-- How a column's value stands in the set.
use Rattle.std.specs.Prelude.{ℕ, List, map}
use Rattle.field_rules.specs.Fields.{words_of}
use Rattle.media.specs.Flags.{five_of}
use Rattle.cmaf_read_trun.specs.declared.rows.Run.{Run}
use Rattle.cmaf_read_trun.specs.Rows.{has_column}
use Rattle.cmaf_read_trun.specs.Samples.{column_of}
use Rattle.cmaf_read_samples.specs.declared.cells.Way.{Way}
use Rattle.cmaf_read_samples.specs.declared.cells.Way.TheVariants.{Plain, Raised, Five}
use Rattle.cmaf_read_samples.specs.Held.{held_if, raised}

-- ==== What only mirrors the code

abbrev pub value_of : Way → ℕ → ℕ
value_of Plain v = v
value_of Raised v = raised v
value_of Five v = five_of v

-- the words of the field that has a column's values, where the column stands
abbrev pub column_words : Way → List ℕ → Run → ℕ → List ℕ
column_words way c r column = words_of (held_if (has_column r column) (map (value_of way) (column_of c r column)))
