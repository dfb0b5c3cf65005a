-- Words and numbers that stand in text.
use Rattle.std.specs.Prelude.{ℕ, ◌<◌, Bool, ◌||◌, ◌==◌, List, Option}
use Rattle.std.specs.List.{before_first}
use Rattle.std.specs.Option.{SomeIff}
use Rattle.std.specs.Str.Parse.{IsNumeral, digits_value}
use Rattle.track.specs.declared.Asked.{Asked}

-- a space, a tab or the end of a line
abbrev pub is_blank : ℕ → Bool
is_blank b = b == 32 || b == 9 || b == 13 || b == 10

-- what stands before the first blank, or all where there is none
abbrev pub first_word : List ℕ → List ℕ
first_word line = before_first is_blank line

-- no number is as large as 10^19
abbrev pub limit : ℕ
limit = 10_000_000_000_000_000_000

-- the number that a word of one decimal digit or more writes; none where the word is another, or the number is at the limit or past it
abbrev pub IsNumberOf : List ℕ → Option ℕ → Type 0
IsNumberOf word o = SomeIff o (IsNumeral 10 word × (digits_value 10 word < limit)) (digits_value 10 word)

-- each parameter is below the limit
abbrev pub IsBelowLimit : Asked → Type 0
IsBelowLimit a =
    (a.track < limit)
    × (a.timescale < limit)
    × (a.description < limit)
    × (a.duration < limit)
    × (a.size < limit)
    × (a.flags < limit)
    × (a.protection < limit)
    × (a.iv_size < limit)
