-- What is counted of a second receiver.
use Rattle.std.specs.Prelude.{ℕ, ◌+◌, Bool, true, ◌==◌, ◌&&◌, if◌then◌else◌, Option, Some, None}
use Rattle.std.specs.Option.{option_or}
use Rattle.accounts.specs.Counts.{saturating_add}
use Rattle.accounts.specs.declared.joins.Join.{Join}
use Rattle.accounts.specs.declared.joins.Joins.{Joins}

-- two differences are the same, where both are known
abbrev pub is_same_if_known : Option ℕ → Option ℕ → Bool
is_same_if_known (Some a) (Some b) = a == b
is_same_if_known (Some a) None = true
is_same_if_known None d = true

-- after a full object: the second receiver starts at the one with the number `at`
abbrev pub after_full : Join → ℕ → ℕ → Join
after_full j at chunk =
    let full = saturating_add j.full 1 in
    record j { full = full; chunk = (if full == at then Some chunk else j.chunk) }

-- after an object that both receivers got: the first difference that is known stays, and so does the first chunk that is not the same
abbrev pub after_object : Join → ℕ → Bool → Option ℕ → Join
after_object j chunk same less =
    record j {
      objects = saturating_add j.objects 1;
      less = option_or j.less less;
      differs = option_or j.differs (if same && is_same_if_known j.less less then None else Some chunk);
    }

-- 1 where there is a value
abbrev pub one_if_some : Option ℕ → ℕ
one_if_some (Some n) = 1
one_if_some None = 0

-- with a further track
abbrev pub with_track : Joins → Join → Joins
with_track all j =
    record {
      tracks = saturating_add all.tracks (one_if_some j.chunk);
      objects = saturating_add all.objects j.objects;
      differs = option_or all.differs j.differs;
    }
