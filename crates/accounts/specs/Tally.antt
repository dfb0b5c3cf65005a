-- What is counted of chunks.
use Rattle.std.specs.Prelude.{ℕ, ◌==◌, if◌then◌else◌, Option, Some, None, Result, Ok, Err, unwrap_or}
use Rattle.std.specs.Option.{option_or}
use Rattle.accounts.specs.Counts.{saturating_add}
use Rattle.accounts.specs.Joins.{one_if_some}
use Rattle.accounts.specs.declared.tally.Sent.{Sent}
use Rattle.accounts.specs.declared.tally.Tally.{Tally}

-- the sums over one chunk alone, which is counted as the one with the number i
abbrev pub of_chunk : ℕ → Result Sent ℕ → Tally
of_chunk i (Err number) =
    record {
      chunks = 1;
      full = 0;
      delta = 0;
      refused = 1;
      cmaf = 0;
      locmaf = 0;
      payload = 0;
      differs = None;
      ivs = 0;
      home = 0;
      spared = 0;
    }
of_chunk i (Ok s) =
    record {
      chunks = 1;
      full = (if s.delta then 0 else 1);
      delta = (if s.delta then 1 else 0);
      refused = 0;
      cmaf = s.cmaf;
      locmaf = s.locmaf;
      payload = s.payload;
      differs = (if s.same then None else Some i);
      ivs = one_if_some s.home;
      home = (if unwrap_or s.home 0 == 0 then 0 else 1);
      spared = unwrap_or s.home 0;
    }

-- the sums over the chunks of both, and the first difference
abbrev pub sums : Tally → Tally → Tally
sums a b =
    record {
      chunks = saturating_add a.chunks b.chunks;
      full = saturating_add a.full b.full;
      delta = saturating_add a.delta b.delta;
      refused = saturating_add a.refused b.refused;
      cmaf = saturating_add a.cmaf b.cmaf;
      locmaf = saturating_add a.locmaf b.locmaf;
      payload = saturating_add a.payload b.payload;
      differs = option_or a.differs b.differs;
      ivs = saturating_add a.ivs b.ivs;
      home = saturating_add a.home b.home;
      spared = saturating_add a.spared b.spared;
    }
