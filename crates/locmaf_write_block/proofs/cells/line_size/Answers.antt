-- `locmaf_write_block::cells::line_size` meets its contract.
use native.Mathlib.Omega.{arith}
use mathlib.Core.Path.{sym, ◌∙◌}
use mathlib.Core.Logic.{inl, inr}
use Rattle.wire.specs.Form.{rows}
use Rattle.locmaf_write_tuples.proofs.ItemLaws.{weighed-nothing, weighed-as}
use Rattle.locmaf_write_block.proofs.AbsentLaws.{chunk-mark, absent-at}
use Rattle.locmaf_write_block.proofs.ChangeLaws.{sent-stands, line-sent, line-unsent}
use Rattle.locmaf_write_block.proofs.cells.line_size.Goals as goal

pub offset_bounds-x-place : goal.offset_bounds-x-place
offset_bounds-x-place c =
    let w = c.requires.based.0.new-words in
    omega (arith, chunk-mark _ c.requires.i_lt_chunk_lines _ c.place_at-place.ensures c.args.x.now w, w)

pub bounds-x-place : goal.bounds-x-place
bounds-x-place c = chunk-mark _ c.requires.i_lt_chunk_lines _ c.place_at-place.ensures c.args.x.now c.requires.based.0.new-words

pub returns-then-x-place-eq0 : goal.returns-then-x-place-eq0
returns-then-x-place-eq0 c =
    let a = c.args in
    weighed-as
    (absent-at (rows a.form) a.t a.b.delta a.b.follow a.r.now a.x.now _ c.requires.i_lt_chunk_lines _ c.place_at-place.ensures c.if-x-place-eq0.true)
    weighed-nothing

pub change_of-change-requires : goal.change_of-change-requires
change_of-change-requires c =
    record {
      chunk_line = record { number = c.args.i; below = c.requires.i_lt_chunk_lines; found = c.line_at-l.ensures };
      based = (c.args.t, c.requires.based);
    }

pub sent_size-requires : goal.sent_size-requires
sent_size-requires c =
    let a = c.args in
    record {
      based = c.requires.based;
      chunk_line = record { number = a.i; below = c.requires.i_lt_chunk_lines; found = c.line_at-l.ensures };
      l_value = sent-stands a.t a.b.delta a.b.follow a.r.now a.x.now _ (sym (c.change_of-change.ensures a.t c.requires.based) ∙ c.in-Sent.is);
    }

pub returns-in-Omitted : goal.returns-in-Omitted
returns-in-Omitted c =
    let a = c.args in
    weighed-as
    (line-unsent (rows a.form) a.t a.b.delta a.b.follow a.r.now a.x.now _ _ c.line_at-l.ensures
    _ (c.change_of-change.ensures a.t c.requires.based)
    (λ e. elim c.in-Omitted.is [ inl p ↦ cc | inr p ↦ cc ]))
    weighed-nothing

pub returns-in-Sent : goal.returns-in-Sent
returns-in-Sent c =
    let a = c.args in
    weighed-as
    (line-sent (rows a.form) a.t a.b.delta a.b.follow a.r.now a.x.now _ _ c.line_at-l.ensures
    _ (c.change_of-change.ensures a.t c.requires.based) c.in-Sent.is)
    c.sent_size.ensures
