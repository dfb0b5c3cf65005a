-- `locmaf_read_set::read::take_standing` meets its contract: what it hands on is what `finish_fields` asks for.
use native.Mathlib.Omega.{arith}
use mathlib.Core.Path.{refl, ◌∙◌}
use Rattle.locmaf_read_set.proofs.RungLaws.{measured, start-long}
use Rattle.locmaf_read_set.proofs.read.take_standing.Goals as goal

pub standing-requires : goal.standing-requires
standing-requires c =
    let p = c.requires in
    (p.readable.marked.words, p.readable.marked.gone-words, p.readable.words)

pub take_lines-b-requires : goal.take_lines-b-requires
take_lines-b-requires c =
    let p = c.requires in
    record {
      readable = p.readable;
      measured = (
        measured c.args.t _ 0 p.readable.iv p.n_le_samples_most.0 (omega arith),
        omega arith,
        omega arith,
        start-long _ _ p.n_le_samples_most.2,
      );
      marks_value = c.standing.ensures;
    }

pub slice_reshared_read-tally_of : goal.slice_reshared_read-tally_of
slice_reshared_read-tally_of c = omega (arith, c.take_lines-b.ensures.long, start-long _ _ c.requires.n_le_samples_most.2)

pub tally_of-c-requires : goal.tally_of-c-requires
tally_of-c-requires c =
    let p = c.requires in
    record {
      w_len = c.take_lines-b.ensures.long ∙ start-long _ _ p.n_le_samples_most.2;
      n_le_samples_most = (p.n_le_samples_most.0, p.readable.iv);
      mark_value = refl;
    }

pub take_lines-e-requires : goal.take_lines-e-requires
take_lines-e-requires c =
    let p = c.requires in
    record {
      readable = p.readable;
      measured = (
        measured c.args.t _ 0 p.readable.iv p.n_le_samples_most.0 (omega arith),
        omega arith,
        omega arith,
        c.take_lines-b.ensures.long ∙ start-long _ _ p.n_le_samples_most.2,
      );
      marks_value = c.standing.ensures;
    }

pub finish_fields-requires : goal.finish_fields-requires
finish_fields-requires c =
    let p = c.requires in
    record {
      readable = p.readable;
      marks_value = c.standing.ensures;
      front_taken = record {
        start = _;
        eleven = _;
        few = p.n_le_samples_most.0;
        lengths = refl;
        reached = p.n_le_samples_most.1;
        empty = p.n_le_samples_most.2;
        pairs = c.take_lines-b.ensures;
        tally = c.tally_of-c.ensures;
        others = c.take_lines-e.ensures;
      };
    }

pub shape_of-x : goal.shape_of-x
shape_of-x c = omega (arith, c.finish_fields.ensures.long, start-long _ _ c.requires.n_le_samples_most.2)

pub returns : goal.returns
returns c = c.finish_fields.ensures
