-- `encoder::encode::take_chunk` meets its contract: what was read is handed on.
use Prim.Native.Nat.{ℕ, ◌+◌, ◌-◌}
use native.Mathlib.Omega.{arith}
use mathlib.Core.Path.{◌≡◌, refl, sym, subst}
use mathlib.Core.List.{List}
use borrow.Author.Rules.{part_to_end}
use lib.ListN.{length, take, drop, length-take, length-drop}
use Rattle.wire.specs.Form.{rows}
use Rattle.field_table.specs.Lines.{set_len}
use Rattle.event_value.specs.Events.{events_len}
use Rattle.cmaf_read_chunk.specs.Chunks.{ReadAs}
use Rattle.laws.proofs.HalvesLaws.{front_long}
use Rattle.encoder.proofs.EncodeLaws.{iv-small}
use Rattle.encoder.proofs.encode.take_chunk.Goals as goal

pub read_chunk-read-requires : goal.read_chunk-read-requires
read_chunk-read-requires c =
    record { iv_size_bound = iv-small _ c.args.wish _ c.args.output.now _ _ c.requires; words_value = refl }

pub slice_bounds-take_read-end : goal.slice_bounds-take_read-end
slice_bounds-take_read-end c = sym (front_long events_len set_len c.read_chunk-read.new.words c.read_chunk-read.auto.words)

-- the chunk is read, by the words as `take_read` is lent them
pub take_read-requires : goal.take_read-requires
take_read-requires c =
    let a = c.args in
    let w = c.read_chunk-read.new.words in
    let l : length w ≡ events_len + set_len = c.read_chunk-read.auto.words in
    record {
      on_share = c.requires;
      read_as =
          subst (λ (x : List ℕ). ReadAs (rows a.form) a.t a.c.now c.read_chunk-read.result (take events_len w) x)
          (sym (part_to_end w events_len)) c.read_chunk-read.ensures;
      x_len = omega (arith, length-take (length w - events_len) (drop events_len w), length-drop events_len w, l);
    }

pub returns : goal.returns
returns c = c.take_read.ensures
