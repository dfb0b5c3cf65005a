-- What the checker computes of the example: no rule refuses it, its numbers fit a full object, its payload and its time. Assumes nothing.
use Prim.Native.Nat.{ℕ, ◌-◌, ◌^◌}
use mathlib.Core.Path.{◌≡◌, refl}
use mathlib.Core.Bool.{Bool, true, false, or-true}
use mathlib.Core.List.{List, [], ◌∷◌, ◌++◌}
use lib.Dec.{leb}
use Rattle.laws.specs.ByLength.{within, by_length}
use Rattle.laws.specs.Bytes.{de}
use Rattle.laws.specs.Tests.{◌and◌, all_le, sum, same}
use Rattle.laws.specs.Ladder.{Hold}
use Rattle.laws.proofs.TestLaws.{both}
use Rattle.wire.specs.Form.{by_value, limit}
use Rattle.wire.specs.Zigzag.{zigzag, wire_of, fitted, code_of}
use Rattle.runs.specs.Run.{measured, run_of}
use Rattle.media.specs.Flags.{wide_of, five_of, only}
use Rattle.cmaf_read_tree.specs.Whole.{size_of, kind_of, inside_of, after_of, sized, container, whole}
use Rattle.track.specs.declared.Track.{Track}
use Rattle.track.specs.Track.{narrow}
use Rattle.field_table.specs.Lines.{lines, wanted, absent_value}
use Rattle.cmaf_read_shape.specs.Parts.{body_of, any_at, box_at}
use Rattle.cmaf_read_shape.specs.Top.{emsgs, emsgs_from, top_of, top_ok}
use Rattle.cmaf_read_shape.specs.Inner.{pick_of, last_of, traf_of, inner_of, three_or_none, inner_ok}
use Rattle.slots.specs.Share.{param_words}
use Rattle.event_value.specs.Events.{events_from}
use Rattle.cmaf_read_prelude.specs.Styp.{styp_ok, brands_in, minor_version}
use Rattle.cmaf_read_prelude.specs.Prft.{prft_ok, prft_track, prft_of}
use Rattle.cmaf_read_prelude.specs.Emsg.{emsgs_ok, emsg_words}
use Rattle.cmaf_read_moof.specs.Defaults.{fields_in, tfhd_flags_ok, tfhd_ok, is_field, field_of}
use Rattle.cmaf_read_moof.specs.Headers.{mfhd_ok, tfdt_ok, bmdt_of}
use Rattle.cmaf_read_trun.specs.Rows.{columns_in, run_flags_ok, run_head, run_width, trun_ok, first_flags, is_column, has_column, cell, size_at}
use Rattle.cmaf_read_trun.specs.Samples.{each_from, column_of, sizes_of}
use Rattle.cmaf_read_senc.specs.Entries.{senc_ok, senc_count, senc_filled, entries_in, entries_of, subsamples}
use Rattle.cmaf_read_senc.specs.Sizes.{saiz_ok, saiz_count, saio_ok}
use Rattle.field_rules.specs.Fields.{old_values}
use Rattle.field_rules.specs.Words.{region_of, regions_of, set_words}
use Rattle.cmaf_read_samples.specs.Held.{held_if}
use Rattle.cmaf_read_samples.specs.Sizes.{all_same}
use Rattle.cmaf_read_set.specs.Set.{held_for, chunk_set}
use Rattle.locmaf_write_events.specs.Records.{list_bytes}
use Rattle.cmaf_read_rules.specs.Rules.{clocks_ok, outer_ok, offset_ok, flags_ok, offsets_ok, sizes_ok, unprotected_ok, rules_ok}
use Rattle.cmaf_read_trun.specs.Columns.{all_only}
use Rattle.laws.specs.Options.{is_some}
use Rattle.cmaf_read_chunk.specs.Accepted.{brands_of, bmdt, boxes, prft, brands, payload, events, fields, counts_ok, maxima_ok, late_rungs, accept_rungs}
use Rattle.cmaf_read_boxes.specs.Right.{boxes_ok}
use Rattle.locmaf_write_tuples.specs.Items.{◌before◌, items_if, number_item, run_item}
use Rattle.locmaf_write_block.specs.Changes.{change_of, sent_items, line_items}
use Rattle.counters.specs.Follow.{ivs_follow}
use Rattle.locmaf_write_block.specs.Fields.{gone_of, bmdt_stands, count_stands, lines_items, bmdt_if, bmdt_items, count_items, field_items, deletion_items}
use Rattle.locmaf_write_prft.specs.Prft.{times_items, unless_items, version_items, flags_items}
use Rattle.encoder.specs.Object.{brand_items, event_items, leaves_out, block_items, gives_delta, fits_ok}
use Rattle.meaning.specs.Meaning.{meaning_of}
use Rattle.cmaf_read_facts.specs.Given.{F}
use Rattle.false_codecs.specs.Example.{parameters, example}

-- a share with the example's parameters, whatever else it holds
abbrev pub with : List ℕ → List ℕ
with rest = param_words parameters ++ rest

-- of the example with the byte y of its BMDT, which is then this time
pub record Computed (y time : ℕ) : Type 0 where
  pub bytes : (x : ℕ) → all_le 255 (x ∷ []) ≡ true → all_le 255 (example y x) ≡ true
  pub accepts : (x : ℕ) → Hold (accept_rungs F (narrow parameters) (example y x))
  pub small : (x : ℕ) → leb (bmdt (example y x)) (2 ^ 62 - 1) ≡ true
  pub full : (x : ℕ) (rest : List ℕ) → is_some (block_items F (with rest) (example y x) false) ≡ true
  pub payload-is : (x : ℕ) → payload (example y x) ≡ x ∷ 2 ∷ 3 ∷ 4 ∷ []
  pub time-is : (t : Track) (x : ℕ) → (meaning_of t (example y x)).bmdt ≡ time

computed : Computed 0x77 96000 × Computed 0x7b 97024
unfolding example within by_length de ◌and◌ all_le sum by_value limit zigzag wire_of fitted code_of measured run_of wide_of five_of only size_of kind_of inside_of after_of sized
    container whole lines wanted absent_value body_of any_at box_at emsgs emsgs_from top_of top_ok pick_of last_of traf_of inner_of three_or_none inner_ok events_from styp_ok brands_in
    minor_version prft_ok prft_track prft_of emsgs_ok emsg_words fields_in tfhd_flags_ok tfhd_ok is_field field_of mfhd_ok tfdt_ok bmdt_of columns_in run_flags_ok run_head run_width trun_ok
    first_flags is_column has_column cell size_at each_from column_of sizes_of senc_ok senc_count senc_filled entries_in entries_of subsamples saiz_ok saiz_count saio_ok old_values region_of
    regions_of set_words held_if all_same held_for chunk_set list_bytes clocks_ok all_only outer_ok offset_ok flags_ok offsets_ok sizes_ok unprotected_ok rules_ok brands_of bmdt boxes prft
    brands payload events fields boxes_ok counts_ok maxima_ok late_rungs accept_rungs ◌before◌ items_if number_item run_item same change_of sent_items line_items gone_of leaves_out ivs_follow bmdt_stands
    count_stands lines_items bmdt_if bmdt_items count_items field_items deletion_items times_items unless_items version_items flags_items brand_items event_items block_items meaning_of
computed = (
  record {
    bytes = λ x h. h;
    accepts = λ x. (refl, (refl, (refl, (refl, tt))));
    small = λ x. refl;
    full = λ x rest. refl;
    payload-is = λ x. refl;
    time-is = λ t x. refl;
  },
  record {
    bytes = λ x h. h;
    accepts = λ x. (refl, (refl, (refl, (refl, tt))));
    small = λ x. refl;
    full = λ x rest. refl;
    payload-is = λ x. refl;
    time-is = λ t x. refl;
  },
)

-- at 96,000, and one sample later
pub early : Computed 0x77 96000
early = computed.0

pub late : Computed 0x7b 97024
late = computed.1

-- a chunk that fits a full object fits whatever the wish
pub fits : {y time : ℕ} → Computed y time → (wish : Bool) (x : ℕ) (rest : List ℕ) → fits_ok F (with rest) (example y x) wish ≡ true
unfolding fits_ok
fits {y} q wish x rest = both _ _ (q.small x) (rw (q.full x rest) (or-true (gives_delta F (with rest) (example y x) wish)))
