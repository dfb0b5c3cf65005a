-- The incident's receiver doesn't join. Assumes nothing.
use Prim.Native.Nat.{ℕ, ◌+◌, ◌-◌}
use native.Mathlib.Omega.{arith}
use mathlib.Core.Path.{◌≡◌, refl, sym, ◌∙◌, ap}
use mathlib.Core.Bool.{false}
use mathlib.Core.List.{List, [], ◌∷◌}
use lib.ListN.{length, get_or, replicate, drop}
use Rattle.laws.specs.Bytes.{be, de}
use Rattle.laws.specs.Gate.{gate}
use Rattle.laws.specs.Ladder.{ladder}
use Rattle.laws.specs.Tests.{sum, all_zero, all_le, ◌and◌, among}
use Rattle.wire.specs.Form.{by_first}
use Rattle.wire.specs.Varint.{read_f}
use Rattle.wire.specs.Zigzag.{reached, ranged, unzigzag}
use Rattle.media.specs.Flags.{wide_of}
use Rattle.track.specs.Track.{lawful}
use Rattle.field_set.specs.Lawful.{in_use, has, values_of, same_iv_size, lawful as lawful_set, regions_ok, region_ok, saiz_ok, set_rules}
use Rattle.field_table.specs.Lines.{line_for, line_number, absent_value, wanted, lines, marks_of, every}
use Rattle.told_sizes.specs.Told.{may_have, sizes_agree, samples_agree, told_sum}
use Rattle.share_words.specs.Share.{share_len, held_at, dropped}
use Rattle.slots.specs.Share.{asked_of, open_ok, lawful as lawful_share, set_ok, reference_ok, prft_ok, expected_ok, last_ok, opened, is_open}
use Rattle.counters.specs.Protected.{last_protected, last_fits}
use Rattle.locmaf_read_block.specs.Entries.{entry, body, entries_at, says, readable, content, member, lawful as lawful_entries, known}
use Rattle.locmaf_read_block.specs.Front.{wholly, taken}
use Rattle.locmaf_read_block.specs.Numbers.{numbers_run, number_front, numbers_f}
use Rattle.locmaf_read_block.specs.Records.{number}
use Rattle.locmaf_read_block.specs.Tuples.{tuple_front, tuple_f, body_f, tuples_f, kind_of, tuples_run}
use Rattle.boxes.specs.Box.{full_box, box}
use Rattle.cmaf_write_moof.specs.Moof.{protection, trun_flags, moof_whole, tfhd_box, plain, mfhd_box, trun_rows, tfhd_flags, trun_box, tfdt_box, trun_row, moof_box}
use Rattle.cmaf_write_emsg.specs.Emsg.{emsg_boxes}
use Rattle.cmaf_write_prelude.specs.Prelude.{styp_box, prft_box}
use Rattle.effective.specs.Sizes.{size_of}
use Rattle.cmaf_write_front.specs.Front.{front}
use Rattle.locmaf_read_field.specs.Cells.{sent_list, sent_one, carried, cell_of}
use Rattle.field_rules.specs.Fields.{packed, old_values}
use Rattle.locmaf_read_said.specs.Said.{saying_of}
use Rattle.field_rules.specs.Words.{regions_of, region_of, set_words}
use Rattle.locmaf_read_said.specs.Deletions.{moof_field, deletions_ok}
use Rattle.locmaf_read_set.specs.Read.{count_reached, stands, subsamples, count_from, set_rungs, brands_fit, came, came_of, field_rungs, count_of}
use Rattle.effective.specs.Durations.{durations_of}
use Rattle.effective.specs.Expected.{expected_by}
use Rattle.locmaf_read_times.specs.Bmdt.{bmdt_of}
use Rattle.locmaf_read_head.specs.Ids.{ids_ok}
use Rattle.locmaf_read_times.specs.Prft.{prft_of}
use Rattle.effective.specs.Sums.{samples_ok, sizes_ok, protected_ok}
use Rattle.locmaf_read_events.specs.Values.{all_fit, listed, fits, boxed}
use Rattle.reference.specs.Kept.{prft_words, expected_after, last_after, kept_words}
use Rattle.receiver.specs.Object.{tuples, length_at, reads, is_delta, block_reads, header_id, block_end, entries, payload, header_reads, head_rungs, block_at, block_length}
use Rattle.receiver.specs.Receive.{receiving, told_set, left_out, ivs_fit, new_set, sums_ok, split_rungs, held_ok, ids_right, values_ok, accepted, bmdt, sequence, value_rungs, receive_rungs, events, chunk, prft}
use Rattle.answers.specs.Refusals.{after_refusal}
use Rattle.cmaf_read_facts.specs.Given.{F}
use Rattle.false_codecs.specs.Example.{parameters}
use Rattle.demands.specs.Three.{receives}
use Rattle.demands.specs.Join.{outs, share_after, Joins}
use Rattle.false_codecs.specs.Incident.{flags_at, stale_flag}

-- two full objects of one sample: the first says its flags (id 12), the second doesn't
abbrev flagged : List ℕ
flagged = 23 ∷ 6 ∷ 10 ∷ 5 ∷ 14 ∷ 1 ∷ 12 ∷ 2 ∷ 1 ∷ 2 ∷ 3 ∷ 4 ∷ []

abbrev bare : List ℕ
bare = 23 ∷ 4 ∷ 10 ∷ 6 ∷ 14 ∷ 1 ∷ 1 ∷ 2 ∷ 3 ∷ 4 ∷ []

abbrev room : List ℕ
room = replicate 200 0

-- a delta that says nothing
abbrev delta : List ℕ
delta = 25 ∷ 0 ∷ 1 ∷ 2 ∷ 3 ∷ 4 ∷ []

-- the receiver's share after the first, and after both; and after the second alone
abbrev middle : List ℕ
middle = (stale_flag flagged room (opened parameters)).words

abbrev old : List ℕ
old = (stale_flag bare room middle).words

abbrev new : List ℕ
new = (stale_flag bare room (opened (asked_of middle))).words

-- what the checker computes
record Computed : Type 0 where
  long : length (opened parameters) ≡ share_len
  full : is_delta F bare ≡ false
  done : (stale_flag bare room middle).answer.number ≡ 0
  stands : get_or (drop held_at old) (flags_at - held_at) 0 ≡ 1
  lacks : get_or (drop held_at new) (flags_at - held_at) 0 ≡ 0
  shows : (stale_flag delta room old).answer.front ≡ 104
  right : (stale_flag delta room new).answer.front ≡ 100

computed : Computed
unfolding flags_at be de gate ladder sum all_zero all_le ◌and◌ by_first read_f reached ranged unzigzag wide_of lawful in_use has values_of same_iv_size lawful_set regions_ok
    marks_of region_ok saiz_ok set_rules line_for line_number absent_value wanted lines every may_have sizes_agree samples_agree told_sum open_ok lawful_share dropped set_ok
    reference_ok prft_ok expected_ok expected_by last_ok last_fits opened is_open entry body entries_at says readable content member lawful_entries wholly taken known numbers_run number_front numbers_f number
    tuple_front tuple_f body_f tuples_f kind_of tuples_run full_box box protection trun_flags emsg_boxes styp_box moof_whole tfhd_box plain size_of prft_box mfhd_box trun_rows
    tfhd_flags trun_box tfdt_box trun_row front moof_box sent_list packed sent_one carried old_values cell_of saying_of among regions_of region_of set_words moof_field deletions_ok
    count_reached stands subsamples count_from set_rungs brands_fit came came_of field_rungs count_of durations_of bmdt_of ids_ok prft_of samples_ok sizes_ok protected_ok all_fit
    listed fits boxed prft_words kept_words expected_after last_after last_protected tuples length_at reads is_delta block_reads header_id block_end entries payload header_reads head_rungs block_at block_length receiving
    new_set told_set left_out ivs_fit sums_ok split_rungs held_ok ids_right values_ok after_refusal accepted bmdt sequence value_rungs receive_rungs events chunk prft
computed = record { long = refl; full = refl; done = refl; stands = refl; lacks = refl; shows = refl; right = refl }

-- it doesn't join: the flags of the first object stay in the reference of the one share, and were never in that of the other
pub stale-flag-found : Joins stale_flag → ⊥
unfolding outs share_after
stale-flag-found m =
    let c = computed in
    let same : drop held_at old ≡ drop held_at new =
    (m (opened parameters) c.long (receives 0 flagged room ∷ []) 0 bare room [] tt c.full c.done).0.reference in
    let z : ◌≡◌ {A = ℕ} 1 0 = sym c.stands ∙ ap (λ (l : List ℕ). get_or l (flags_at - held_at) 0) same ∙ c.lacks in
    omega (arith, z)

-- and people see it: the chunk of the next delta has four bytes more, the old flags
pub stale-flag-shows : (stale_flag delta room old).answer.front ≡ (stale_flag delta room new).answer.front + 4
stale-flag-shows = computed.shows ∙ sym (ap (λ (n : ℕ). n + 4) computed.right)
