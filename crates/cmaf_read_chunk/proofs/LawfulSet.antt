-- The set of moof fields of an accepted chunk is lawful. Assumes nothing.
use Prim.Native.Nat.{ℕ, zero, suc, ◌+◌, ◌≤◌, ◌<◌}
use native.Mathlib.Omega.{arith}
use mathlib.Core.Path.{◌≡◌, refl, sym, ◌∙◌, ap}
use mathlib.Core.Bool.{Bool, true, false, not}
use mathlib.Core.List.{List, ◌∷◌}
use lib.Dec.{eqb}
use lib.ListN.{get_or}
use Rattle.laws.specs.Tests.{all_le}
use Rattle.laws.proofs.TestLaws.{left, and_right}
use Rattle.laws.specs.Ladder.{Hold}
use Rattle.constants.specs.Maxima.{number_most}
use Rattle.wire.specs.declared.form.Row.{Row}
use Rattle.track.specs.declared.Track.{Track}
use Rattle.track.specs.Track.{iv_ok}
use Rattle.cmaf_read_shape.specs.declared.top.Top.{Top}
use Rattle.cmaf_read_shape.specs.declared.inner.Inner.{Inner}
use Rattle.event_value.specs.Events.{Event}
use Rattle.track.proofs.TrackLaws.{iv-size-le}
use Rattle.field_table.specs.Lines.{lines, spare, line_number, line_count}
use Rattle.field_set.specs.Lawful.{values_of, saiz_ok, same_iv_size, measure_of, lawful}
use Rattle.field_set.proofs.LawfulLaws.{Lawful, lawful-all}
use Rattle.field_rules.specs.Fields.{numbers}
use Rattle.field_rules.specs.Words.{set_words}
use Rattle.field_rules.proofs.SetLaws.{eleven-for, AllFit, keeps-fits, words-start, words_count, words-marks, words-around, words-has, around-id, words-regions}
use Rattle.cmaf_read_moof.specs.Headers.{bmdt_of}
use Rattle.cmaf_read_trun.specs.Rows.{trun_ok}
use Rattle.cmaf_read_senc.specs.declared.entries.Entries.{Entries}
use Rattle.cmaf_read_senc.specs.Entries.{pairs_at, length_at}
use Rattle.cmaf_read_senc.proofs.SencLaws.{senc-stands, entries-iv}
use Rattle.cmaf_read_rules.proofs.InfoLaws.{counts_from}
use Rattle.cmaf_read_rules.proofs.RuleFacts.{RulesHold, rules-hold, rules-protected, protection-holds, entries-keep}
use Rattle.cmaf_read_set.specs.Entries.{all_from, all_counts}
use Rattle.cmaf_read_set.specs.Set.{field_of, run, entries, has_map, chunk_set}
use Rattle.cmaf_read_set.proofs.EntryLengths.{senc-counts}
use Rattle.cmaf_read_set.proofs.FitLaws.{some_bytes}
use Rattle.cmaf_read_set.proofs.StoredLaws.{no-sixteen}
use Rattle.cmaf_read_chunk.specs.Accepted.{top, inner, boxes, bmdt, fields, counts_ok, maxima_ok, late_rungs, accept_rungs}
use Rattle.cmaf_read_boxes.specs.Right.{boxes_ok}
use Rattle.cmaf_read_boxes.proofs.BoxLaws.{boxes-in, BoxesHold, boxes-hold}
use Rattle.cmaf_read_chunk.proofs.MaximaLaws.{CountsHold, counts-hold}
use Rattle.cmaf_read_chunk.proofs.SetKeeps.{Counted, counts, lengths, counts-are, counts-none, counts-few, eleven-is, eleven-long, set_keeps}
use Rattle.cmaf_read_chunk.proofs.SetRules.{set-rules}

-- the counts of subsamples, as the rules and as the set have them
same-counts : (c : List ℕ) (e : Entries) (k at : ℕ) → counts_from c e k at ≡ all_counts c e k at
unfolding counts_from all_from
same-counts c e zero at = refl
same-counts c e (suc k) at = ap (λ (l : List ℕ). pairs_at c e at ∷ l) (same-counts c e k (at + length_at c e at))

-- ---- boxes that are right, and keep the maxima and the rules

module _ (t : Track) (c : List ℕ) (top : Top) (f : Inner) {events : List Event} (rules : RulesHold t c top f events)
    (iv : iv_ok t.protection t.iv_size ≡ true) (trun : trun_ok c f.trun ≡ true) (g : Counted t c f) where
  abbrev e : Entries
  e = entries t c f

  -- with subsamples, each entry is as long as a `saiz` can say
  counts-small : saiz_ok t.iv_size (counts t c f) ≡ true
  unfolding saiz_ok
  counts-small = by (has_map t c f) refl
    where
      by : (b : Bool) → has_map t c f ≡ b → saiz_ok t.iv_size (counts t c f) ≡ true
      by false h = rw (counts-none t c f h)
      by true h =
          let s : 0 < f.senc.len = some_bytes _ _ h in
          let k : saiz_ok e.iv (counts_from c e (run t c f).count e.at) ≡ true =
          entries-keep t c top f g.bytes (protection-holds t c top f (rules-protected t c top f rules s))
          (and_right (not (eqb f.senc.len 0)) e.map h) in
          ap (saiz_ok t.iv_size) (counts-are t c f h)
          ∙ ap (λ (i : ℕ). saiz_ok i (all_counts c e e.count e.at)) (sym (entries-iv t c f.senc))
          ∙ ap (λ (n : ℕ). saiz_ok e.iv (all_counts c e n e.at)) (g.counted s)
          ∙ ap (saiz_ok e.iv) (sym (same-counts c e (run t c f).count e.at))
          ∙ k

  sixteen-known : line_number 16 lines < line_count
  unfolding line_number lines
  sixteen-known = omega arith

  fits : AllFit (field_of t c f)
  fits i lt = keeps-fits (lengths t c f) (get_or lines i spare) (field_of t c f (get_or lines i spare)) (set_keeps t c f g i lt)

  module _ (b : ℕ) where
    abbrev words : List ℕ
    words = set_words b (run t c f).count (field_of t c f)

    -- the counts of subsamples stand in the words
    values-are : values_of 11 (run t c f).count words ≡ counts t c f
    values-are =
        around-id 11 (run t c f).count _ _ _ eleven-for (words-around b (run t c f).count (field_of t c f) fits 9 (omega arith))
        (eleven-long t c f g)
        ∙ ap numbers (eleven-is t c f)

    measure-is : measure_of t words ≡ lengths t c f
    measure-is = rw (words_count b (run t c f).count (field_of t c f), values-are)

    same-size : same_iv_size t words ≡ true
    unfolding same_iv_size
    same-size = rw (words-has b (run t c f).count (field_of t c f) fits 16 sixteen-known, no-sixteen t c f)

    -- all that is asked of them
    set-facts : b ≤ number_most → Lawful t words
    set-facts h =
        let n = words_count b (run t c f).count (field_of t c f) in
        record {
          count = rw n g.few;
          saiz = rw (n, values-are) counts-small;
          bmdt = rw (words-start b (run t c f).count (field_of t c f)) h;
          subsamples = rw (n, values-are) (counts-few t c f g);
          regions = rw measure-is (words-regions b (run t c f).count (field_of t c f) (lengths t c f) (set_keeps t c f g));
          rules = rw (n, words-marks b (run t c f).count (field_of t c f) fits) (set-rules t c top f rules iv trun);
          iv-size = same-size;
        }

-- ---- an accepted chunk

module _ (F : List Row) (t : Track) (c : List ℕ) (h : Hold (accept_rungs F t c)) where
  pub boxes-right : boxes_ok t c ≡ true
  unfolding accept_rungs
  boxes-right = h.1.0

  pub counts-right : counts_ok t c ≡ true
  unfolding accept_rungs late_rungs maxima_ok
  counts-right = left _ _ h.1.1.0

  pub rules-right : RulesHold t c (top c) (inner c) (boxes c)
  unfolding accept_rungs late_rungs
  rules-right = rules-hold t c (top c) (inner c) (boxes c) h.1.1.1.0

  pub boxes-held : BoxesHold t c (top c) (inner c)
  boxes-held = boxes-hold t c boxes-right

  pub counts-held : CountsHold t c (top c) (inner c)
  counts-held = counts-hold t c counts-right

  all-counted : all_le 255 c ≡ true → iv_ok t.protection t.iv_size ≡ true → Counted t c (inner c)
  all-counted low iv =
      record {
        bytes = low;
        iv = iv-size-le t.protection t.iv_size iv;
        few = counts-held.samples;
        counted = λ s. (protection-holds t c (top c) (inner c) (rules-protected t c (top c) (inner c) rules-right s)).counts.counted;
        summed =
            λ s.
            let ok = boxes-held.senc-ok in
            let e = senc-counts t c (inner c).senc (boxes-in c).senc-in (senc-stands t c (inner c).senc ok s) ok in
            omega (arith, e, counts-held.subsamples-few);
      }

-- its set is lawful, if its BMDT is in range
pub chunk-lawful : (F : List Row) (t : Track) (c : List ℕ) → all_le 255 c ≡ true → iv_ok t.protection t.iv_size ≡ true
    → Hold (accept_rungs F t c) → bmdt c ≤ number_most → lawful t (fields t c) ≡ true
unfolding bmdt fields chunk_set
chunk-lawful F t c low iv h b =
    lawful-all t _
    (set-facts t c (top c) (inner c) (rules-right F t c h) iv (boxes-held F t c h).trun-ok (all-counted F t c h low iv) (bmdt_of c (inner c).tfdt) b)
