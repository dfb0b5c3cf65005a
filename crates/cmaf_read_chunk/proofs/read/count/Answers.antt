-- `cmaf_read_chunk::read::count` meets its contract: its tests are the definitions', in their order, and the words it keeps are the events.
use Rattle.laws.proofs.BytesLaws.{are-bytes}
use Rattle.wire.specs.Form.{rows}
use Rattle.cmaf_read_boxes.proofs.BoxLaws.{found-hold}
use Rattle.cmaf_read_chunk.proofs.KeptLaws.{counting, events-lent, tfdt-lent, kept-words, list_counted, listed}
use Rattle.cmaf_read_chunk.proofs.RungLaws.{counts-break, list-breaks, maxima-keep}
use mathlib.Core.Path.{sym, ◌∙◌}
use Rattle.cmaf_read_chunk.proofs.read.count.Goals as goal

pub counts_ok-requires : goal.counts_ok-requires
counts_ok-requires c =
    let a = c.args in
    record { top_value = c.requires.top_value; trun_value = (found-hold a.t a.c.now a.top a.f c.requires.top_value.0 c.requires.top_value.1 c.requires.c_value.0).trun-ok }

pub returns-then-not-counts_ok : goal.returns-then-not-counts_ok
returns-then-not-counts_ok c =
    let a = c.args in
    counts-break (rows a.form) a.t a.c.now (sym (c.counts_ok.ensures a.t c.requires.pairs_value) ∙ c.if-not-counts_ok.true)

pub keep_events-requires : goal.keep_events-requires
keep_events-requires c =
    let k = events-lent (counting c.requires.top_value c.requires.c_value (c.counts_ok.ensures c.args.t c.requires.pairs_value) c.if-not-counts_ok.false) in
    record { at_in_bounds = k.0; k_in_bounds = k.1 }

pub bmdt_of-bmdt-requires : goal.bmdt_of-bmdt-requires
bmdt_of-bmdt-requires c =
    let k = tfdt-lent (counting c.requires.top_value c.requires.c_value (c.counts_ok.ensures c.args.t c.requires.pairs_value) c.if-not-counts_ok.false) in
    record { inside = k.0; b_value = k.1 }

pub list_bytes-list-requires : goal.list_bytes-list-requires
list_bytes-list-requires c = kept-words (counting c.requires.top_value c.requires.c_value (c.counts_ok.ensures c.args.t c.requires.pairs_value) c.if-not-counts_ok.false) c.keep_events.ensures (are-bytes c.args.c.now (λ i. (c.type_inv.c i).fits))

pub returns-then-list : goal.returns-then-list
returns-then-list c =
    let k = counting c.requires.top_value c.requires.c_value (c.counts_ok.ensures c.args.t c.requires.pairs_value) c.if-not-counts_ok.false in
    let a = c.args in
    let w = c.keep_events.ensures in
    let l = list_counted k w (rows a.form) c.bmdt_of-bmdt.ensures c.list_bytes-list.ensures in
    list-breaks (rows a.form) a.t a.c.now k.counts-right l c.if-list.true

pub returns : goal.returns
returns c =
    let k = counting c.requires.top_value c.requires.c_value (c.counts_ok.ensures c.args.t c.requires.pairs_value) c.if-not-counts_ok.false in
    let a = c.args in
    let w = c.keep_events.ensures in
    let h = c.bmdt_of-bmdt.ensures in
    let l = c.list_bytes-list.ensures in
    let m = c.if-list.false in
    maxima-keep (rows a.form) a.t a.c.now k.counts-right (list_counted k w (rows a.form) h l) m
    (listed k w (rows a.form) h l (are-bytes c.args.c.now (λ i. (c.type_inv.c i).fits)) m)
