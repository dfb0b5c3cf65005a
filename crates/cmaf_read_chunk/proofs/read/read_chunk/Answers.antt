-- `cmaf_read_chunk::read::read_chunk` meets its contract: its tests are the definitions', and boxes that stand where they must make a whole tree.
use Rattle.std.specs.Prelude.{Some, None}
use Rattle.refusal.specs.declared.Refusal.TheVariants.{WrongBox}
use native.Mathlib.Omega.{arith}
use mathlib.Core.Path.{◌≡◌, refl, ap, sym, ◌∙◌}
use mathlib.Core.Bool.{not}
use Rattle.std.proofs.lemmas.Result.{err_from_is_err_and}
use Rattle.laws.proofs.GateLaws.{pass}
use Rattle.wire.specs.Form.{rows}
use Rattle.cmaf_read_boxes.proofs.BoxLaws.{moof-found, order-breaks, order-whole, wrong-breaks, with-right}
use Rattle.cmaf_read_chunk.proofs.RungLaws.{boxes-break}
use Rattle.cmaf_read_chunk.proofs.read.read_chunk.Goals as goal

pub inner_of-f-requires : goal.inner_of-f-requires
inner_of-f-requires c = moof-found c.args.c.now _ c.top_of-top.ensures

pub returns-then-not-order_ok : goal.returns-then-not-order_ok
returns-then-not-order_ok c =
    let a = c.args in
    boxes-break (rows a.form) a.t a.c.now
    (order-breaks a.t a.c.now c.top_of-top.ensures c.inner_of-f.ensures c.order_ok.ensures
    (ap not c.if-not-order_ok.true))
    c.unordered.ensures

pub pairs_in-requires : goal.pairs_in-requires
pairs_in-requires c = record { top_value = (c.top_of-top.ensures, c.inner_of-f.ensures); f_value = sym c.order_ok.ensures ∙ c.if-not-order_ok.false }

pub returns-in_err-pairs : goal.returns-in_err-pairs
returns-in_err-pairs c =
    let a = c.args in
    let p = err_from_is_err_and c.from_residual.result c.from_residual.ensures.1 in
    let n : c.pairs_in.result ≡ None = grind arith in
    let m : c.in_err-pairs.field-0.0 ≡ WrongBox = grind arith in
    rw (p.1, p.2, m)
    (boxes-break (rows a.form) a.t a.c.now (wrong-breaks (rw n at c.pairs_in.ensures)) (pass 5 (order-whole a.t a.c.now c.top_of-top.ensures c.inner_of-f.ensures c.order_ok.ensures (ap not c.if-not-order_ok.false)) refl))

pub read_rest-requires : goal.read_rest-requires
read_rest-requires c =
    let a = c.args in
    let et = c.top_of-top.ensures in
    let ef = c.inner_of-f.ensures in
    let n : c.pairs_in.result ≡ Some c.in_ok-pairs.pairs = grind arith in
    let w = with-right a.t a.c.now et ef (rw n at c.pairs_in.ensures) in
    record { iv_size_bound = (c.requires.iv_size_bound, order-whole a.t a.c.now c.top_of-top.ensures c.inner_of-f.ensures c.order_ok.ensures (ap not c.if-not-order_ok.false), w.0); top_value = (et, ef); pairs_value = w.1; words_value = c.requires.words_value }

pub returns : goal.returns
returns c = c.read_rest.ensures
