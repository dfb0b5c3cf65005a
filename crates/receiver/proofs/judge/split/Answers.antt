-- `receiver::judge::split` meets its contract: what the index answers, and which ids stand.
use mathlib.Core.Path.{refl}
use mathlib.Core.Bool.{not}
use lib.Dec.{eqb}
use lib.ListN.{get_or}
use Rattle.std.proofs.lemmas.Result.{err_from_is_err_and}
use Rattle.refusal.proofs.NumberLaws.{number-some}
use Rattle.share_words.specs.Share.{prft_at}
use Rattle.locmaf_read_head.specs.Ids.{ids_ok, stands_in}
use Rattle.locmaf_read_index.specs.Index.{index}
use Rattle.locmaf_read_head.proofs.IdLaws.{number-given, number-right, number-wrong}
use Rattle.receiver.proofs.SplitLaws.{indexable, noted, events-long, words_long, split-is}
use Rattle.receiver.proofs.judge.split.Goals as goal

pub index-i-requires : goal.index-i-requires
index-i-requires c = indexable c.requires.judgeable c.requires.index_value.0 c.requires.index_value.1

pub returns-in_err-readable : goal.returns-in_err-readable
returns-in_err-readable c =
    let p = err_from_is_err_and c.from_residual.result c.from_residual.ensures.1 in
    let i = c.index-i in
    let x = index i.result i.new.out i.new.events in
    let n = noted c.requires.judgeable c.requires.index_value.0 c.requires.index_value.1 {x = x} i.ensures in
    let long = events-long c.requires.judgeable c.requires.index_value.0 c.requires.index_value.1 x.events c.index-i.auto.events in
    rw (p.1, p.2)
    (split-is {x = x} n long _
    (number-given i.result
    (ids_ok c.args.p.delta (not (eqb (get_or c.args.s.now prft_at 0) 0)) (stands_in x.words)) _ c.in_err-readable.ensures (number-some _)))

pub ids_ok-requires : goal.ids_ok-requires
ids_ok-requires c =
    let i = c.index-i in
    let x = index i.result i.new.out i.new.events in
    words_long {x = x} (noted c.requires.judgeable c.requires.index_value.0 c.requires.index_value.1 {x = x} i.ensures)

pub returns-then-ids_ok : goal.returns-then-ids_ok
returns-then-ids_ok c =
    let i = c.index-i in
    let x = index i.result i.new.out i.new.events in
    let n = noted c.requires.judgeable c.requires.index_value.0 c.requires.index_value.1 {x = x} i.ensures in
    let long = events-long c.requires.judgeable c.requires.index_value.0 c.requires.index_value.1 x.events c.index-i.auto.events in
    split-is {x = x} n long _
    (number-right i.result _ _ 0 c.in_ok-readable.ensures refl c.ids_ok.ensures c.if-ids_ok.true)

pub returns : goal.returns
returns c =
    let i = c.index-i in
    let x = index i.result i.new.out i.new.events in
    let n = noted c.requires.judgeable c.requires.index_value.0 c.requires.index_value.1 {x = x} i.ensures in
    let long = events-long c.requires.judgeable c.requires.index_value.0 c.requires.index_value.1 x.events c.index-i.auto.events in
    split-is {x = x} n long _
    (number-wrong i.result _ _ 0 c.in_ok-readable.ensures refl c.ids_ok.ensures c.if-ids_ok.false)
