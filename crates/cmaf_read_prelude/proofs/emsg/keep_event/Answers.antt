-- `cmaf_read_prelude::emsg::keep_event` meets its contract, word by word.
use mathlib.Core.Path.{◌∙◌, ap}
use lib.Seq.{sets}
use Rattle.cmaf_read_prelude.proofs.EmsgLaws.{strings, scheme-found, value_found}
use Rattle.cmaf_read_prelude.proofs.EventLaws.{words_are}
use borrow.Author.Rules.{rules}
use Rattle.cmaf_read_prelude.proofs.emsg.keep_event.Goals as goal

pub overflow_add-scheme : goal.overflow_add-scheme
overflow_add-scheme c =
    let m = scheme-found _ _ c.requires.b_value.0 _ _ c.end_of-end.ensures c.zero_from-scheme.ensures in
    search rules

pub overflow_sub-words : goal.overflow_sub-words
overflow_sub-words c =
    let m = scheme-found _ _ c.requires.b_value.0 _ _ c.end_of-end.ensures c.zero_from-scheme.ensures in
    search rules

pub overflow_add-words : goal.overflow_add-words
overflow_add-words c =
    let m = scheme-found _ _ c.requires.b_value.0 _ _ c.end_of-end.ensures c.zero_from-scheme.ensures in
    search rules

pub overflow_add-words-2 : goal.overflow_add-words-2
overflow_add-words-2 c =
    let m = scheme-found _ _ c.requires.b_value.0 _ _ c.end_of-end.ensures c.zero_from-scheme.ensures in
    search rules

pub overflow_sub-words-2 : goal.overflow_sub-words-2
overflow_sub-words-2 c =
    let m = value_found _ _ c.requires.b_value.0 _ _ c.end_of-end.ensures c.zero_from-scheme.ensures _ c.zero_from-value.ensures in
    search rules

pub u32_at-requires : goal.u32_at-requires
u32_at-requires c = let l = (strings _ _ c.requires.b_value.0).long in search rules

pub u64_at-requires : goal.u64_at-requires
u64_at-requires c =
    let l = (strings _ _ c.requires.b_value.0).long in
    search rules

pub u32_at-requires-2 : goal.u32_at-requires-2
u32_at-requires-2 c =
    let l = (strings _ _ c.requires.b_value.0).long in
    search rules

pub u32_at-requires-3 : goal.u32_at-requires-3
u32_at-requires-3 c =
    let l = (strings _ _ c.requires.b_value.0).long in
    search rules

pub overflow_add-words-3 : goal.overflow_add-words-3
overflow_add-words-3 c =
    let m = value_found _ _ c.requires.b_value.0 _ _ c.end_of-end.ensures c.zero_from-scheme.ensures _ c.zero_from-value.ensures in
    search rules

pub overflow_add-words-4 : goal.overflow_add-words-4
overflow_add-words-4 c =
    let m = value_found _ _ c.requires.b_value.0 _ _ c.end_of-end.ensures c.zero_from-scheme.ensures _ c.zero_from-value.ensures in
    search rules

pub overflow_sub-words-3 : goal.overflow_sub-words-3
overflow_sub-words-3 c =
    let m = value_found _ _ c.requires.b_value.0 _ _ c.end_of-end.ensures c.zero_from-scheme.ensures _ c.zero_from-value.ensures in
    search rules

pub shape_of-events : goal.shape_of-events
shape_of-events c = c.store.ensures.out_len_unchanged

pub returns : goal.returns
returns c =
    let a = c.args in
    let w =
    words_are _ _ c.requires.b_value.0 _ _ c.end_of-end.ensures c.zero_from-scheme.ensures _ c.zero_from-value.ensures
    _ _ _ _ c.u32_at.ensures.0 c.u64_at.ensures c.u32_at-2.ensures.0 c.u32_at-3.ensures.0 in
    c.store.ensures.out_after ∙ ap (sets a.events.now a.at) w
