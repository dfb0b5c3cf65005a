-- `cmaf_write_prelude::outer::put_prft` meets its contract: its parts one after another.
use native.Mathlib.Omega.{arith}
use mathlib.Core.Path.{sym}
use borrow.Author.Tests.{not-true, not-false}
use Rattle.laws.specs.Bytes.{be}
use Rattle.laws.proofs.PartLaws.{parts_all, parts-room, parts_then, parts_none}
use Rattle.laws.proofs.WriteLaws.{wrote_none, wrote_as}
use Rattle.boxes.specs.Box.{words}
use Rattle.cmaf_write_prelude.proofs.OuterLaws.{prft_parts, prft-none, prft-parts}
use Rattle.cmaf_write_prelude.proofs.outer.put_prft.Goals as goal

pub returns-then-not-p : goal.returns-then-not-p
returns-then-not-p c =
    let a = c.args in
    wrote_as (sym (prft-none a.t a.p (not-true _ c.if-not-p.true))) (wrote_none a.out.now a.at (omega (arith, c.requires.p_in_bounds)))

pub put_words-a-requires : goal.put_words-a-requires
unfolding words be
put_words-a-requires c =
    let a = c.args in
    let size = c.prft_length in
    let whole = prft-parts a.t a.p (not-false _ c.if-not-p.false) size.result (size.ensures.0 a.t) in
    let h = parts_all a.out.now a.at (prft_parts a.t a.p size.result) whole c.requires.p_in_bounds in
    parts-room h

pub put_media-requires : goal.put_media-requires
put_media-requires c =
    let a = c.args in
    let size = c.prft_length in
    let whole = prft-parts a.t a.p (not-false _ c.if-not-p.false) size.result (size.ensures.0 a.t) in
    let h = parts_all a.out.now a.at (prft_parts a.t a.p size.result) whole c.requires.p_in_bounds in
    parts-room (parts_then h c.put_words-a.ensures)

pub returns : goal.returns
returns c =
    let a = c.args in
    let size = c.prft_length in
    let whole = prft-parts a.t a.p (not-false _ c.if-not-p.false) size.result (size.ensures.0 a.t) in
    let h = parts_all a.out.now a.at (prft_parts a.t a.p size.result) whole c.requires.p_in_bounds in
    parts_none (parts_then (parts_then h c.put_words-a.ensures) c.put_media.ensures)
