use Prim.Native.Nat.{ℕ, ◌-◌}
use native.Mathlib.Omega.{arith}
use mathlib.Core.Path.{◌≡◌, ◌∙◌, ap}
use mathlib.Core.List.{List, ◌++◌}
use lib.ListN.{length, drop}
use Rattle.field_table.specs.Lines.{set_len}
use Rattle.field_set.specs.Lawful.{Tidy}
use Rattle.share_words.specs.Share.{set_at, share_len}
use Rattle.reference.proofs.KeepLaws.{Copyable, begun, start, end, further, copied, unmarked-both, stays}
use borrow.Author.Rules.{rules}
use Rattle.reference.proofs.keep.copy_set.Goals as goal
use Rattle.reference.proofs.keep.copy_set.Goals.{then-s-at, else-s-at}

-- the words are like that
copyable : {x s : List ℕ} → (length s ≡ share_len) × (length x ≡ set_len) → Tidy (drop set_at s) × Tidy x → Copyable x s
copyable l t = record { share = l.0; long = l.1; old = t.0; new = t.1 }

pub copy-requires : goal.copy-requires
copy-requires c = let p = c.requires in (omega (arith, p.s_len.1), omega (arith, p.s_len.0))

pub loop-i-init : goal.loop-i-init
loop-i-init c = start _ _ (copyable c.requires.s_len c.requires.tidy) _ c.copy.ensures

pub overflow_add-at : goal.overflow_add-at
overflow_add-at c = search rules

pub bounds-s-at : goal.bounds-s-at
bounds-s-at c =
    let h = c.loop-i.invariant.moves in
    let f = further _ _ _ _ _ h c.loop-i-test.true _ c.place_at-to.ensures in
    omega (arith, f.0, f.1, h.same, h.before.share)

pub bounds-x-from : goal.bounds-x-from
bounds-x-from c =
    let h = c.loop-i.invariant.moves in
    let f = further _ _ _ _ _ h c.loop-i-test.true _ c.place_at-to.ensures in
    omega (arith, f.0, f.1, h.before.long)

pub overflow_sub-to : goal.overflow_sub-to
overflow_sub-to c =
    let f = further _ _ _ _ _ c.loop-i.invariant.moves c.loop-i-test.true _ c.place_at-to.ensures in
    omega (arith, f.0)

pub copy-requires-then-s-at : goal.copy-requires-then-s-at
copy-requires-then-s-at c =
    let h = c.loop-i.invariant.moves in
    let f = further _ _ _ _ _ h c.loop-i-test.true _ c.place_at-to.ensures in
    (omega (arith, f.0, f.1, h.before.long), omega (arith, f.0, f.1, h.same, h.before.share))

pub loop-i-preserved : goal.loop-i-preserved
loop-i-preserved c =
    let h = c.loop-i.invariant.moves in
    let t = c.loop-i-test.true in
    let at = c.place_at-to.ensures in
    record {
      base = c.loop-i.invariant.base;
      front = c.loop-i.invariant.front;
      moves = elim c.if-s-at.branch [
        | then-s-at w ↦ copied _ _ _ _ _ h t _ at _ (w.s-is ∙ w.copy-then-s-at.ensures)
        | else-s-at w ↦ let z = unmarked-both _ _ w.if-s-at.false in stays _ _ _ _ _ h t _ at _ w.s-is z.0 z.1
      ];
    }

pub returns : goal.returns
returns c =
    let l = c.loop-i.invariant in
    let x = c.args.x.now in
    end _ _ _ _ _ l.moves c.loop-i-test.false ∙ ap (λ z. z ++ x) (l.front ∙ begun _ _ (copyable c.requires.s_len c.requires.tidy) _ c.copy.ensures)
