-- `reference::keep::keep` meets its contract, by the laws of `proofs/KeepLaws.antt`.
use native.Mathlib.Omega.{arith}
use mathlib.Core.Path.{sym, ◌∙◌, ap}
use mathlib.Core.Bool.{false≢true}
use lib.ListN.{length, length-set}
use Rattle.reference.specs.declared.keep.Replaced.{Replaced}
use Rattle.reference.proofs.KeepLaws.{Kept, kept_full, kept-delta, marked, unmarked, copied-long}
use Rattle.reference.proofs.keep.keep.Goals as goal
use Rattle.reference.proofs.keep.keep.Goals.{then-new, then-prft, else-prft, else-new}

-- the share where the two ways of the `prft` meet
after : (c : goal.After-copy_set-arg-1) → let a = c.args in Kept a.delta a.prft a.sequence a.x.now a.s.now c.if-new.s
after c =
    let prft = ap (λ (r : Replaced). r.prft) c.replaced_by-new.ensures in
    elim c.if-new.branch [
      | then-new w ↦
          kept_full _ _ _ _ _ c.requires.s_len.0 (sym prft ∙ w.if-new.true) w.if-prft.s
          (elim w.if-prft.branch [
            | then-prft m ↦ marked c.args.prft _ m.if-prft.true m.s-is
            | else-prft m ↦ unmarked c.args.prft _ m.if-prft.false m.s-is
          ])
          _ w.s-is
      | else-new w ↦ kept-delta _ _ _ _ _ c.requires.s_len.0 (sym prft ∙ w.if-new.false) _ w.s-is
    ]

-- the share where the two ways of the `prft` meet
after-2 : (c : goal.After-slice_known-then-new-2-1) → let a = c.args in Kept a.delta a.prft a.sequence a.x.now a.s.now c.if-new.s
after-2 c =
    let prft = ap (λ (r : Replaced). r.prft) c.replaced_by-new.ensures in
    elim c.if-new.branch [
      | then-new w ↦
          kept_full _ _ _ _ _ c.requires.s_len.0 (sym prft ∙ w.if-new.true) w.if-prft.s
          (elim w.if-prft.branch [
            | then-prft m ↦ marked c.args.prft _ m.if-prft.true m.s-is
            | else-prft m ↦ unmarked c.args.prft _ m.if-prft.false m.s-is
          ])
          _ w.s-is
      | else-new w ↦ kept-delta _ _ _ _ _ c.requires.s_len.0 (sym prft ∙ w.if-new.false) _ w.s-is
    ]

-- no object leaves the set as it was
never : (c : goal.Else-new-2) → ⊥
never c = false≢true (sym c.if-new-2.false ∙ ap (λ (r : Replaced). r.set) c.replaced_by-new.ensures)

pub bounds-s-12 : goal.bounds-s-12
bounds-s-12 c = simp length-set (omega (arith, c.requires.s_len.0))

pub bounds-s-13 : goal.bounds-s-13
bounds-s-13 c = simp length-set (omega (arith, c.requires.s_len.0))

pub bounds-s-14 : goal.bounds-s-14
bounds-s-14 c = simp length-set (omega (arith, c.requires.s_len.0))

pub copy_set-requires : goal.copy_set-requires
copy_set-requires c =
    let k = after c in
    let p = c.requires in
    record { s_len = (k.long ∙ p.s_len.0, p.s_len.1); tidy = (rw k.rest p.tidy.0, p.tidy.1) }

pub shape_of-s-then-new-2 : goal.shape_of-s-then-new-2
shape_of-s-then-new-2 c = ap length c.copy_set.ensures ∙ copied-long c.args.x.now c.args.s.now c.if-new.s c.requires.s_len.0 c.requires.s_len.1 (after-2 c).long

pub returns-then-new-2 : goal.returns-then-new-2
returns-then-new-2 c = c.copy_set.ensures ∙ (after-2 c).words

pub shape_of-s-else-new-2 : goal.shape_of-s-else-new-2
shape_of-s-else-new-2 c = absurd (never c)

pub returns-else-new-2 : goal.returns-else-new-2
returns-else-new-2 c = absurd (never c)
