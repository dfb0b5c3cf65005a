-- `receiver::judge::derive_ivs` meets its contract: its tests in their order, by the laws of `proofs/TestedLaws.antt`.
use Prim.Native.Nat.{ℕ}
use mathlib.Core.Path.{◌≡◌}
use mathlib.Core.Bool.{true}
use borrow.Author.Rules.{part_to_end}
use lib.ListN.{get_or, drop}
use Rattle.share_words.specs.Share.{last_at, set_at}
use Rattle.counters.specs.Follow.{DerivedAs}
use Rattle.receiver.specs.Judge.{left_in}
use Rattle.receiver.proofs.TestedLaws.{none-stand, not_left, is-left, none-derived, both-stand, all-derived, one-past}
use Rattle.receiver.proofs.judge.derive_ivs.Goals as goal

-- they were left out, where all was asked
left : (c : goal.After-derive-arg-2-1) → let a = c.args in left_in a.delta a.s.now a.index.now a.x.now ≡ true
left c = is-left c.args.t _ _ _ _ c.if-x-eq0.false c.if-delta-index.false

-- they were left out, where all was asked
left-2 : (c : goal.Then-derive) → let a = c.args in left_in a.delta a.s.now a.index.now a.x.now ≡ true
left-2 c = is-left c.args.t _ _ _ _ c.if-x-eq0.false c.if-delta-index.false

-- they were left out, where all was asked
left-3 : (c : goal.Else-derive) → let a = c.args in left_in a.delta a.s.now a.index.now a.x.now ≡ true
left-3 c = is-left c.args.t _ _ _ _ c.if-x-eq0.false c.if-delta-index.false

-- what was derived, from the words of the reference's set
derived : (c : goal.Then-derive) (bytes : ℕ)
    → let a = c.args in
    DerivedAs a.t (get_or a.s.now last_at 0) (drop set_at a.s.now) a.x.now bytes c.derive.result c.derive.new.x
derived c bytes = rw (part_to_end c.args.s.now set_at) at (c.derive.ensures bytes)

-- what was derived, from the words of the reference's set
derived-2 : (c : goal.Else-derive) (bytes : ℕ)
    → let a = c.args in
    DerivedAs a.t (get_or a.s.now last_at 0) (drop set_at a.s.now) a.x.now bytes c.derive.result c.derive.new.x
derived-2 c bytes = rw (part_to_end c.args.s.now set_at) at (c.derive.ensures bytes)

pub returns-then-x-eq0 : goal.returns-then-x-eq0
returns-then-x-eq0 c = none-derived _ _ _ _ _ (none-stand c.args.t _ _ _ _ c.if-x-eq0.true)

pub returns-then-delta-index : goal.returns-then-delta-index
returns-then-delta-index c = none-derived _ _ _ _ _ (not_left c.args.t _ _ _ _ c.if-delta-index.true)

pub derive-requires : goal.derive-requires
derive-requires c =
    record {
      behind = rw (part_to_end c.args.s.now set_at) (c.requires.behind (left c));
      r_value = rw (part_to_end c.args.s.now set_at) (both-stand c.args.t _ _ _ _ (left c));
    }

pub shape_of-x-then-derive : goal.shape_of-x-then-derive
shape_of-x-then-derive c = (c.derive.ensures 0).long

pub returns-then-derive : goal.returns-then-derive
returns-then-derive c =
    λ bytes.
    all-derived _ _ _ _ _ (left-2 c) bytes (derived c bytes) c.if-derive.true

pub shape_of-x : goal.shape_of-x
shape_of-x c = (c.derive.ensures 0).long

pub returns : goal.returns
returns c =
    λ bytes.
    one-past _ _ _ _ _ (left-3 c) bytes (derived-2 c bytes) c.if-derive.false
