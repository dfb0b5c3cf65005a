-- `receiver::judge::values_hold` meets its contract: its tests in their order.
use Prim.Native.Nat.{ℕ, ◌+◌, ◌-◌}
use native.Mathlib.Omega.{arith}
use mathlib.Core.Path.{◌≡◌, sym, ◌∙◌, ap, subst}
use mathlib.Core.List.{List, ◌++◌}
use borrow.Author.Rules.{part_to_end}
use borrow.Author.Tests.{not-true, not-false}
use lib.ListN.{length, take, drop, set, length-set, length-append, length-drop}
use Rattle.field_table.specs.Lines.{set_len, bmdt_at}
use Rattle.event_value.specs.Events.{events_len}
use Rattle.told_sizes.specs.Sums.{Summable}
use Rattle.receiver.specs.Judge.{sums_in}
use Rattle.laws.proofs.HalvesLaws.{front-in, front_long, front-new, front_kept, rest-stored}
use Rattle.receiver.proofs.TestedLaws.{value_out, event-out, summed}
use Rattle.receiver.proofs.judge.values_hold.Goals as goal

-- the words of the events as `events_ok` leaves them, and all words then
abbrev events : goal.Then-not-events_ok → List ℕ
events c = c.events_ok.new.events

-- the words of the events as `events_ok` leaves them, and all words then
abbrev events-2 : goal.Then-not-sums_ok → List ℕ
events-2 c = c.events_ok.new.events

-- the words of the events as `events_ok` leaves them, and all words then
abbrev events-3 : goal.Else-not-sums_ok → List ℕ
events-3 c = c.events_ok.new.events

-- the words of the events as `events_ok` leaves them, and all words then
abbrev events-4 : goal.After-sums_ok-arg-1 → List ℕ
events-4 c = c.events_ok.new.events

-- the words of the events as `events_ok` leaves them, and all words then
abbrev events-5 : goal.Else-not-events_ok → List ℕ
events-5 c = c.events_ok.new.events

abbrev back : goal.Else-not-events_ok → List ℕ
back c = events-5 c ++ drop events_len c.args.words.now

abbrev back-2 : goal.After-sums_ok-arg-1 → List ℕ
back-2 c = events-4 c ++ drop events_len c.args.words.now

abbrev back-3 : goal.Then-not-sums_ok → List ℕ
back-3 c = events-2 c ++ drop events_len c.args.words.now

abbrev back-4 : goal.Else-not-sums_ok → List ℕ
back-4 c = events-3 c ++ drop events_len c.args.words.now

-- with BMDT: all words, and those of the set
abbrev words : goal.Else-not-events_ok → List ℕ
words c = set (back c) (events_len + bmdt_at) c.args.v.bmdt.0

-- with BMDT: all words, and those of the set
abbrev words-2 : goal.After-sums_ok-arg-1 → List ℕ
words-2 c = set (back-2 c) (events_len + bmdt_at) c.args.v.bmdt.0

-- with BMDT: all words, and those of the set
abbrev words-3 : goal.Then-not-sums_ok → List ℕ
words-3 c = set (back-3 c) (events_len + bmdt_at) c.args.v.bmdt.0

-- with BMDT: all words, and those of the set
abbrev words-4 : goal.Else-not-sums_ok → List ℕ
words-4 c = set (back-4 c) (events_len + bmdt_at) c.args.v.bmdt.0

abbrev x : goal.After-sums_ok-arg-1 → List ℕ
x c = set (drop events_len c.args.words.now) bmdt_at c.args.v.bmdt.0

abbrev x-2 : goal.Then-not-sums_ok → List ℕ
x-2 c = set (drop events_len c.args.words.now) bmdt_at c.args.v.bmdt.0

abbrev x-3 : goal.Else-not-sums_ok → List ℕ
x-3 c = set (drop events_len c.args.words.now) bmdt_at c.args.v.bmdt.0

words_long : (c : goal.Else-not-events_ok) → length (words c) ≡ events_len + set_len
words_long c =
    let w = c.args.words.now in
    let f = front_long events_len set_len w c.requires.words_len in
    length-set (back c) (events_len + bmdt_at) c.args.v.bmdt.0 ∙ omega (arith, length-append (events-5 c) (drop events_len w), length-drop events_len w, f, c.events_ok.auto.events, c.requires.words_len)

front : (c : goal.Then-not-sums_ok) → take events_len (words-3 c) ≡ events-2 c
front c = front_kept events_len set_len c.args.words.now c.requires.words_len (events-2 c) c.events_ok.auto.events bmdt_at c.args.v.bmdt.0

front-2 : (c : goal.Else-not-sums_ok) → take events_len (words-4 c) ≡ events-3 c
front-2 c = front_kept events_len set_len c.args.words.now c.requires.words_len (events-3 c) c.events_ok.auto.events bmdt_at c.args.v.bmdt.0

rest : (c : goal.Then-not-sums_ok) → drop events_len (words-3 c) ≡ x-2 c
rest c = rest-stored events_len set_len c.args.words.now c.requires.words_len (events-2 c) c.events_ok.auto.events bmdt_at c.args.v.bmdt.0

rest-2 : (c : goal.Else-not-sums_ok) → drop events_len (words-4 c) ≡ x-3 c
rest-2 c = rest-stored events_len set_len c.args.words.now c.requires.words_len (events-3 c) c.events_ok.auto.events bmdt_at c.args.v.bmdt.0

rest-3 : (c : goal.After-sums_ok-arg-1) → drop events_len (words-2 c) ≡ x c
rest-3 c = rest-stored events_len set_len c.args.words.now c.requires.words_len (events-4 c) c.events_ok.auto.events bmdt_at c.args.v.bmdt.0

-- what `sums_ok` is lent
lent : (c : goal.After-sums_ok-arg-1) → take (length (words-2 c) - events_len) (drop events_len (words-2 c)) ≡ x c
lent c = part_to_end (words-2 c) events_len ∙ rest-3 c

-- what `sums_ok` is lent
lent-2 : (c : goal.Then-not-sums_ok) → take (length (words-3 c) - events_len) (drop events_len (words-3 c)) ≡ x-2 c
lent-2 c = part_to_end (words-3 c) events_len ∙ rest c

-- what `sums_ok` is lent
lent-3 : (c : goal.Else-not-sums_ok) → take (length (words-4 c) - events_len) (drop events_len (words-4 c)) ≡ x-3 c
lent-3 c = part_to_end (words-4 c) events_len ∙ rest-2 c

pub returns-then-not-v : goal.returns-then-not-v
returns-then-not-v c = value_out _ _ _ _ _ _ _ (not-true _ c.if-not-v.true) _ _

pub events_ok-requires : goal.events_ok-requires
events_ok-requires c =
    let h = c.requires.testable in
    record { events_len = h.long; events_fit = h.fit (not-false _ c.if-not-v.false) }

pub returns-then-not-events_ok : goal.returns-then-not-events_ok
returns-then-not-events_ok c =
    event-out _ _ _ _ _ _ _ (not-false _ c.if-not-v.false) c.events_ok.ensures
    (front-new events_len set_len c.args.words.now c.requires.words_len (events c) c.events_ok.auto.events) c.if-not-events_ok.true _

pub slice_bounds-sums_ok-count : goal.slice_bounds-sums_ok-count
slice_bounds-sums_ok-count c = front-in events_len set_len (words c) (words_long c)

pub slice_bounds-sums_ok-start : goal.slice_bounds-sums_ok-start
slice_bounds-sums_ok-start c = front-in events_len set_len (words c) (words_long c)

pub sums_ok-requires : goal.sums_ok-requires
sums_ok-requires c =
    let h = c.requires.testable in
    let ok = not-false _ c.if-not-v.false in
    (subst (λ (l : List ℕ). Summable l) (sym (lent c)) (h.summable ok), h.small ok)

pub returns-then-not-sums_ok : goal.returns-then-not-sums_ok
returns-then-not-sums_ok c =
    let a = c.args in
    let e = c.sums_ok.ensures ∙ ap (λ (l : List ℕ). sums_in a.t l a.payload) (lent-2 c) in
    summed _ _ _ _ _ _ _ (not-false _ c.if-not-v.false) c.events_ok.ensures (front c) c.if-not-events_ok.false (rest c) 16
    (rw (sym e ∙ c.if-not-sums_ok.true))

pub returns : goal.returns
returns c =
    let a = c.args in
    let e = c.sums_ok.ensures ∙ ap (λ (l : List ℕ). sums_in a.t l a.payload) (lent-3 c) in
    summed _ _ _ _ _ _ _ (not-false _ c.if-not-v.false) c.events_ok.ensures (front-2 c) c.if-not-events_ok.false (rest-2 c) 0
    (rw (sym e ∙ c.if-not-sums_ok.false))
