-- `receiver::judge::read_block` meets its contract: the block, and its set where the block is split.
use Prim.Native.Nat.{ℕ, ◌+◌}
use native.Mathlib.Omega.{arith}
use mathlib.Core.Path.{◌≡◌, refl, sym, ◌∙◌}
use mathlib.Core.List.{List, ◌++◌}
use borrow.Author.Rules.{part_to_end}
use lib.ListN.{length, take, drop, length-append, length-drop}
use Rattle.std.proofs.lemmas.Result.{err_from_is_err_and}
use Rattle.refusal.proofs.NumberLaws.{number-some}
use Rattle.field_table.specs.Lines.{set_len}
use Rattle.event_value.specs.Events.{events_len}
use Rattle.laws.proofs.HalvesLaws.{zeros-long, zeros-front, zeros-rest, front-in, front_long, front-new, rest-stays, front-stays, rest-new}
use Rattle.receiver.proofs.ClimbLaws.{own-track, refuses-split, split-of, set-lent, read_of}
use Rattle.receiver.proofs.judge.read_block.Goals as goal

long : (c : goal.After-split-arg-1) → length c.args.words.now ≡ events_len + set_len
long c = zeros-long events_len set_len c.requires.index_value.1

long-2 : (c : goal.After-split-arg-2-1) → length c.args.words.now ≡ events_len + set_len
long-2 c = zeros-long events_len set_len c.requires.index_value.1

long-3 : (c : goal.After-read_set-arg-1) → length c.args.words.now ≡ events_len + set_len
long-3 c = zeros-long events_len set_len c.requires.index_value.1

long-4 : (c : goal.After-slice_known-5-1) → length c.args.words.now ≡ events_len + set_len
long-4 c = zeros-long events_len set_len c.requires.index_value.1

long-5 : (c : goal.After-r-1) → length c.args.words.now ≡ events_len + set_len
long-5 c = zeros-long events_len set_len c.requires.index_value.1

-- the words of the events as `split` leaves them, and all words then
abbrev events : goal.After-read_set-arg-1 → List ℕ
events c = c.split.new.events

-- the words of the events as `split` leaves them, and all words then
abbrev events-2 : goal.After-slice_known-5-1 → List ℕ
events-2 c = c.split.new.events

-- the words of the events as `split` leaves them, and all words then
abbrev events-3 : goal.After-r-1 → List ℕ
events-3 c = c.split.new.events

abbrev words : goal.After-r-1 → List ℕ
words c = events-3 c ++ drop events_len c.args.words.now

abbrev words-2 : goal.After-read_set-arg-1 → List ℕ
words-2 c = events c ++ drop events_len c.args.words.now

abbrev words-3 : goal.After-slice_known-5-1 → List ℕ
words-3 c = events-2 c ++ drop events_len c.args.words.now

words_long : (c : goal.After-r-1) → length (words c) ≡ events_len + set_len
words_long c =
    let w = c.args.words.now in
    omega (arith, length-append (events-3 c) (drop events_len w), length-drop events_len w, front_long events_len set_len w (long-5 c), c.split.auto.events, long-5 c)

words_long-2 : (c : goal.After-slice_known-5-1) → length (words-3 c) ≡ events_len + set_len
words_long-2 c =
    let w = c.args.words.now in
    omega (arith, length-append (events-2 c) (drop events_len w), length-drop events_len w, front_long events_len set_len w (long-4 c), c.split.auto.events, long-4 c)

front : (c : goal.After-slice_known-5-1) → take events_len (words-3 c) ≡ events-2 c
front c = front-new events_len set_len c.args.words.now (long-4 c) (events-2 c) c.split.auto.events

rest : (c : goal.After-read_set-arg-1) → drop events_len (words-2 c) ≡ drop events_len c.args.words.now
rest c = rest-stays events_len set_len c.args.words.now (long-3 c) (events c) c.split.auto.events

pub slice_bounds-split-end : goal.slice_bounds-split-end
slice_bounds-split-end c = front-in events_len set_len c.args.words.now (long c)

pub slice_bounds-split-end-2 : goal.slice_bounds-split-end-2
slice_bounds-split-end-2 c = sym (front_long events_len set_len c.args.words.now (long-2 c))

pub split-requires : goal.split-requires
split-requires c = let p = c.requires in record { judgeable = own-track p.judgeable; index_value = (p.index_value.0, zeros-front events_len set_len p.index_value.1) }

pub returns-in_err-split : goal.returns-in_err-split
returns-in_err-split c =
    let p = err_from_is_err_and c.from_residual.result c.from_residual.ensures.1 in
    rw (p.1, p.2) (refuses-split c.requires.judgeable c.in_err-split.ensures _ _ (number-some _))

pub slice_bounds-read_set-count : goal.slice_bounds-read_set-count
slice_bounds-read_set-count c = front-in events_len set_len (words c) (words_long c)

pub slice_bounds-read_set-start : goal.slice_bounds-read_set-start
slice_bounds-read_set-start c = front-in events_len set_len (words c) (words_long c)

pub read_set-requires : goal.read_set-requires
read_set-requires c =
    let p = c.requires in
    let sa = c.in_ok-split.ensures in
    let l = set-lent p.judgeable sa refl in
    record { telling = (split-of p.judgeable sa refl).telling; r_len = (l.0, l.1, l.2, part_to_end (words-2 c) events_len ∙ rest c ∙ zeros-rest events_len set_len p.index_value.1) }

pub returns : goal.returns
returns c =
    let x = c.read_set.new.x in
    read_of c.requires.judgeable c.in_ok-split.ensures refl c.read_set.ensures
    (front-stays events_len set_len (words-3 c) (words_long-2 c) x ∙ front c) (rest-new events_len set_len (words-3 c) (words_long-2 c) x)
