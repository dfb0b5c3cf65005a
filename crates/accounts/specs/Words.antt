-- The words of each number, as include/locmaf.h has them.
use Rattle.std.specs.Prelude.{ℕ, List, codes, ◌==◌, if◌then◌else◌}

abbrev pub words_of : ℕ → List ℕ
words_of n =
    if n == 0 then codes "done" else
    if n == 1 then codes "slot number above 7" else
    if n == 2 then codes "slot not open" else
    if n == 3 then codes "opening an open slot" else
    if n == 4 then codes "bad parameters" else
    if n == 5 then codes "chunk: the tree of boxes is broken" else
    if n == 6 then codes "chunk: wrong box, order, version, flags or box length" else
    if n == 7 then codes "chunk: any other rule of the chunk accepted broken" else
    if n == 8 then codes "chunk: a count or length past its maximum" else
    if n == 9 then codes "chunk: BMDT past its maximum, whatever the wish; or, where no delta is given, a number too wide in the full object" else
    if n == 10 then codes "header id neither 23 nor 25: skipped" else
    if n == 11 then codes "delta, and no reference held" else
    if n == 12 then codes "object unreadable" else
    if n == 13 then codes "id unknown, twice or forbidden here; a full without 10 or 14; only one of 18 and 20; 22 or 24 without them; a delta with `prft` ids where the current full has none" else
    if n == 14 then codes "deletion, list length (ids 9 and 23 too) or resulting set unlawful, any other absence included" else
    if n == 15 then codes "value outside its range or maximum" else
    if n == 16 then codes "sizes or protected sums disagree" else
    if n == 17 then codes "output shorter than the front" else
    if n == 21 then codes "derived IV past its size" else
    codes "table of the wrong length, or the named share unlawful"
