-- The room of the IVs is zeros until their line is read: a field stays in its own room, the lines before that of the IVs store before it, and id 11 behind
-- it. Assumes nothing.
use Prim.Native.Nat.{ℕ, ◌+◌, ◌≤◌, ◌<◌}
use native.Mathlib.Omega.{arith}
use mathlib.Core.Path.{◌≡◌, refl, sym, ◌∙◌, ap}
use mathlib.Core.Bool.{Bool, true}
use mathlib.Core.List.{List}
use Rattle.std.specs.Prelude.{Some, None}
use borrow.Author.Tests.{leb-true}
use lib.Dec.{leb}
use lib.ListN.{length, get_or, set, take, replicate, get_or-replicate}
use lib.Seq.{slice, sets, length-take-le, get_or-take, get_or-set_other}
use Rattle.laws.specs.Tests.{◌and◌}
use Rattle.laws.proofs.StoreLaws.{word-before, word-behind}
use Rattle.track.specs.declared.Track.{Track}
use Rattle.field_table.specs.declared.lines.Line.{Line}
use Rattle.field_table.specs.declared.lines.Measure.{Measure}
use Rattle.field_table.specs.Lines.{every, lines, spare, set_len, line_count, line_number, ivs_at, subsamples_at, ivs_line, subsamples_line}
use Rattle.field_table.proofs.LineLaws.{line-count, every-at}
use Rattle.field_set.specs.Lawful.{lawful}
use Rattle.locmaf_read_said.specs.Said.{Says}
use Rattle.field_rules.specs.Fields.{Held, words_of}
use Rattle.field_rules.specs.Words.{store_all, set_words, no_fields}
use Rattle.field_rules.proofs.RoomLaws.{wanted_room}
use Rattle.field_rules.proofs.SetLaws.{Fits, AllFit, words-fit, words-none, number-of-line}
use Rattle.locmaf_read_field.specs.Cells.{Clear}
use Rattle.locmaf_read_set.specs.Read.{came_of, Measured, ClearFrom}
use Rattle.locmaf_read_set.proofs.CameLaws.{came-length, raw_at}

-- ---- a field that has room

pub fits-of : (l : Line) (h : Held) → ((vs : List ℕ) → h ≡ Some vs → length vs ≤ l.room) → Fits l h
fits-of l None k = tt
fits-of l (Some vs) k = k vs refl

-- what comes of a line has, by lengths that keep the maxima
pub all-fit : (t : Track) (delta : Bool) (r : List ℕ) → length r ≡ set_len → (delta ≡ true → lawful t r ≡ true) → (says : Says) (m : Measure) → Measured m
    → AllFit (λ l. (came_of t delta r says m l).field)
all-fit t delta r words law says m h i lt =
    let room = wanted_room i lt m h.small h.few in
    fits-of (get_or lines i spare) (came_of t delta r says m (get_or lines i spare)).field
    (λ vs e. omega (arith, came-length t delta r words law i lt says m vs e, room))

-- ---- the lines before that of the IVs end before it

unfoldable ends : Line → Bool
ends l = leb (l.place + 1 + l.room) ivs_at

all_end : every ends (take ivs_line lines) ≡ true
unfolding every ends lines ◌and◌
all_end = refl

ends_at : (i : ℕ) → i < ivs_line → (get_or lines i spare).place + 1 + (get_or lines i spare).room ≤ ivs_at
unfolding ends
ends_at i lt =
    let k : length (take ivs_line lines) ≡ ivs_line = length-take-le ivs_line lines (omega (arith, line-count)) in
    leb-true _ _ (rw (get_or-take ivs_line lines i spare lt) at (every-at ends (take ivs_line lines) i spare all_end (omega arith)))

-- so that one more leaves the room as it was
pub clear_next : (i : ℕ) (h : Held) → Fits (get_or lines i spare) h → (x : List ℕ) → ClearFrom i x → ClearFrom (i + 1) (sets x (get_or lines i spare).place (words_of h))
clear_next i h fit x z le j a b =
    word-behind (words_of h) x (get_or lines i spare).place j (omega (arith, ends_at i (omega arith), words-fit (get_or lines i spare) h fit)) ∙ z (omega arith) j a b

-- and what a call of `take` goes by is there
pub clear-line : (i : ℕ) → i < line_count → (k : ℕ) → k ≤ (get_or lines i spare).room → (x : List ℕ) → ClearFrom i x → Clear (get_or lines i spare) k x
unfolding lines line_number
clear-line i lt k few x z w j a b =
    let e : i ≡ ivs_line = sym (number-of-line i lt) ∙ ap (λ (id : ℕ). line_number id lines) (raw_at i lt w).0 in
    let p : (get_or lines i spare).place ≡ ivs_at = ap (λ (n : ℕ). (get_or lines n spare).place) e in
    let q : ivs_at + (get_or lines i spare).room < subsamples_at = rw e (omega arith) in
    z (omega arith) j (omega arith) (omega arith)

-- ---- the words that are lent: no field stands, and then id 11 alone

zeros-but : (k n j : ℕ) → 1 < j → j < k → get_or (set (replicate k 0) 1 n) j 0 ≡ 0
zeros-but k n j a b = get_or-set_other (replicate k 0) 1 j n 0 (omega arith) ∙ get_or-replicate k j 0 0 b

pub clear-eleven : (f : Line → Held) (n : ℕ) → ClearFrom 0 (store_all f (slice subsamples_line (subsamples_line + 1) lines) (set_words 0 n no_fields))
unfolding store_all lines
clear-eleven f n le j a b =
    word-before (words_of (f (get_or lines subsamples_line spare))) (set_words 0 n no_fields) subsamples_at j b
    ∙ ap (λ (w : List ℕ). get_or w j 0) (sym (words-none n))
    ∙ zeros-but set_len n j (omega arith) (omega arith)
