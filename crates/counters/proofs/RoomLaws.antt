-- A lawful set with other words in the room of its IVs is lawful. Assumes nothing.
use Prim.Native.Nat.{ℕ, ◌+◌, ◌*◌, ◌/◌, ◌≤◌}
use native.Mathlib.Omega.{arith}
use mathlib.Core.Path.{◌≡◌, refl, sym, ◌∙◌, ap, subst}
use mathlib.Core.Logic.{◌⊎◌, inl, inr}
use mathlib.Core.Bool.{Bool, true, ◌||◌}
use mathlib.Core.List.{List, [], ◌∷◌, ◌++◌}
use borrow.Author.Tests.{leb-true, le-leb}
use lib.Dec.{leb}
use lib.ListN.{length, get_or, take, drop}
use lib.Seq.{sets, split_at}
use Rattle.laws.specs.Tests.{◌and◌, all_le, sum}
use Rattle.laws.proofs.TestLaws.{left, right, both, either, and_assoc}
use Rattle.track.specs.declared.Track.{Track}
use Rattle.field_table.specs.declared.lines.Line.{Line}
use Rattle.field_table.specs.declared.lines.Measure.{Measure}
use Rattle.field_table.specs.Lines.{lines, line_for, spare, every, wanted, set_len, ivs_line, ivs_at, subsamples_at, iv_size_at, u64}
use Rattle.field_table.proofs.LineLaws.{line-count}
use Rattle.field_set.specs.Lawful.{has, in_use, count_in, values_of, region_ok, regions_ok, same_iv_size, measure_of, lawful}
use Rattle.field_set.proofs.LawfulLaws.{used_of, Region, region-facts, Lawful, lawful-facts, lawful-all}
use Rattle.iv_counter.specs.Counter.{all_words}
use Rattle.counters.specs.Follow.{iv_words, derived, with_derived}
use Rattle.counters.proofs.OutsideLaws.{sets-there, slice-behind, marks-outside}
use Rattle.counters.proofs.BesideLaws.{beside-word, beside-slice, beside-count, beside-has, beside-counts}
use Rattle.counters.proofs.IvsLaws.{Ivs, ivs-in}
use Rattle.counters.proofs.BackLaws.{all-words-le, all-words-length, derived-length}

-- a lawful region, from all that is asked of it
region-all : (m : Measure) (l : Line) (w : List ℕ) → Region m l w → region_ok m l w ≡ true
unfolding region_ok
region-all m l w r = both _ _ (le-leb _ _ r.room) (both _ _ (le-leb _ _ r.mark) (both _ _ r.values r.rest))

-- lawful regions of lines one behind the other
regions-join : (m : Measure) (ks ls : List Line) (w : List ℕ) → regions_ok m (ks ++ ls) w ≡ (regions_ok m ks w and regions_ok m ls w)
unfolding regions_ok ◌and◌
regions-join m [] ls w = refl
regions-join m (k ∷ ks) ls w =
    ap (λ (b : Bool). region_ok m k w and b) (regions-join m ks ls w)
    ∙ sym (and_assoc (region_ok m k w) (regions_ok m ks w) (regions_ok m ls w))

-- ---- regions that lie outside of the room

-- the whole of a line's region does
abbrev Apart : Line → Type 0
Apart l = (l.place + 1 + l.room ≤ ivs_at) ⊎ (subsamples_at ≤ l.place)

-- whether it does
apart : Line → Bool
apart l = leb (l.place + 1 + l.room) ivs_at || leb subsamples_at l.place

-- by its test
apart-is : (l : Line) → apart l ≡ true → Apart l
unfolding apart
apart-is l e =
    either (Apart l) (leb (l.place + 1 + l.room) ivs_at) (leb subsamples_at l.place) (λ q. inl (leb-true _ _ q)) (λ q. inr (leb-true _ _ q)) e

-- computed over the table up to the line of the IVs
first-apart : every apart (take ivs_line lines) ≡ true
unfolding every apart lines ◌and◌
first-apart = refl

-- and behind it
others_apart : every apart (drop (ivs_line + 1) lines) ≡ true
unfolding every apart lines ◌and◌
others_apart = refl

module _ (w vs : List ℕ) (room : ivs_at + 1 + length vs ≤ subsamples_at) (m : Measure) where
  -- the set with other words in the room
  abbrev y : List ℕ
  y = sets w (ivs_at + 1) vs

  -- a region outside of the room stays lawful
  region-kept : (l : Line) → Apart l → Region m l w → Region m l y
  region-kept l a r =
      let e : get_or y l.place 0 ≡ get_or w l.place 0 = beside-word w vs room l.place (mark a) in
      let u : used_of m l y ≡ used_of m l w = ap (λ (n : ℕ). in_use n (wanted l.want m)) e in
      record {
        room = rw u r.room;
        mark = rw e r.mark;
        values = rw (u, beside-slice w vs room (l.place + 1) (l.place + 1 + used_of m l w) (values a)) r.values;
        rest = rw (u, beside-slice w vs room (l.place + 1 + used_of m l w) (l.place + 1 + l.room) (rest a)) r.rest;
      }
    where
      mark : Apart l → (l.place ≤ ivs_at) ⊎ (subsamples_at ≤ l.place)
      mark (inl h) = inl (omega arith)
      mark (inr h) = inr h

      values : Apart l → (l.place + 1 + used_of m l w ≤ ivs_at + 1) ⊎ (subsamples_at ≤ l.place + 1)
      values (inl h) = inl (omega (arith, r.room))
      values (inr h) = inr (omega arith)

      rest : Apart l → (l.place + 1 + l.room ≤ ivs_at + 1) ⊎ (subsamples_at ≤ l.place + 1 + used_of m l w)
      rest (inl h) = inl (omega arith)
      rest (inr h) = inr (omega arith)

  -- and so do those of a run of lines
  regions-kept : (ls : List Line) → every apart ls ≡ true → regions_ok m ls w ≡ true → regions_ok m ls y ≡ true
  unfolding every regions_ok
  regions-kept [] a e = refl
  regions-kept (l ∷ ls) a e =
      both _ _ (region-all m l y (region-kept l (apart-is l (left _ _ a)) (region-facts m l w (left _ _ e)))) (regions-kept ls (right _ _ a) (right _ _ e))

module _ (t : Track) (w vs : List ℕ) (long : length w ≡ set_len) (good : lawful t w ≡ true) (on : has 9 w ≡ true)
    (much : length vs ≡ count_in w * iv_words t) (wide : all_le u64 vs ≡ true) where
  -- the set with them in the room
  abbrev x : List ℕ
  x = sets w (ivs_at + 1) vs

  -- what lengths go by
  abbrev m : Measure
  m = measure_of t w

  -- what stood in the room
  ivs : Ivs t w
  ivs = ivs-in t w good on

  -- they fit into it
  inside : ivs_at + 1 + length vs ≤ subsamples_at
  inside = omega (arith, much, ivs.room)

  -- the samples are as many
  same_count : count_in x ≡ count_in w
  same_count = beside-count w vs inside

  -- with the same subsamples
  same-counts : values_of 11 (count_in x) x ≡ values_of 11 (count_in w) w
  same-counts = ap (λ (n : ℕ). values_of 11 n x) same_count ∙ beside-counts w vs inside (count_in w)

  -- so that lengths go by the same
  same-measure : measure_of t x ≡ m
  same-measure = λ j. record { count = same_count j; ivs = t.iv_size / 8; sum = sum (same-counts j) }

  -- the region of the IVs
  ivs-region : Region m (get_or lines ivs_line spare) w → Region m (get_or lines ivs_line spare) x
  unfolding wanted lines
  ivs-region r =
      let e : get_or x ivs_at 0 ≡ get_or w ivs_at 0 = beside-word w vs inside ivs_at (inl (omega arith)) in
      let u : in_use (get_or x ivs_at 0) (count_in w * iv_words t) ≡ length vs = ap (λ (n : ℕ). in_use n (count_in w * iv_words t)) e ∙ sym ivs.used ∙ sym much in
      record {
        room = rw u (omega (arith, inside));
        mark = rw e r.mark;
        values = rw (u, sets-there w vs (ivs_at + 1) (omega (arith, inside, long))) wide;
        rest = rw (u, slice-behind vs w (ivs_at + 1) (ivs_at + 1 + length vs) subsamples_at (omega arith), much) ivs.rest;
      }

  -- all regions
  regions : regions_ok (measure_of t x) lines x ≡ true
  unfolding regions_ok
  regions =
      let split : lines ≡ take ivs_line lines ++ get_or lines ivs_line spare ∷ drop (ivs_line + 1) lines = split_at lines ivs_line spare (omega (arith, line-count)) in
      let all : (regions_ok m (take ivs_line lines) w and regions_ok m (get_or lines ivs_line spare ∷ drop (ivs_line + 1) lines) w) ≡ true =
      sym (regions-join m (take ivs_line lines) _ w) ∙ subst (λ (ls : List Line). regions_ok m ls w ≡ true) split (lawful-facts t w good).regions in
      rw same-measure
      (subst (λ (ls : List Line). regions_ok m ls x ≡ true) (sym split)
      (regions-join m (take ivs_line lines) _ x
      ∙ both _ _ (regions-kept w vs inside m (take ivs_line lines) first-apart (left _ _ all))
      (both _ _ (region-all m _ x (ivs-region (region-facts m _ w (left _ _ (right _ _ all)))))
      (regions-kept w vs inside m (drop (ivs_line + 1) lines) others_apart (right _ _ (right _ _ all))))))

  -- id 16 too
  same-iv-size : same_iv_size t x ≡ same_iv_size t w
  unfolding same_iv_size lines line_for
  same-iv-size = rw (beside-has w vs inside 16, beside-word w vs inside (iv_size_at + 1) (inr (omega arith)))

  -- and so it is lawful
  pub beside-lawful : lawful t x ≡ true
  beside-lawful =
      let h : Lawful t w = lawful-facts t w good in
      lawful-all t x
      (record {
        count = rw same_count h.count;
        saiz = rw same-counts h.saiz;
        bmdt = rw (beside-word w vs inside 0 (inl (omega arith))) h.bmdt;
        subsamples = rw same-counts h.subsamples;
        regions = regions;
        rules = rw (same_count, marks-outside x w (beside-word w vs inside)) h.rules;
        iv-size = same-iv-size ∙ h.iv-size;
      })

-- the same of the counters that follow
pub derived-lawful : (t : Track) (last : ℕ) (r w : List ℕ) (payload : ℕ) → length w ≡ set_len → lawful t w ≡ true → has 9 w ≡ true
    → lawful t (with_derived t last r w payload) ≡ true
unfolding with_derived
derived-lawful t last r w payload long good on =
    let cs : List ℕ = derived t last r w payload in
    let k : ℕ = iv_words t in
    beside-lawful t w (all_words k cs) long good on (all-words-length k cs ∙ ap (λ (n : ℕ). n * k) (derived-length t last r w payload)) (all-words-le k cs)
