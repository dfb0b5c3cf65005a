-- The loops over the lines of the table: fields weighed so far, whose bytes are kept, and fields that are left to be written. Assumes nothing.
use Prim.Native.Nat.{ℕ, ◌+◌, ◌*◌, ◌≤◌, ◌<◌}
use native.Mathlib.Numerals.{add-one}
use native.Mathlib.Omega.{arith}
use mathlib.Core.Path.{◌≡◌, sym, ◌∙◌, ap}
use mathlib.Core.Bool.{Bool, true}
use mathlib.Core.List.{List, [], ◌∷◌, ◌++◌}
use borrow.Author.Count.{below_none, below_more}
use lib.ListN.{length, get_or, take, set, length-take, length-set}
use lib.Seq.{slice, slice-cons, slice_empty, take-suc, drop-append-le, get_or-set_same, get_or-set_other}
use Rattle.laws.specs.Writes.{Wrote}
use Rattle.wire.specs.declared.form.Row.{Row}
use Rattle.laws.specs.Options.{is_some}
use Rattle.track.specs.declared.Track.{Track}
use Rattle.field_table.specs.declared.lines.Line.{Line}
use Rattle.field_table.specs.Lines.{lines, spare, line_count}
use Rattle.field_table.proofs.LineLaws.{line-count}
use Rattle.std.specs.Prelude.{Option, Some}
use Rattle.std.specs.Option.{unwrap_or}
use Rattle.locmaf_write_tuples.specs.Items.{Items, nothing, ◌before◌, bytes_of, sum_of, weight_most, WeighedAs}
use Rattle.locmaf_write_block.specs.Changes.{chunk_lines, line_items, line_most}
use Rattle.locmaf_write_block.specs.Fields.{before_bmdt, before_count, lines_items, between, field_at, deletion_items, all_at, gone_at, kept_len, KeptEach, KeptFields, Kept}
use Rattle.locmaf_write_tuples.proofs.ItemLaws.{nothing-before, before-nothing, before-assoc, weighed-both, weighed-nothing, weighed-as, weighed-within, weighed-bytes}
use Rattle.locmaf_write_tuples.proofs.PutLaws.{Left, left-start, left-none, left_as, left-first, left-next}

-- a run of lines with the one after it
slice_snoc : (from i : ℕ) → from ≤ i → i < line_count → slice from (i + 1) lines ≡ slice from i lines ++ (get_or lines i spare ∷ [])
slice_snoc from i h k =
    let n : i < length lines = omega (arith, line-count) in
    let m : from ≤ length (take i lines) = omega (arith, length-take i lines) in
    rw (add-one, take-suc lines i spare n) (drop-append-le from (take i lines) (get_or lines i spare ∷ []) m)

module _ (F : List Row) (t : Track) (delta follow : Bool) (r x : List ℕ) where
  lines-append : (xs ys : List Line) → lines_items F t delta follow r x (xs ++ ys) ≡ lines_items F t delta follow r x xs before lines_items F t delta follow r x ys
  unfolding lines_items
  lines-append [] ys = sym (nothing-before (lines_items F t delta follow r x ys))
  lines-append (l ∷ xs) ys =
      ap (λ (is : Items). line_items t delta follow r x l F before is) (lines-append xs ys)
      ∙ sym (before-assoc (line_items t delta follow r x l F) (lines_items F t delta follow r x xs) (lines_items F t delta follow r x ys))

  -- no line
  pub lines_none : (i : ℕ) → between F t delta follow r x i i ≡ nothing
  unfolding lines_items
  lines_none i = rw (slice_empty i lines)

  -- one line
  line-alone : (l : Line) → lines_items F t delta follow r x (l ∷ []) ≡ line_items t delta follow r x l F
  unfolding lines_items
  line-alone l = before-nothing (line_items t delta follow r x l F)

  -- one line more, at the end and at the front
  lines_snoc : (from i : ℕ) → from ≤ i → i < line_count → between F t delta follow r x from (i + 1) ≡ between F t delta follow r x from i before field_at F t delta follow r x i
  lines_snoc from i h k =
      ap (lines_items F t delta follow r x) (slice_snoc from i h k)
      ∙ lines-append (slice from i lines) (get_or lines i spare ∷ [])
      ∙ ap (λ (is : Items). between F t delta follow r x from i before is) (line-alone (get_or lines i spare))

  pub lines_cons : (i to : ℕ) → i < to → to ≤ line_count → between F t delta follow r x i to ≡ field_at F t delta follow r x i before between F t delta follow r x (i + 1) to
  unfolding lines_items
  lines_cons i to h k =
      let n : to ≤ length lines = omega (arith, line-count) in
      rw (slice-cons i to lines spare h n, add-one)

  -- the lines of a chunk in three parts, between which BMDT and the sample count stand
  pub three-parts : between F t delta follow r x 0 chunk_lines ≡ between F t delta follow r x 0 before_bmdt before between F t delta follow r x before_bmdt before_count before between F t delta follow r x before_count chunk_lines
  unfolding lines
  three-parts =
      lines-append (slice 0 before_bmdt lines) (slice before_bmdt before_count lines ++ slice before_count chunk_lines lines)
      ∙ ap (λ (is : Items). between F t delta follow r x 0 before_bmdt before is) (lines-append (slice before_bmdt before_count lines) (slice before_count chunk_lines lines))

  -- the bytes of the field at i are kept
  abbrev Known : List ℕ → ℕ → Type 0
  Known kept i = is_some (field_at F t delta follow r x i) ≡ true → get_or kept i 0 ≡ length (bytes_of F (field_at F t delta follow r x i))

  -- and stay when something else is
  known-other : (kept : List ℕ) (j n i : ℕ) → (i ≡ j → ⊥) → Known kept i → Known (set kept j n) i
  known-other kept j n i d h s = get_or-set_other kept j i n 0 d ∙ h s

  -- the fields of the lines before the one at i were weighed, and their bytes are kept
  pub record Weighing (kept : List ℕ) (sum : Option ℕ) (i : ℕ) : Type 0 where
    pub high : i ≤ chunk_lines
    pub done : WeighedAs F (between F t delta follow r x 0 i) (line_most * i) sum
    pub long : length kept ≡ kept_len
    pub each : (j : ℕ) → j < i → Known kept j

  pub weigh-start : (kept : List ℕ) → length kept ≡ kept_len → Weighing kept (Some 0) 0
  weigh-start kept h =
      record {
        high = omega arith;
        done = weighed-as (sym (lines_none 0)) weighed-nothing;
        long = h;
        each = below_none (Known kept);
      }

  module _ (kept : List ℕ) (sum : Option ℕ) (i : ℕ) (h : Weighing kept sum i) where
    -- all of them were
    pub weigh-end : chunk_lines ≤ i → WeighedAs F (between F t delta follow r x 0 chunk_lines) (line_most * chunk_lines) sum × KeptEach F t delta follow r x kept
    weigh-end le =
        let e : i ≡ chunk_lines = omega (arith, h.high) in
        (rw e at h.done, record { long = h.long; each = rw e at h.each })

    -- there is room for one more
    pub weigh-room : (w : Option ℕ) → WeighedAs F (field_at F t delta follow r x i) line_most w → (unwrap_or sum 0 ≤ weight_most) × (unwrap_or w 0 ≤ weight_most)
    weigh-room w p = (omega (arith, h.done.small, h.high), omega (arith, p.small))

    -- one more was
    pub weigh-next : i < chunk_lines → (w : Option ℕ) → WeighedAs F (field_at F t delta follow r x i) line_most w → (n : ℕ) → n ≡ unwrap_or w 0
        → (u : Option ℕ) → u ≡ sum_of sum w → Weighing (set kept i n) u (i + 1)
    weigh-next lt w p n k u e =
        record {
          high = omega arith;
          done =
              weighed-as (sym (lines_snoc 0 i (omega arith) (omega arith)))
              (weighed-within (omega arith) (weighed-both h.done p e));
          long = length-set kept i n ∙ h.long;
          each =
              below_more (Known (set kept i n)) i
              (λ j less. known-other kept i n j (λ z. omega arith) (h.each j less))
              (λ s. get_or-set_same kept i n 0 (omega (arith, h.long)) ∙ k ∙ weighed-bytes p s);
        }

  -- those of all lines together are kept behind them
  pub keep_all : {kept : List ℕ} {most n : ℕ} {w : Option ℕ} → KeptEach F t delta follow r x kept → WeighedAs F (between F t delta follow r x 0 chunk_lines) most w
      → n ≡ unwrap_or w 0 → KeptFields F t delta follow r x (set kept all_at n)
  keep_all {kept} {n = n} h p k =
      record {
        lines =
            record {
              long = length-set kept all_at n ∙ h.long;
              each = λ i lt. known-other kept all_at n i (λ z. omega arith) (h.each i lt);
            };
        all = λ s. get_or-set_same kept all_at n 0 (omega (arith, h.long)) ∙ k ∙ weighed-bytes p s;
      }

  -- and those of the deletions behind all
  pub keep-gone : {kept : List ℕ} {most n : ℕ} {w : Option ℕ} → KeptFields F t delta follow r x kept → WeighedAs F (deletion_items F t delta follow r x) most w
      → n ≡ unwrap_or w 0 → Kept F t delta follow r x (set kept gone_at n)
  keep-gone {kept} {n = n} h p k =
      record {
        fields =
            record {
              lines =
                  record {
                    long = length-set kept gone_at n ∙ h.lines.long;
                    each = λ i lt. known-other kept gone_at n i (λ z. omega arith) (h.lines.each i lt);
                  };
              all = λ s. get_or-set_other kept gone_at all_at n 0 (λ z. omega arith) ∙ h.all s;
            };
        gone = λ s. get_or-set_same kept gone_at n 0 (omega (arith, h.lines.long)) ∙ k ∙ weighed-bytes p s;
      }

  -- the fields of the lines from the one at i on are left to be written
  pub record Putting (l : List ℕ) (at from to : ℕ) (m : List ℕ) (p i : ℕ) : Type 0 where
    pub high : i ≤ to
    pub last : to ≤ chunk_lines
    pub left : Left F (between F t delta follow r x from to) l at (between F t delta follow r x i to) m p

  module _ (l : List ℕ) (at from to : ℕ) where
    pub put-start : from ≤ to → to ≤ chunk_lines → is_some (between F t delta follow r x from to) ≡ true → at + length (bytes_of F (between F t delta follow r x from to)) ≤ length l
        → Putting l at from to l at from
    put-start h k s e = record { high = h; last = k; left = left-start F (between F t delta follow r x from to) l at s e }

    module _ (m : List ℕ) (p i : ℕ) (h : Putting l at from to m p i) where
      -- none is left
      pub put-end : to ≤ i → Wrote l at (bytes_of F (between F t delta follow r x from to)) m p
      put-end le =
          let e : i ≡ to = omega (arith, h.high) in
          let z : between F t delta follow r x i to ≡ nothing = rw e (lines_none to) in
          left-none F (between F t delta follow r x from to) l at (left_as F (between F t delta follow r x from to) l at z h.left)

      module _ (lt : i < to) where
        here : Left F (between F t delta follow r x from to) l at (field_at F t delta follow r x i before between F t delta follow r x (i + 1) to) m p
        here = left_as F (between F t delta follow r x from to) l at (lines_cons i to lt (omega (arith, h.last))) h.left

        -- the next one fits, its bytes are known, and it has room
        pub put_first : (kept : List ℕ) → KeptEach F t delta follow r x kept
            → (i < chunk_lines)
            × ((is_some (field_at F t delta follow r x i) ≡ true)
            × ((get_or kept i 0 ≡ length (bytes_of F (field_at F t delta follow r x i))) × (p + length (bytes_of F (field_at F t delta follow r x i)) ≤ length m)))
        put_first kept k =
            let low : i < chunk_lines = omega (arith, h.last) in
            let n = left-first F (between F t delta follow r x from to) l at (field_at F t delta follow r x i) (between F t delta follow r x (i + 1) to) m p here in
            (low, (n.0, (k.each i low n.0, n.1)))

        -- it was written
        pub put_next : (n : List ℕ) (q : ℕ) → Wrote m p (bytes_of F (field_at F t delta follow r x i)) n q → Putting l at from to n q (i + 1)
        put_next n q w =
            record {
              high = omega arith;
              last = h.last;
              left = left-next F (between F t delta follow r x from to) l at (field_at F t delta follow r x i) (between F t delta follow r x (i + 1) to) m p here n q w;
            }
