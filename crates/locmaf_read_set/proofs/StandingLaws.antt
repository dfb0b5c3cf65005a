-- The loop over the marks of the lines, and what a mark says of its line. Assumes nothing.
use Prim.Native.Nat.{ℕ, zero, suc, ◌+◌, ◌-◌, ◌≤◌, ◌<◌}
use native.Mathlib.Nat.{not-suc-le-zero, le_of_suc-le-suc, sub-zero}
use native.Mathlib.Numerals.{add-one}
use native.Mathlib.Omega.{arith}
use mathlib.Core.Path.{◌≡◌, refl, sym, ◌∙◌, ap}
use mathlib.Core.Bool.{Bool, true, false, cond}
use mathlib.Core.List.{List, [], ◌∷◌, ◌++◌, map, append-nil}
use lib.ListN.{length, get_or, set, take, replicate, length-map, get_or-map}
use lib.Seq.{take_all}
use Rattle.laws.proofs.ListLaws.{get_d-in}
use Rattle.wire.specs.declared.form.Row.{Row}
use Rattle.track.specs.declared.Track.{Track}
use Rattle.field_table.specs.declared.lines.Line.{Line}
use Rattle.field_table.specs.declared.lines.Measure.{Measure}
use Rattle.field_table.specs.Lines.{lines, spare, line_count}
use Rattle.field_table.proofs.LineLaws.{line-count}
use Rattle.locmaf_read_said.specs.Said.{says_in}
use Rattle.field_rules.proofs.SetLaws.{map_same}
use Rattle.locmaf_read_said.specs.declared.against.Against.{Against}
use Rattle.locmaf_read_field.specs.Cells.{right, TakenAs}
use Rattle.locmaf_read_set.specs.Read.{stays_in, marks_in, marks, stands, came_of, Readable}
use Rattle.locmaf_read_set.proofs.ReadableLaws.{stands-is, skipped}

-- the marks of the first i of n lines, and zeros
unfoldable pub marks_to : (Line → ℕ) → List Line → ℕ → List ℕ
marks_to g ls i = map g (take i ls) ++ replicate (length ls - i) 0

-- one mark more, stored or 0 as it was
mark_set : (g : Line → ℕ) (ls : List Line) (i : ℕ) → i < length ls → set (marks_to g ls i) i (g (get_or ls i spare)) ≡ marks_to g ls (suc i)
unfolding marks_to
mark_set g [] i h = absurd (not-suc-le-zero h)
mark_set g (l ∷ ls) zero h =
    let z : suc (length ls) - suc 0 ≡ length ls = omega arith in
    rw (sub-zero, z)
mark_set g (l ∷ ls) (suc i) h =
    let y : suc (length ls) - suc i ≡ length ls - i = omega arith in
    let z : suc (length ls) - suc (suc i) ≡ length ls - suc i = omega arith in
    rw (y, z) (ap (λ (s : List ℕ). g l ∷ s) (mark_set g ls i (le_of_suc-le-suc h)))

mark-keep : (g : Line → ℕ) (ls : List Line) (i : ℕ) → i < length ls → g (get_or ls i spare) ≡ 0 → marks_to g ls i ≡ marks_to g ls (suc i)
unfolding marks_to
mark-keep g [] i h e = absurd (not-suc-le-zero h)
mark-keep g (l ∷ ls) zero h e =
    let z : suc (length ls) - suc 0 ≡ length ls = omega arith in
    rw (sub-zero, z, e)
mark-keep g (l ∷ ls) (suc i) h e =
    let y : suc (length ls) - suc i ≡ length ls - i = omega arith in
    let z : suc (length ls) - suc (suc i) ≡ length ls - suc i = omega arith in
    rw (y, z) (ap (λ (s : List ℕ). g l ∷ s) (mark-keep g ls i (le_of_suc-le-suc h) e))

marks-none : (g : Line → ℕ) (ls : List Line) → replicate (length ls) 0 ≡ marks_to g ls 0
unfolding marks_to
marks-none g ls = rw sub-zero

marks-all : (g : Line → ℕ) (ls : List Line) (i : ℕ) → length ls ≤ i → marks_to g ls i ≡ map g ls
unfolding marks_to
marks-all g ls i h =
    let z : length ls - i ≡ 0 = omega arith in
    rw (z, take_all i ls h) (append-nil (map g ls))

module _ (index gone : List ℕ) (held : Bool) (r : List ℕ) where
  -- the marks of the lines before i are stored
  pub record Marking (m : List ℕ) (i : ℕ) : Type 0 where
    pub high : i ≤ line_count
    pub done : m ≡ marks_to (λ l. cond (stays_in index gone held r l) 1 0) lines i

  pub marking-start : Marking (replicate line_count 0) 0
  marking-start = record { high = omega arith; done = rw line-count at (marks-none (λ l. cond (stays_in index gone held r l) 1 0) lines) }

  module _ (m : List ℕ) (i : ℕ) (h : Marking m i) where
    pub marking-end : line_count ≤ i → m ≡ marks_in index gone held r
    marking-end le = h.done ∙ marks-all (λ l. cond (stays_in index gone held r l) 1 0) lines i (omega (arith, line-count))

    module _ (lt : i < line_count) (b : Bool) (eb : b ≡ stays_in index gone held r (get_or lines i spare)) where
      -- a line that stands
      pub marking-set : b ≡ true → (n : List ℕ) → n ≡ set m i 1 → Marking n (i + 1)
      marking-set e n en =
          let k : i < length lines = omega (arith, line-count) in
          let s : set (marks_to (λ l. cond (stays_in index gone held r l) 1 0) lines i) i 1
          ≡ marks_to (λ l. cond (stays_in index gone held r l) 1 0) lines (suc i) =
          rw (← eb, e) at (mark_set (λ l. cond (stays_in index gone held r l) 1 0) lines i k) in
          record { high = omega arith; done = en ∙ ap (λ (z : List ℕ). set z i 1) h.done ∙ rw add-one s }

      -- and one that doesn't
      pub marking-keep : b ≡ false → (n : List ℕ) → n ≡ m → Marking n (i + 1)
      marking-keep e n en =
          let k : i < length lines = omega (arith, line-count) in
          let z : ◌≡◌ {A = ℕ} (cond (stays_in index gone held r (get_or lines i spare)) 1 0) 0 = rw (← eb, e) in
          record { high = omega arith; done = en ∙ h.done ∙ rw add-one (mark-keep (λ l. cond (stays_in index gone held r l) 1 0) lines i k z) }

-- the marks are those of what is said of the lines
pub marks-said : (F : List Row) (o index gone : List ℕ) (t : Track) (a : Against) (r : List ℕ) → Readable F o index gone t a r
    → marks_in index gone a.held r ≡ marks t a.held r (says_in F o index)
marks-said F o index gone t a r h =
    map_same (λ l. cond (stays_in index gone a.held r l) 1 0) (λ l. cond (stands t a.held r (says_in F o index) l) 1 0) lines
    (λ i lt. rw (stands-is F o index gone t a r h i (omega (arith, line-count))))

module _ (index gone : List ℕ) (held : Bool) (r m : List ℕ) (em : m ≡ marks_in index gone held r) where
  -- there are as many marks as lines
  pub marks-count : length m ≡ line_count
  marks-count = ap length em ∙ length-map lines (λ l. cond (stays_in index gone held r l) 1 0) ∙ line-count

  -- and each says whether its line stands
  mark-is : (i : ℕ) → i < line_count → get_or m i 0 ≡ cond (stays_in index gone held r (get_or lines i spare)) 1 0
  mark-is i lt =
      get_d-in m i 0 (cond (stays_in index gone held r spare) 1 0) (omega (arith, marks-count))
      ∙ ap (λ (s : List ℕ). get_or s i (cond (stays_in index gone held r spare) 1 0)) em
      ∙ get_or-map (λ l. cond (stays_in index gone held r l) 1 0) lines i spare

-- 0 says that it doesn't
mark-none : (b : Bool) → ◌≡◌ {A = ℕ} (cond b 1 0) 0 → b ≡ false
mark-none true e = absurd (omega arith)
mark-none false e = refl

-- a line whose mark is 0 has nothing to take
pub unmarked : (F : List Row) (o index gone : List ℕ) (t : Track) (a : Against) (r : List ℕ) → Readable F o index gone t a r
    → (m : List ℕ) → m ≡ marks_in index gone a.held r → (i : ℕ) → i < line_count → get_or m i 0 ≡ 0 → (k : Measure) (x : List ℕ)
    → TakenAs (came_of t a.held r (says_in F o index) k (get_or lines i spare)) (get_or lines i spare).place x right x
unmarked F o index gone t a r h m em i lt z =
    skipped F o index gone t a r h i lt (mark-none _ (sym (mark-is index gone a.held r m em i lt) ∙ z))
