-- The words of a set: where each field's region stands, what is in it, and how they come about by one store after another. Assumes nothing.
use Prim.Native.Nat.{ℕ, zero, suc, ◌+◌, ◌-◌, ◌≤◌, ◌<◌, suc-le-suc}
use native.Mathlib.Nat.{not-suc-le-zero, le_of_suc-le-suc, add-zero, zero-add}
use native.Mathlib.Omega.{arith}
use mathlib.Core.Path.{◌≡◌, refl, sym, ◌∙◌, ap}
use mathlib.Core.Bool.{Bool, true, false, cond, not}
use mathlib.Core.List.{List, [], ◌∷◌, ◌++◌, map, append_assoc, append-nil}
use Rattle.std.specs.Prelude.{Some, None}
use borrow.Author.Tests.{eqb-true, le-leb}
use lib.Dec.{eqb, leb}
use lib.ListN.{length, get_or, set, drop, replicate, length-append, length-replicate, replicate-append-replicate, get_or-append}
use lib.Seq.{slice, sets, sets-eq, get_or_at, get_or-append-add, append_snoc}
use Rattle.laws.specs.Tests.{◌and◌, all_zero, all_le}
use Rattle.laws.proofs.ListLaws.{drop-replicate}
use Rattle.laws.proofs.StoreLaws.{sets-after, sets-before}
use Rattle.laws.proofs.SliceLaws.{slice-between}
use Rattle.laws.proofs.TestLaws.{left, right, both, all_zero-zeros}
use Rattle.field_table.specs.declared.lines.Line.{Line}
use Rattle.field_table.specs.declared.lines.Measure.{Measure}
use Rattle.field_table.specs.Lines.{lines, spare, line_for, line_number, marks_of, set_len, wanted, sizes_at, subsamples_at, first_flags_at, line_count, subsamples_line}
use Rattle.field_set.specs.Lawful.{has, in_use, values_of, region_ok, regions_ok}
use Rattle.field_table.proofs.LineLaws.{tiles, tiled, line-count}
use Rattle.field_set.proofs.RegionLaws.{unused, used}
use Rattle.laws.specs.Options.{is_some}
use Rattle.field_rules.specs.Fields.{numbers, Held, words_of}
use Rattle.field_rules.specs.Words.{region_of, regions_of, set_words, no_fields, store_all}

-- a field's values have room in its region
abbrev pub Fits : Line → Held → Type 0
Fits l None = Unit {0}
Fits l (Some vs) = length vs ≤ l.room

-- and so have those of every field of the table
abbrev pub AllFit : (Line → Held) → Type 0
AllFit f = (i : ℕ) → i < line_count → Fits (get_or lines i spare) (f (get_or lines i spare))

-- the same of any run of lines
abbrev RunFits : (Line → Held) → List Line → Type 0
RunFits f ls = (i : ℕ) → i < length ls → Fits (get_or ls i spare) (f (get_or ls i spare))

-- of a run that goes on
run_fits : (f : Line → Held) (l : Line) (ls : List Line) → RunFits f (l ∷ ls) → RunFits f ls
run_fits f l ls h i lt = h (suc i) (suc-le-suc lt)

-- nothing has room everywhere
none-fits : (ls : List Line) → RunFits no_fields ls
none-fits ls i lt = tt

-- a field's region stands at its place
pub record Around (l : Line) (h : Held) (w : List ℕ) : Type 0 where
  pub pre : List ℕ
  pub post : List ℕ
  pub at : length pre ≡ l.place
  pub is : w ≡ pre ++ (region_of l h ++ post)

-- ---- lengths

-- rows of zeros
zeros-join : (j k n : ℕ) → j + k ≡ n → replicate j 0 ++ replicate k 0 ≡ replicate {A = ℕ} n 0
zeros-join j k n e = replicate-append-replicate j k 0 ∙ ap (λ (m : ℕ). replicate m 0) e

zeros-drop : (k n m : ℕ) → n - k ≡ m → drop k (replicate n 0) ≡ replicate {A = ℕ} m 0
zeros-drop k n m e = drop-replicate k n 0 ∙ ap (λ (i : ℕ). replicate i 0) e

-- a region has a word for the mark and its room
region-length : (l : Line) (h : Held) → Fits l h → length (region_of l h) ≡ 1 + l.room
unfolding region_of
region-length l None h = length-replicate {A = ℕ} (1 + l.room) 0
region-length l (Some vs) h = omega (arith, length-append vs (replicate (l.room - length vs) 0), length-replicate {A = ℕ} (l.room - length vs) 0, h)

-- regions that follow one another fill what they tile
regions-length : (f : Line → Held) (at : ℕ) (ls : List Line) (end : ℕ) → tiles at ls end ≡ true → RunFits f ls → at + length (regions_of f ls) ≡ end
unfolding tiles regions_of
regions-length f at [] end t h = omega (arith, eqb-true at end t)
regions-length f at (l ∷ ls) end t h =
    let e : at + 1 + l.room + length (regions_of f ls) ≡ end = regions-length f (at + 1 + l.room) ls end (right _ _ t) (run_fits f l ls h) in
    omega (arith, length-append (region_of l (f l)) (regions_of f ls), region-length l (f l) (h 0 (omega arith)))

-- the place of a run's first line
tile-place : (at : ℕ) (l : Line) (ls : List Line) (end : ℕ) → tiles at (l ∷ ls) end ≡ true → l.place ≡ at
unfolding tiles
tile-place at l ls end t = eqb-true _ _ (left _ _ t)

-- regions one after the other
regions-append : (f : Line → Held) (xs ys : List Line) → regions_of f (xs ++ ys) ≡ regions_of f xs ++ regions_of f ys
unfolding regions_of
regions-append f [] ys = refl
regions-append f (l ∷ xs) ys =
    ap (λ (z : List ℕ). region_of l (f l) ++ z) (regions-append f xs ys) ∙ sym (append_assoc (region_of l (f l)) (regions_of f xs) (regions_of f ys))

-- where no field stands all is 0
regions-none : (at : ℕ) (ls : List Line) (end : ℕ) → tiles at ls end ≡ true → regions_of no_fields ls ≡ replicate (end - at) 0
unfolding tiles regions_of region_of
regions-none at [] end t = let z : end - at ≡ 0 = omega (arith, eqb-true at end t) in rw z
regions-none at (l ∷ ls) end t =
    let e : at + 1 + l.room + length (regions_of no_fields ls) ≡ end = regions-length no_fields (at + 1 + l.room) ls end (right _ _ t) (none-fits ls) in
    rw (regions-none (at + 1 + l.room) ls end (right _ _ t)) (zeros-join (1 + l.room) (end - (at + 1 + l.room)) (end - at) (omega arith))

-- the second of some zeros
set-second : (k n : ℕ) → set (replicate (suc (suc k)) 0) 1 n ≡ 0 ∷ n ∷ replicate k 0
set-second k n = refl

-- the words of a set without fields
pub words-none : (n : ℕ) → set (replicate set_len 0) 1 n ≡ set_words 0 n no_fields
unfolding set_words
words-none n = set-second (set_len - sizes_at) n ∙ ap (λ (z : List ℕ). 0 ∷ n ∷ z) (sym (regions-none sizes_at lines set_len tiled))

-- and with another BMDT
pub words-bmdt : (b c n : ℕ) (f : Line → Held) → set (set_words b n f) 0 c ≡ set_words c n f
unfolding set_words
words-bmdt b c n f = refl

-- BMDT and the count
pub words-start : (b n : ℕ) (f : Line → Held) → get_or (set_words b n f) 0 0 ≡ b
unfolding set_words
words-start b n f = refl

pub words_count : (b n : ℕ) (f : Line → Held) → get_or (set_words b n f) 1 0 ≡ n
unfolding set_words
words_count b n f = refl

-- the table is such a run
table_fits : (f : Line → Held) → AllFit f → RunFits f lines
table_fits f h i lt = h i (omega (arith, line-count))

-- the words of a set are as many as they should be
pub words-length : (b n : ℕ) (f : Line → Held) → AllFit f → length (set_words b n f) ≡ set_len
unfolding set_words
words-length b n f h = omega (arith, regions-length f 2 lines set_len tiled (table_fits f h))

-- ---- stores

-- a field stored into an empty region
store-zeros : (l : Line) (h : Held) → Fits l h → sets (replicate (1 + l.room) 0) 0 (words_of h) ≡ region_of l h
unfolding region_of
store-zeros l None h = refl
store-zeros l (Some vs) h =
    let k : 0 + length (1 ∷ vs) ≤ length {A = ℕ} (replicate (1 + l.room) 0) = omega (arith, length-replicate {A = ℕ} (1 + l.room) 0) in
    rw (sets-eq (1 ∷ vs) (replicate (1 + l.room) 0) 0 k, zeros-drop (0 + suc (length vs)) (1 + l.room) (l.room - length vs) (omega arith))

-- its words and its values have room
pub words-fit : (l : Line) (h : Held) → Fits l h → length (words_of h) ≤ 1 + l.room
words-fit l None h = omega arith
words-fit l (Some vs) h = omega arith

numbers_fit : (l : Line) (h : Held) → Fits l h → length (numbers h) ≤ l.room
numbers_fit l None h = omega arith
numbers_fit l (Some vs) h = h

-- among other words
store-here : (pre : List ℕ) (l : Line) (h : Held) (post : List ℕ) → length pre ≡ l.place → Fits l h
    → sets (pre ++ (region_of l None ++ post)) l.place (words_of h) ≡ pre ++ (region_of l h ++ post)
unfolding region_of
store-here pre l h post e fit =
    let n : length pre + 0 ≡ l.place = omega arith in
    let k : 0 + length (words_of h) ≤ length {A = ℕ} (replicate (1 + l.room) 0) = omega (arith, length-replicate {A = ℕ} (1 + l.room) 0, words-fit l h fit) in
    ap (λ (p : ℕ). sets (pre ++ (replicate (1 + l.room) 0 ++ post)) p (words_of h)) (sym n)
    ∙ sets-after (words_of h) pre (replicate (1 + l.room) 0 ++ post) 0
    ∙ ap (λ (z : List ℕ). pre ++ z) (sets-before (words_of h) (replicate (1 + l.room) 0) post 0 k ∙ ap (λ (z : List ℕ). z ++ post) (store-zeros l h fit))

-- the fields of a run of lines, stored into empty regions among other words
pub store-run : (f : Line → Held) (pre : List ℕ) (ls : List Line) (post : List ℕ) (end : ℕ) → tiles (length pre) ls end ≡ true → RunFits f ls
    → store_all f ls (pre ++ (regions_of no_fields ls ++ post)) ≡ pre ++ (regions_of f ls ++ post)
unfolding tiles regions_of store_all
store-run f pre [] post end t h = refl
store-run f pre (l ∷ ls) post end t h =
    let e : length pre ≡ l.place = sym (tile-place (length pre) l ls end t) in
    let fit : Fits l (f l) = h 0 (omega arith) in
    let r : List ℕ = region_of l (f l) in
    let n : length pre + 1 + l.room ≡ length (pre ++ r) = omega (arith, length-append pre r, region-length l (f l) fit) in
    let t' : tiles (length (pre ++ r)) ls end ≡ true = rw n at (right _ _ t) in
    ap (λ (z : List ℕ). store_all f ls (sets (pre ++ z) l.place (words_of (f l)))) (append_assoc (region_of l None) (regions_of no_fields ls) post)
    ∙ ap (store_all f ls) (store-here pre l (f l) (regions_of no_fields ls ++ post) e fit ∙ sym (append_assoc pre r (regions_of no_fields ls ++ post)))
    ∙ store-run f (pre ++ r) ls post end t' (run_fits f l ls h)
    ∙ append_assoc pre r (regions_of f ls ++ post)
    ∙ ap (λ (z : List ℕ). pre ++ z) (sym (append_assoc r (regions_of f ls) post))

-- fields that have room in two runs, in each of them
fits-front : (f : Line → Held) (xs ys : List Line) → RunFits f (xs ++ ys) → RunFits f xs
fits-front f xs ys h i lt = rw (get_or-append xs ys spare i lt) at (h i (omega (arith, length-append xs ys)))

fits-back : (f : Line → Held) (xs ys : List Line) → RunFits f (xs ++ ys) → RunFits f ys
fits-back f xs ys h i lt = rw (get_or-append-add xs ys i spare) at (h (length xs + i) (omega (arith, length-append xs ys)))

-- a run of one line
one-fits : (f : Line → Held) (l : Line) → Fits l (f l) → RunFits f (l ∷ [])
one-fits f l h zero lt = h
one-fits f l h (suc i) lt = absurd (not-suc-le-zero (le_of_suc-le-suc lt))

one-region : (f : Line → Held) (l : Line) → regions_of f (l ∷ []) ≡ region_of l (f l)
unfolding regions_of
one-region f l = append-nil (region_of l (f l))

-- a table of three runs, whose middle one is stored first
module _ (f : Line → Held) (n : ℕ) (xs ys zs : List Line) (a b end : ℕ) (tx : tiles sizes_at xs a ≡ true) (ty : tiles a ys b ≡ true) (tz : tiles b zs end ≡ true) where
  front : (Line → Held) → List ℕ
  front g = 0 ∷ n ∷ regions_of g xs

  front_length : (g : Line → Held) → RunFits g xs → length (front g) ≡ a
  unfolding front
  front_length g k = omega (arith, regions-length g 2 xs a tx k)

  -- the middle one alone
  middle-stored : RunFits f ys → store_all f ys (0 ∷ n ∷ regions_of no_fields (xs ++ (ys ++ zs))) ≡ front no_fields ++ (regions_of f ys ++ regions_of no_fields zs)
  unfolding front
  middle-stored fy =
      let t : tiles (length (front no_fields)) ys b ≡ true = rw (front_length no_fields (none-fits xs)) ty in
      ap (λ (w : List ℕ). store_all f ys (0 ∷ n ∷ w))
      (regions-append no_fields xs (ys ++ zs) ∙ ap (λ (w : List ℕ). regions_of no_fields xs ++ w) (regions-append no_fields ys zs))
      ∙ store-run f (front no_fields) ys (regions_of no_fields zs) b t fy

  -- a middle run of one line
  middle-around : (l : Line) → ys ≡ l ∷ [] → Fits l (f l) → Around l (f l) (store_all f ys (0 ∷ n ∷ regions_of no_fields (xs ++ (ys ++ zs))))
  middle-around l e fit =
      let fy : RunFits f ys = rw e (one-fits f l fit) in
      record {
        pre = front no_fields;
        post = regions_of no_fields zs;
        at = front_length no_fields (none-fits xs) ∙ sym (tile-place a l [] b (rw e at ty));
        is = middle-stored fy ∙ ap (λ (w : List ℕ). front no_fields ++ (w ++ regions_of no_fields zs)) (ap (regions_of f) e ∙ one-region f l);
      }

  -- all three
  all-stored : RunFits f xs → RunFits f ys → RunFits f zs
      → store_all f zs (store_all f xs (store_all f ys (0 ∷ n ∷ regions_of no_fields (xs ++ (ys ++ zs))))) ≡ 0 ∷ n ∷ regions_of f (xs ++ (ys ++ zs))
  unfolding front
  all-stored fx fy fz =
      let pre : List ℕ = front f ++ regions_of f ys in
      let lp : length pre ≡ b =
      length-append (front f) (regions_of f ys)
      ∙ ap (λ (k : ℕ). k + length (regions_of f ys)) (front_length f fx)
      ∙ regions-length f a ys b ty fy in
      let t : tiles (length pre) zs end ≡ true = rw lp tz in
      ap (λ (w : List ℕ). store_all f zs (store_all f xs w)) (middle-stored fy)
      ∙ ap (store_all f zs)
      (store-run f (0 ∷ n ∷ []) xs (regions_of f ys ++ regions_of no_fields zs) a tx fx
      ∙ sym (append_assoc (front f) (regions_of f ys) (regions_of no_fields zs))
      ∙ ap (λ (w : List ℕ). pre ++ w) (sym (append-nil (regions_of no_fields zs))))
      ∙ store-run f pre zs [] end t fz
      ∙ ap (λ (w : List ℕ). pre ++ w) (append-nil (regions_of f zs))
      ∙ append_assoc (front f) (regions_of f ys) (regions_of f zs)
      ∙ ap (λ (w : List ℕ). 0 ∷ n ∷ w)
      (sym (regions-append f xs (ys ++ zs) ∙ ap (λ (w : List ℕ). regions_of f xs ++ w) (regions-append f ys zs)))

-- the table: the lines before id 11, its own, and those after it
pub parted : lines ≡ slice 0 subsamples_line lines ++ (slice subsamples_line (subsamples_line + 1) lines ++ slice (subsamples_line + 1) line_count lines)
unfolding lines
parted = refl

-- the regions of each part
front-tiled : tiles sizes_at (slice 0 subsamples_line lines) subsamples_at ≡ true
unfolding tiles lines ◌and◌
front-tiled = refl

eleven-tiled : tiles subsamples_at (slice subsamples_line (subsamples_line + 1) lines) first_flags_at ≡ true
unfolding tiles lines ◌and◌
eleven-tiled = refl

rest-tiled : tiles first_flags_at (slice (subsamples_line + 1) line_count lines) set_len ≡ true
unfolding tiles lines ◌and◌
rest-tiled = refl

-- the fields of all lines, that of id 11 first, stored into a set without fields
pub stored-words : (f : Line → Held) → AllFit f → (n : ℕ)
    → store_all f (slice (subsamples_line + 1) line_count lines) (store_all f (slice 0 subsamples_line lines) (store_all f (slice subsamples_line (subsamples_line + 1) lines) (set_words 0 n no_fields))) ≡ set_words 0 n f
unfolding set_words
stored-words f h n = go (slice 0 subsamples_line lines) (slice subsamples_line (subsamples_line + 1) lines) (slice (subsamples_line + 1) line_count lines) lines parted front-tiled eleven-tiled rest-tiled (table_fits f h)
  where
    go : (xs ys zs all : List Line) → all ≡ xs ++ (ys ++ zs) → tiles sizes_at xs subsamples_at ≡ true → tiles subsamples_at ys first_flags_at ≡ true → tiles first_flags_at zs set_len ≡ true → RunFits f all
        → store_all f zs (store_all f xs (store_all f ys (0 ∷ n ∷ regions_of no_fields all))) ≡ 0 ∷ n ∷ regions_of f all
    go xs ys zs all e tx ty tz k =
        let whole : RunFits f (xs ++ (ys ++ zs)) = rw e at k in
        let behind : RunFits f (ys ++ zs) = fits-back f xs (ys ++ zs) whole in
        rw e
        (all-stored f n xs ys zs subsamples_at first_flags_at set_len tx ty tz (fits-front f xs (ys ++ zs) whole) (fits-front f ys zs behind) (fits-back f ys zs behind))

-- ---- a field among the words

-- the mark of a field
abbrev pub mark_of : Held → ℕ
mark_of h = cond (is_some h) 1 0

-- a region in one form, whether its field stands or not
region-is : (l : Line) (h : Held) → region_of l h ≡ mark_of h ∷ (numbers h ++ replicate (l.room - length (numbers h)) 0)
unfolding region_of
region-is l None =
    let e : 1 + l.room ≡ suc l.room = omega arith in
    let z : l.room - 0 ≡ l.room = omega arith in
    rw (e, z)
region-is l (Some vs) = refl

-- what is in use of a region
pub in-use-is : (h : Held) (k : ℕ) → ((vs : List ℕ) → h ≡ Some vs → length vs ≡ k) → in_use (mark_of h) k ≡ length (numbers h)
in-use-is None k e = sym (unused 0 k refl)
in-use-is (Some vs) k e = sym (used 1 k (λ z. omega arith)) ∙ sym (e vs refl)

-- what a region says: the mark, the values, and zeros behind them
module _ (l : Line) (h : Held) (w : List ℕ) (o : Around l h w) where
  zeros : List ℕ
  zeros = replicate (l.room - length (numbers h)) 0

  whole : w ≡ o.pre ++ (mark_of h ∷ (numbers h ++ (zeros ++ o.post)))
  unfolding zeros
  whole =
      o.is
      ∙ ap (λ (z : List ℕ). o.pre ++ (z ++ o.post)) (region-is l h)
      ∙ ap (λ (z : List ℕ). o.pre ++ (mark_of h ∷ z)) (append_assoc (numbers h) (replicate (l.room - length (numbers h)) 0) o.post)

  pub around-mark : get_or w l.place 0 ≡ mark_of h
  around-mark = ap (λ (z : List ℕ). get_or z l.place 0) whole ∙ get_or_at o.pre (mark_of h) _ 0 l.place o.at

  pub around-values : slice (l.place + 1) (l.place + 1 + length (numbers h)) w ≡ numbers h
  around-values =
      let pre : List ℕ = o.pre ++ (mark_of h ∷ []) in
      let e : length pre ≡ l.place + 1 = omega (arith, length-append o.pre (mark_of h ∷ []), o.at) in
      rw (whole, ← e, ← append_snoc o.pre (mark_of h) (numbers h ++ (zeros ++ o.post))) (slice-between pre (numbers h) (zeros ++ o.post))

  pub around-rest : Fits l h → all_zero (slice (l.place + 1 + length (numbers h)) (l.place + 1 + l.room) w) ≡ true
  unfolding zeros
  around-rest fit =
      let pre : List ℕ = o.pre ++ (mark_of h ∷ numbers h) in
      let e : length pre ≡ l.place + 1 + length (numbers h) = omega (arith, length-append o.pre (mark_of h ∷ numbers h), o.at) in
      let n : length pre + length zeros ≡ l.place + 1 + l.room = omega (arith, length-replicate {A = ℕ} (l.room - length (numbers h)) 0, numbers_fit l h fit) in
      rw (whole, ← e, ← n, ← append_assoc o.pre (mark_of h ∷ numbers h) (zeros ++ o.post))
      (ap all_zero (slice-between pre zeros o.post) ∙ all_zero-zeros (l.room - length (numbers h)))

-- the values of an id, by the region of its line
pub around-id : (id k : ℕ) (l : Line) (h : Held) (w : List ℕ) → line_for id lines ≡ l → Around l h w → ((vs : List ℕ) → h ≡ Some vs → length vs ≡ k)
    → values_of id k w ≡ numbers h
unfolding values_of
around-id id k l h w e o q = rw (e, around-mark l h w o, in-use-is h k q) (around-values l h w o)

-- the region of a line in words that begin with other ones
run-around : (f : Line → Held) (pre : List ℕ) (ls : List Line) (end : ℕ) → tiles (length pre) ls end ≡ true → RunFits f ls → (i : ℕ) → i < length ls
    → Around (get_or ls i spare) (f (get_or ls i spare)) (pre ++ regions_of f ls)
unfolding tiles regions_of
run-around f pre [] end t h i lt = absurd (not-suc-le-zero lt)
run-around f pre (l ∷ ls) end t h zero lt = record { pre = pre; post = regions_of f ls; at = sym (tile-place (length pre) l ls end t); is = refl }
run-around f pre (l ∷ ls) end t h (suc i) lt =
    let r : List ℕ = region_of l (f l) in
    let n : length pre + 1 + l.room ≡ length (pre ++ r) = omega (arith, length-append pre r, region-length l (f l) (h 0 (omega arith))) in
    let t' : tiles (length (pre ++ r)) ls end ≡ true = rw n at (right _ _ t) in
    rw (append_assoc pre r (regions_of f ls)) at (run-around f (pre ++ r) ls end t' (run_fits f l ls h) i (le_of_suc-le-suc lt))

-- every field of a set stands at its place
pub words-around : (b n : ℕ) (f : Line → Held) → AllFit f → (i : ℕ) → i < line_count → Around (get_or lines i spare) (f (get_or lines i spare)) (set_words b n f)
unfolding set_words
words-around b n f h i lt = run-around f (b ∷ n ∷ []) lines set_len tiled (table_fits f h) i (omega (arith, line-count))

-- ---- id 11 stored before the others

-- its line
eleven-line : slice subsamples_line (subsamples_line + 1) lines ≡ get_or lines subsamples_line spare ∷ []
unfolding lines
eleven-line = refl

pub eleven-for : line_for 11 lines ≡ get_or lines subsamples_line spare
unfolding lines line_for
eleven-for = refl

eleven-place : (get_or lines subsamples_line spare).place ≡ subsamples_at
unfolding lines
eleven-place = refl

-- the field of id 11, which is all that has to have room
module _ (f : Line → Held) (fit : Fits (get_or lines subsamples_line spare) (f (get_or lines subsamples_line spare))) (n : ℕ) where
  pub eleven-around : Around (get_or lines subsamples_line spare) (f (get_or lines subsamples_line spare)) (store_all f (slice subsamples_line (subsamples_line + 1) lines) (set_words 0 n no_fields))
  unfolding set_words
  eleven-around = go (slice 0 subsamples_line lines) (slice subsamples_line (subsamples_line + 1) lines) (slice (subsamples_line + 1) line_count lines) lines parted front-tiled eleven-tiled rest-tiled eleven-line
    where
      go : (xs ys zs all : List Line) → all ≡ xs ++ (ys ++ zs) → tiles sizes_at xs subsamples_at ≡ true → tiles subsamples_at ys first_flags_at ≡ true → tiles first_flags_at zs set_len ≡ true
          → ys ≡ get_or lines subsamples_line spare ∷ [] → Around (get_or lines subsamples_line spare) (f (get_or lines subsamples_line spare)) (store_all f ys (0 ∷ n ∷ regions_of no_fields all))
      go xs ys zs all e tx ty tz one = rw e (middle-around f n xs ys zs subsamples_at first_flags_at set_len tx ty tz (get_or lines subsamples_line spare) one fit)

  pub eleven-mark : get_or (store_all f (slice subsamples_line (subsamples_line + 1) lines) (set_words 0 n no_fields)) subsamples_at 0 ≡ cond (is_some (f (get_or lines subsamples_line spare))) 1 0
  eleven-mark =
      ap (λ (p : ℕ). get_or (store_all f (slice subsamples_line (subsamples_line + 1) lines) (set_words 0 n no_fields)) p 0) (sym eleven-place) ∙ around-mark _ _ _ eleven-around

  pub eleven-values : ((vs : List ℕ) → f (get_or lines subsamples_line spare) ≡ Some vs → length vs ≡ n)
      → values_of 11 n (store_all f (slice subsamples_line (subsamples_line + 1) lines) (set_words 0 n no_fields)) ≡ numbers (f (get_or lines subsamples_line spare))
  eleven-values e = around-id 11 n _ _ _ eleven-for eleven-around e

-- where all fields have room
pub eleven-words : (f : Line → Held) → AllFit f → (n : ℕ) → ((vs : List ℕ) → f (get_or lines subsamples_line spare) ≡ Some vs → length vs ≡ n)
    → values_of 11 n (store_all f (slice subsamples_line (subsamples_line + 1) lines) (set_words 0 n no_fields)) ≡ numbers (f (get_or lines subsamples_line spare))
eleven-words f h n e = eleven-values f (h 9 (omega arith)) n e

-- ---- each field of a set

-- a field that stands keeps a line's length, room and bound
pub record Within (m : Measure) (l : Line) (vs : List ℕ) : Type 0 where
  pub long : length vs ≡ wanted l.want m
  pub room : wanted l.want m ≤ l.room
  pub bound : all_le l.bound vs ≡ true

-- or does not stand
abbrev pub Keeps : Measure → Line → Held → Type 0
Keeps m l None = Unit {0}
Keeps m l (Some vs) = Within m l vs

-- and so has room
pub keeps-fits : (m : Measure) (l : Line) (h : Held) → Keeps m l h → Fits l h
keeps-fits m l None k = tt
keeps-fits m l (Some vs) k = omega (arith, k.long, k.room)

-- is as long as is wanted
keeps-long : (m : Measure) (l : Line) (h : Held) → Keeps m l h → (vs : List ℕ) → h ≡ Some vs → length vs ≡ wanted l.want m
keeps-long m l h k vs e = let q : Within m l vs = rw e at k in q.long

-- and is within its bound
keeps_bound : (m : Measure) (l : Line) (h : Held) → Keeps m l h → all_le l.bound (numbers h) ≡ true
unfolding all_le
keeps_bound m l None k = refl
keeps_bound m l (Some vs) k = k.bound

-- a mark is 0 or 1
mark-le : (h : Held) → leb (mark_of h) 1 ≡ true
mark-le None = refl
mark-le (Some vs) = refl

-- its region is lawful
pub around-region : (m : Measure) (l : Line) (h : Held) (w : List ℕ) → Around l h w → Keeps m l h → region_ok m l w ≡ true
unfolding region_ok
around-region m l h w o k =
    rw (around-mark l h w o, in-use-is h (wanted l.want m) (keeps-long m l h k))
    (both _ _ (le-leb (length (numbers h)) l.room (numbers_fit l h (keeps-fits m l h k)))
    (both _ _ (mark-le h)
    (both _ _ (rw (around-values l h w o) (keeps_bound m l h k)) (around-rest l h w o (keeps-fits m l h k)))))

-- the regions of a list of lines
regions-ok : (m : Measure) (w : List ℕ) (ls : List Line) → ((i : ℕ) → i < length ls → region_ok m (get_or ls i spare) w ≡ true) → regions_ok m ls w ≡ true
unfolding regions_ok
regions-ok m w [] h = refl
regions-ok m w (l ∷ ls) h = both _ _ (h 0 (omega arith)) (regions-ok m w ls (λ i lt. h (suc i) (suc-le-suc lt)))

-- two numbers that are the same of each line
pub map_same : (p q : Line → ℕ) (ls : List Line) → ((i : ℕ) → i < length ls → p (get_or ls i spare) ≡ q (get_or ls i spare)) → map p ls ≡ map q ls
map_same p q [] h = refl
map_same p q (l ∷ ls) h = λ j. h 0 (omega arith) j ∷ map_same p q ls (λ i lt. h (suc i) (suc-le-suc lt)) j

-- the line of an id under its number
pub line-numbered : (id : ℕ) (ls : List Line) → line_number id ls < length ls → line_for id ls ≡ get_or ls (line_number id ls) spare
unfolding line_for line_number
line-numbered id [] h = absurd (not-suc-le-zero h)
line-numbered id (l ∷ ls) h = go (eqb l.id id) h (line-numbered id ls)
  where
    go : (t : Bool) → cond t 0 (suc (line_number id ls)) < suc (length ls)
        → (line_number id ls < length ls → line_for id ls ≡ get_or ls (line_number id ls) spare)
        → cond t l (line_for id ls) ≡ get_or (l ∷ ls) (cond t 0 (suc (line_number id ls))) spare
    go true k later = refl
    go false k later = later (le_of_suc-le-suc k)

-- every line has the number that its id has
unfoldable in_order : ℕ → List Line → Bool
in_order k [] = true
in_order k (l ∷ ls) = eqb (line_number l.id lines) k and in_order (suc k) ls

order-at : (k : ℕ) (ls : List Line) (i : ℕ) → in_order k ls ≡ true → i < length ls → line_number (get_or ls i spare).id lines ≡ k + i
unfolding in_order
order-at k [] i e h = absurd (not-suc-le-zero h)
order-at k (l ∷ ls) zero e h = let q : line_number l.id lines ≡ k = eqb-true _ _ (left _ _ e) in omega arith
order-at k (l ∷ ls) (suc i) e h = omega (arith, order-at (suc k) ls i (right _ _ e) (le_of_suc-le-suc h))

in-order : in_order 0 lines ≡ true
unfolding in_order line_number lines ◌and◌
in-order = refl

-- so a line is found by its id
pub number-of-line : (i : ℕ) → i < line_count → line_number (get_or lines i spare).id lines ≡ i
number-of-line i lt = order-at 0 lines i in-order (omega (arith, line-count)) ∙ zero-add i

pub line-of-id : (i : ℕ) → i < line_count → line_for (get_or lines i spare).id lines ≡ get_or lines i spare
line-of-id i lt =
    let e : line_number (get_or lines i spare).id lines ≡ i = number-of-line i lt in
    line-numbered (get_or lines i spare).id lines (omega (arith, line-count)) ∙ ap (λ (k : ℕ). get_or lines k spare) e

-- a mark says whether a field stands
mark-has : (h : Held) → not (eqb (mark_of h) 0) ≡ is_some h
mark-has None = refl
mark-has (Some vs) = refl

-- by what a field is known to be
around-some : (l : Line) (h : Held) (w : List ℕ) → Around l h w → (vs : List ℕ) → h ≡ Some vs → slice (l.place + 1) (l.place + 1 + length vs) w ≡ vs
around-some l h w o vs e = around-values l (Some vs) w (rw e at o)

around-some-rest : (l : Line) (h : Held) (w : List ℕ) → Around l h w → Fits l h → (vs : List ℕ) → h ≡ Some vs
    → all_zero (slice (l.place + 1 + length vs) (l.place + 1 + l.room) w) ≡ true
around-some-rest l h w o fit vs e = around-rest l (Some vs) w (rw e at o) (rw e at fit)

around-none : (l : Line) (h : Held) (w : List ℕ) → Around l h w → h ≡ None → all_zero (slice (l.place + 1) (l.place + 1 + l.room) w) ≡ true
around-none l h w o e = rw add-zero at (around-rest l None w (rw e at o) tt)

module _ (b n : ℕ) (f : Line → Held) (h : AllFit f) where
  -- of a line of the table
  module _ (i : ℕ) (lt : i < line_count) where
    pub word-mark : get_or (set_words b n f) (get_or lines i spare).place 0 ≡ cond (is_some (f (get_or lines i spare))) 1 0
    word-mark = around-mark _ _ _ (words-around b n f h i lt)

    pub word-values : (vs : List ℕ) → f (get_or lines i spare) ≡ Some vs
        → slice ((get_or lines i spare).place + 1) ((get_or lines i spare).place + 1 + length vs) (set_words b n f) ≡ vs
    word-values vs e = around-some _ _ _ (words-around b n f h i lt) vs e

    pub word-rest : (vs : List ℕ) → f (get_or lines i spare) ≡ Some vs
        → all_zero (slice ((get_or lines i spare).place + 1 + length vs) ((get_or lines i spare).place + 1 + (get_or lines i spare).room) (set_words b n f)) ≡ true
    word-rest vs e = around-some-rest _ _ _ (words-around b n f h i lt) (h i lt) vs e

    pub word_none : f (get_or lines i spare) ≡ None
        → all_zero (slice ((get_or lines i spare).place + 1) ((get_or lines i spare).place + 1 + (get_or lines i spare).room) (set_words b n f)) ≡ true
    word_none e = around-none _ _ _ (words-around b n f h i lt) e

    pub word-region : (m : Measure) → Keeps m (get_or lines i spare) (f (get_or lines i spare)) → region_ok m (get_or lines i spare) (set_words b n f) ≡ true
    word-region m k = around-region m _ _ _ (words-around b n f h i lt) k

  -- of all lines
  pub words-marks : marks_of (set_words b n f) ≡ map (λ l. cond (is_some (f l)) 1 0) lines
  unfolding marks_of
  words-marks = map_same _ _ lines (λ i lt. word-mark i (omega (arith, line-count)))

  -- of an id of the table
  module _ (id : ℕ) (k : line_number id lines < line_count) where
    pub words-for : Around (line_for id lines) (f (line_for id lines)) (set_words b n f)
    words-for = rw (line-numbered id lines (omega (arith, line-count))) (words-around b n f h (line_number id lines) k)

    pub words-has : has id (set_words b n f) ≡ is_some (f (line_for id lines))
    unfolding has
    words-has = rw (around-mark _ _ _ words-for) (mark-has (f (line_for id lines)))

    pub words-values : (c : ℕ) → ((vs : List ℕ) → f (line_for id lines) ≡ Some vs → length vs ≡ c)
        → values_of id c (set_words b n f) ≡ numbers (f (line_for id lines))
    words-values c e = around-id id c _ _ _ refl words-for e

-- fields that keep their lines make lawful regions
pub words-regions : (b n : ℕ) (f : Line → Held) (m : Measure) → ((i : ℕ) → i < line_count → Keeps m (get_or lines i spare) (f (get_or lines i spare)))
    → regions_ok m lines (set_words b n f) ≡ true
words-regions b n f m k =
    let h : AllFit f = λ i lt. keeps-fits m (get_or lines i spare) (f (get_or lines i spare)) (k i lt) in
    regions-ok m (set_words b n f) lines (λ i lt. let c : i < line_count = omega (arith, line-count) in word-region b n f h i c m (k i c))

-- id 11 is in the table
pub eleven-known : line_number 11 lines < line_count
unfolding line_number lines
eleven-known = omega arith
