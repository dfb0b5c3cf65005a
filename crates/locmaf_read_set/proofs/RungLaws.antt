-- The rules of the fields in their order: what is found by taking id 11, the lines before it and then those behind it is what the rules ask.
-- Assumes nothing.
use Prim.Native.Nat.{ℕ, ◌+◌, ◌-◌, ◌/◌, ◌≤◌}
use native.Mathlib.Omega.{arith}
use mathlib.Core.Path.{◌≡◌, refl, sym, ◌∙◌, ap}
use mathlib.Core.Bool.{Bool, true, false, false≢true, not, ◌&&◌}
use mathlib.Core.List.{List, [], ◌∷◌, ◌++◌}
use borrow.Author.Tests.{leb-true}
use lib.Dec.{leb}
use lib.ListN.{length, get_or}
use lib.Seq.{slice, sets}
use Rattle.constants.specs.Maxima.{samples_most, subsamples_most}
use Rattle.laws.specs.Tests.{◌and◌, sum}
use Rattle.laws.specs.Ladder.{Rung, ◌else◌, Hold}
use Rattle.laws.proofs.LadderLaws.{number_of, agree, all_hold, stopped-on, climbed-on}
use Rattle.laws.proofs.TestLaws.{left, right, and_left, and_right, and-end, and_assoc}
use Rattle.std.specs.Prelude.{Some}
use Rattle.track.specs.declared.Track.{Track}
use Rattle.field_set.specs.declared.lawful.Tally.{Tally}
use Rattle.field_table.specs.declared.lines.Want.{Want}
use Rattle.field_table.specs.declared.lines.Want.TheVariants.{One, LessOne, Count, Ivs, Sum}
use Rattle.field_table.specs.declared.lines.Line.{Line}
use Rattle.field_table.specs.declared.lines.Measure.{Measure}
use Rattle.field_table.specs.Lines.{every, lines, spare, line_for, set_len, wanted, subsamples_line}
use Rattle.field_set.specs.Lawful.{saiz_ok, set_rules, same_iv_size, values_of, lawful, TallyOf}
use Rattle.field_set.proofs.TallyLaws.{saiz-is}
use Rattle.locmaf_read_field.specs.declared.cells.Cell.{Cell}
use Rattle.locmaf_read_said.specs.Said.{Says}
use Rattle.field_rules.specs.Fields.{numbers, Held, words_of}
use Rattle.locmaf_read_field.specs.Cells.{Came}
use Rattle.field_rules.specs.Words.{measure, store_all, set_words, no_fields}
use Rattle.locmaf_read_set.specs.Read.{brands_fit, brands_in, marks, new_words, count_reached, count_of, came_of, subsamples, came, field_of, field_rungs, first_rungs, last_lines, last_words, last_rungs, Measured, ClearFrom, TakenAll, ReadAs, LastReadAs}
use Rattle.field_rules.proofs.SetLaws.{eleven-for, AllFit, words-length, stored-words, eleven-values, parted}
use Rattle.locmaf_read_set.proofs.CameLaws.{came-early, second-eleven, came-length}
use Rattle.locmaf_read_set.proofs.ClearLaws.{all-fit, clear-eleven}
use Rattle.locmaf_read_set.proofs.LastLaws.{refused, late-all}

-- ---- a table in three runs

every_append : (p : Line → Bool) (xs ys : List Line) → every p (xs ++ ys) ≡ (every p xs and every p ys)
unfolding every ◌and◌
every_append p [] ys = refl
every_append p (l ∷ xs) ys = ap (λ (b : Bool). p l and b) (every_append p xs ys) ∙ sym (and_assoc (p l) (every p xs) (every p ys))

-- the lines before id 11, its own, and those after it
every-parted : (p : Line → Bool) → every p lines ≡ (every p (slice 0 subsamples_line lines) and (every p (slice subsamples_line (subsamples_line + 1) lines) and every p (last_lines)))
every-parted p =
    ap (every p) parted
    ∙ every_append p (slice 0 subsamples_line lines) (slice subsamples_line (subsamples_line + 1) lines ++ last_lines)
    ∙ ap (λ (b : Bool). every p (slice 0 subsamples_line lines) and b) (every_append p (slice subsamples_line (subsamples_line + 1) lines) (last_lines))

-- the one line of id 11
every-eleven : (p : Line → Bool) → every p (slice subsamples_line (subsamples_line + 1) lines) ≡ p (get_or lines subsamples_line spare)
unfolding every lines
every-eleven p = and-end (p (get_or lines subsamples_line spare))

-- tests that say the same of the lines that pass another
every-same : (p q s : Line → Bool) → ((l : Line) → s l ≡ true → p l ≡ q l) → (ls : List Line) → every s ls ≡ true → every p ls ≡ every q ls
unfolding every
every-same p q s h [] e = refl
every-same p q s h (l ∷ ls) e = λ j. h l (left _ _ e) j and every-same p q s h ls (right _ _ e) j

-- and stores
store_same : (f g : Line → Held) (s : Line → Bool) → ((l : Line) → s l ≡ true → f l ≡ g l) → (ls : List Line) → every s ls ≡ true → (x : List ℕ)
    → store_all f ls x ≡ store_all g ls x
unfolding every store_all
store_same f g s h [] e x = refl
store_same f g s h (l ∷ ls) e x =
    ap (λ (w : Held). store_all f ls (sets x l.place (words_of w))) (h l (left _ _ e))
    ∙ store_same f g s h ls (right _ _ e) (sets x l.place (words_of (g l)))

-- a field whose length doesn't go by the sum
unfoldable by_sum : Want → Bool
by_sum One = false
by_sum LessOne = false
by_sum Count = false
by_sum Ivs = false
by_sum Sum = true

not-sum : (w : Want) → not (by_sum w) ≡ true → w ≡ Sum → ⊥
unfolding by_sum
not-sum w h e = let z : false ≡ true = rw e at h in false≢true z

unfoldable early : Line → Bool
early l = not (by_sum l.want)

early-front : every early (slice 0 subsamples_line lines) ≡ true
unfolding every early by_sum lines ◌and◌
early-front = refl

early-eleven : every early (slice subsamples_line (subsamples_line + 1) lines) ≡ true
unfolding every early by_sum lines ◌and◌
early-eleven = refl

-- ---- tests as code groups them

first-tests : (x y z : Bool) → ((x and (y and true)) and z) ≡ (x && (y && z))
unfolding ◌and◌
first-tests true true z = refl
first-tests true false z = refl
first-tests false y z = refl

second-tests : (x y u z : Bool) → ((x and (y and u)) and z) ≡ ((x && y) and (u and z))
unfolding ◌and◌
second-tests true true true z = refl
second-tests true true false z = refl
second-tests true false u z = refl
second-tests false y u z = refl

last-tests : (x u s z : Bool) → (x ≡ true → s ≡ z) → ((x and (true and u)) and z) ≡ (x and (u and s))
unfolding ◌and◌
last-tests true true s z h = sym (h refl)
last-tests true false s z h = refl
last-tests false u s z h = refl

-- lengths within the maxima
pub measured : (t : Track) (n k : ℕ) → t.iv_size ≤ 16 → n ≤ samples_most → k ≤ subsamples_most → Measured (measure t n k)
measured t n k iv few h = record { small = record { count = few; ivs = omega arith; sum = omega arith }; few = h }

-- the words that the fields are stored into
pub start-long : (n : ℕ) (x : List ℕ) → x ≡ set_words 0 n no_fields → length x ≡ set_len
start-long n x e = ap length e ∙ words-length 0 n no_fields (λ i lt. tt)

-- ---- what the fields are by the count
module _ (t : Track) (delta : Bool) (r : List ℕ) (says : Says) (n : ℕ) (en : count_reached t delta r says ≡ Some n) where
  count-is : count_of t delta r says ≡ n
  unfolding count_of
  count-is = rw en

  -- by the sum of the subsample counts
  came-is : (l : Line) → came t delta r says l ≡ came_of t delta r says (measure t n (sum (subsamples t delta r says))) l
  unfolding came
  came-is l = rw count-is

  -- or by any
  came-any : (k : ℕ) (l : Line) → early l ≡ true → came t delta r says l ≡ came_of t delta r says (measure t n k) l
  unfolding early
  came-any k l e = came-is l ∙ came-early t delta r says n k (sum (subsamples t delta r says)) l (not-sum l.want e)

  subsamples-are : subsamples t delta r says ≡ numbers (came_of t delta r says (measure t n 0) (get_or lines subsamples_line spare)).field
  unfolding subsamples
  subsamples-are = rw (count-is, eleven-for)

  -- a test of the lines before id 11, of its own and of those after it
  same-front : (p : Came → Bool) (ls : List Line) → every early ls ≡ true
      → every (λ l. p (came t delta r says l)) ls ≡ every (λ l. p (came_of t delta r says (measure t n 0) l)) ls
  same-front p ls e = every-same _ _ early (λ l h. ap p (came-any 0 l h)) ls e

  same_rest : (p : Came → Bool) (ls : List Line)
      → every (λ l. p (came t delta r says l)) ls ≡ every (λ l. p (came_of t delta r says (measure t n (sum (subsamples t delta r says))) l)) ls
  same_rest p ls = ap (λ (f : Line → Came). every (λ l. p (f l)) ls) (λ j l. came-is l j)

  parts_are : (p : Came → Bool) (x y z : Bool)
      → x ≡ every (λ l. p (came_of t delta r says (measure t n 0) l)) (slice 0 subsamples_line lines)
      → y ≡ every (λ l. p (came_of t delta r says (measure t n 0) l)) (slice subsamples_line (subsamples_line + 1) lines)
      → z ≡ every (λ l. p (came_of t delta r says (measure t n (sum (subsamples t delta r says))) l)) (last_lines)
      → every (λ l. p (came t delta r says l)) lines ≡ (x and (y and z))
  parts_are p x y z ex ey ez =
      every-parted (λ l. p (came t delta r says l))
      ∙ rw (ex, ey, ez, same-front p (slice 0 subsamples_line lines) early-front, same-front p (slice subsamples_line (subsamples_line + 1) lines) early-eleven, same_rest p (last_lines))

  module _ (words : length r ≡ set_len) (law : delta ≡ true → lawful t r ≡ true) (iv : t.iv_size ≤ 16) (few : n ≤ samples_most) where
    pub fits-at : (k : ℕ) → k ≤ subsamples_most → AllFit (λ l. (came_of t delta r says (measure t n k) l).field)
    fits-at k h = all-fit t delta r words law says (measure t n k) (measured t n k iv few h)

    -- ---- id 11, and the lines before it
    module _ (x₀ : List ℕ) (ex : x₀ ≡ set_words 0 n no_fields) (b : Cell) (x₁ : List ℕ)
        (hb : TakenAll (ClearFrom subsamples_line x₀) (came_of t delta r says (measure t n 0)) (slice subsamples_line (subsamples_line + 1) lines) x₀ b x₁)
        (c : Tally) (hc : TallyOf c ((253 - t.iv_size) / 6) (values_of 11 n x₁)) where
      eleven-long : length x₁ ≡ set_len
      eleven-long = hb.long ∙ start-long n x₀ ex

      -- id 11 stands behind the IVs
      eleven-clear : ClearFrom subsamples_line x₀
      eleven-clear le = absurd (omega arith)

      eleven-second : b.second ≡ true
      eleven-second = hb.second ∙ every-eleven (λ l. (came_of t delta r says (measure t n 0) l).cell.second) ∙ second-eleven t delta r says (measure t n 0)

      eleven-came : came t delta r says (get_or lines subsamples_line spare) ≡ came_of t delta r says (measure t n 0) (get_or lines subsamples_line spare)
      unfolding early by_sum lines
      eleven-came = came-any 0 (get_or lines subsamples_line spare) refl

      eleven-within : (came t delta r says (line_for 11 lines)).cell.within ≡ b.within
      eleven-within =
          ap (λ (l : Line). (came t delta r says l).cell.within) eleven-for
          ∙ ap (λ (z : Came). z.cell.within) eleven-came
          ∙ sym (hb.within ∙ every-eleven (λ l. (came_of t delta r says (measure t n 0) l).cell.within))

      module _ (bf : b.first ≡ true) where
        -- the tallied words are the subsample counts
        tallied-are : b.within ≡ true → values_of 11 n x₁ ≡ subsamples t delta r says
        unfolding wanted lines
        tallied-are bw =
            let f : Line → Held = λ l. (came_of t delta r says (measure t n 0) l).field in
            let e : x₁ ≡ store_all f (slice subsamples_line (subsamples_line + 1) lines) (set_words 0 n no_fields) = hb.stored eleven-clear bf eleven-second bw ∙ ap (store_all f (slice subsamples_line (subsamples_line + 1) lines)) ex in
            ap (values_of 11 n) e
            ∙ eleven-values f (fits-at 0 (omega arith) subsamples_line (omega arith)) n
            (λ vs q. came-length t delta r words law subsamples_line (omega arith) says (measure t n 0) vs q)
            ∙ sym subsamples-are

        saiz-found : b.within ≡ true → saiz_ok t.iv_size (subsamples t delta r says) ≡ c.ok
        saiz-found bw =
            ap (saiz_ok t.iv_size) (sym (tallied-are bw))
            ∙ saiz-is t.iv_size (values_of 11 n x₁) (omega arith)
            ∙ sym hc.within

        sum-found : b.within ≡ true → c.ok ≡ true → c.sum ≡ sum (subsamples t delta r says)
        sum-found bw ok = hc.total ok ∙ ap sum (tallied-are bw)

        -- the second rule
        sum-test : ((came t delta r says (line_for 11 lines)).cell.within
            and (saiz_ok t.iv_size (subsamples t delta r says) and leb (sum (subsamples t delta r says)) subsamples_most))
            ≡ (b.within && (c.ok && leb c.sum subsamples_most))
        unfolding ◌and◌
        sum-test =
            ap (λ (z : Bool). z and (saiz_ok t.iv_size (subsamples t delta r says) and leb (sum (subsamples t delta r says)) subsamples_most)) eleven-within
            ∙ go b.within refl
          where
            inner : b.within ≡ true → (k : Bool) → c.ok ≡ k → (k and leb (sum (subsamples t delta r says)) subsamples_most) ≡ (k && leb c.sum subsamples_most)
            inner q true p = ap (λ (m : ℕ). leb m subsamples_most) (sym (sum-found q p))
            inner q false p = refl

            go : (z : Bool) → b.within ≡ z
                → (z and (saiz_ok t.iv_size (subsamples t delta r says) and leb (sum (subsamples t delta r says)) subsamples_most))
                ≡ (z && (c.ok && leb c.sum subsamples_most))
            go true q = ap (λ (k : Bool). k and leb (sum (subsamples t delta r says)) subsamples_most) (saiz-found q) ∙ inner q c.ok refl
            go false q = refl

      module _ (e : Cell) (x₂ : List ℕ) (he : TakenAll (ClearFrom 0 x₁) (came_of t delta r says (measure t n 0)) (slice 0 subsamples_line lines) x₁ e x₂)
          (index : List ℕ) (ew : brands_in index ≡ brands_fit (says 23)) where
        front_long : length x₂ ≡ set_len
        front_long = he.long ∙ eleven-long

        -- the first two rules, and those that follow
        abbrev front : List Rung
        front =
            ((every (λ l. (came t delta r says l).cell.first) lines and brands_fit (says 23)) else 14)
            ∷ (((came t delta r says (line_for 11 lines)).cell.within
            and (saiz_ok t.iv_size (subsamples t delta r says) and leb (sum (subsamples t delta r says)) subsamples_most)) else 15)
            ∷ []

        abbrev back : List Rung
        back =
            ((every (λ l. (came t delta r says l).cell.second) lines and set_rules t (count_of t delta r says) (marks t delta r says)) else 14)
            ∷ ((every (λ l. (came t delta r says l).cell.within) lines and same_iv_size t (new_words t delta r says 0)) else 15)
            ∷ []

        -- the first rule
        first-test : (every (λ l. (came t delta r says l).cell.first) lines and brands_fit (says 23)) ≡ (e.first && (b.first && brands_in index))
        first-test =
            ap (λ (z : Bool). z and brands_fit (says 23))
            (parts_are (λ z. z.cell.first) e.first b.first true he.first hb.first (sym (late-all t delta r says _)))
            ∙ ap (λ (z : Bool). (e.first and (b.first and true)) and z) (sym ew)
            ∙ first-tests e.first b.first (brands_in index)

        -- so both are what code asks
        front_same : number_of (first_rungs index e b c) ≡ number_of front
        unfolding first_rungs
        front_same =
            rw first-test
            (agree (λ k. k) ((_ else 14) ∷ []) ((_ else 15) ∷ []) ((_ else 15) ∷ []) 0 0
            (λ h. ap (λ (z : Bool). number_of ((z else 15) ∷ [])) (sym (sum-test (and_left _ _ (and_right e.first _ h.0))))))

        pub refuse-front : (k : ℕ) → k ≡ number_of (first_rungs index e b c) → (k ≡ 0 → ⊥) → ReadAs (field_rungs t delta r says) (new_words t delta r says 0) k x₂
        unfolding field_rungs
        refuse-front k q n =
            refused _ _ k x₂ n (q ∙ front_same ∙ stopped-on front back (λ k. k) 0 (λ z. n (q ∙ front_same ∙ z))) front_long

        module _ (k : ℕ) (ek : k ≡ number_of (first_rungs index e b c)) (z : k ≡ 0) where
          front-holds : Hold front
          front-holds = all_hold front (λ z. omega arith, (λ z. omega arith, tt)) (sym front_same ∙ sym ek ∙ z)

          tests : ((e.first && (b.first && brands_in index)) ≡ true) × (((b.within && (c.ok && leb c.sum subsamples_most)) ≡ true) × Unit {0})
          unfolding first_rungs
          tests = all_hold (first_rungs index e b c) (λ z. omega arith, (λ z. omega arith, tt)) (sym ek ∙ z)

          e-first : e.first ≡ true
          e-first = and_left e.first _ tests.0

          b-first : b.first ≡ true
          b-first = and_left b.first _ (and_right e.first _ tests.0)

          b-within : b.within ≡ true
          b-within = and_left b.within _ tests.1.0

          c-rest : (c.ok && leb c.sum subsamples_most) ≡ true
          c-rest = and_right b.within _ tests.1.0

          sum_is : c.sum ≡ sum (subsamples t delta r says)
          sum_is = sum-found b-first b-within (and_left c.ok (leb c.sum subsamples_most) c-rest)

          sum-small : c.sum ≤ subsamples_most
          sum-small = leb-true c.sum subsamples_most (and_right c.ok (leb c.sum subsamples_most) c-rest)

          -- the lengths of ids 13 and 15 keep the maxima
          pub sum-measured : Measured (measure t n c.sum)
          sum-measured = measured t n c.sum iv few sum-small

          -- ---- the lines behind it: what is asked of them, and what is stored
          abbrev lengths : Measure
          lengths = measure t n (sum (subsamples t delta r says))

          abbrev rungs : List Rung
          rungs = last_rungs t delta r says lengths (e.second && b.second) e.within x₂

          abbrev words₃ : List ℕ
          words₃ = last_words t delta r says lengths x₂

          -- all fields are stored
          all-stored : e.second ≡ true → e.within ≡ true → words₃ ≡ new_words t delta r says 0
          all-stored es ew =
              let f : Line → Held = field_of t delta r says in
              let g : Line → Held = λ l. (came_of t delta r says (measure t n 0) l).field in
              let k : Line → Held = λ l. (came_of t delta r says lengths l).field in
              let fk : f ≡ k = λ j l. (came-is l j).field in
              let s₁ : x₁ ≡ store_all f (slice subsamples_line (subsamples_line + 1) lines) (set_words 0 n no_fields) =
              hb.stored eleven-clear b-first eleven-second b-within
              ∙ ap (store_all g (slice subsamples_line (subsamples_line + 1) lines)) ex
              ∙ sym (store_same f g early (λ l h. ap (λ (z : Came). z.field) (came-any 0 l h)) (slice subsamples_line (subsamples_line + 1) lines) early-eleven _) in
              let s₂ : x₂ ≡ store_all f (slice 0 subsamples_line lines) x₁ =
              he.stored (rw s₁ (clear-eleven f n)) e-first es ew
              ∙ sym (store_same f g early (λ l h. ap (λ (z : Came). z.field) (came-any 0 l h)) (slice 0 subsamples_line lines) early-front x₁) in
              let fit : AllFit f = rw fk (fits-at (sum (subsamples t delta r says)) (omega (arith, sum_is, sum-small))) in
              ap (λ (z : Line → Held). store_all z last_lines x₂) (sym fk)
              ∙ ap (store_all f last_lines) (s₂ ∙ ap (store_all f (slice 0 subsamples_line lines)) s₁)
              ∙ stored-words f fit n
              ∙ ap (λ (m : ℕ). set_words 0 m f) (sym count-is)

          -- the third rule
          second-test : (every (λ l. (came t delta r says l).cell.second) lines and set_rules t (count_of t delta r says) (marks t delta r says))
              ≡ ((e.second && b.second)
              and (every (λ l. (came_of t delta r says lengths l).cell.second) last_lines and set_rules t n (marks t delta r says)))
          second-test =
              ap (λ (z : Bool). z and set_rules t (count_of t delta r says) (marks t delta r says))
              (parts_are (λ z. z.cell.second) e.second b.second _ he.second hb.second refl)
              ∙ rw count-is (second-tests e.second b.second _ _)

          -- the last rule
          last-test : e.second ≡ true → (every (λ l. (came t delta r says l).cell.within) lines and same_iv_size t (new_words t delta r says 0))
              ≡ (e.within and (every (λ l. (came_of t delta r says lengths l).cell.within) last_lines and same_iv_size t words₃))
          last-test es =
              ap (λ (z : Bool). z and same_iv_size t (new_words t delta r says 0))
              (parts_are (λ z. z.cell.within) e.within true _ he.within (sym b-within ∙ hb.within) refl)
              ∙ last-tests e.within _ _ _ (λ ew. ap (same_iv_size t) (all-stored es ew))

          -- so both are what code asks
          back-same : number_of rungs ≡ number_of back
          unfolding last_rungs
          back-same =
              rw second-test
              (agree (λ k. k) ((_ else 14) ∷ []) ((_ else 15) ∷ []) ((_ else 15) ∷ []) 0 0
              (λ h. ap (λ (z : Bool). number_of ((z else 15) ∷ [])) (sym (last-test (and_left e.second b.second (left _ _ h.0))))))

          rungs-stored : number_of rungs ≡ 0 → words₃ ≡ new_words t delta r says 0
          unfolding last_rungs
          rungs-stored z =
              let h = all_hold rungs (λ z. omega arith, (λ z. omega arith, tt)) z in
              all-stored (and_left e.second b.second (left _ _ h.0)) (left _ _ h.1.0)

          pub all_read : (j : ℕ) (x₃ : List ℕ) → LastReadAs t delta r says (measure t n c.sum) (e.second && b.second) e.within x₂ j x₃
              → ReadAs (field_rungs t delta r says) (new_words t delta r says 0) j x₃
          unfolding field_rungs
          all_read j x₃ h =
              let w : LastReadAs t delta r says lengths (e.second && b.second) e.within x₂ j x₃ = rw sum_is at h in
              record {
                answered = w.answered ∙ back-same ∙ climbed-on front back (λ k. k) 0 front-holds;
                stored = λ z. w.stored z ∙ rungs-stored (sym w.answered ∙ z);
                long = w.long;
              }
