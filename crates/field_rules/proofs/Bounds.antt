-- The bounds of a lawful set's values: of each line, and id by id. Assumes nothing.
use Prim.Native.Nat.{ℕ, ◌+◌, ◌-◌, ◌*◌, ◌/◌, ◌≤◌, ◌<◌}
use native.Mathlib.Nat.{add-sub_cancel_left}
use native.Mathlib.Omega.{arith}
use mathlib.Core.Path.{◌≡◌, sym, ◌∙◌, subst}
use mathlib.Core.Bool.{true, not}
use mathlib.Core.List.{List}
use borrow.Author.Tests.{eqb-false, not-true}
use lib.Dec.{eqb}
use lib.ListN.{length, get_or, take}
use lib.Seq.{slice, length-slice, get_or-take, get_or-drop}
use Rattle.laws.specs.Tests.{all_le, sum}
use Rattle.laws.proofs.TestLaws.{le-at}
use Rattle.track.specs.declared.Track.{Track}
use Rattle.field_table.specs.declared.lines.Line.{Line}
use Rattle.field_table.specs.Lines.{lines, spare, line_for, wanted, set_len, count_at, line_count}
use Rattle.field_set.specs.Lawful.{has, values_of, measure_of, lawful}
use Rattle.field_set.proofs.LawfulLaws.{Region, lawful-facts, lawful-region}
use Rattle.field_table.proofs.LineLaws.{shaped}
use Rattle.field_set.proofs.RegionLaws.{used}
use Rattle.field_rules.proofs.RoomLaws.{wanted_room}
use Rattle.field_rules.proofs.SetLaws.{line-of-id}

-- the value with the number i of a field that stands
abbrev value : ℕ → ℕ → List ℕ → ℕ
value id i w = get_or w ((line_for id lines).place + 1 + i) 0

abbrev count : List ℕ → ℕ
count w = get_or w count_at 0

module _ (t : Track) (w : List ℕ) (long : length w ≡ set_len) (iv : t.iv_size ≤ 16) (good : lawful t w ≡ true) (i : ℕ) (lt : i < line_count) where
  -- the values of a line have room
  pub line-room : wanted (get_or lines i spare).want (measure_of t w) ≤ (get_or lines i spare).room
  line-room =
      let f = lawful-facts t w good in
      wanted_room i lt (measure_of t w) (record { count = f.count; ivs = omega arith; sum = omega (arith, f.subsamples) }) f.subsamples

  -- a value of a field that stands keeps the bound of its line
  pub value-le : has (get_or lines i spare).id w ≡ true → (j : ℕ) → j < wanted (get_or lines i spare).want (measure_of t w)
      → value (get_or lines i spare).id j w ≤ (get_or lines i spare).bound
  unfolding has
  value-le e j h =
      let l : Line = get_or lines i spare in
      let k : ℕ = wanted l.want (measure_of t w) in
      let q : line_for l.id lines ≡ l = line-of-id i lt in
      let r : Region (measure_of t w) l w = lawful-region t w i good lt in
      let z : get_or w l.place 0 ≡ 0 → ⊥ = eqb-false _ _ (not-true (eqb (get_or w l.place 0) 0) (subst (λ (m : Line). not (eqb (get_or w m.place 0) 0) ≡ true) q e)) in
      let inside : l.place + 1 + k ≤ length w = omega (arith, (shaped i lt).inside, line-room) in
      let all : all_le l.bound (slice (l.place + 1) (l.place + 1 + k) w) ≡ true = rw (← used (get_or w l.place 0) k z) at r.values in
      let n : length (slice (l.place + 1) (l.place + 1 + k) w) ≡ k = length-slice (l.place + 1) (l.place + 1 + k) w inside ∙ add-sub_cancel_left (l.place + 1) k in
      let same : get_or (slice (l.place + 1) (l.place + 1 + k) w) j 0 ≡ get_or w (l.place + 1 + j) 0 =
      get_or-drop (l.place + 1) (take (l.place + 1 + k) w) j 0 ∙ get_or-take (l.place + 1 + k) w (l.place + 1 + j) 0 (omega arith) in
      subst (λ (m : Line). get_or w (m.place + 1 + j) 0 ≤ l.bound) (sym q)
      (subst (λ (v : ℕ). v ≤ l.bound) same (le-at l.bound (slice (l.place + 1) (l.place + 1 + k) w) j all))

-- ---- id by id

-- the values of an id, as many as there are, keep a bound
abbrev pub Keeps : List ℕ → ℕ → ℕ → ℕ → Type 0
Keeps w id k bound = has id w ≡ true → (j : ℕ) → j < k → value id j w ≤ bound

pub record Bounded (t : Track) (w : List ℕ) : Type 0 where
  pub sizes : Keeps w 1 (count w - 1) 0xffff_ffff
  pub description : Keeps w 2 1 0xffff_ffff
  pub durations : Keeps w 3 (count w) 0xffff_ffff
  pub duration : Keeps w 4 1 0xffff_ffff
  pub offsets : Keeps w 5 (count w) 0xffff_ffff
  pub size : Keeps w 6 1 0xffff_ffff
  pub all-flags : Keeps w 7 (count w) 31
  pub flags : Keeps w 8 1 31
  pub ivs : Keeps w 9 (count w * (t.iv_size / 8)) 0xffff_ffff_ffff_ffff
  pub counts : Keeps w 11 (count w) 0xffff
  pub first : Keeps w 12 1 31
  pub clear : Keeps w 13 (sum (values_of 11 (count w) w)) 0xffff
  pub protected : Keeps w 15 (sum (values_of 11 (count w) w)) 0xffff_ffff

pub bounded : (t : Track) (w : List ℕ) → length w ≡ set_len → t.iv_size ≤ 16 → lawful t w ≡ true → Bounded t w
unfolding lines wanted
bounded t w long iv good =
    record {
      sizes = value-le t w long iv good 0 (omega arith);
      description = value-le t w long iv good 1 (omega arith);
      durations = value-le t w long iv good 2 (omega arith);
      duration = value-le t w long iv good 3 (omega arith);
      offsets = value-le t w long iv good 4 (omega arith);
      size = value-le t w long iv good 5 (omega arith);
      all-flags = value-le t w long iv good 6 (omega arith);
      flags = value-le t w long iv good 7 (omega arith);
      ivs = value-le t w long iv good 8 (omega arith);
      counts = value-le t w long iv good 9 (omega arith);
      first = value-le t w long iv good 10 (omega arith);
      clear = value-le t w long iv good 11 (omega arith);
      protected = value-le t w long iv good 12 (omega arith);
    }
