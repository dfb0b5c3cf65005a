-- The set of moof fields from its parts: weighed, and written one after another. Assumes nothing.
use Prim.Native.Nat.{ℕ, ◌+◌, ◌*◌, ◌≤◌}
use native.Mathlib.Omega.{arith}
use mathlib.Core.Path.{◌≡◌, refl, sym, ◌∙◌, ap}
use mathlib.Core.Bool.{Bool, true}
use mathlib.Core.List.{List}
use lib.ListN.{length, get_or}
use Rattle.laws.specs.Writes.{Wrote}
use Rattle.laws.proofs.TestLaws.{and_left}
use Rattle.wire.specs.declared.form.Row.{Row}
use Rattle.laws.specs.Options.{is_some}
use Rattle.track.specs.declared.Track.{Track}
use Rattle.std.specs.Prelude.{Option}
use Rattle.locmaf_write_tuples.specs.Items.{Items, ◌before◌, bytes_of, sum_of, pair_most, WeighedAs}
use Rattle.locmaf_write_block.specs.Changes.{chunk_lines, line_most}
use Rattle.locmaf_write_block.specs.Fields.{before_bmdt, before_count, between, bmdt_items, count_items, field_items, all_at, KeptFields, set_most}
use Rattle.locmaf_write_tuples.proofs.ItemLaws.{before-some, weighed-both, weighed-as}
use Rattle.locmaf_write_tuples.proofs.AlikeLaws.{weighed-alike, alike-fit, parts-long, interleaved}
use Rattle.locmaf_write_tuples.proofs.PutLaws.{put-empty, Left, left-start, left-first, left-next}
use Rattle.locmaf_write_block.proofs.LinesLaws.{three-parts}

-- two weights as one
abbrev pub Sum : Option ℕ → Option ℕ → Option ℕ → Type 0
Sum v w u = u ≡ sum_of v w

module _ (F : List Row) (t : Track) (delta follow : Bool) (r x : List ℕ) where
  -- what follows the middle lines, BMDT and the low lines

  abbrev last : Items
  last = count_items F delta r x before between F t delta follow r x before_count chunk_lines

  abbrev rest : Items
  rest = between F t delta follow r x before_bmdt before_count before last

  abbrev later : Items
  later = bmdt_items F t delta r x before rest

  -- all were weighed: the lines in one walk, and then the two numbers that stand between them
  pub set-weighed : {a b c : Option ℕ} → WeighedAs F (between F t delta follow r x 0 chunk_lines) (line_most * chunk_lines) a → WeighedAs F (bmdt_items F t delta r x) pair_most b
      → WeighedAs F (count_items F delta r x) pair_most c → (u z : Option ℕ) → Sum b c u → Sum a u z → WeighedAs F (field_items F t delta follow r x) set_most z
  unfolding field_items
  set-weighed p q s u z g h =
      weighed-alike F
      (interleaved F (between F t delta follow r x 0 before_bmdt) (between F t delta follow r x before_bmdt before_count) (between F t delta follow r x before_count chunk_lines) (bmdt_items F t delta r x) (count_items F delta r x))
      (weighed-both (weighed-as (three-parts F t delta follow r x) p) (weighed-both q s g) h)

  -- where the lines have no bytes together, those before BMDT have none
  pub low-none : {kept : List ℕ} → KeptFields F t delta follow r x kept → is_some (field_items F t delta follow r x) ≡ true → get_or kept all_at 0 ≡ 0
      → 0 ≡ length (bytes_of F (between F t delta follow r x 0 before_bmdt))
  unfolding field_items
  low-none k fits z =
      let a : Items = between F t delta follow r x 0 before_bmdt in
      let b : Items = between F t delta follow r x before_bmdt before_count before between F t delta follow r x before_count chunk_lines in
      let q : Items = bmdt_items F t delta r x before count_items F delta r x in
      let some : is_some (a before b) ≡ true =
      and_left (is_some (a before b)) (is_some q)
      (sym (before-some (a before b) q)
      ∙ alike-fit F _ _ (interleaved F a (between F t delta follow r x before_bmdt before_count) (between F t delta follow r x before_count chunk_lines) (bmdt_items F t delta r x) (count_items F delta r x))
      ∙ fits) in
      let all : is_some (between F t delta follow r x 0 chunk_lines) ≡ true = ap is_some (three-parts F t delta follow r x) ∙ some in
      omega (arith, k.all all, ap (λ (is : Items). length (bytes_of F is)) (three-parts F t delta follow r x), parts-long F a b some)

  -- all are left to be written; then all but the low lines, and so on
  module _ (l : List ℕ) (at : ℕ) (fits : is_some (field_items F t delta follow r x) ≡ true)
      (room : at + length (bytes_of F (field_items F t delta follow r x)) ≤ length l) where
    pub before-low : Left F (field_items F t delta follow r x) l at (between F t delta follow r x 0 before_bmdt before later) l at
    unfolding field_items
    before-low = left-start F (field_items F t delta follow r x) l at fits room

    -- where the lines have no bytes together, those before BMDT are written at once
    pub low-written : {kept : List ℕ} → KeptFields F t delta follow r x kept → get_or kept all_at 0 ≡ 0
        → Wrote l at (bytes_of F (between F t delta follow r x 0 before_bmdt)) l at
    low-written k z = put-empty _ _ 0 refl (low-none k fits z) (left-first _ _ _ _ _ _ _ _ before-low).1

    module _ (m : List ℕ) (p : ℕ) (w : Wrote l at (bytes_of F (between F t delta follow r x 0 before_bmdt)) m p) where
      pub before-bmdt : Left F (field_items F t delta follow r x) l at later m p
      before-bmdt = left-next F (field_items F t delta follow r x) l at _ _ _ _ before-low m p w

      module _ (n : List ℕ) (q : ℕ) (w₂ : Wrote m p (bytes_of F (bmdt_items F t delta r x)) n q) where
        pub before-middle : Left F (field_items F t delta follow r x) l at rest n q
        before-middle = left-next F (field_items F t delta follow r x) l at _ _ _ _ before-bmdt n q w₂

        module _ (o : List ℕ) (u : ℕ) (w₃ : Wrote n q (bytes_of F (between F t delta follow r x before_bmdt before_count)) o u) where
          pub before-count : Left F (field_items F t delta follow r x) l at last o u
          before-count = left-next F (field_items F t delta follow r x) l at _ _ _ _ before-middle o u w₃

          module _ (k : List ℕ) (v : ℕ) (w₄ : Wrote o u (bytes_of F (count_items F delta r x)) k v) where
            pub before-high : Left F (field_items F t delta follow r x) l at (between F t delta follow r x before_count chunk_lines) k v
            before-high = left-next F (field_items F t delta follow r x) l at _ _ _ _ before-count k v w₄
