-- The boxes before the `moof`, and the `mfhd`, that are written are right, and say what the rules ask of them. Assumes nothing.
use Prim.Native.Nat.{ℕ, ◌+◌, ◌-◌, ◌/◌, ◌%◌, ◌≤◌}
use native.Mathlib.Omega.{arith}
use mathlib.Core.Path.{◌≡◌, refl, subst}
use mathlib.Core.Bool.{true}
use mathlib.Core.List.{List, [], ◌∷◌, ◌++◌, append_assoc}
use borrow.Author.Tests.{eq-eqb, ne_eqb, le-leb, le-ltb, lt-ltb}
use lib.Dec.{leb}
use lib.ListN.{length, take, drop, length-take}
use Rattle.laws.specs.Bytes.{be}
use Rattle.laws.specs.Tests.{◌and◌}
use Rattle.laws.proofs.BytesLaws.{length-be}
use Rattle.laws.proofs.TestLaws.{both}
use Rattle.boxes.specs.Box as B
use Rattle.boxes.proofs.BoxLaws.{length-full_box}
use Rattle.cmaf_read_tree.specs.Numbers.{u32}
use Rattle.cmaf_write_prelude.specs.Prelude.{styp_box}
use Rattle.cmaf_write_emsg.specs.Emsg.{emsg_box, emsg_boxes}
use Rattle.cmaf_write_moof.specs.Moof.{mfhd_box}
use Rattle.event_value.specs.Events.{Event}
use Rattle.cmaf_write_prelude.proofs.OuterLaws.{styp-length}
use Rattle.byte_parts.specs.declared.Part.{Part}
use Rattle.cmaf_read_shape.specs.Parts.{part, end_of}
use Rattle.cmaf_read_shape.specs.Left.{Left}
use Rattle.cmaf_read_shape.proofs.LeftLaws.{left-past, left-number, left-inside}
use Rattle.cmaf_read_prelude.specs.Styp.{styp_ok, brands_in, minor_version}
use Rattle.cmaf_read_prelude.specs.Emsg.{scheme_end, value_end, emsg_ok, emsgs_ok}
use Rattle.cmaf_read_moof.specs.Headers.{mfhd_ok}
use Rattle.cmaf_read_rules.specs.Rules.{clocks_ok}
use Rattle.cmaf_read_facts.specs.Given.{BoxedEvent, AllBoxed}
use Rattle.rebuilt.specs.Chunk.{AllShort}
use Rattle.rebuilt.proofs.FullBoxes.{full-word}
use Rattle.cmaf_read_shape.proofs.OneBoxLaws.{one_found}
use Rattle.rebuilt.proofs.OuterRead.{emsg-box}
use Rattle.rebuilt.proofs.EmsgRead.{left-scheme, left-value, left-message}

-- a `styp`, or none: of at most 16 brands, whose minor version is 0
pub record StypRight (c : List ℕ) (at : ℕ) (names : List ℕ) : Type 0 where
  pub right : styp_ok (part at (length (styp_box names))) ≡ true
  pub few : leb (brands_in (part at (length (styp_box names)))) 16 ≡ true
  pub minor : minor_version c (part at (length (styp_box names))) ≡ 0

pub styp-right : {c : List ℕ} {at end : ℕ} (names ys : List ℕ) → length names % 4 ≡ 0 → length names ≤ 64 → Left c at end (styp_box names ++ ys)
    → StypRight c at names
unfolding styp_ok brands_in minor_version styp_box
styp-right [] ys fours few h = record { right = refl; few = refl; minor = refl }
styp-right {c} {at} (x ∷ xs) ys fours few h =
    let names : List ℕ = x ∷ xs in
    let n : length (styp_box names) ≡ 12 + length names = styp-length names (λ z. omega (arith, z)) in
    let long : 16 ≤ 12 + length names = omega (arith, fours) in
    let four : at + 8 + length (take 4 names) ≡ at + 12 = omega (arith, length-take 4 names) in
    let l = left-past (take 4 names) (be 4 0 ++ drop 4 names) (left-inside B.styp _ ys h) in
    let zero : u32 c (at + 8 + length (take 4 names)) ≡ 0 = left-number 4 0 (drop 4 names) (omega arith) l in
    record {
      right =
          rw (n, ne_eqb (12 + length names) 0 (λ z. omega (arith, z)), le-leb 16 (12 + length names) long)
          (eq-eqb ((12 + length names) % 4) 0 (omega (arith, fours)));
      few = rw (n, le-ltb (12 + length names) 16 long) (le-leb ((12 + length names - 12) / 4) 16 (omega (arith, few)));
      minor = rw (n, le-ltb (12 + length names) 16 long) (rw four at zero);
    }

-- the `mfhd`
pub mfhd-right : {c : List ℕ} {at end : ℕ} (sequence : ℕ) (ys : List ℕ) → Left c at end (mfhd_box sequence ++ ys)
    → mfhd_ok c (part at (length (mfhd_box sequence))) ≡ true
unfolding mfhd_ok mfhd_box ◌and◌
mfhd-right {c} {at} {end} sequence ys h =
    let word : u32 c (at + 8) ≡ 0 = full-word {c = c} {at = at} {end = end} B.mfhd 0 0 (be 4 sequence) ys h (omega arith) in
    rw (word, length-full_box B.mfhd 0 0 (be 4 sequence), length-be 4 sequence)

-- no event's timescale is 0
pub clocks-right : (es : List Event) → AllBoxed es → clocks_ok es ≡ true
unfolding clocks_ok
clocks-right [] h = refl
clocks-right (e ∷ es) h = both _ _ (rw (ne_eqb e.timescale 0 h.0.scale)) (clocks-right es h.1)

-- an `emsg` has its version, flags and end zeros: what is left behind each of its strings says that they end in it
event-right : {c : List ℕ} {at end : ℕ} (e : Event) (ys : List ℕ) → BoxedEvent e → Left c at end (emsg_box e ++ ys)
    → emsg_ok c (part at (length (emsg_box e))) ≡ true
unfolding emsg_ok emsg_box
event-right {c} {at} {end} e ys k h =
    let b : Part = part at (length (emsg_box e)) in
    both _ _ (le-leb 32 (length (emsg_box e)) (omega (arith, (left-scheme e ys h).room)))
    (both _ _ (lt-ltb (scheme_end c b) (end_of b) (omega (arith, (left-value e ys h k.scheme k.value).room)))
    (both _ _ (lt-ltb (value_end c b) (end_of b) (omega (arith, (left-message e ys h k.scheme k.value).room)))
    (eq-eqb (u32 c (at + 8)) 0x100_0000 (full-word B.emsg 1 0 _ ys h (omega arith)))))

-- all `emsg` boxes
pub events-right : {c : List ℕ} (ys : List ℕ) (es : List Event) (at : ℕ) → AllBoxed es → AllShort es → Left c at (length c) (emsg_boxes es ++ ys)
    → emsgs_ok c (length es) at ≡ true
unfolding emsgs_ok emsg_boxes
events-right ys [] at k s h = refl
events-right {c} ys (e ∷ es) at k s h =
    let q : (emsg_box e ++ emsg_boxes es) ++ ys ≡ emsg_box e ++ (emsg_boxes es ++ ys) = append_assoc (emsg_box e) (emsg_boxes es) ys in
    let l : Left c at (length c) (emsg_box e ++ (emsg_boxes es ++ ys)) = subst (λ (r : List ℕ). Left c at (length c) r) q h in
    rw (one_found (emsg-box e s.0) (emsg_boxes es ++ ys) l)
    (both _ _ (event-right e (emsg_boxes es ++ ys) k.0 l)
    (events-right ys es (at + length (emsg_box e)) k.1 s.1 (left-past (emsg_box e) (emsg_boxes es ++ ys) l)))
