-- The kind of object that is chosen, and all of it before the payload. Assumes nothing.
use Prim.Native.Nat.{ℕ, ◌+◌, ◌≤◌, ◌<◌}
use native.Mathlib.Omega.{arith}
use mathlib.Core.Path.{◌≡◌, refl, sym, ◌∙◌, ap}
use mathlib.Core.Bool.{Bool, true, false, not, ◌||◌}
use mathlib.Core.List.{List, [], ◌∷◌}
use borrow.Author.Tests.{eqb-false, not-true}
use lib.Dec.{eqb, leb}
use lib.ListN.{length, get_or, length-append}
use Rattle.constants.specs.Maxima.{number_most}
use Rattle.laws.specs.Tests.{◌and◌}
use Rattle.laws.proofs.TestLaws.{left, and_left, and_right}
use Rattle.laws.proofs.PartLaws.{joined}
use Rattle.wire.specs.declared.form.Row.{Row}
use Rattle.wire.specs.declared.form.Form.{Form}
use Rattle.wire.specs.Form.{rows, limit}
use Rattle.wire.specs.Varint.{encode}
use Rattle.wire.proofs.VarintLaws.{length-encode}
use Rattle.wire.proofs.SizeLaws.{limit-62}
use Rattle.laws.specs.Options.{is_some}
use Rattle.share_words.specs.Share.{held_at}
use Rattle.track.specs.declared.Track.{Track}
use Rattle.prft_value.specs.declared.Prft.{Prft}
use Rattle.cmaf_read_chunk.specs.declared.read.Chunk.{Chunk}
use Rattle.cmaf_read_chunk.specs.Accepted.{bmdt, prft}
use Rattle.std.specs.Prelude.{Option, Some, None}
use Rattle.std.specs.Option.{unwrap_or}
use Rattle.locmaf_write_tuples.proofs.ItemLaws.{weighed-fits, weighed-bytes}
use Rattle.locmaf_write_tuples.specs.Items.{bytes_of, weight_most, WeighedAs}
use Rattle.encoder.specs.declared.front.Plan.{Plan}
use Rattle.encoder.specs.Object.{header_of, block_items, object_of, may_delta, gives_delta, fits_ok, front}
use Rattle.encoder.specs.Planned.{Encodable, Held, front_bytes, Sendable, Planned, PlannedAs}
use Rattle.encoder.proofs.GivenLaws.{prft-is}

-- ---- the kind of object

module _ (F : List Row) (s c : List ℕ) (wish : Bool) where
  -- a delta may be tried only where a reference is held
  pub may-held : may_delta s (prft c) wish ≡ true → get_or s held_at 0 ≡ 0 → ⊥
  unfolding may_delta
  may-held m = eqb-false _ _ (not-true _ (and_left (not (eqb (get_or s held_at 0) 0)) _ (and_right wish _ m)))

  gives-held : Held (gives_delta F s c wish) s
  unfolding gives_delta
  gives-held g = may-held (left _ _ g)

  -- a delta is given where it may and can be
  gives : may_delta s (prft c) wish ≡ true → is_some (block_items F s c true) ≡ true → gives_delta F s c wish ≡ true
  unfolding gives_delta ◌and◌
  gives m f = rw (m, f)

  -- and not where it may not, or can't
  pub gives-not-may : may_delta s (prft c) wish ≡ false → gives_delta F s c wish ≡ false
  unfolding gives_delta ◌and◌
  gives-not-may m = rw m

  pub gives-not-can : {d : Option ℕ} → WeighedAs F (block_items F s c true) weight_most d → d ≡ None → gives_delta F s c wish ≡ false
  unfolding gives_delta ◌and◌
  gives-not-can w f = let n : is_some (block_items F s c true) ≡ false = sym (weighed-fits w) ∙ ap is_some f in go (may_delta s (prft c) wish) n
    where
      go : (m : Bool) → is_some (block_items F s c true) ≡ false → (m and is_some (block_items F s c true)) ≡ false
      go true n = n
      go false n = refl

  module _ (small : leb (bmdt c) number_most ≡ true) where
    fits-is : fits_ok F s c wish ≡ (gives_delta F s c wish || is_some (block_items F s c false))
    unfolding fits_ok ◌and◌
    fits-is = rw small

    -- a block of n bytes
    module _ (delta : Bool) {d : Option ℕ} (w : WeighedAs F (block_items F s c delta) weight_most d) {n : ℕ} (is : d ≡ Some n) where
      block-fits : is_some (block_items F s c delta) ≡ true
      block-fits = sym (weighed-fits w) ∙ ap is_some is

      planned : {follow : Bool} → delta ≡ gives_delta F s c wish → Planned F s c wish (record { delta = delta; follow = follow; block = n })
      planned k =
          record {
            kind = k;
            all-fit = block-fits;
            block = ap (λ (o : Option ℕ). unwrap_or o 0) (sym is) ∙ weighed-bytes w block-fits;
            small = let le : unwrap_or d 0 ≤ weight_most = w.small in rw is at le;
          }

    -- the plan for a delta
    pub planned-delta : {d : Option ℕ} {n : ℕ} {follow : Bool} → may_delta s (prft c) wish ≡ true → WeighedAs F (block_items F s c true) weight_most d → d ≡ Some n
        → PlannedAs F s c wish (Some (record { delta = true; follow = follow; block = n }))
    planned-delta m w is =
        let g : gives_delta F s c wish ≡ true = gives m (block-fits true w is) in
        record {
          answered = sym (fits-is ∙ ap (λ (b : Bool). b || is_some (block_items F s c false)) g);
          plan = planned true w is (sym g);
        }

    -- and for a full object
    pub planned-full : {d : Option ℕ} {n : ℕ} {follow : Bool} → gives_delta F s c wish ≡ false → WeighedAs F (block_items F s c false) weight_most d → d ≡ Some n
        → PlannedAs F s c wish (Some (record { delta = false; follow = follow; block = n }))
    planned-full g w is =
        record {
          answered = sym (block-fits false w is) ∙ sym (fits-is ∙ ap (λ (b : Bool). b || is_some (block_items F s c false)) g);
          plan = planned false w is (sym g);
        }

    -- there is none
    pub planned-none : {d : Option ℕ} → gives_delta F s c wish ≡ false → WeighedAs F (block_items F s c false) weight_most d → d ≡ None
        → PlannedAs F s c wish None
    planned-none g w is =
        record {
          answered = ap is_some (sym is) ∙ weighed-fits w ∙ sym (fits-is ∙ ap (λ (b : Bool). b || is_some (block_items F s c false)) g);
          plan = tt;
        }

-- a delta may be tried only where one is wished for
pub may-wished : (s : List ℕ) (p : Prft) (wish : Bool) → may_delta s p wish ≡ true → wish ≡ true
unfolding may_delta
may-wished s p wish e = and_left wish _ e

-- the test by what was read of a chunk is the one by the chunk
pub may-so : {F : List Row} {t : Track} {s c : List ℕ} {k : Chunk} {ws x : List ℕ} {b : Bool} (wish : Bool) → Encodable F t s c k ws x
    → b ≡ may_delta s k.prft wish → may_delta s (prft c) wish ≡ b
may-so {s = s} wish h e = ap (λ (p : Prft). may_delta s p wish) (sym (prft-is h)) ∙ sym e

-- ---- all before the payload

-- a header, the block's length, and the block
abbrev pub front_parts : List Row → List ℕ → List ℕ → Plan → ℕ → List (List ℕ)
front_parts F s c a h = encode F h ∷ encode F a.block ∷ bytes_of F (block_items F s c a.delta) ∷ []

header-small : (delta : Bool) → header_of delta ≤ 25
unfolding header_of
header-small true = omega arith
header-small false = omega arith

module _ {F : List Row} {s c : List ℕ} {a : Plan} (p : Sendable F s c a) where
  pub front-parts : (h : ℕ) → h ≡ header_of a.delta → joined (front_parts F s c a h) ≡ object_of F s c a.delta
  unfolding object_of
  front-parts h e = rw (e, ← p.block)

  object-bytes : length (object_of F s c a.delta) ≡ length (encode F (header_of a.delta)) + (length (encode F a.block) + a.block)
  object-bytes =
      sym (ap length (front-parts _ refl))
      ∙ omega (
        arith,
        p.block,
        length-append (encode F (header_of a.delta)) (joined (encode F a.block ∷ bytes_of F (block_items F s c a.delta) ∷ [])),
        length-append (encode F a.block) (bytes_of F (block_items F s c a.delta)),
      )

module _ (form : Form) {s c : List ℕ} {wish : Bool} {a : Plan} (p : Planned (rows form) s c wish a) where
  abbrev F : List Row
  F = rows form

  -- what was planned can be written
  pub planned-sendable : Sendable F s c a
  planned-sendable =
      record { held = λ d. gives-held F s c wish (sym p.kind ∙ d); all-fit = p.all-fit; block = p.block }

  -- and is the front
  pub planned-front : object_of F s c a.delta ≡ front F s c wish
  unfolding front
  planned-front = ap (object_of F s c) p.kind

  -- its length
  pub front_length : front_bytes F a ≡ length (front F s c wish)
  unfolding front_bytes
  front_length =
      let i : header_of a.delta < limit F = omega (arith, limit-62 form, header-small a.delta) in
      let j : a.block < limit F = omega (arith, limit-62 form, p.small) in
      omega (arith, object-bytes planned-sendable, length-encode F (header_of a.delta) i, length-encode F a.block j)
      ∙ ap length planned-front
