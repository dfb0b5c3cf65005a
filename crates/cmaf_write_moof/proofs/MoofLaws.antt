-- The boxes of the moof as their parts, and their lengths. Assumes nothing.
use Prim.Native.Nat.{ℕ, zero, suc, ◌+◌, ◌-◌, ◌*◌, ◌/◌, ◌^◌, ◌≤◌, ◌<◌}
use native.Mathlib.Nat.{suc-mul, zero-mul, mul-le-mul}
use native.Mathlib.Numerals.{add-one}
use native.Mathlib.Omega.{arith}
use mathlib.Core.Path.{◌≡◌, refl, sym, ◌∙◌, ap}
use mathlib.Core.Bool.{Bool, true, false}
use mathlib.Core.List.{List, [], ◌∷◌, ◌++◌}
use lib.ListN.{length, get_or, length-append}
use Rattle.constants.specs.Maxima.{samples_most}
use Rattle.laws.specs.Bytes.{be}
use Rattle.laws.specs.Writes.{Wrote}
use Rattle.laws.proofs.BytesLaws.{length-be}
use Rattle.laws.proofs.PartLaws.{joined}
use Rattle.laws.proofs.WriteLaws.{wrote_as}
use Rattle.track.specs.declared.Track.{Track}
use Rattle.media.specs.Flags.{wide_of}
use Rattle.field_table.specs.Lines.{bmdt_at}
use Rattle.field_set.specs.Lawful.{has, value_at, count_in}
use Rattle.boxes.specs.Box.{words, box, full_box, when, flag_when}
use Rattle.boxes.proofs.BoxLaws.{words_long, box-words, length-box, length-full_box, box-head, full_box-head}
use Rattle.boxes.specs.Box as B
use Rattle.cmaf_write_moof.proofs.ProtectionLaws.{protection-same}
use Rattle.effective.specs.Sizes.{size_of, last_size, size_by}
use Rattle.cmaf_write_moof.specs.Moof.{mfhd_box, tfhd_flags, tfhd_box, tfdt_box, offset_field, trun_row, trun_rows, trun_flags, trun_box, plain, moof_box, moof_whole, protection}
use Rattle.cmaf_write_moof.specs.Lengths.{tfhd_length, row_length, trun_length, plain_length}
use Rattle.effective.proofs.SizeLaws.{size-by}

-- ---- fields that stand or don't

pub when-length : (b : Bool) (v : ℕ) → length (when b (be 4 v)) ≡ flag_when b 4
when-length true v = length-be 4 v
when-length false v = refl

-- the same by what the number is
pub when-as : {l m : List ℕ} {at p u v : ℕ} (b : Bool) → u ≡ v → Wrote l at (when b (be 4 u)) m p → Wrote l at (when b (be 4 v)) m p
when-as b e h = wrote_as (ap (λ (n : ℕ). when b (be 4 n)) e) h

pub flag-low : (b : Bool) (v : ℕ) → flag_when b v ≤ v
flag-low true v = omega arith
flag-low false v = omega arith

-- ---- tfhd

abbrev pub tfhd_parts : Track → List ℕ → ℕ → ℕ → List (List ℕ)
tfhd_parts t w size flags =
    words (size ∷ B.tfhd ∷ flags ∷ t.id ∷ [])
    ∷ when (has 2 w) (be 4 (value_at 2 0 w)) ∷ when (has 4 w) (be 4 (value_at 4 0 w)) ∷ when (has 8 w) (be 4 (wide_of (value_at 8 0 w))) ∷ []

module _ (t : Track) (w : List ℕ) where
  abbrev tfhd-fields : List ℕ
  tfhd-fields =
      when (has 2 w) (be 4 (value_at 2 0 w)) ++ (when (has 4 w) (be 4 (value_at 4 0 w)) ++ when (has 8 w) (be 4 (wide_of (value_at 8 0 w))))

  fields-length : 16 + length tfhd-fields ≡ tfhd_length w
  unfolding tfhd_length
  fields-length =
      simp length-append
      (omega (arith, when-length (has 2 w) (value_at 2 0 w), when-length (has 4 w) (value_at 4 0 w), when-length (has 8 w) (wide_of (value_at 8 0 w))))

  pub tfhd-length : length (tfhd_box t w) ≡ tfhd_length w
  unfolding tfhd_box
  tfhd-length =
      length-full_box B.tfhd 0 (tfhd_flags w) (be 4 t.id ++ tfhd-fields)
      ∙ omega (arith, length-append (be 4 t.id) tfhd-fields, length-be 4 t.id, fields-length)

  pub tfhd-parts : (size flags : ℕ) → size ≡ tfhd_length w → flags ≡ tfhd_flags w → joined (tfhd_parts t w size flags) ≡ tfhd_box t w
  unfolding tfhd_box words be
  tfhd-parts size flags e f =
      full_box-head B.tfhd 0 (tfhd_flags w) size flags (t.id ∷ []) tfhd-fields {body = be 4 t.id ++ tfhd-fields} refl (omega arith)
      (omega (arith, fields-length))

-- ---- tfdt

pub tfdt-words : (w : List ℕ) → words (20 ∷ B.tfdt ∷ 0x100_0000 ∷ (get_or w bmdt_at 0 / 2 ^ 32) ∷ get_or w bmdt_at 0 ∷ []) ≡ tfdt_box w
unfolding tfdt_box full_box words
tfdt-words w =
    let v = get_or w bmdt_at 0 in
    box-words B.tfdt 20 (0x100_0000 ∷ (v / 2 ^ 32) ∷ v ∷ []) (ap (λ (l : List ℕ). be 4 0x100_0000 ++ l) (sym (words_long v))) refl

pub tfdt-length : (w : List ℕ) → length (tfdt_box w) ≡ 20
unfolding tfdt_box
tfdt-length w = length-full_box B.tfdt 1 0 (be 8 (get_or w bmdt_at 0)) ∙ omega (arith, length-be 8 (get_or w bmdt_at 0))

-- ---- trun

abbrev pub row_parts : List ℕ → ℕ → ℕ → List (List ℕ)
row_parts w size i =
    when (has 3 w) (be 4 (value_at 3 i w))
    ∷ be 4 size ∷ when (has 7 w) (be 4 (wide_of (value_at 7 i w))) ∷ when (has 5 w) (be 4 (offset_field (value_at 5 i w))) ∷ []

pub row-parts : (w : List ℕ) (size i : ℕ) → joined (row_parts w size i) ≡ trun_row w size i
unfolding trun_row
row-parts w size i = refl

pub row-length : (w : List ℕ) (size i : ℕ) → length (trun_row w size i) ≡ row_length w
unfolding trun_row row_length
row-length w size i =
    simp (length-append, length-be)
    (omega (arith, when-length (has 3 w) (value_at 3 i w), when-length (has 7 w) (wide_of (value_at 7 i w)), when-length (has 5 w) (offset_field (value_at 5 i w))))

-- the rows of k samples from the number i on, where the size of the last sample is known
unfoldable pub rows_by : List ℕ → ℕ → ℕ → ℕ → List ℕ
rows_by w last zero i = []
rows_by w last (suc k) i = trun_row w (size_by w last i) i ++ rows_by w last k (suc i)

module _ (w : List ℕ) (last n i : ℕ) where
  pub rows_end : n ≤ i → rows_by w last (n - i) i ≡ []
  unfolding rows_by
  rows_end h = let e : n - i ≡ 0 = omega arith in rw e

  pub rows_next : (size : ℕ) → i < n → size ≡ size_by w last i → rows_by w last (n - i) i ≡ trun_row w size i ++ rows_by w last (n - (i + 1)) (i + 1)
  unfolding rows_by
  rows_next size h s = let e : n - i ≡ suc (n - (i + 1)) = omega arith in rw (e, add-one, s)

abbrev pub trun_parts : Track → List ℕ → ℕ → ℕ → ℕ → ℕ → List (List ℕ)
trun_parts t w payload offset size flags =
    words (size ∷ B.trun ∷ (0x100_0000 + flags) ∷ count_in w ∷ offset ∷ [])
    ∷ when (has 12 w) (be 4 (wide_of (value_at 12 0 w))) ∷ trun_rows t w payload (count_in w) 0 ∷ []

-- no more samples than there can be
pub rows-small : (n row : ℕ) → n ≤ samples_most → row ≤ 16 → n * row ≤ 16 * samples_most
rows-small n row h k = mul-le-mul h k

module _ (t : Track) (w : List ℕ) (payload : ℕ) where
  pub rows-length : (k i : ℕ) → length (trun_rows t w payload k i) ≡ k * row_length w
  unfolding trun_rows
  rows-length zero i = sym (zero-mul (row_length w))
  rows-length (suc k) i =
      length-append (trun_row w (size_of t w payload i) i) (trun_rows t w payload k (suc i))
      ∙ omega (arith, row-length w (size_of t w payload i) i, rows-length k (suc i), suc-mul k (row_length w))

  -- the same rows by the size of the last sample
  pub rows-by : (last : ℕ) → last ≡ last_size t w payload → (k i : ℕ) → rows_by w last k i ≡ trun_rows t w payload k i
  unfolding trun_rows rows_by
  rows-by last e zero i = refl
  rows-by last e (suc k) i =
      ap (λ (n : ℕ). trun_row w (size_by w n i) i ++ rows_by w last k (suc i)) e
      ∙ ap (λ (n : ℕ). trun_row w n i ++ rows_by w last k (suc i)) (sym (size-by t w payload i))
      ∙ ap (λ (l : List ℕ). trun_row w (size_of t w payload i) i ++ l) (rows-by last e k (suc i))

  abbrev trun-rest : List ℕ
  trun-rest = when (has 12 w) (be 4 (wide_of (value_at 12 0 w))) ++ trun_rows t w payload (count_in w) 0

  rest-length : 20 + length trun-rest ≡ trun_length w
  unfolding trun_length
  rest-length =
      simp length-append (omega (arith, when-length (has 12 w) (wide_of (value_at 12 0 w)), rows-length (count_in w) 0))

  module _ (offset : ℕ) where
    pub trun-length : length (trun_box t w payload offset) ≡ trun_length w
    unfolding trun_box
    trun-length =
        length-full_box B.trun 1 (trun_flags w) (be 4 (count_in w) ++ (be 4 offset ++ trun-rest))
        ∙ simp (length-append, length-be) (omega (arith, rest-length, length-append (when (has 12 w) (be 4 (wide_of (value_at 12 0 w)))) (trun_rows t w payload (count_in w) 0)))

    pub trun-parts : (size flags : ℕ) → size ≡ trun_length w → flags ≡ trun_flags w
        → joined (trun_parts t w payload offset size flags) ≡ trun_box t w payload offset
    unfolding trun_box words be
    trun-parts size flags e f =
        full_box-head B.trun 1 (trun_flags w) size (0x100_0000 + flags) (count_in w ∷ offset ∷ []) trun-rest
        {body = be 4 (count_in w) ++ (be 4 offset ++ trun-rest)} refl (omega arith) (omega (arith, rest-length))

    pub plain-parts : joined (tfhd_box t w ∷ tfdt_box w ∷ trun_box t w payload offset ∷ []) ≡ plain t w payload offset
    unfolding plain
    plain-parts = refl

    pub plain-length : length (plain t w payload offset) ≡ plain_length w
    unfolding plain plain_length
    plain-length = simp length-append (omega (arith, tfhd-length t w, tfdt-length w, trun-length))

-- ---- the moof

mfhd-words : (sequence : ℕ) → words (16 ∷ B.mfhd ∷ 0 ∷ sequence ∷ []) ≡ mfhd_box sequence
unfolding mfhd_box full_box words be
mfhd-words sequence = box-words B.mfhd 16 (0 ∷ sequence ∷ []) refl refl

mfhd-length : (sequence : ℕ) → length (mfhd_box sequence) ≡ 16
unfolding mfhd_box
mfhd-length sequence = length-full_box B.mfhd 0 0 (be 4 sequence) ∙ omega (arith, length-be 4 sequence)

-- the data offset is the moof's length and the 8 bytes of the head of the `mdat`
abbrev pub moof_parts : Track → ℕ → List ℕ → ℕ → ℕ → List (List ℕ)
moof_parts t sequence w payload size =
    words (size ∷ B.moof ∷ 16 ∷ B.mfhd ∷ 0 ∷ sequence ∷ (size - 24) ∷ B.traf ∷ [])
    ∷ plain t w payload (size + 8) ∷ protection t w (32 + plain_length w) ∷ []

-- with q bytes of protection, wherever it stands
module _ (t : Track) (sequence : ℕ) (w : List ℕ) (payload q : ℕ) (long : (place : ℕ) → q ≡ length (protection t w place)) where
  module _ (offset : ℕ) where
    abbrev before : List ℕ
    before = plain t w payload offset

    abbrev place : ℕ
    place = 8 + (length (mfhd_box sequence) + (8 + length before))

    place_is : place ≡ 32 + plain_length w
    place_is = omega (arith, mfhd-length sequence, plain-length t w payload offset)

    traf-length : length (box B.traf (before ++ protection t w place)) ≡ 8 + (plain_length w + q)
    traf-length =
        length-box B.traf (before ++ protection t w place)
        ∙ omega (arith, length-append before (protection t w place), long place, plain-length t w payload offset)

    pub moof-length : 32 + plain_length w + q ≡ length (moof_box t sequence w payload offset)
    unfolding moof_box
    moof-length =
        sym
        (length-box B.moof (mfhd_box sequence ++ box B.traf (before ++ protection t w place))
        ∙ omega (arith, length-append (mfhd_box sequence) (box B.traf (before ++ protection t w place)), mfhd-length sequence, traf-length))

    moof-words : (size : ℕ) → size ≡ 32 + plain_length w + q
        → words (size ∷ B.moof ∷ 16 ∷ B.mfhd ∷ 0 ∷ sequence ∷ (size - 24) ∷ B.traf ∷ []) ++ (before ++ protection t w (32 + plain_length w))
        ≡ moof_box t sequence w payload offset
    unfolding moof_box words be
    moof-words size e =
        let inner = before ++ protection t w (32 + plain_length w) in
        let at_place : inner ≡ before ++ protection t w place = ap (λ (n : ℕ). before ++ protection t w n) (sym place_is) in
        let traf : words ((size - 24) ∷ B.traf ∷ []) ++ inner ≡ box B.traf (before ++ protection t w place) =
        box-head B.traf (size - 24) [] inner at_place (omega (arith, length-box B.traf (before ++ protection t w place), traf-length)) in
        box-head B.moof size (16 ∷ B.mfhd ∷ 0 ∷ sequence ∷ (size - 24) ∷ B.traf ∷ []) inner
        (ap (λ (l : List ℕ). words (16 ∷ B.mfhd ∷ 0 ∷ sequence ∷ []) ++ l) traf
        ∙ ap (λ (l : List ℕ). l ++ box B.traf (before ++ protection t w place)) (mfhd-words sequence))
        (omega (
          arith,
          length-append (mfhd_box sequence) (box B.traf (before ++ protection t w place)),
          mfhd-length sequence,
          traf-length,
        ))

  pub moof-parts : (size : ℕ) → size ≡ 32 + plain_length w + q → joined (moof_parts t sequence w payload size) ≡ moof_whole t sequence w payload
  unfolding moof_whole
  moof-parts size e =
      let offset : size + 8 ≡ length (moof_box t sequence w payload 0) + 8 = omega (arith, moof-length 0) in
      moof-words (size + 8) size e ∙ ap (λ (n : ℕ). moof_box t sequence w payload n) offset

-- a `moof` of a known length
module _ (t : Track) (sequence : ℕ) (w : List ℕ) (payload size : ℕ) (e : size ≡ length (moof_whole t sequence w payload)) where
  pub size_is : size ≡ 32 + plain_length w + length (protection t w 0)
  unfolding moof_whole
  size_is = e ∙ sym (moof-length t sequence w payload (length (protection t w 0)) (protection-same t w 0) _)

  pub sized-parts : joined (moof_parts t sequence w payload size) ≡ moof_whole t sequence w payload
  sized-parts = moof-parts t sequence w payload (length (protection t w 0)) (protection-same t w 0) size size_is

-- the length of a `moof` goes by the set alone, and not by its data offset
pub moof-same : (t : Track) (sequence : ℕ) (w : List ℕ) (payload x y : ℕ) → length (moof_box t sequence w payload x) ≡ length (moof_box t sequence w payload y)
moof-same t sequence w payload x y =
    let q : ℕ = length (protection t w 0) in
    sym (moof-length t sequence w payload q (protection-same t w 0) x) ∙ moof-length t sequence w payload q (protection-same t w 0) y
