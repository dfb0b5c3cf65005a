-- The number of an object's values, its sums and its IVs, as they are tested one after the other. Assumes nothing.
use Prim.Native.Nat.{ℕ, ◌-◌}
use native.Mathlib.Omega.{arith}
use mathlib.Core.Path.{◌≡◌, refl, sym, ◌∙◌, ap, subst}
use mathlib.Core.Bool.{Bool, true, false, cond}
use mathlib.Core.List.{List}
use lib.ListN.{length, get_or, drop, set as store}
use Rattle.std.specs.Prelude.{Ok}
use Rattle.laws.specs.Tests.{all_le}
use Rattle.laws.specs.Ladder.{ladder}
use Rattle.wire.specs.declared.form.Row.{Row}
use Rattle.track.specs.declared.Track.{Track}
use Rattle.counters.specs.Follow.{Behind}
use Rattle.share_words.specs.Share.{last_at, set_at}
use Rattle.locmaf_read_index.specs.Places.{many_at}
use Rattle.locmaf_read_head.specs.declared.head.Place.{Place}
use Rattle.locmaf_read_said.specs.Said.{scalar_in}
use Rattle.prft_value.specs.declared.Prft.{Prft}
use Rattle.locmaf_read_times.specs.Prft.{prft_of}
use Rattle.locmaf_read_times.specs.declared.prft.Told.{Told}
use Rattle.slots.specs.Share.{expected_in}
use Rattle.effective.specs.Expected.{next_time, expected_by}
use Rattle.locmaf_read_events.specs.Events.{events_ok}
use Rattle.receiver.specs.declared.judge.Values.{Values}
use Rattle.receiver.specs.Object.{payload}
use Rattle.receiver.specs.Receive.{told_set, values_ok, sums_ok, ivs_fit, value_rungs}
use Rattle.receiver.specs.Judge.{sums_in, SetRead, ValuesTold, Testable, TestedAs, IvsAs, JudgedAs}
use Rattle.receiver.proofs.LeftLaws.{ivs-number, ivs-words}
use Rattle.receiver.proofs.JudgeLaws.{Worked, Gathered, plain_ok, lent-expected, plain-is, events-lent, payload-most, some_words, stored-summable, values-broken, fifteen, sixteen, twenty-one}
use Rattle.receiver.proofs.JudgeLaws.{fit_is, stored-set, stored-behind, sums-are, accepts}

-- the values that were told of an object whose set was read
module _ {F : List Row} {o s : List ℕ} {t : Track} {p : Place} {index ev x : List ℕ} (v : Values) (read : SetRead F o s t p index ev x) (bytes : all_le 255 o ≡ true)
    (is : (u : Track) → expected_in s ≡ expected_by (next_time u (drop set_at s))
    → ValuesTold u p.delta (length o - p.end) (get_or index (many_at 25) 0) s index v) where
  -- what was told of the `prft`, with the time that was handed back
  abbrev r : Told
  r = record { ok = (prft_of p.delta (scalar_in index) s).ok; prft = v.prft }

  w : Worked F o s t p index ev v.bmdt.0 r v.brands
  w =
      let e = is t (lent-expected read.head) in
      record {
        head = read.head;
        split = read.split;
        start = e.start;
        told = ap (λ (q : Prft). record { ok = r.ok; prft = q }) e.time;
        named = e.named;
      }

  g : Gathered F o s t x
  g = record { hold = read.hold; words = read.words; bytes = bytes }

  -- its test is the rules'
  same : v.ok ≡ plain_ok F o s
  same = (is t (lent-expected read.head)).tested ∙ plain-is w

  -- what `values_hold` is lent
  pub values-lent : Testable o v (length o - p.end) ev (get_or index (many_at 25) 0) x
  values-lent =
      record {
        long = w.split.long;
        room = some_words w g;
        fit = λ h. events-lent w (sym same ∙ h);
        summable = λ h. stored-summable w g (sym same ∙ h);
        small = λ h. payload-most w (sym same ∙ h);
      }

  -- whether the events are right
  abbrev right : Bool
  right = events_ok v.bmdt.0 o (get_or index (many_at 25) 0) ev

  -- what was tested of them: the number n
  module _ {n : ℕ} {ws y : List ℕ} (h : TestedAs t o v (length o - p.end) ev (get_or index (many_at 25) 0) x n ws y) where
    -- all values are right where it is 0
    all_right : n ≡ 0 → (v.ok ≡ true) × (right ≡ true)
    all_right z = go v.ok right refl refl
      where
        go : (a b : Bool) → v.ok ≡ a → right ≡ b → (v.ok ≡ true) × (right ≡ true)
        go true true e q = (e, q)
        go true false e q = absurd (omega (arith, z, h.event e q))
        go false b e q = absurd (omega (arith, z, h.out e))

    -- what `derive_ivs` is lent then
    pub ivs-lent : n ≡ 0 → Behind t (get_or s last_at 0) (drop set_at s) y
    ivs-lent z =
        let k = all_right z in
        subst (λ (l : List ℕ). Behind t (get_or s last_at 0) (drop set_at s) l) (sym (h.stored k.0 k.1)) (stored-behind w g (sym same ∙ k.0))

    -- the values are right
    module _ (e : v.ok ≡ true) (q : right ≡ true) where
      ok : plain_ok F o s ≡ true
      ok = sym same ∙ e

      fit : values_ok F o s ≡ true
      fit = sym (fit_is w ok (h.read e)) ∙ q

    -- any other number is that of the rules
    module _ (d : n ≡ 0 → ⊥) where
      -- that the sums disagree
      by-sums : v.ok ≡ true → right ≡ true → (b : Bool) → sums_in t (store x 0 v.bmdt.0) (length o - p.end) ≡ b → n ≡ ladder (value_rungs F o s) (λ i. i) 0
      by-sums e q false u = h.sums e q ∙ rw u (sixteen F o s (fit e q) (sym (sums-are w g (ok e q)) ∙ u))
      by-sums e q true u = absurd (d (h.sums e q ∙ rw u))

      -- an event is out of its range, or that
      by-events : v.ok ≡ true → (b : Bool) → right ≡ b → n ≡ ladder (value_rungs F o s) (λ i. i) 0
      by-events e false q = h.event e q ∙ fifteen F o s (sym (fit_is w (sym same ∙ e) (h.read e)) ∙ q)
      by-events e true q = by-sums e q (sums_in t (store x 0 v.bmdt.0) (length o - p.end)) refl

      -- another value is, or one of these
      by-value : (b : Bool) → v.ok ≡ b → n ≡ ladder (value_rungs F o s) (λ i. i) 0
      by-value false e = h.out e ∙ fifteen F o s (values-broken F o s (sym same ∙ e))
      by-value true e = by-events e right refl

      pub values-refused : n ≡ ladder (value_rungs F o s) (λ i. i) 0
      values-refused = by-value v.ok refl

    -- where it is 0, the IVs are asked: m, and the words after it
    module _ (i : n ≡ 0) {m : ℕ} {z : List ℕ} (iv : IvsAs t p.delta s index y (length (payload F o)) m z) where
      -- the sums are right
      sums : sums_ok F o s ≡ true
      sums = go (sums_in t (store x 0 v.bmdt.0) (length o - p.end)) refl
        where
          k : (v.ok ≡ true) × (right ≡ true)
          k = all_right i

          go : (b : Bool) → sums_in t (store x 0 v.bmdt.0) (length o - p.end) ≡ b → sums_ok F o s ≡ true
          go true u = sym (sums-are w g (ok k.0 k.1)) ∙ u
          go false u = let j : n ≡ 16 = h.sums k.0 k.1 ∙ rw u in absurd (omega (arith, i, j))

      -- the set's words are those that the object tells
      told : y ≡ told_set F o s
      told = let k = all_right i in h.stored k.0 k.1 ∙ stored-set w g (ok k.0 k.1)

      ivs : m ≡ cond (ivs_fit F o s) 0 21
      ivs = ivs-number w.head w.split told iv

      -- one passes its size, where m isn't 0
      pub ivs-refused : (m ≡ 0 → ⊥) → m ≡ ladder (value_rungs F o s) (λ j. j) 0
      ivs-refused d = go (ivs_fit F o s) refl
        where
          go : (b : Bool) → ivs_fit F o s ≡ b → m ≡ ladder (value_rungs F o s) (λ j. j) 0
          go false f = ivs ∙ rw f (let k = all_right i in twenty-one F o s (fit k.0 k.1) sums f)
          go true f = absurd (d (ivs ∙ rw f))

      -- or none does, and all is ready, where the words of the events stay
      pub values-judged : m ≡ 0 → {us : List ℕ} → us ≡ ws
          → JudgedAs (value_rungs F o s) F o s (Ok (record { prft = r.prft; events = get_or index (many_at 25) 0; brands = v.brands })) us z
      values-judged a {us} e =
          subst (λ (l : List ℕ). JudgedAs (value_rungs F o s) F o s (Ok (record { prft = r.prft; events = get_or index (many_at 25) 0; brands = v.brands })) l z) (sym e)
          (go (ivs_fit F o s) refl)
        where
          go : (b : Bool) → ivs_fit F o s ≡ b
              → JudgedAs (value_rungs F o s) F o s (Ok (record { prft = r.prft; events = get_or index (many_at 25) 0; brands = v.brands })) ws z
          go false f = let j : m ≡ 21 = ivs ∙ rw f in absurd (omega (arith, a, j))
          go true f = let k = all_right i in accepts w g (ok k.0 k.1) (h.read k.0) sums (fit k.0 k.1) f (ivs-words w.head w.split told iv a)
