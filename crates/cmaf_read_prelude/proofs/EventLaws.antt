-- The words of events: the loop that keeps them, and what they say of the chunk. Assumes nothing.
use Prim.Native.Nat.{ℕ, zero, suc, ◌+◌, ◌-◌, ◌*◌, ◌^◌, ◌≤◌, ◌<◌}
use native.Mathlib.Nat.{add-zero, sub-zero, not-suc-le-zero}
use native.Mathlib.Omega.{arith}
use mathlib.Core.Path.{◌≡◌, refl, sym, ◌∙◌, ap, ap₂, subst}
use mathlib.Core.Bool.{true}
use mathlib.Core.List.{List, [], ◌∷◌, ◌++◌, append_assoc}
use lib.ListN.{length, get_or, set, drop, length-append, length-drop, length-set, drop_of_length-le}
use lib.Seq.{sets, sets-eq, length-sets, drop-cons, get_or-drop, drop-drop, drop_at}
use Rattle.laws.specs.Bytes.{Bytes}
use Rattle.laws.specs.Tests.{no_zero}
use Rattle.laws.proofs.StoreLaws.{sets-append}
use Rattle.laws.proofs.TestLaws.{left, right}
use Rattle.byte_parts.specs.declared.Part.{Part}
use Rattle.cmaf_read_shape.specs.Parts.{Inside, end_of}
use Rattle.event_value.specs.Events.{part, EventFits}
use Rattle.constants.specs.Maxima.{block_most}
use Rattle.event_value.specs.Events.{event_words, event_scheme_len, event_value, event_value_len, event_timescale, event_time, event_duration, event_id, event_message, event_message_len}
use Rattle.cmaf_read_tree.specs.Numbers.{u32, u64}
use Rattle.cmaf_read_prelude.specs.Emsg.{zero_from, scheme_at, scheme_end, value_end, emsg_ok, emsg_at, emsgs_ok, box_words, emsg_words, kept_events}
use Rattle.cmaf_read_prelude.proofs.NumberLaws.{number_lt}
use Rattle.cmaf_read_prelude.proofs.ZeroLaws.{zero-text}
use Rattle.cmaf_read_prelude.proofs.EmsgLaws.{Strings, strings, scheme-is, value-is, emsg-inside, emsgs-step}

-- ---- words that are stored one after another

-- the words before the one with the number i are stored in m
pub record Storing (l : List ℕ) (at : ℕ) (ws m : List ℕ) (i : ℕ) : Type 0 where
  pub high : i ≤ length ws
  pub room : at + length ws ≤ length m
  pub same : length m ≡ length l
  pub rest : sets m (at + i) (drop i ws) ≡ sets l at ws

module _ (l : List ℕ) (at : ℕ) (ws : List ℕ) where
  pub storing-start : at + length ws ≤ length l → Storing l at ws l 0
  storing-start h = record { high = omega arith; room = h; same = refl; rest = rw add-zero }

  module _ (m : List ℕ) (i : ℕ) (h : Storing l at ws m i) where
    -- one word more
    pub storing-next : i < length ws → Storing l at ws (set m (at + i) (get_or ws i 0)) (i + 1)
    storing-next lt =
        let e : at + (i + 1) ≡ suc (at + i) = omega arith in
        let f : i + 1 ≡ suc i = omega arith in
        let n : length (set m (at + i) (get_or ws i 0)) ≡ length m = length-set m (at + i) (get_or ws i 0) in
        let run : sets (set m (at + i) (get_or ws i 0)) (at + (i + 1)) (drop (i + 1) ws) ≡ sets m (at + i) (drop i ws) = rw (e, f, drop-cons ws i 0 lt) in
        record { high = omega arith; room = omega (arith, n, h.room); same = n ∙ h.same; rest = run ∙ h.rest }

    -- none is left
    pub storing-end : length ws ≤ i → m ≡ sets l at ws
    storing-end le = rw (drop_of_length-le ws le) at h.rest

-- ---- the words of one event

-- what code makes of the places and numbers that it found
pub words_are : (c : List ℕ) (b : Part) (ok : emsg_ok c b ≡ true) (end s : ℕ) (ee : end ≡ end_of b) (es : s ≡ zero_from c (b.at + 32) end)
    → (v : ℕ) → v ≡ zero_from c (s + 1) end
    → (t p d n : ℕ) → t ≡ u32 c (b.at + 12) → p ≡ u64 c (b.at + 16) → d ≡ u32 c (b.at + 24) → n ≡ u32 c (b.at + 28)
    → ((b.at + 32) ∷ (s - (b.at + 32)) ∷ (s + 1) ∷ (v - (s + 1)) ∷ t ∷ p ∷ d ∷ n ∷ (v + 1) ∷ (end - (v + 1)) ∷ []) ≡ box_words c b
unfolding box_words
words_are c b ok end s ee es v ev t p d n et ep ed en = rw (value-is c b ok end s ee es v ev, scheme-is c b ok end s ee es, ee, et, ep, ed, en)

-- ---- the events that are kept

pub event-length : (c : List ℕ) (b : Part) → length (box_words c b) ≡ 10
unfolding box_words
event-length c b = refl

pub words-length : (c : List ℕ) (k at : ℕ) → length (emsg_words c k at) ≡ event_words * k
unfolding emsg_words
words-length c zero at = refl
words-length c (suc k) at =
    length-append (box_words c (emsg_at c at)) _ ∙ omega (arith, event-length c (emsg_at c at), words-length c k (end_of (emsg_at c at)))

words_step : (c : List ℕ) (p k i : ℕ) → i < k → emsg_words c (k - i) p ≡ box_words c (emsg_at c p) ++ emsg_words c (k - (i + 1)) (end_of (emsg_at c p))
unfolding emsg_words
words_step c p k i h = let e : k - i ≡ suc (k - (i + 1)) = omega arith in rw e

-- the events of the boxes before the one with the number i, which stands at p, are kept in ws
pub record Keeping (c : List ℕ) (k at : ℕ) (ws₀ ws : List ℕ) (p i : ℕ) : Type 0 where
  pub within : p ≤ length c
  pub high : i ≤ k
  pub ok : emsgs_ok c (k - i) p ≡ true
  pub room : event_words * k ≤ length ws
  pub same : length ws ≡ length ws₀
  pub rest : sets ws (event_words * i) (emsg_words c (k - i) p) ≡ sets ws₀ 0 (emsg_words c k at)

module _ (c : List ℕ) (k at : ℕ) (ws₀ : List ℕ) where
  -- none is kept yet
  pub keeping_start : at ≤ length c → emsgs_ok c k at ≡ true → event_words * k ≤ length ws₀ → Keeping c k at ws₀ ws₀ at 0
  keeping_start h e r = record { within = h; high = omega arith; ok = rw sub-zero e; room = r; same = refl; rest = rw sub-zero }

  module _ (ws : List ℕ) (p i : ℕ) (h : Keeping c k at ws₀ ws p i) where
    -- the next box is as it must be
    pub keeping-ok : i < k → (b : Part) → b ≡ emsg_at c p → emsg_ok c b ≡ true
    keeping-ok lt b eb = rw eb (left _ _ (sym (emsgs-step c p k i lt) ∙ h.ok))

    -- one event more
    pub keeping-next : i < k → (b : Part) (q : ℕ) (ws' : List ℕ) → b ≡ emsg_at c p → q ≡ end_of b → ws' ≡ sets ws (event_words * i) (box_words c b)
        → Keeping c k at ws₀ ws' q (i + 1)
    keeping-next lt b q ws' eb eq ew =
        let n : event_words * (i + 1) ≡ event_words * i + length (box_words c b) = omega (arith, event-length c b) in
        let same' : length ws' ≡ length ws = ap length ew ∙ length-sets ws (event_words * i) (box_words c b) in
        let left' : box_words c b ++ emsg_words c (k - (i + 1)) q ≡ emsg_words c (k - i) p = rw (eq, eb) (sym (words_step c p k i lt)) in
        let run : sets ws' (event_words * (i + 1)) (emsg_words c (k - (i + 1)) q) ≡ sets ws (event_words * i) (box_words c b ++ emsg_words c (k - (i + 1)) q) =
        rw (n, ew) (sym (sets-append (box_words c b) (emsg_words c (k - (i + 1)) q) ws (event_words * i))) in
        record {
          within = rw (eq, eb) (emsg-inside c p h.within).within;
          high = omega arith;
          ok = rw (eq, eb) (right _ _ (sym (emsgs-step c p k i lt) ∙ h.ok));
          room = omega (arith, same', h.room);
          same = same' ∙ h.same;
          rest = run ∙ ap (λ (l : List ℕ). sets ws (event_words * i) l) left' ∙ h.rest;
        }

    -- all are
    pub keeping-end : k ≤ i → ws ≡ kept_events c k at ws₀
    unfolding kept_events emsg_words
    keeping-end le =
        let z : k - i ≡ 0 = omega arith in
        let e : ws ≡ sets ws (event_words * i) (emsg_words c (k - i) p) = rw z in
        let room : 0 + length (emsg_words c k at) ≤ length ws₀ = omega (arith, words-length c k at, h.room, h.same) in
        let n : 0 + length (emsg_words c k at) ≡ event_words * k = omega (arith, words-length c k at) in
        e ∙ h.rest ∙ sets-eq (emsg_words c k at) ws₀ 0 room ∙ ap (λ (m : ℕ). emsg_words c k at ++ drop m ws₀) n

-- ---- what kept words say

-- the texts of the event with the number i lie in the chunk, and its strings hold no zero byte
pub record EventIn (c ws : List ℕ) (i : ℕ) : Type 0 where
  pub there : event_words * i + event_words ≤ length ws
  pub scheme : get_or ws (event_words * i) 0 + get_or ws (event_words * i + event_scheme_len) 0 ≤ length c
  pub value : get_or ws (event_words * i + event_value) 0 + get_or ws (event_words * i + event_value_len) 0 ≤ length c
  pub message : get_or ws (event_words * i + event_message) 0 + get_or ws (event_words * i + event_message_len) 0 ≤ length c
  pub scheme-text : no_zero (part c (get_or ws (event_words * i) 0) (get_or ws (event_words * i + event_scheme_len) 0)) ≡ true
  pub value-text : no_zero (part c (get_or ws (event_words * i + event_value) 0) (get_or ws (event_words * i + event_value_len) 0)) ≡ true

-- the words at the front of a list are those of a box in the chunk that is as it must be
pub record Leads (c l : List ℕ) : Type 0 where
  pub b : Part
  pub rest : List ℕ
  pub inside : Inside c b
  pub ok : emsg_ok c b ≡ true
  pub words : l ≡ box_words c b ++ rest

pub leads : (c : List ℕ) (k at i : ℕ) (rest : List ℕ) → at ≤ length c → emsgs_ok c k at ≡ true → i < k
    → Leads c (drop (event_words * i) (emsg_words c k at ++ rest))
unfolding emsg_words emsgs_ok
leads c zero at i rest h e lt = absurd (not-suc-le-zero lt)
leads c (suc k) at zero rest h e lt =
    record {
      b = emsg_at c at;
      rest = emsg_words c k (end_of (emsg_at c at)) ++ rest;
      inside = emsg-inside c at h;
      ok = left _ _ e;
      words = append_assoc (box_words c (emsg_at c at)) _ rest;
    }
leads c (suc k) at (suc i) rest h e lt =
    let b : Part = emsg_at c at in
    let w : List ℕ = emsg_words c k (end_of b) ++ rest in
    let n : event_words * suc i ≡ event_words + event_words * i = omega arith in
    let past : drop (event_words * i) w ≡ drop (event_words * suc i) (box_words c b ++ emsg_words c k (end_of b) ++ rest) =
    sym
    (ap (drop (event_words * suc i)) (append_assoc (box_words c b) (emsg_words c k (end_of b)) rest)
    ∙ ap (λ (m : ℕ). drop m (box_words c b ++ w)) n
    ∙ sym (drop-drop (event_words * i) event_words (box_words c b ++ w))
    ∙ ap (drop (event_words * i)) (drop_at (box_words c b) w event_words (event-length c b))) in
    subst (Leads c) past (leads c k (end_of b) i rest (emsg-inside c at h).within (right _ _ e) (omega arith))

word_at : (ws l : List ℕ) (n j : ℕ) → drop n ws ≡ l → get_or ws (n + j) 0 ≡ get_or l j 0
word_at ws l n j e = sym (get_or-drop n ws j 0) ∙ ap (λ (m : List ℕ). get_or m j 0) e

scheme-text : (c : List ℕ) (b : Part) → Inside c b → Strings c b → no_zero (part c (scheme_at b) (scheme_end c b - scheme_at b)) ≡ true
unfolding scheme_end
scheme-text c b n s = zero-text c (b.at + 32) (end_of b) (omega (arith, s.long)) n.within

value-text : (c : List ℕ) (b : Part) → Inside c b → Strings c b → no_zero (part c (scheme_end c b + 1) (value_end c b - (scheme_end c b + 1))) ≡ true
unfolding value_end
value-text c b n s = zero-text c (scheme_end c b + 1) (end_of b) (omega (arith, s.scheme-to)) n.within

pub event-in : (c : List ℕ) (k at : ℕ) (ws : List ℕ) → at ≤ length c → emsgs_ok c k at ≡ true → event_words * k ≤ length ws
    → (i : ℕ) → i < k → EventIn c (kept_events c k at ws) i
unfolding kept_events box_words
event-in c k at ws h e r i lt =
    let l = leads c k at i (drop (event_words * k) ws) h e lt in
    let all : List ℕ = emsg_words c k at ++ drop (event_words * k) ws in
    let b : Part = l.b in
    let s = strings c b l.ok in
    let w0 : get_or all (event_words * i) 0 ≡ scheme_at b = ap (λ (n : ℕ). get_or all n 0) (sym (add-zero (event_words * i))) ∙ word_at all _ (event_words * i) 0 l.words in
    let w1 : get_or all (event_words * i + event_scheme_len) 0 ≡ scheme_end c b - scheme_at b = word_at all _ (event_words * i) event_scheme_len l.words in
    let w2 : get_or all (event_words * i + event_value) 0 ≡ scheme_end c b + 1 = word_at all _ (event_words * i) event_value l.words in
    let w3 : get_or all (event_words * i + event_value_len) 0 ≡ value_end c b - (scheme_end c b + 1) = word_at all _ (event_words * i) event_value_len l.words in
    let w8 : get_or all (event_words * i + event_message) 0 ≡ value_end c b + 1 = word_at all _ (event_words * i) event_message l.words in
    let w9 : get_or all (event_words * i + event_message_len) 0 ≡ end_of b - (value_end c b + 1) = word_at all _ (event_words * i) event_message_len l.words in
    let n : end_of b ≤ length c = l.inside.within in
    record {
      there = omega (arith, length-append (emsg_words c k at) (drop (event_words * k) ws), words-length c k at, length-drop (event_words * k) ws);
      scheme = omega (arith, w0, w1, s.scheme-from, s.scheme-to);
      value = omega (arith, w2, w3, s.value-from, s.value-to);
      message = omega (arith, w8, w9, s.value-to);
      scheme-text = ap₂ (λ (x y : ℕ). no_zero (part c x y)) w0 w1 ∙ scheme-text c b l.inside s;
      value-text = ap₂ (λ (x y : ℕ). no_zero (part c x y)) w2 w3 ∙ value-text c b l.inside s;
    }

-- its numbers are those of their box fields
pub record EventNumbers (ws : List ℕ) (i : ℕ) : Type 0 where
  pub timescale : get_or ws (event_words * i + event_timescale) 0 < 2 ^ 32
  pub time : get_or ws (event_words * i + event_time) 0 < 2 ^ 64
  pub duration : get_or ws (event_words * i + event_duration) 0 < 2 ^ 32
  pub id : get_or ws (event_words * i + event_id) 0 < 2 ^ 32

pub event-numbers : (c : List ℕ) (k at : ℕ) (ws : List ℕ) → Bytes c → at ≤ length c → emsgs_ok c k at ≡ true
    → (i : ℕ) → i < k → EventNumbers (kept_events c k at ws) i
unfolding kept_events box_words
event-numbers c k at ws y h e i lt =
    let l = leads c k at i (drop (event_words * k) ws) h e lt in
    let all : List ℕ = emsg_words c k at ++ drop (event_words * k) ws in
    let b : Part = l.b in
    let s = strings c b l.ok in
    let n : end_of b ≤ length c = l.inside.within in
    let w4 : get_or all (event_words * i + event_timescale) 0 ≡ u32 c (b.at + 12) = word_at all _ (event_words * i) event_timescale l.words in
    let w5 : get_or all (event_words * i + event_time) 0 ≡ u64 c (b.at + 16) = word_at all _ (event_words * i) event_time l.words in
    let w6 : get_or all (event_words * i + event_duration) 0 ≡ u32 c (b.at + 24) = word_at all _ (event_words * i) event_duration l.words in
    let w7 : get_or all (event_words * i + event_id) 0 ≡ u32 c (b.at + 28) = word_at all _ (event_words * i) event_id l.words in
    record {
      timescale = rw w4 (number_lt c 4 (b.at + 12) y (omega (arith, s.long)));
      time = rw w5 (number_lt c 8 (b.at + 16) y (omega (arith, s.long)));
      duration = rw w6 (number_lt c 4 (b.at + 24) y (omega (arith, s.long)));
      id = rw w7 (number_lt c 4 (b.at + 28) y (omega (arith, s.long)));
    }

-- where its texts are short it can be written again
pub event-fits : (c ws : List ℕ) (i : ℕ) → EventIn c ws i
    → get_or ws (event_words * i + event_scheme_len) 0 ≤ block_most → get_or ws (event_words * i + event_value_len) 0 ≤ block_most → get_or ws (event_words * i + event_message_len) 0 ≤ block_most → EventFits c ws i
event-fits c ws i h x y z =
    record {
      there = h.there;
      scheme = record { within = h.scheme; short = x };
      value = record { within = h.value; short = y };
      message = record { within = h.message; short = z };
    }
