-- No false codec meets demand 2, even from fresh tables alone: not one that is false from the first object on, nor one that is so from a group's second object on, nor
-- one whose receiver alone is. Assumes nothing.
use Prim.Native.Nat.{ℕ, suc, ◌+◌}
use native.Mathlib.Omega.{arith}
use mathlib.Core.Path.{◌≡◌, refl, sym, ◌∙◌, ap, subst}
use mathlib.Core.Bool.{Bool, true, false, cond}
use mathlib.Core.List.{List, [], ◌∷◌, ◌++◌}
use lib.ListN.{length, get_or, length-append}
use Rattle.laws.specs.Tests.{all_le}
use Rattle.laws.proofs.ListLaws.{fronts-same}
use Rattle.share_words.specs.Share.{held_at}
use Rattle.slots.specs.Share.{track_of}
use Rattle.slots.specs.Table.{Out}
use Rattle.answers.specs.Took.{Took}
use Rattle.cmaf_read_chunk.specs.Accepted.{payload}
use Rattle.encoder.specs.Object.{front}
use Rattle.receiver.specs.Receive.{chunk, receiving}
use Rattle.receiver.proofs.AlikeTheorems.{done-is}
use Rattle.meaning.specs.Meaning.{Meaning, meaning_of, unbranded}
use Rattle.cmaf_read_facts.specs.Given.{F}
use Rattle.demands.specs.Codec.{Codec, gave}
use Rattle.demands.specs.Two.{Send, is_delta, object, Becomes, sent, got, RoundTrip, DemandTwoFresh}
use Rattle.demands.proofs.Encoded as Ours
use Rattle.false_codecs.specs.Example.{example}
use Rattle.false_codecs.specs.False.{refuses_all, fixed_object, does_nothing, repeats_first, with_length, invents_length, later, hears}
use Rattle.false_codecs.proofs.Computed.{Computed, early, late}
use Rattle.false_codecs.proofs.Group.{one, five, call, head, s₀, first, first-sends, first-becomes, s₁, s₁', after, held, second-sends, next, next-done, held'}

abbrev pub Fails : Codec → Type 0
Fails C = DemandTwoFresh C → ⊥

-- a codec that is false from a group's second object on is, there, that false one
later-becomes : (X : Codec) (m : DemandTwoFresh (later X)) (x : ℕ) → all_le 255 (x ∷ []) ≡ true
    → Becomes (next (later X) m x) (s₁ (later X) m) (sent X (next (later X) m x) (s₁ (later X) m))
later-becomes X m x low =
    let p : Send = next (later X) m x in
    let is : sent (later X) p (s₁ (later X) m) ≡ sent X p (s₁ (later X) m) = rw (held (later X) m) in
    subst (λ (a : Out Took). Becomes p (s₁ (later X) m) a) is (next-done (later X) m x low).1

-- ---- one that refuses everything

pub refuses-all-fails : (k : ℕ) → Fails (refuses_all k)
refuses-all-fails k m = let e : suc k ≡ 0 = (first-becomes (refuses_all k) m 1 one).done in omega (arith, e)

pub refuses-later-fails : (k : ℕ) → Fails (later (refuses_all k))
refuses-later-fails k m = let e : suc k ≡ 0 = (later-becomes (refuses_all k) m 1 one).done in omega (arith, e)

-- ---- one that returns one fixed object

-- ends of the same length
ends : (xs ys ps qs : List ℕ) → xs ++ ps ≡ ys ++ qs → length ps ≡ length qs → ps ≡ qs
ends xs ys ps qs e l =
    let n : length xs ≡ length ys = omega (arith, ap length e, length-append xs ps, length-append ys qs, l) in
    (fronts-same xs ys ps qs e n).1

-- no object is that of two payloads
two-objects : {y time : ℕ} → Computed y time → (s : List ℕ) → object (call y 1 s) s ≡ object (call y 5 s) s → ⊥
two-objects {y} q s e =
    let a = q.payload-is 1 in
    let b = q.payload-is 5 in
    let same : payload (example y 1) ≡ payload (example y 5) =
    ends (front F s (example y 1) true) (front F s (example y 5) true) (payload (example y 1)) (payload (example y 5)) e (ap length a ∙ sym (ap length b)) in
    let z : ◌≡◌ {A = ℕ} 1 5 = ap (λ (l : List ℕ). get_or l 0 0) (sym a ∙ same ∙ b) in
    omega (arith, z)

pub fixed-object-fails : (x : Took) → Fails (fixed_object x)
fixed-object-fails x m = two-objects early s₀ (sym (first-becomes (fixed_object x) m 1 one).gives ∙ (first-becomes (fixed_object x) m 5 five).gives)

pub fixed-later-fails : (x : Took) → Fails (later (fixed_object x))
fixed-later-fails x m =
    two-objects late (s₁ (later (fixed_object x)) m) (sym (later-becomes (fixed_object x) m 1 one).gives ∙ (later-becomes (fixed_object x) m 5 five).gives)

-- ---- one that does nothing

some-payload : {y time : ℕ} → Computed y time → [] ≡ payload (example y 1) → ⊥
some-payload q e = let z : ◌≡◌ {A = ℕ} 0 4 = ap length (e ∙ q.payload-is 1) in omega (arith, z)

pub does-nothing-fails : Fails does_nothing
does-nothing-fails m = some-payload early (first-becomes does_nothing m 1 one).part

pub nothing-later-fails : Fails (later does_nothing)
nothing-later-fails m = some-payload late (later-becomes does_nothing m 1 one).part

-- ---- one that reports an invented length

module _ (f : ℕ → ℕ) (wrong : (n : ℕ) → f n ≡ n → ⊥) where
  pub invents-length-fails : Fails (invents_length f)
  invents-length-fails m = wrong _ ((first-becomes (invents_length f) m 1 one).long ∙ sym (Ours.becomes (first 1) s₀ (first-sends 1)).long)

  pub invents-later-fails : Fails (later (invents_length f))
  invents-later-fails m =
      let C : Codec = later (invents_length f) in
      wrong _ ((later-becomes (invents_length f) m 1 one).long ∙ sym (Ours.becomes (next C m 1) (s₁ C m) (second-sends C m late 1)).long)

-- ---- one that decodes the group's first object and repeats it

-- a chunk keeps its time when it is carried
carried-time : (p : Send) (s s' room : List ℕ) (C : Codec) → RoundTrip C p s s' room
    → (meaning_of (track_of s) (gave (got C p s s' room).answer)).bmdt ≡ (meaning_of (track_of s) p.chunk).bmdt
unfolding unbranded
carried-time p s s' room C r = ap (λ (w : Meaning). w.bmdt) r.meaning ∙ by (is_delta p s) (meaning_of (track_of s) p.chunk)
  where
    by : (d : Bool) (w : Meaning) → (cond d (unbranded w) w).bmdt ≡ w.bmdt
    by true w = refl
    by false w = refl

-- a receiver that, where a reference is held, hands out the same whatever the object is
abbrev pub Deaf : Codec → Type 0
Deaf C = (o o' room s : List ℕ) → get_or s held_at 0 ≡ 1 → (C.receive o room s).answer ≡ (C.receive o' room s).answer

-- at the second object: the example at 96,000 once more, or that at 97,024, with room for either
pub deaf-fails : (C : Codec) → Deaf C → Fails C
deaf-fails C deaf m =
    let s : List ℕ = s₁ C m in
    let s' : List ℕ = s₁' C m in
    let p : Send = call 0x77 1 s in
    let q : Send = call 0x7b 1 s in
    let room : List ℕ = head 0x77 1 s s' ++ head 0x7b 1 s s' in
    let long : length room ≡ length (head 0x77 1 s s') + length (head 0x7b 1 s s') = length-append (head 0x77 1 s s') (head 0x7b 1 s s') in
    let a : RoundTrip C p s s' room = (after C m p room (early.bytes 1 one) (second-sends C m early 1) (omega (arith, long))).2 in
    let b : RoundTrip C q s s' room = (after C m q room (late.bytes 1 one) (second-sends C m late 1) (omega (arith, long))).2 in
    let same : (got C p s s' room).answer ≡ (got C q s s' room).answer = deaf (gave (sent C p s).answer) (gave (sent C q s).answer) room s' (held' C m) in
    let z : ◌≡◌ {A = ℕ} 96000 97024 =
    sym (early.time-is (track_of s) 1)
    ∙ sym (carried-time p s s' room C a)
    ∙ ap (λ (x : Took). (meaning_of (track_of s) (gave x)).bmdt) same
    ∙ carried-time q s s' room C b
    ∙ late.time-is (track_of s) 1 in
    omega (arith, z)

-- whatever the group's first object is
pub repeats-first-fails : (begun : List ℕ) → Fails (repeats_first begun)
repeats-first-fails begun = deaf-fails (repeats_first begun) (λ o o' room s held. rw held)

-- ---- with a right encoder, and from the second object on

pub refuses-hears-fails : (k : ℕ) → Fails (hears (later (refuses_all k)))
refuses-hears-fails k = deaf-fails (hears (later (refuses_all k))) (λ o o' room s held. rw held)

pub nothing-hears-fails : Fails (hears (later does_nothing))
nothing-hears-fails = deaf-fails (hears (later does_nothing)) (λ o o' room s held. rw held)

pub fixed-hears-fails : (x : Took) → Fails (hears (later (fixed_object x)))
fixed-hears-fails x = deaf-fails (hears (later (fixed_object x))) (λ o o' room s held. rw held)

pub invents-hears-fails : (f : ℕ → ℕ) → ((n : ℕ) → f n ≡ n → ⊥) → Fails (hears (later (invents_length f)))
invents-hears-fails f wrong m =
    let C : Codec = hears (later (invents_length f)) in
    let p : Send = next C m 1 in
    let s : List ℕ = s₁ C m in
    let s' : List ℕ = s₁' C m in
    let o : List ℕ = gave (sent C p s).answer in
    let room : List ℕ = head 0x7b 1 s s' in
    let d = next-done C m 1 one in
    let is : got C p s s' room ≡ with_length f (receiving F o room s') = rw (held' C m) in
    let zero : (receiving F o room s').answer.number ≡ 0 = sym (ap (λ (a : Out Took). a.answer.number) is) ∙ d.2.done in
    wrong _
    (sym (ap (λ (a : Out Took). a.answer.front) is)
    ∙ d.2.long
    ∙ ap (λ (l : List ℕ). length (chunk F l s')) (sym d.1.gives)
    ∙ sym (ap (λ (a : Out Took). a.answer.front) (done-is F o room s' zero)))
