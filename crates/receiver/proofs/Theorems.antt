-- Receiving an object: its numbers, what a refusal leaves, what the output holds, and that the share keeps its length and stays lawful. Assumes
-- nothing.
use Prim.Native.Nat.{ℕ, ◌-◌, ◌%◌, ◌≤◌, ◌<◌}
use native.Mathlib.Omega.{arith}
use mathlib.Core.Path.{◌≡◌, refl, sym, ◌∙◌, ap, subst}
use mathlib.Core.Bool.{Bool, true, false}
use mathlib.Core.List.{List, [], ◌∷◌, ◌++◌}
use Rattle.std.specs.Prelude.{Some}
use borrow.Author.Tests.{le-leb}
use lib.ListN.{length, drop}
use lib.Seq.{drop-length}
use Rattle.constants.specs.Maxima.{number_most}
use Rattle.laws.specs.Tests.{all_le}
use Rattle.laws.specs.Ladder.{Rung, ◌else◌, ladder, Given}
use Rattle.laws.proofs.LadderLaws.{number_of, given, climbs, ladder-append, ladder-seen, climbs-all}
use Rattle.laws.proofs.SliceLaws.{drop-last}
use Rattle.laws.proofs.TestLaws.{left, right, both}
use Rattle.laws.proofs.WriteLaws.{front-stays}
use Rattle.wire.specs.declared.form.Row.{Row}
use Rattle.wire.specs.declared.form.Form.{Form}
use Rattle.wire.specs.Form.{rows}
use Rattle.wire.proofs.FormLaws.{lawful as form-lawful}
use Rattle.wire.proofs.SizeLaws.{limit-most}
use Rattle.track.specs.Track.{u32}
use Rattle.field_table.specs.Lines.{set_len}
use Rattle.field_set.specs.Lawful.{lawful as lawful_set}
use Rattle.told_sizes.specs.Told.{sizes_agree}
use Rattle.told_sizes.proofs.SumLaws.{lawful-summable}
use Rattle.slots.specs.declared.lawful.Side.TheVariants.{Receiver}
use Rattle.share_words.specs.Share.{share_len, dropped}
use Rattle.slots.specs.Share.{track_of, accepted_ok, prft_ok, set_ok, lawful}
use Rattle.slots.specs.Table.{Out, share_at, table_rungs, on_table}
use Rattle.slots.specs.Calls.{opened_rungs}
use Rattle.slots.specs.Laws.{after, Keeps, Apart}
use Rattle.slots.proofs.StaysLawful.{dropped-lawful, dropped-long}
use Rattle.slots.proofs.Apart.{apart, others-stay}
use Rattle.locmaf_read_set.proofs.NewSetLaws.{taken-facts, new-lawful, new-long as words_long}
use Rattle.locmaf_read_times.proofs.PrftFacts.{prft-lawful}
use Rattle.effective.specs.Sums.{sizes_ok}
use Rattle.effective.proofs.AgreeLaws.{sums_kept}
use Rattle.counters.proofs.LastLaws.{last-kept}
use Rattle.answers.specs.Took.{Took, refused, PastStays}
use Rattle.answers.proofs.TookLaws.{refused-past}
use Rattle.reference.proofs.OpenLaws.{Opened, opened-facts, held-facts, reference-long}
use Rattle.prft_value.specs.Prft.{InRange}
use Rattle.reference.proofs.AcceptedLaws.{accepted-long, accepted-lawful}
use Rattle.receiver.specs.Object.{block_end, is_delta, head_rungs, saying, payload}
use Rattle.answers.specs.Refusals.{dropped_by, after_refusal}
use Rattle.receiver.specs.Receive.{reference, bmdt, prft, told_set, new_set, sums_ok, held_ok, judge_rungs, sequence, chunk, accepted, refusing, done, room_rungs, receive_rungs, receiving}
use Rattle.receiver.specs.Laws.{ReceiveExactly, ReceiveStaysLawful, Refused, ReceiveRefuses, ReceivePast}
use Rattle.receiver.proofs.ShareFacts.{delta-held, iv-most}
use Rattle.receiver.proofs.PassedLaws.{Passed, passed, value-facts}
use Rattle.receiver.proofs.SaidLaws.{raw-bytes, number_small}
use Rattle.receiver.proofs.LeftLaws.{Like, new-long, new-like}
use Rattle.answers.proofs.RefusalLaws.{refusal-drops, refusal-keeps}

-- ---- numbers

-- each number is given exactly when its rule is broken and none before it
pub receive-exactly : ReceiveExactly
unfolding on_table receiving
receive-exactly F o output t slot =
    let rungs : List Rung = receive_rungs F o output (share_at t slot) in
    let is : (on_table (refused output) (receiving F o output) t slot).answer.number ≡ number_of (table_rungs t slot ++ rungs) =
    ladder-seen (λ (a : Out Took). a.answer.number) (table_rungs t slot) _ _
    ∙ ap (ladder (table_rungs t slot) (λ k. k)) (ladder-seen (λ (a : Out Took). a.answer.number) rungs _ _)
    ∙ sym (ladder-append (table_rungs t slot) rungs (λ k. k) 0) in
    subst (λ (k : ℕ). Given k (table_rungs t slot ++ rungs)) (sym is) (given (table_rungs t slot ++ rungs))

-- ---- what a refusal leaves

-- the share after a refusal, by its number
module _ (s : List ℕ) where
  -- what holds of the share, and of the share without its reference
  pub refusal-either : (P : List ℕ → Type 0) (k : ℕ) → P s → P (dropped s) → P (after_refusal k s)
  refusal-either P k a b = go (dropped_by k) refl
    where
      go : (c : Bool) → dropped_by k ≡ c → P (after_refusal k s)
      go true e = subst P (refusal-drops k s e) b
      go false e = subst P (refusal-keeps k s e) a

-- a refusal writes nothing and hands back nothing; 12 to 16 and 21 drop the reference, and any other changes nothing
refusing-refused : (output s : List ℕ) (k : ℕ) → Refused output s (refusing output s k)
refusing-refused output s k =
    record {
      front = refl;
      payload = refl;
      untouched = refl;
      drops = λ e. sym (refusal-drops k s e);
      kept = λ e. sym (refusal-keeps k s e);
    }

pub receive-refuses : ReceiveRefuses
unfolding receiving
receive-refuses F o output s =
    climbs-all P (refusing output s) (receive_rungs F o output s) (done F o output s) (λ k n. refusing-refused output s k) (λ h n. absurd (n refl))
  where
    P : Out Took → Type 0
    P a = (a.answer.number ≡ 0 → ⊥) → Refused output s a

-- ---- the output

pub receive-past : ReceivePast
unfolding receiving
receive-past F o output s =
    climbs-all P (refusing output s) (receive_rungs F o output s) (done F o output s) (refused-past output)
    (λ h.
    let room = (passed F o output s h).room in
    let f = front-stays (chunk F o s) output room in
    record { room = room; long = f.0; past = f.1 })
  where
    P : Out Took → Type 0
    P a = PastStays output a.answer

-- the payload is the last so many bytes of the object
pub receive-last : (F : List Row) (o output s : List ℕ)
    → (receiving F o output s).answer.payload ≡ drop (length o - length (receiving F o output s).answer.payload) o
unfolding receiving payload
receive-last F o output s =
    climbs-all (λ (a : Out Took). a.answer.payload ≡ drop (length o - length a.answer.payload) o) (refusing output s) (receive_rungs F o output s)
    (done F o output s) (λ k. drop-last (length o) o [] (sym (drop-length o))) (λ h. drop-last (block_end F o) o (payload F o) refl)

-- ---- the share's length

-- what an object that broke no rule is read against
module _ (F : List Row) (o output s : List ℕ) (l : length s ≡ share_len) (h : Passed F o output s) where
  opened : Opened Receiver s
  opened = opened-facts Receiver s h.lawful h.opened

  set-good : is_delta F o ≡ true → lawful_set (track_of s) (reference F o s) ≡ true
  set-good d = (held-facts (track_of s) s opened.reference (delta-held F o s h.held d)).1

  prft-good : is_delta F o ≡ true → prft_ok s ≡ true
  prft-good d = (held-facts (track_of s) s opened.reference (delta-held F o s h.held d)).0

  told-long : length (told_set F o s) ≡ set_len
  unfolding told_set
  told-long =
      words_long (track_of s) (is_delta F o) (reference F o s) (saying F o) (reference-long s l) set-good
      (taken-facts (track_of s) (is_delta F o) (reference F o s) (saying F o) h.fields) (iv-most s l h.lawful h.opened) (bmdt F o s)

  done-long : length (accepted F o s) ≡ share_len
  unfolding accepted
  done-long = accepted-long s l (is_delta F o) (sequence F o s) (prft F o s).prft (new_set F o s) (length (payload F o)) (new-long F o s ∙ told-long)

-- a share's length stays, whatever the object's bytes are
pub receive-keeps : (F : List Row) (o output : List ℕ) → Keeps (receiving F o output)
unfolding receiving
receive-keeps F o output =
    record {
      keeps =
          λ s l.
          let P : Out Took → Type 0 = λ a. length a.words ≡ share_len in
          climbs-all P (refusing output s) (receive_rungs F o output s) (done F o output s)
          (λ k. refusal-either s (λ x. length x ≡ share_len) k l (dropped-long s l))
          (λ h. done-long F o output s l (passed F o output s h));
    }

-- no share but the named one is changed
pub receive-others : (F : List Row) (o output : List ℕ) (i j : ℕ) → (i ≡ j → ⊥) → j < 8 → (t : List ℕ)
    → share_at (after (refused output) (receiving F o output) i t) j ≡ share_at t j
receive-others F o output i j d h t = others-stay Took (refused output) (receiving F o output) (receive-keeps F o output) i j d h t

-- objects received on different slots: either order leaves the same table, and each is answered as it would be alone
pub receive-apart : (F : List Row) (o output : List ℕ) (F' : List Row) (o' output' : List ℕ) (i j : ℕ) → (i ≡ j → ⊥) → (t : List ℕ)
    → Apart (refused output) (receiving F o output) (refused output') (receiving F' o' output') i j t
receive-apart F o output F' o' output' i j d t =
    apart Took Took (refused output) (receiving F o output) (refused output') (receiving F' o' output') (receive-keeps F o output)
    (receive-keeps F' o' output') i j d t

-- and beside any other call on another slot
pub receive-beside : (Y : Type 0) (refuse : ℕ → Y) (g : List ℕ → Out Y) → Keeps g → (F : List Row) (o output : List ℕ) (i j : ℕ) → (i ≡ j → ⊥)
    → (t : List ℕ) → Apart (refused output) (receiving F o output) refuse g i j t
receive-beside Y refuse g k F o output i j d t =
    apart Took Y (refused output) (receiving F o output) refuse g (receive-keeps F o output) k i j d t

-- ---- lawful shares

-- the count has 32 bits
count-ok : (F : List Row) (o s : List ℕ) → accepted_ok Receiver (sequence F o s) ≡ true
unfolding sequence
count-ok F o s = le-leb (sequence F o s) u32 (omega arith)

-- a full object's `prft` keeps its ranges
full-ranged : (form : Form) (o s : List ℕ) → all_le 255 o ≡ true → (prft (rows form) o s).ok ≡ true → is_delta (rows form) o ≡ false
    → InRange (prft (rows form) o s).prft
unfolding prft
full-ranged form o s b e d =
    let F : List Row = rows form in
    let small : (id z : ℕ) (zs : List ℕ) → id % 2 ≡ 0 → saying F o id ≡ Some (z ∷ zs) → z ≤ number_most =
    λ id z zs even q. omega (arith, number_small F (form-lawful form) o b id z zs even q, limit-most form) in
    rw d (prft-lawful (saying F o) s small (rw d at e))

done-lawful : (form : Form) (o output s : List ℕ) → all_le 255 o ≡ true → length s ≡ share_len → Passed (rows form) o output s
    → lawful Receiver (accepted (rows form) o s) ≡ true
unfolding accepted told_set set_ok sums_ok
done-lawful form o output s b l h =
    let F : List Row = rows form in
    let v = value-facts F o s h.values in
    let good : lawful_set (track_of s) (told_set F o s) ≡ true =
    new-lawful (track_of s) (is_delta F o) (reference F o s) (saying F o) h.fields (bmdt F o s) v.0 (iv-most s l h.lawful h.opened)
    (reference-long s l) (set-good F o output s l h) (raw-bytes F o b) in
    let new : Like (track_of s) (told_set F o s) (new_set F o s) (length (payload F o)) = new-like F o s (told-long F o output s l h) good in
    let sizes : sizes_ok (track_of s) (new_set F o s) (length (payload F o)) ≡ true = new.sizes ∙ left _ _ h.sums in
    let agree : sizes_agree (track_of s) (new_set F o s) ≡ true =
    sums_kept (track_of s) (new_set F o s) (length (payload F o)) (lawful-summable (track_of s) (new_set F o s) new.long new.good) v.2
    sizes (new.sums ∙ right _ _ h.sums) in
    accepted-lawful s l (is_delta F o) (sequence F o s) (prft F o s).prft (new_set F o s) (length (payload F o)) Receiver h.opened
    (opened F o output s l h) (count-ok F o s) (prft-good F o output s l h) (full-ranged form o s b v.1)
    (last-kept (track_of s) (new_set F o s) new.long new.good (length (payload F o)) v.2 sizes) (both _ _ new.good agree)

pub receive-stays-lawful : ReceiveStaysLawful
unfolding receiving receive_rungs
receive-stays-lawful form o output s b l h =
    let F : List Row = rows form in
    let Fine : List ℕ → Type 0 = λ x. lawful Receiver x ≡ true in
    let P : Out Took → Type 0 = λ a. Fine a.words in
    let refuse = refusing output s in
    let rest : List Rung = head_rungs F o ++ ((held_ok F o s else 11) ∷ (judge_rungs F o s ++ room_rungs F o output s)) in
    let end : Out Took = done F o output s in
    subst P (sym (ladder-append (opened_rungs Receiver s) rest refuse end))
    (climbs P refuse (opened_rungs Receiver s) (ladder rest refuse end)
    (subst Fine (refusal-keeps 18 s refl) h, (subst Fine (refusal-keeps 2 s refl) h, tt))
    (λ q.
    climbs-all P refuse rest end (λ k. refusal-either s Fine k h (dropped-lawful s l Receiver h q.1.0))
    (λ p. done-lawful form o output s b l (passed F o output s (q.0, (q.1.0, p))))))
