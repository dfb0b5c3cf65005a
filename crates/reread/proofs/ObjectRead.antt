-- The encoder's object, read by the receiver: no rule refuses it, and what is read is what the chunk said. Assumes nothing.
use Prim.Native.Nat.{ℕ, ◌+◌, ◌-◌, ◌*◌, ◌≤◌}
use native.Mathlib.Omega.{arith}
use mathlib.Core.Path.{◌≡◌, refl, sym, ◌∙◌, ap}
use mathlib.Core.Bool.{Bool, true, false, false≢true, not, cond, ◌&&◌}
use mathlib.Core.List.{List, [], ◌++◌}
use borrow.Author.Tests.{le-leb, not-true, not-false}
use borrow.Table.Steps.{cases}
use lib.Dec.{eqb}
use lib.ListN.{length, get_or, drop, replicate, length-map, length-replicate}
use lib.Seq.{sets}
use Rattle.constants.specs.Maxima.{events_most, event_bytes_most, brand_bytes_most, samples_most}
use Rattle.laws.specs.Tests.{all_le}
use Rattle.laws.specs.Ladder.{Hold}
use Rattle.laws.specs.Options.{is_some}
use Rattle.laws.proofs.LadderLaws.{hold-append}
use Rattle.laws.proofs.TestLaws.{both, neither, unless, and_left, and_right}
use Rattle.track.specs.declared.Track.{Track}
use Rattle.field_table.specs.Lines.{lines, spare, line_for, ivs_line, ivs_at, subsamples_at}
use Rattle.field_set.specs.Lawful.{has, count_in}
use Rattle.field_set.proofs.LawfulLaws.{lawful-facts}
use Rattle.effective.specs.Sums.{sizes_ok, protected_ok}
use Rattle.iv_counter.specs.Counter.{counters}
use Rattle.counters.specs.Follow.{iv_words, ivs_follow, derived, derived_fit}
use Rattle.counters.proofs.IvsLaws.{ivs-in}
use Rattle.counters.proofs.BesideLaws.{beside-has, beside-derived, beside-sizes, beside-protected}
use Rattle.counters.proofs.BackLaws.{follow-fit, follow-back}
use Rattle.share_words.specs.Share.{held_at, prft_at, last_at, set_at}
use Rattle.slots.specs.Share.{track_of}
use Rattle.slots.proofs.ShareParts.{same-track, same_kept, same_set}
use Rattle.field_rules.specs.Fields.{numbers, stood}
use Rattle.locmaf_read_said.specs.Deletions.{moof_field}
use Rattle.locmaf_read_set.specs.Read.{set_rungs}
use Rattle.locmaf_read_times.specs.declared.prft.Told.{Told as ToldPrft}
use Rattle.receiver.specs.Object.{is_delta, reads, saying}
use Rattle.receiver.specs.Receive.{held_ok, told_set, left_out, ivs_fit, new_set, values_ok, sums_ok, ids_right, split_rungs, value_rungs, judge_rungs}
use Rattle.receiver.specs.Receive as Receive
use Rattle.locmaf_write_events.specs.Records.{sent, list_bytes}
use Rattle.locmaf_write_block.specs.declared.cells.Change.TheVariants.{Omitted, Deleted, Sent}
use Rattle.locmaf_write_block.specs.Changes.{change_of}
use Rattle.cmaf_read_chunk.specs.Accepted.{bmdt, prft, brands, boxes, events, payload, fields}
use Rattle.encoder.specs.Object.{leaves_out, object_of}
use Rattle.cmaf_read_chunk.proofs.ChunkFacts.{fields-bmdt}
use Rattle.cmaf_read_facts.specs.Given.{F}
use Rattle.reread.specs.Sayings.{numbers_by, sent_numbers, line_says}
use Rattle.reread.specs.Block.{block_says}
use Rattle.reread.specs.Read.{Alike, ReadAs, ObjectReads}
use Rattle.reread.proofs.BlockSaid.{line-said, bmdt-back, brands-back, set-said}
use Rattle.reread.proofs.BlockTells.{tell-block}
use Rattle.reread.proofs.ObjectParts.{kind-is, heads-hold, tuples-are, entries-are, said, payload-is}
use Rattle.reread.proofs.ToldSet.{Told, told-all, told-left, has-nine}
use Rattle.reread.proofs.SetRead.{set_back, set_holds}
use Rattle.reread.proofs.PrftRead.{prft-back, ids-back}
use Rattle.reread.proofs.EventsRead.{listed_back, listed-bytes, boxes-back, all-fit}
use Rattle.reread.proofs.Known.{Known, known}

module _ {s c : List ℕ} {delta : Bool} (k : Known s c delta) where
  abbrev t : Track
  t = track_of s

  abbrev o : List ℕ
  o = object_of F s c delta ++ payload c

  -- ---- on the receiver's share, which has the same words from the mark of the reference on

  module _ (s' : List ℕ) (alike : Alike s s') where
    word : (i : ℕ) → get_or s' (held_at + i) 0 ≡ get_or s (held_at + i) 0
    word = same_kept s' s (sym alike.reference)

    track-is : track_of s' ≡ t
    track-is = sym (same-track s s' alike.parameters)

    reference-is : drop set_at s' ≡ drop set_at s
    reference-is = same_set s' s (sym alike.reference)

    held : held_ok F o s' ≡ true
    unfolding held_ok
    held =
        rw (kind-is k, word 0)
        (unless _ (λ e. let n = neither _ _ e in false≢true (sym n.1 ∙ ap not (k.held (not-false _ n.0)))))

    -- ---- what is read

    bmdt-is : Receive.bmdt F o s' ≡ bmdt c
    unfolding Receive.bmdt
    bmdt-is = rw (said k, track-is, reference-is) (bmdt-back k ∙ fields-bmdt t c)

    -- ---- the set: as it is told, and with the IVs that were left out

    abbrev x : List ℕ
    x = fields t c

    abbrev n : ℕ
    n = length (payload c)

    last-is : get_or s' last_at 0 ≡ get_or s last_at 0
    last-is = word (last_at - held_at)

    -- what is said of the IVs
    nine : saying F o 9 ≡ line_says t delta (leaves_out F s c delta) (drop set_at s) x (get_or lines ivs_line spare)
    unfolding lines
    nine = rw (said k) (line-said k ivs_line (omega arith))

    -- the set is told as some other is; then no rule on it refuses
    module _ {y : List ℕ} (w : Told t delta (leaves_out F s c delta) (drop set_at s) x y) where
      told_is : told_set F o s' ≡ y
      unfolding told_set
      told_is = rw (bmdt-is, said k, track-is, reference-is, kind-is k, ← fields-bmdt t c, ← w.start) (set_back k.sets (set-said k) w)

      told-holds : Hold (set_rungs (track_of s') (is_delta F o) (drop set_at s') (saying F o))
      told-holds = rw (track-is, reference-is, kind-is k, said k) (set_holds k.sets (set-said k) w)

    -- what is read of the set: no rule refuses it, its sums are right, no IV passes its size, and it is the chunk's
    record SetIs : Type 0 where
      holds : Hold (set_rungs (track_of s') (is_delta F o) (drop set_at s') (saying F o))
      sums : sums_ok F o s' ≡ true
      fit : ivs_fit F o s' ≡ true
      same : new_set F o s' ≡ x

    sums-right : (y : List ℕ) → told_set F o s' ≡ y → sizes_ok t y n ≡ sizes_ok t x n → protected_ok t y n ≡ protected_ok t x n → sums_ok F o s' ≡ true
    unfolding sums_ok
    sums-right y q a b = rw (track-is, q, payload-is k) (both _ _ (a ∙ k.given.set.sizes) (b ∙ k.given.set.protected))

    -- all IVs are sent
    sent-left : leaves_out F s c delta ≡ false → told_set F o s' ≡ x → left_out F o s' ≡ false
    unfolding left_out line_says change_of has lines line_for
    sent-left e q = rw (kind-is k, nine, reference-is, q, e) (by delta (eqb (get_or x ivs_at 0) 0) (stood delta (drop set_at s) (get_or lines ivs_line spare)) (has 9 (drop set_at s)) (sent_numbers t delta (drop set_at s) x (get_or lines ivs_line spare)))
      where
        by : (d a o h : Bool) (zs : List ℕ) → (d && (not (is_some (numbers_by (cond (not a) (cond (o && false) Omitted Sent) (cond o Deleted Omitted)) zs)) && (h && not a))) ≡ false
        by false a o h zs = refl
        by true false true h zs = refl
        by true false false h zs = refl
        by true true true true zs = refl
        by true true true false zs = refl
        by true true false true zs = refl
        by true true false false zs = refl

    sent-set : leaves_out F s c delta ≡ false → SetIs
    unfolding ivs_fit new_set
    sent-set e =
        let w = told-all t delta (leaves_out F s c delta) (drop set_at s) x k.sets.new-words k.sets.new e in
        let q = told_is w in
        let l = sent-left e q in
        record { holds = told-holds w; sums = sums-right x q refl refl; fit = rw l; same = rw l q }

    -- they are left out
    module _ (e : leaves_out F s c delta ≡ true) where
      is-delta : delta ≡ true
      unfolding leaves_out
      is-delta = and_left delta _ e

      follows : ivs_follow t (get_or s last_at 0) (drop set_at s) x n ≡ true
      unfolding leaves_out
      follows = and_right delta _ e

      old-has : has 9 (drop set_at s) ≡ true
      unfolding ivs_follow
      old-has = and_left (has 9 (drop set_at s)) _ follows

      new-has : has 9 x ≡ true
      unfolding ivs_follow
      new-has = and_left (has 9 x) _ (and_right (has 9 (drop set_at s)) _ follows)

      abbrev zeros : List ℕ
      zeros = replicate (count_in x * iv_words t) 0

      abbrev y : List ℕ
      y = sets x (ivs_at + 1) zeros

      w : Told t delta (leaves_out F s c delta) (drop set_at s) x y
      w = rw (is-delta, rw is-delta at e) (told-left t (drop set_at s) x k.sets.new-words k.sets.new k.sets.iv old-has new-has)

      much : length zeros ≡ count_in x * iv_words t
      much = length-replicate (count_in x * iv_words t) 0

      room : ivs_at + 1 + length zeros ≤ subsamples_at
      room = omega (arith, much, (ivs-in t x k.sets.new new-has).room)

      left : left_out F o s' ≡ true
      unfolding left_out line_says change_of lines
      left =
          let mark : eqb (get_or x ivs_at 0) 0 ≡ false = not-true _ (sym (has-nine x) ∙ new-has) in
          let old : eqb (get_or (drop set_at s) ivs_at 0) 0 ≡ false = not-true _ (sym (has-nine (drop set_at s)) ∙ old-has) in
          let here : has 9 y ≡ true = beside-has x zeros room 9 ∙ new-has in
          rw (kind-is k, nine, reference-is, told_is w, e, is-delta, mark, old, old-has, here)

      -- what fits goes by the counters alone
      fit_same : derived t (get_or s last_at 0) (drop set_at s) y n ≡ derived t (get_or s last_at 0) (drop set_at s) x n
          → derived_fit t (get_or s last_at 0) (drop set_at s) y n ≡ derived_fit t (get_or s last_at 0) (drop set_at s) x n
      unfolding derived_fit
      fit_same q = ap (all_le (counters (iv_words t) - 1)) q

      left-set : SetIs
      unfolding ivs_fit new_set
      left-set =
          let long = k.sets.new-words in
          let good = k.sets.new in
          let few : count_in x ≤ samples_most = (lawful-facts t x good).count in
          let q = told_is w in
          let d : derived_fit t (get_or s last_at 0) (drop set_at s) y n ≡ true =
          fit_same (beside-derived x zeros room few t n (get_or s last_at 0) (drop set_at s)) ∙ follow-fit t (get_or s last_at 0) (drop set_at s) x n long good k.iv follows in
          record {
            holds = told-holds w;
            sums = sums-right y q (beside-sizes x zeros room few t n) (beside-protected x zeros room few t n);
            fit = rw (left, track-is, last-is, reference-is, q, payload-is k) d;
            same = rw (left, track-is, last-is, reference-is, q, payload-is k) (follow-back t (get_or s last_at 0) (drop set_at s) x n long good k.iv follows zeros much);
          }

    set_is : SetIs
    set_is = cases (leaves_out F s c delta) left-set sent-set

    prft-is : Receive.prft F o s' ≡ record { ok = true; prft = prft c }
    unfolding Receive.prft
    prft-is = rw (kind-is k, said k) (prft-back k s' word)

    events-is : Receive.events F o s' ≡ events t c
    unfolding Receive.events block_says moof_field
    events-is = rw (said k) (listed_back (events t c) k.sayable)

    names-is : Receive.brands F o s' ≡ cond delta [] (brands c)
    names-is = rw (said k) (brands-back k)

    -- ---- no rule refuses it

    split : Hold (split_rungs F o s')
    unfolding split_rungs ids_right reads
    split =
        let tell = tell-block k in
        (rw (tuples-are k) tell.all-readable, (both _ _ (rw (entries-are k) tell.all-lawful) (rw (kind-is k, said k, word (prft_at - held_at)) (ids-back k)), tt))

    list-bytes : length (numbers (saying F o 25)) ≤ event_bytes_most
    unfolding block_says moof_field events
    list-bytes =
        let n = listed-bytes (events t c) k.sayable in
        let q : list_bytes F (events t c) ≤ event_bytes_most = rw (fields-bmdt t c) at k.given.list-short in
        rw (said k) (omega arith)

    values : values_ok F o s' ≡ true
    unfolding values_ok events
    values =
        let few : length (events t c) ≤ events_most = rw (length-map (boxes c) (sent t (bmdt c))) k.given.few in
        both _ _
        (rw (
          bmdt-is,
          le-leb _ _ k.small,
          prft-is,
          payload-is k,
          le-leb _ _ k.given.short,
          names-is,
          le-leb _ _ (names-few delta),
          events-is,
          le-leb _ _ few,
          le-leb _ _ list-bytes,
        ))
        (rw (track-is, bmdt-is, events-is) (all-fit t (bmdt c) (boxes c) k.given.boxed))
      where
        names-few : (d : Bool) → length (cond d [] (brands c)) ≤ brand_bytes_most
        names-few true = omega arith
        names-few false = k.given.names-few

    judged : Hold (judge_rungs F o s')
    unfolding value_rungs
    judged =
        hold-append (split_rungs F o s') _ split
        (hold-append (set_rungs (track_of s') (is_delta F o) (drop set_at s') (saying F o)) _ set_is.holds (values, (set_is.sums, (set_is.fit, tt))))

    read : ReadAs o s s' c delta
    unfolding events
    read =
        record {
          kind = kind-is k;
          heads = heads-hold k;
          held = held;
          judged = judged;
          set = set_is.same;
          time = ap (λ (z : ToldPrft). z.prft) prft-is;
          list = rw (bmdt-is, events-is) (boxes-back t (bmdt c) (boxes c) k.given.boxed);
          names = names-is;
          rest = payload-is k;
        }

-- whatever chunk was encoded
pub object-reads : ObjectReads
object-reads wish c s s' room low l l' ls ls' alike zero = read (known wish c s room low l zero) s' alike
