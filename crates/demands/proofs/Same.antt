-- Encoding goes by what a chunk says: two chunks that no rule refuses, and that say the same but for brands that a delta doesn't carry, become the same object. Assumes nothing.
use Prim.Native.Nat.{ℕ}
use mathlib.Core.Path.{◌≡◌, refl, sym, ◌∙◌, ap, ap₂}
use mathlib.Core.Bool.{Bool, true, false}
use mathlib.Core.List.{List, ◌++◌}
use Rattle.laws.specs.Ladder.{Rung, ladder, Hold}
use Rattle.laws.proofs.LadderLaws.{ladder-append, ladder-seen, climbed}
use Rattle.slots.specs.declared.lawful.Side.TheVariants.{Encoder}
use Rattle.slots.specs.Share.{track_of}
use Rattle.slots.specs.Table.{Out}
use Rattle.slots.specs.Calls.{opened_rungs}
use Rattle.answers.specs.Took.{Took, refused}
use Rattle.cmaf_read_chunk.specs.Accepted.{bmdt, prft, brands, boxes, events, payload, fields, accept_rungs}
use Rattle.locmaf_write_tuples.specs.Items.{items_if}
use Rattle.encoder.specs.Object.{brand_items, leaves_out, block_items, may_delta, gives_delta, fits_ok, object_of, front}
use Rattle.encoder.specs.Encode.{refusing, last_rungs, chunk_rungs, encode_rungs, done, encoding}
use Rattle.cmaf_read_facts.specs.Given.{F}

module _ (wish : Bool) (c c' s room : List ℕ) (set : fields (track_of s) c ≡ fields (track_of s) c') (time : prft c ≡ prft c') (list : boxes c ≡ boxes c')
    (rest : payload c ≡ payload c') (start : bmdt c ≡ bmdt c') (names : gives_delta F s c wish ≡ false → brands c ≡ brands c') where
  events-same : events (track_of s) c ≡ events (track_of s) c'
  unfolding events
  events-same = rw (start, list)

  delta-same : block_items F s c true ≡ block_items F s c' true
  unfolding block_items leaves_out brand_items items_if
  delta-same = rw (set, time, events-same, rest)

  full-same : brands c ≡ brands c' → block_items F s c false ≡ block_items F s c' false
  unfolding block_items leaves_out
  full-same e = rw (set, time, events-same, e)

  gives_same : gives_delta F s c wish ≡ gives_delta F s c' wish
  unfolding gives_delta may_delta
  gives_same = rw (time, delta-same)

  front_same : front F s c wish ≡ front F s c' wish
  unfolding front object_of
  front_same = by (gives_delta F s c wish) refl
    where
      by : (b : Bool) → gives_delta F s c wish ≡ b → object_of F s c (gives_delta F s c wish) ≡ object_of F s c' (gives_delta F s c' wish)
      by true e = rw (← gives_same, e, delta-same)
      by false e = rw (← gives_same, e, full-same (names e))

  fits-same : fits_ok F s c wish ≡ fits_ok F s c' wish
  unfolding fits_ok
  fits-same = by (gives_delta F s c wish) refl
    where
      by : (b : Bool) → gives_delta F s c wish ≡ b → fits_ok F s c wish ≡ fits_ok F s c' wish
      by true e = rw (← gives_same, e, start)
      by false e = rw (← gives_same, e, start, full-same (names e))

  last-same : last_rungs F wish c room s ≡ last_rungs F wish c' room s
  unfolding last_rungs
  last-same = rw (fits-same, front_same)

  done-same : (done F wish c room s).answer ≡ (done F wish c' room s).answer
  done-same = rw (front_same, rest)

  -- the answer from the rungs on that come after those of the chunk
  late : List ℕ → Took
  late d = ladder (last_rungs F wish d room s) (λ k. refused room k) (done F wish d room s).answer

  answer-is : (d : List ℕ) → Hold (accept_rungs F (track_of s) d) → (encoding F wish d room s).answer ≡ ladder (opened_rungs Encoder s) (λ k. refused room k) (late d)
  unfolding encoding encode_rungs chunk_rungs late
  answer-is d h =
      ladder-seen (λ (a : Out Took). a.answer) (opened_rungs Encoder s ++ (accept_rungs F (track_of s) d ++ last_rungs F wish d room s)) (refusing room s) (done F wish d room s)
      ∙ ladder-append (opened_rungs Encoder s) (accept_rungs F (track_of s) d ++ last_rungs F wish d room s) (λ k. refused room k) (done F wish d room s).answer
      ∙ ap (ladder (opened_rungs Encoder s) (λ k. refused room k))
      (ladder-append (accept_rungs F (track_of s) d) (last_rungs F wish d room s) (λ k. refused room k) (done F wish d room s).answer
      ∙ climbed (λ k. refused room k) (ladder (last_rungs F wish d room s) (λ k. refused room k) (done F wish d room s).answer) (accept_rungs F (track_of s) d) h)

  pub same_object : Hold (accept_rungs F (track_of s) c) → Hold (accept_rungs F (track_of s) c') → (encoding F wish c room s).answer ≡ (encoding F wish c' room s).answer
  unfolding late
  same_object h h' =
      answer-is c h
      ∙ ap₂ (λ (rs : List Rung) (a : Took). ladder (opened_rungs Encoder s) (λ k. refused room k) (ladder rs (λ k. refused room k) a)) last-same done-same
      ∙ sym (answer-is c' h')
