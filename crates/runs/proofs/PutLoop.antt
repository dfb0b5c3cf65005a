-- The loop of `put`: what was written, with what is left to write, is the whole run. Assumes nothing.
use Prim.Native.Nat.{ℕ, suc, ◌+◌, ◌≤◌, ◌<◌}
use native.Mathlib.Numerals.{add-one}
use native.Mathlib.Omega.{arith}
use mathlib.Core.Path.{◌≡◌, refl, sym, ◌∙◌, ap}
use mathlib.Core.List.{List, [], ◌++◌, append_assoc, append-nil}
use lib.ListN.{length, get_or, drop, length-append, drop_of_length-le}
use lib.Seq.{drop-cons}
use Rattle.laws.specs.Writes.{Wrote}
use Rattle.laws.proofs.WriteLaws.{wrote_none, wrote-length, wrote_as, then, more}
use Rattle.wire.specs.declared.form.Row.{Row}
use Rattle.wire.specs.declared.zigzag.Coding.{Coding}
use Rattle.std.specs.Prelude.{Some, None}
use Rattle.wire.specs.Varint.{encode}
use Rattle.wire.specs.Zigzag.{code_of}
use Rattle.runs.specs.Run.{run_of}
use Rattle.runs.proofs.OldLaws.{first-drop, rest-drop}
use Rattle.runs.proofs.RunLaws.{run-wide, run-number}

-- i values are written, and the next goes to the place p
pub record Putting (F : List Row) (coding : Coding) (base : ℕ) (old new out₀ : List ℕ) (at : ℕ) (out : List ℕ) (p i : ℕ) : Type 0 where
  pub count : i ≤ length new
  pub room : at + length (run_of F coding base old new) ≤ length out₀
  pub same : length out ≡ length out₀
  pub done : List ℕ
  pub wrote : Wrote out₀ at done out p
  pub whole : done ++ run_of F coding base (drop i old) (drop i new) ≡ run_of F coding base old new

module _ (F : List Row) (coding : Coding) (base : ℕ) (old new out₀ : List ℕ) (at : ℕ) where
  -- none is written
  pub start : at + length (run_of F coding base old new) ≤ length out₀ → Putting F coding base old new out₀ at out₀ at 0
  start r =
      record { count = omega arith; room = r; same = refl; done = []; wrote = wrote_none out₀ at (omega arith); whole = refl }

  module _ (out : List ℕ) (p i : ℕ) (h : Putting F coding base old new out₀ at out p i) where
    -- nothing is left to write
    ended : run_of F coding base (drop i old) (drop i new) ≡ [] → Wrote out₀ at (run_of F coding base old new) out p
    ended e = wrote_as (sym (append-nil h.done) ∙ rw e at h.whole) h.wrote

    -- all are
    pub end : length new ≤ i → Wrote out₀ at (run_of F coding base old new) out p
    unfolding run_of
    end le = ended (rw (drop_of_length-le new le))

    module _ (lt : i < length new) where
      -- a number too wide ends the run
      pub wide : code_of F coding (get_or old i base) (get_or new i 0) ≡ None → Wrote out₀ at (run_of F coding base old new) out p
      wide e =
          ended
          (rw (drop-cons new i 0 lt)
          (run-wide F coding base (drop i old) (drop (suc i) new) (get_or new i 0) (rw (first-drop old i base) e)))

      module _ (z : ℕ) (e : code_of F coding (get_or old i base) (get_or new i 0) ≡ Some z) where
        others : List ℕ
        others = run_of F coding base (drop (i + 1) old) (drop (i + 1) new)

        -- the number goes between what was written and what is left
        with-z : h.done ++ (encode F z ++ others) ≡ run_of F coding base old new
        unfolding others
        with-z =
            let one : run_of F coding base (drop i old) (drop i new) ≡ encode F z ++ others =
            rw (drop-cons new i 0 lt, add-one)
            (run-number F coding base (drop i old) (drop (suc i) new) (get_or new i 0) z (rw (first-drop old i base) e)
            ∙ rw (rest-drop old i)) in
            rw one at h.whole

        -- there is room for the number
        pub z-room : p + length (encode F z) ≤ length out
        z-room =
            let n : length (run_of F coding base old new) ≡ length h.done + (length (encode F z) + length others) =
            sym (ap length with-z) ∙ simp length-append in
            more (length (encode F z)) h.wrote (omega (arith, h.room))

        -- a value more
        pub next : (out' : List ℕ) (p' : ℕ) → Wrote out p (encode F z) out' p' → Putting F coding base old new out₀ at out' p' (i + 1)
        unfolding others
        next out' p' w =
            record {
              count = omega arith;
              room = h.room;
              same = wrote-length w ∙ h.same;
              done = h.done ++ encode F z;
              wrote = then h.wrote w;
              whole = append_assoc h.done (encode F z) others ∙ with-z;
            }
