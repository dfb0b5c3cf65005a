-- `locmaf_read_set::read::finish_fields` meets its contract: each return by its law of `proofs/RungLaws.antt`.
use native.Mathlib.Omega.{arith}
use mathlib.Core.Path.{◌≡◌, refl, ◌∙◌, ap}
use Prim.Native.Nat.{ℕ}
use Rattle.std.proofs.lemmas.Result.{err_from_is_err_and}
use Rattle.refusal.proofs.NumberLaws.{number-some}
use Rattle.track.specs.declared.Track.{Track}
use Rattle.field_table.specs.declared.lines.Measure.{Measure}
use Rattle.field_rules.specs.Words.{measure}
use Rattle.locmaf_read_set.proofs.ReadableLaws.{brands-marked}
use Rattle.locmaf_read_set.proofs.RungLaws.{start-long, refuse-front, sum-measured, all_read}
use Rattle.locmaf_read_set.proofs.read.finish_fields.Goals as goal

-- the lengths of the fields behind id 11, whose counts add up to k
behind : (t : Track) (m : Measure) (k : ℕ) → m ≡ measure t m.count 0
    → ◌≡◌ {A = Measure} (record { count = m.count; ivs = m.ivs; sum = k }) (measure t m.count k)
behind t m k e = ap (λ (i : ℕ). record { count = m.count; ivs = i; sum = k }) (ap (λ (u : Measure). u.ivs) e)

pub first_rules-requires : goal.first_rules-requires
first_rules-requires c = c.requires.readable.marked.words

pub returns-in_err-first_rules : goal.returns-in_err-first_rules
returns-in_err-first_rules c =
    let p = c.requires in
    let h = p.front_taken in
    let q = err_from_is_err_and c.from_residual.result c.from_residual.ensures.1 in
    rw (q.1, q.2)
    (refuse-front _ _ _ _ _ h.reached p.readable.words p.readable.lawful p.readable.iv h.few _ h.empty _ _ h.pairs _ h.tally _ _ h.others _
    (brands-marked _ _ _ _ p.readable.marked) _ c.in_err-first_rules.ensures (number-some _))

pub finish_set-requires : goal.finish_set-requires
finish_set-requires c =
    let p = c.requires in
    let h = p.front_taken in
    let few = sum-measured _ _ _ _ _ h.reached p.readable.words p.readable.lawful p.readable.iv h.few _ h.empty _ _ h.pairs _ h.tally _ _ h.others _
    (brands-marked _ _ _ _ p.readable.marked) _ c.in_ok-first_rules.ensures refl in
    record { readable = p.readable; measured = (rw (behind c.args.t c.args.m _ h.lengths) few, h.others.long ∙ h.pairs.long ∙ start-long _ _ h.empty); marks_value = p.marks_value }

pub shape_of-x : goal.shape_of-x
shape_of-x c =
    let h = c.requires.front_taken in
    omega (arith, c.finish_set.ensures.long, h.others.long, h.pairs.long, start-long _ _ h.empty)

pub returns : goal.returns
returns c =
    let p = c.requires in
    let h = p.front_taken in
    all_read _ _ _ _ _ h.reached p.readable.words p.readable.lawful p.readable.iv h.few _ h.empty _ _ h.pairs _ h.tally _ _ h.others _
    (brands-marked _ _ _ _ p.readable.marked) _ c.in_ok-first_rules.ensures refl _ _ (rw (behind c.args.t c.args.m _ h.lengths) at c.finish_set.ensures)
