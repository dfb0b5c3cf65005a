-- `track::narrowed` meets its contract: lawful parameters fit the narrower types.
use native.Mathlib.Omega.{arith}
use Rattle.track.proofs.TrackLaws.{ranges}
use Rattle.track.proofs.narrowed.Goals as goal

pub overflow_cast-result : goal.overflow_cast-result
overflow_cast-result c = omega (arith, (ranges c.args.a c.requires).id)

pub overflow_cast-result-2 : goal.overflow_cast-result-2
overflow_cast-result-2 c = omega (arith, (ranges c.args.a c.requires).timescale)

pub overflow_cast-result-3 : goal.overflow_cast-result-3
overflow_cast-result-3 c = omega (arith, (ranges c.args.a c.requires).description)

pub overflow_cast-result-4 : goal.overflow_cast-result-4
overflow_cast-result-4 c = omega (arith, (ranges c.args.a c.requires).duration)

pub overflow_cast-result-5 : goal.overflow_cast-result-5
overflow_cast-result-5 c = omega (arith, (ranges c.args.a c.requires).size)

pub overflow_cast-result-6 : goal.overflow_cast-result-6
overflow_cast-result-6 c = omega (arith, (ranges c.args.a c.requires).flags)

pub overflow_cast-result-7 : goal.overflow_cast-result-7
overflow_cast-result-7 c = omega (arith, (ranges c.args.a c.requires).protection)

pub overflow_cast-result-8 : goal.overflow_cast-result-8
overflow_cast-result-8 c = omega (arith, (ranges c.args.a c.requires).iv-size)
