-- `word_spans::scan::sixty_four` meets its contract: four parts of sixteen words.
use Prim.Native.Nat.{◌+◌}
use native.Mathlib.Omega.{arith}
use mathlib.Core.Path.{◌∙◌, ap₂}
use lib.Bits.{bit_or}
use Rattle.word_spans.proofs.ScanLaws.{bits-pairs}
use Rattle.word_spans.proofs.scan.sixty_four.Goals as goal

pub returns : goal.returns
returns c =
    let i = c.args.i in
    c.joined-3.ensures
    ∙ ap₂ bit_or c.joined.ensures c.joined-2.ensures
    ∙ bits-pairs c.args.w.now 16 i (i + 16) (i + 32) (i + 48) (i + 64) (omega arith) (omega arith) (omega arith) (omega arith) c.requires
    c.sixteen.ensures c.sixteen-2.ensures c.sixteen-3.ensures c.sixteen-4.ensures
