-- `cmaf_write_moof::protection::protection_length` meets its contract, by the law `protection-length`.
use native.Mathlib.Omega.{arith}
use mathlib.Core.Path.{sym, ap, ◌∙◌}
use lib.ListN.{length}
use Rattle.cmaf_write_moof.proofs.ProtectionLaws.{protection-none, protection-length}
use Rattle.cmaf_write_moof.proofs.protection.protection_length.Goals as goal

pub returns-then-not-stands : goal.returns-then-not-stands
returns-then-not-stands c = record { length = λ place. sym (ap length (protection-none c.args.t c.args.w.now place (sym c.stands.ensures ∙ c.if-not-stands.true))); small = omega arith }

pub saiz_length-requires : goal.saiz_length-requires
saiz_length-requires c = record { protectable = c.requires; w_nonzero = c.requires.some (sym c.stands.ensures ∙ c.if-not-stands.false) }

pub returns : goal.returns
returns c = record { length = λ place. omega (arith, protection-length c.args.t c.args.w.now place (sym c.stands.ensures ∙ c.if-not-stands.false)); small = omega arith }
