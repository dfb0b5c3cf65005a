-- `encoder::front::follows` meets its contract: it is asked where a delta is wished for.
use mathlib.Core.Path.{sym, ◌∙◌, ap}
use mathlib.Core.Bool.{false≢true, not}
use borrow.Author.Tests.{not-true}
use borrow.Author.Rules.{part_to_end}
use lib.ListN.{get_or}
use Rattle.share_words.specs.Share.{last_at, set_at}
use Rattle.counters.specs.Follow.{ivs_follow}
use Rattle.counters.proofs.FollowLaws.{follow-absent}
use Rattle.encoder.proofs.front.follows.Goals as goal

pub returns-then-not-wish : goal.returns-then-not-wish
returns-then-not-wish c = λ w. absurd (false≢true (sym (not-true _ (ap not c.if-not-wish.true)) ∙ w))

pub returns-then-x-eq0 : goal.returns-then-x-eq0
returns-then-x-eq0 c = λ w payload. follow-absent _ _ _ _ payload c.if-x-eq0.true

pub ivs_follow-requires : goal.ivs_follow-requires
ivs_follow-requires c = rw (part_to_end c.args.s.now set_at) c.requires.1

pub returns : goal.returns
returns c =
    let a = c.args in
    λ w payload. c.ivs_follow.ensures payload ∙ ap (λ r. ivs_follow a.t (get_or a.s.now last_at 0) r a.x.now payload) (part_to_end a.s.now set_at)
