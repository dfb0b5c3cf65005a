-- `share_words::share::wipe` meets its contract: all of the share is 0.
use Rattle.share_words.proofs.ClearLaws.{all-cleared}
use Rattle.share_words.proofs.share.wipe.Goals as goal

pub returns : goal.returns
returns c = all-cleared c.args.s.now _ c.requires (c.fill.ensures.after (λ y e. e))
