-- `share_words::share::drop_reference` meets its contract: from the mark of the reference on all is 0.
use Rattle.share_words.proofs.ClearLaws.{reference-cleared}
use Rattle.share_words.proofs.share.drop_reference.Goals as goal

pub returns : goal.returns
returns c = reference-cleared c.args.s.now _ c.requires (c.fill.ensures.after (λ y e. e))
