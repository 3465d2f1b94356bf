use Rattle.std.proofs.Common.{rules}
use Rattle.profile_book.proofs.Gathering.{line_more}
use Rattle.path_texts.specs.PathText.{share_line}
use Rattle.path_texts.proofs.texts.put_shares.Goals as goal

pub loop-share-preserved : goal.loop-share-preserved
loop-share-preserved g c = line_more (share_line c.args.index.now.lines) c.args.shares.now c.loop-share.share-index _ (search rules) (search rules) c.loop-share.invariant c.put_share.ensures
