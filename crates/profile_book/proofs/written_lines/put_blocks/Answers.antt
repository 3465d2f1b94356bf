use Rattle.std.proofs.Common.{rules}
use Rattle.profile_book.specs.Profile.{block}
use Rattle.profile_book.proofs.Gathering.{line_more}
use Rattle.profile_book.proofs.written_lines.put_blocks.Goals as goal

pub loop-at-preserved : goal.loop-at-preserved
loop-at-preserved g c = line_more block c.args.summaries.now c.loop-at.at _ (search rules) (search rules) c.loop-at.invariant c.put_block.ensures
