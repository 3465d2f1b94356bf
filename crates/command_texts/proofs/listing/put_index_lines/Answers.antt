use Rattle.std.proofs.Common.{rules}
use Rattle.coz_files.proofs.GatheredLemmas.{gathers_then}
use Rattle.profile_book.proofs.Gathering.{gathers_as}
use Rattle.command_texts.proofs.IndexText.{each_more, each_whole}
use Rattle.command_texts.proofs.listing.put_index_lines.Goals as goal

pub loop-line-preserved : goal.loop-line-preserved
loop-line-preserved g c =
    let has = c.put_index_line.ensures in
    gathers_as (each_more c.args.index.now.lines c.args.index.now.entries c.loop-line.line has.line has.addresses has.is_line has.are_entries) (gathers_then c.loop-line.invariant has.put)

pub returns : goal.returns
returns g c = gathers_as (each_whole c.args.index.now.lines c.args.index.now.entries c.loop-line.line (search rules)) c.loop-line.invariant
