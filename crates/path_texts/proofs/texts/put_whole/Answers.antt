use Rattle.std.proofs.Common.{rules}
use Rattle.profile_book.proofs.Gathering.{gathers_as}
use Rattle.path_texts.proofs.PathSegments.{whole_is}
use Rattle.path_texts.proofs.texts.put_whole.Goals as goal

pub returns : goal.returns
returns g c =
    gathers_as (whole_is c.args.events.now c.args.chain.now c.in-Some.rest.now c.in-Some.first.now c.whole_segment-segment.result (search rules) (search rules) c.requires)
    c.put_segment.ensures
