use Rattle.std.proofs.Common.{rules}
use Rattle.path_chains.proofs.Sorting.{sharing}
use Rattle.path_chains.proofs.share.by_falling_ticks.Goals as goal

pub returns : goal.returns
returns c =
    let sort = c.in_ok-sort_by_key.ensures in
    sharing c.args.shares.now.items c.sort_by_key.new.self.items sort.sorted sort.stable (λ b r f k. search rules)
