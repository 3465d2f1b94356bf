use Rattle.std.proofs.Common.{◌∙◌, ap, sym, Some}
use Rattle.profile_pool.specs.Made.{parts_made}
use Rattle.profile_pool.proofs.Making.{for_any, taken}
use Rattle.profile_pool.proofs.claimed.lead_up.Goals as goal

pub again-requires-clause-arguments : goal.again-requires-clause-arguments
again-requires-clause-arguments c =
    let work = c.args.work.now in c.requires.lead ∙ sym (for_any work (Some 0) 0 work.first.now c.requires.work.first)

pub returns : goal.returns
returns c =
    let work = c.args.work.now in
    ap parts_made c.run.ensures.rest ∙ taken work c.args.line work.first.now c.again.new.self c.requires.work.first c.again.ensures
