use Rattle.std.proofs.Common.{◌∙◌, ap, Some}
use Rattle.run_engine.specs.declared.choice.Choice.{Choice}
use Rattle.profile_pool.specs.Made.{parts_made}
use Rattle.profile_pool.proofs.Making.{for_any}
use Rattle.profile_pool.proofs.claimed.WorkClaimWork.runner.Goals as goal

pub returns-in-Ok : goal.returns-in-Ok
returns-in-Ok c =
    let work = c.args.self.now in (
      for_any work (Some 0) 0 c.in_ok-lead.lead (ap parts_made c.in_ok-lead.ensures ∙ ap (λ (choice : Choice). record { image = work.subject.image.now; index = work.subject.index.now; points = work.subject.points.now; timing = work.subject.timing; input = work.subject.input.now; choice = choice; state = tt }) c.usual-choice.ensures.choice),
      for_any work (Some 0) 0 c.in-Ok.machine (ap parts_made c.in-Ok.ensures ∙ ap (λ (choice : Choice). record { image = work.subject.image.now; index = work.subject.index.now; points = work.subject.points.now; timing = work.subject.timing; input = work.subject.input.now; choice = choice; state = tt }) c.usual-choice.ensures.choice),
    )
