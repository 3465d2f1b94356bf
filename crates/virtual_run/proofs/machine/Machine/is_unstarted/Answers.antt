use Rattle.std.proofs.Common.{◌∙◌}
use Rattle.virtual_run.proofs.Leads.{unstarted_seen}
use Rattle.virtual_run.proofs.machine.Machine.is_unstarted.Goals as goal

pub returns : goal.returns
returns c =
    let m = c.self.inside in
    c.is_unstarted.ensures ∙ unstarted_seen m.image.now m.input.now m.setting m.engine m.credits m.moment c.self.invariant c.args.self.now c.self.view_is
