use Rattle.std.proofs.Common.{◌*◌}
use Rattle.hart_steps.proofs.AsFirst.{first_within}
use Rattle.hart_steps.proofs.code.Code.is_intact.Goals as goal

pub returns-in-Some : goal.returns-in-Some
returns-in-Some c is =
    let inside = c.is_within.ensures is in
    first_within c.args.memory.now c.in-Some.pages.start c.in-Some.pages.size c.args.self.now.start (4 * c.args.self.now.count) c.in-Some.ensures inside.0 inside.1
