use Rattle.std.proofs.Common.{ap, ◌∙◌}
use Rattle.cost_table.specs.Costs.{cycles_of}
use Rattle.guest_calls.proofs.Guest.next_cycles.Goals as goal

pub returns-clause-cycles : goal.returns-clause-cycles
returns-clause-cycles c = c.cycles.ensures.cycles ∙ ap cycles_of c.next.ensures
