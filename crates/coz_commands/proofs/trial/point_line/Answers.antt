use Rattle.coz_commands.specs.Trial.{trial_name}
use Rattle.line_index.specs.Lines.{position_named}
use Rattle.coz_commands.proofs.Trials.{of_none, of_some, point_absent, point_found}
use Rattle.coz_commands.proofs.trial.point_line.Goals as goal

pub unreachable-requires : goal.unreachable-requires
unreachable-requires c = point_absent c.args.point c.args.index.now.lines (of_none (position_named trial_name c.args.point c.args.index.now.lines) c.in-None.ensures) c.requires

pub returns-clause-point : goal.returns-clause-point
returns-clause-point c = point_found c.args.point c.args.index.now.lines c.in-Some.line.0 (of_some (position_named trial_name c.args.point c.args.index.now.lines) c.in-Some.line c.in-Some.ensures)
