use Rattle.functions_cli.proofs.Naming.{line_above}
use Rattle.functions_cli.proofs.regions.region_to.Goals as goal

pub returns-clause-first : goal.returns-clause-first
returns-clause-first c = line_above c.args.line.now _ c.requires c.line_parts-first.ensures
