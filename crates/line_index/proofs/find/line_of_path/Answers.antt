use Rattle.std.proofs.Common.{sym}
use Rattle.line_index.specs.Keys.{with_path}
use Rattle.line_index.proofs.Found.{key_not_missed}
use Rattle.line_index.proofs.Names.{key_found, key_missing}
use Rattle.line_index.proofs.find.line_of_path.Goals as goal

pub returns-in-Ok : goal.returns-in-Ok
returns-in-Ok c = sym (key_found c.args.keys.now (with_path c.args.number c.args.path) c.in-Ok.at c.requires.in_order c.in-Ok.ensures.bound (c.in-Ok.ensures.ok _))

pub returns-in-Err : goal.returns-in-Err
returns-in-Err c = sym (key_missing c.args.keys.now (with_path c.args.number c.args.path) (λ one. key_not_missed c.args.keys.now (with_path c.args.number c.args.path) c.binary_search.result _ c.requires.in_order one c.binary_search.ensures.position c.in-Err.is))
