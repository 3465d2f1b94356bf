use Rattle.std.specs.Global.{Vec}
use Rattle.average_parts.specs.declared.part.Part.{Part}
use Rattle.average_parts.specs.Verdict.{bytes_of}
use Rattle.average_parts.proofs.Served.{stopped_in, table_in}
use Rattle.average_parts.proofs.Named.{few_parts}
use Rattle.average_parts.proofs.judge.judge.Goals as goal

pub returns-in-Err-clause-verdict : goal.returns-in-Err-clause-verdict
returns-in-Err-clause-verdict g c = stopped_in (λ (parts : Vec Part). parts.items) (bytes_of c.args.words.now) (bytes_of c.in-Some.paths.now) (g.F.Files.held c.args.files.now) (g.F.Files.faults c.args.files.now) (g.F.Files.faults c.read_parts.new.files) c.in-Err.fault c.in-Some.ensures c.in-Err.ensures.verdict

pub table-requires-clause-few : goal.table-requires-clause-few
table-requires-clause-few g c = few_parts (bytes_of c.args.words.now) c.in-Some.paths.now c.in-Ok.parts.items c.in-Some.ensures c.in-Ok.ensures.as_many

pub returns-in-Ok-clause-verdict : goal.returns-in-Ok-clause-verdict
returns-in-Ok-clause-verdict g c = table_in (λ (parts : Vec Part). parts.items) (bytes_of c.args.words.now) (bytes_of c.in-Some.paths.now) (g.F.Files.held c.args.files.now) (g.F.Files.faults c.args.files.now) (g.F.Files.faults c.read_parts.new.files) c.in-Ok.parts c.table.result c.in-Some.ensures c.in-Ok.ensures.verdict c.table.ensures.averages
