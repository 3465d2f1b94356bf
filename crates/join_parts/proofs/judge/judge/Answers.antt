use Rattle.std.specs.Global.{Vec}
use Rattle.join_parts.specs.declared.part.Part.{Part}
use Rattle.join_parts.specs.Verdict.{bytes_of}
use Rattle.join_parts.proofs.Served.{stopped_in, joined_in}
use Rattle.join_parts.proofs.Sharded.{some_parts}
use Rattle.join_parts.proofs.judge.judge.Goals as goal

pub returns-in-Err-clause-verdict : goal.returns-in-Err-clause-verdict
returns-in-Err-clause-verdict g c = stopped_in (λ (parts : Vec Part). parts.items) (bytes_of c.args.words.now) (bytes_of c.in-Some.paths.now) (g.F.Files.held c.args.files.now) (g.F.Files.faults c.args.files.now) (g.F.Files.faults c.read_parts.new.files) c.in-Err.fault c.in-Some.ensures c.in-Err.ensures.verdict

pub joined-requires-clause-some : goal.joined-requires-clause-some
joined-requires-clause-some g c = some_parts (bytes_of c.args.words.now) c.in-Some.paths.now c.in-Ok.parts.items c.in-Some.ensures c.in-Ok.ensures.as_many

pub returns-in-Ok-clause-verdict : goal.returns-in-Ok-clause-verdict
returns-in-Ok-clause-verdict g c = joined_in (λ (parts : Vec Part). parts.items) (bytes_of c.args.words.now) (bytes_of c.in-Some.paths.now) (g.F.Files.held c.args.files.now) (g.F.Files.faults c.args.files.now) (g.F.Files.faults c.read_parts.new.files) c.in-Ok.parts c.joined.result c.in-Some.ensures c.in-Ok.ensures.verdict c.joined.ensures.joined
