use Rattle.std.proofs.Common.{rules, ◌<◌, length, string_bytes, arith, ◌∙◌}
use Rattle.std.proofs.lemmas.List.{length-map}
use Rattle.std.specs.Global.{Vec}
use Rattle.average_parts.specs.declared.part.Part.{Part}
use Rattle.average_parts.specs.Verdict.{bytes_of}
use Rattle.average_parts.proofs.Reading.{text_at, of_paths, stop_settles, more_read, more_right, more_many}
use Rattle.average_parts.proofs.parts.read_parts.Goals as goal

pub returns-in-Err-clause-of_paths : goal.returns-in-Err-clause-of_paths
returns-in-Err-clause-of_paths g c =
    let lt : c.loop-i.i < length c.args.paths.now = search rules in
    let within : c.loop-i.i < length (bytes_of c.args.paths.now) = omega (arith, lt, length-map c.args.paths.now string_bytes) in
    let at = text_at c.args.paths.now c.loop-i.i c.index-paths-i.result lt (search rules) in
    of_paths (bytes_of c.args.paths.now) c.loop-i.i c.as_str.result.now c.loop-i.parts.items within (at ∙ search rules) (g.F.Files.held c.args.files.now) c.in-Err.fault c.loop-i.invariant.so_far c.in-Err.ensures.of_path

pub returns-in-Err-clause-verdict : goal.returns-in-Err-clause-verdict
returns-in-Err-clause-verdict g c =
    let lt : c.loop-i.i < length c.args.paths.now = search rules in
    let within : c.loop-i.i < length (bytes_of c.args.paths.now) = omega (arith, lt, length-map c.args.paths.now string_bytes) in
    let at = text_at c.args.paths.now c.loop-i.i c.index-paths-i.result lt (search rules) in
    stop_settles (bytes_of c.args.paths.now) c.loop-i.i c.as_str.result.now c.loop-i.parts.items within (at ∙ search rules) (λ (parts : Vec Part). parts.items) (g.F.Files.held c.args.files.now) (g.F.Files.held c.loop-i.files) (g.F.Files.faults c.args.files.now) (g.F.Files.faults c.loop-i.files)
    (g.F.Files.faults c.read_part.new.files) c.in-Err.fault c.loop-i.invariant.same c.loop-i.invariant.no_fault c.loop-i.invariant.so_far c.in-Err.ensures.verdict

pub loop-i-preserved : goal.loop-i-preserved
loop-i-preserved g c =
    let lt : c.loop-i.i < length c.args.paths.now = search rules in
    let within : c.loop-i.i < length (bytes_of c.args.paths.now) = omega (arith, lt, length-map c.args.paths.now string_bytes) in
    let at = text_at c.args.paths.now c.loop-i.i c.index-paths-i.result lt (search rules) in
    let new = c.in_ok-push-in-Ok.ensures.items in
    record {
      same = c.in-Ok.ensures.same ∙ c.loop-i.invariant.same;
      no_fault = c.in-Ok.ensures.no_fault (λ no. no) ∙ c.loop-i.invariant.no_fault;
      right = more_right c.loop-i.parts.items c.in-Ok.part c.push.new.self.items c.loop-i.invariant.right c.in-Ok.ensures.right new;
      as_many = more_many c.loop-i.parts.items c.in-Ok.part c.push.new.self.items c.loop-i.i c.loop-i.invariant.as_many new;
      so_far = more_read (bytes_of c.args.paths.now) c.loop-i.i c.as_str.result.now c.loop-i.parts.items within (at ∙ search rules) (g.F.Files.held c.args.files.now) (g.F.Files.held c.loop-i.files) (g.F.Files.faults c.loop-i.files)
          (g.F.Files.faults c.read_part.new.files) c.in-Ok.part c.push.new.self.items c.loop-i.invariant.same c.loop-i.invariant.so_far c.in-Ok.ensures.verdict new;
    }
