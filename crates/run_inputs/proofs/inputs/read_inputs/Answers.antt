use Rattle.std.proofs.lemmas.Result.{err_from_is_err_and}
use Rattle.program_load.specs.declared.fault.Fault.TheVariants.{File}
use Rattle.run_inputs.proofs.Reading.{first_read}
use Rattle.run_inputs.proofs.inputs.read_inputs.Goals as goal

pub returns-in_err-program-clause-verdict : goal.returns-in_err-program-clause-verdict
returns-in_err-program-clause-verdict g c =
    let gives = err_from_is_err_and c.from_residual.result c.from_residual.ensures.1 in
    rw (gives.1, gives.2)
    (first_read (g.F.Files.held c.args.files.now) c.args.request.now c.text.result.now (g.F.Files.faults c.args.files.now) (g.F.Files.faults c.read_file.new.files)
    (File c.in_err-program.field-0.0) c.text.ensures c.in_err-program.ensures.verdict)
