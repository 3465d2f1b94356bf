use Rattle.elf_load.specs.Loaded.{load_answer}
use Rattle.program_load.specs.Answer as steps
use Rattle.program_load.specs.LineTable.{table_in}
use Rattle.functions_cli.specs.Words.{request_of}
use Rattle.functions_cli.proofs.Judging.{faultless, loaded_fault, loaded_later, step_of}
use Rattle.functions_cli.proofs.judge.file_of.Goals as goal

pub file_by_function-written-requires-clause-right : goal.file_by_function-written-requires-clause-right
file_by_function-written-requires-clause-right c = faultless c.args.file.now c.in-Ok.program.image c.in-Ok.ensures.loads

pub returns-in-Err-clause-of : goal.returns-in-Err-clause-of
returns-in-Err-clause-of c =
    step_of (request_of c.args.asked.now) c.in-Err.fault c.in-Err.ensures.no_read
    (λ other. loaded_later (load_answer c.args.file.now) (table_in c.args.file.now) (steps.fault_verdict c.in-Err.fault) (c.in-Err.ensures.verdict other))

pub returns-in-Err-clause-judged : goal.returns-in-Err-clause-judged
returns-in-Err-clause-judged c = λ other.
    loaded_fault (request_of c.args.asked.now) (load_answer c.args.file.now) (table_in c.args.file.now) (steps.fault_verdict c.in-Err.fault) (c.in-Err.ensures.verdict other)
