use Rattle.std.proofs.Common.{subst, arith}
use Rattle.std.proofs.lemmas.Result.{err_from_is_err_and}
use Rattle.dwarf_lines.specs.Registers.{view as table_of}
use Rattle.work_gen.specs.Text.{view}
use Rattle.coz_commands.specs.Answer.{IsOfTrial}
use Rattle.coz_commands.specs.Verdict.{Verdict}
use Rattle.coz_commands.proofs.Trials.{file_judged, file_short, point_there, read_memory}
use Rattle.coz_commands.proofs.trial.file_answer.Goals as goal

pub read_program-requires : goal.read_program-requires
read_program-requires g c = let short = file_short (view c.args.source.now) c.args.file.now c.requires.file in omega (arith, short)

pub program_answer-answer-requires-clause-point : goal.program_answer-answer-requires-clause-point
program_answer-answer-requires-clause-point g c = λ lifetimes within.
    let program = c.in_ok-program.program in
    let read = c.in_ok-program.ensures in
    point_there (view c.args.source.now) c.args.file.now c.requires.file program.index program.image (table_of program.table) read.loads read.reads read.indexed

pub returns-in_err-program : goal.returns-in_err-program
returns-in_err-program g c =
    let gives = err_from_is_err_and c.from_residual.result c.from_residual.ensures.1 in
    rw (gives.1, gives.2) (record { verdict = tt; low = tt; memory = read_memory (view c.args.source.now) c.args.file.now c.requires.file c.in_err-program.field-0.0 c.in_err-program.ensures.verdict })

pub returns : goal.returns
returns g c =
    let program = c.in_ok-program.program in
    let read = c.in_ok-program.ensures in
    subst (λ (v : Verdict). IsOfTrial v c.program_answer-answer.result)
    (file_judged (view c.args.source.now) c.args.file.now program.image (table_of program.table) program.index read.indexed (read.verdict (λ never. never)))
    c.program_answer-answer.ensures
