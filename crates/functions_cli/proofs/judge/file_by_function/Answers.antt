use Rattle.std.proofs.Common.{ap, sym, subst, ℕ, List, [], Result}
use Rattle.coz_types.specs.Labels.{Text}
use Rattle.line_remap.specs.Marks.{positions_of, spelled_lines}
use Rattle.experiment_plan.specs.Selected.{ids}
use Rattle.program_load.specs.Answer as steps
use Rattle.program_load.specs.Selection.{lines_named}
use Rattle.functions_cli.specs.Regions.{regions_named}
use Rattle.functions_cli.specs.Verdict.{IsKeptVerdict, IsRegionsVerdict}
use Rattle.functions_cli.specs.Answer.{verdict_of}
use Rattle.functions_cli.specs.Words.{request_of}
use Rattle.functions_cli.proofs.Judging.{named_fault, named_later, named_ok, step_of}
use Rattle.functions_cli.proofs.judge.file_by_function.Goals as goal

pub returns-in-Err-clause-of : goal.returns-in-Err-clause-of
returns-in-Err-clause-of c =
    let request = request_of c.args.asked.now in
    let index = c.args.program.now.index in
    step_of request c.in-Err.fault c.in-Err.ensures.no_read
    (λ other. named_later (lines_named index.lines [] request.keep) (steps.fault_verdict c.in-Err.fault) (c.in-Err.ensures.verdict other))

pub returns-in-Err-clause-judged : goal.returns-in-Err-clause-judged
returns-in-Err-clause-judged c = λ other.
    let request = request_of c.args.asked.now in
    let program = c.args.program.now in
    named_fault request program.image program.index (lines_named program.index.lines [] request.keep) (steps.fault_verdict c.in-Err.fault) (c.in-Err.ensures.verdict other)

pub returns-in-Ok-clause-judged : goal.returns-in-Ok-clause-judged
returns-in-Ok-clause-judged c = λ other.
    let request = request_of c.args.asked.now in
    let program = c.args.program.now in
    let kept = c.in-Ok.kept.items in
    let named = named_ok (lines_named program.index.lines [] request.keep) (ids kept) (c.in-Ok.ensures.verdict (λ none. none)) in
    subst (λ (r : Result (List ℕ) Text). IsKeptVerdict request program.image program.index r (verdict_of c.file_by_marks.result)) (sym named)
    (subst (λ (ks : List ℕ). IsRegionsVerdict request program.image program.index ks (regions_named (spelled_lines program.index) request.regions) (verdict_of c.file_by_marks.result)) (ap positions_of c.deref.ensures.value)
    (c.file_by_marks.ensures.judged other))
