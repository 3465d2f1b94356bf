use Rattle.std.proofs.Common.{rules, ◌++◌, Option, codes, subst}
use Rattle.coz_files.specs.Held.{Held}
use Rattle.page_cli.specs.Answer.{IsShown, fault_line}
use Rattle.page_cli.specs.Verdict.{bytes_of}
use Rattle.page_cli.proofs.Served.{failed_verdict, fault_told, memory_line, page_put, page_torn, write_line}
use Rattle.page_cli.proofs.top.serve_words.Goals as goal

pub returns-in-Ok-Done-clause-text : goal.returns-in-Ok-Done-clause-text
returns-in-Ok-Done-clause-text g c =
    let judged = c.in-Ok.ensures in
    let mid = g.F.Files.faults c.judge.new.files in
    let now = g.F.Files.faults c.show-shown.new.files in
    page_put (bytes_of c.args.words.now) (g.F.Files.faults c.args.files.now) mid now (judged.no_fault (λ no. no)) c.in-Ok.ranked judged.fault_of_request (g.F.Files.held c.args.files.now) c.in-Ok-Done.field-0 0 (search rules) judged.verdict judged.ranked
    (subst (λ (known : Option Held). IsShown known mid now g.O.Sink.holds g.O.Sink.faults c.args.out.now c.show-shown.new.out c.in-Ok.ranked c.in-Ok-Done.field-0) judged.same c.in-Ok-Done.ensures-1.shown)

pub returns-in-Ok-Failed-clause-verdict : goal.returns-in-Ok-Failed-clause-verdict
returns-in-Ok-Failed-clause-verdict g c = failed_verdict (bytes_of c.args.words.now) (g.F.Files.held c.args.files.now) c.tell.result c.tell.ensures.status

pub returns-in-Ok-Failed-clause-prefix : goal.returns-in-Ok-Failed-clause-prefix
returns-in-Ok-Failed-clause-prefix g c =
    let judged = c.in-Ok.ensures in
    let mid = g.F.Files.faults c.judge.new.files in
    let now = g.F.Files.faults c.show-shown.new.files in
    page_torn (bytes_of c.args.words.now) (g.F.Files.faults c.args.files.now) mid now (judged.no_fault (λ no. no)) c.in-Ok.ranked judged.fault_of_request (g.F.Files.held c.args.files.now) c.in-Ok-Failed.field-0 c.tell.result (search rules) judged.verdict judged.ranked
    (subst (λ (known : Option Held). IsShown known mid now g.O.Sink.holds g.O.Sink.faults c.args.out.now c.show-shown.new.out c.in-Ok.ranked c.in-Ok-Failed.field-0) judged.same c.in-Ok-Failed.ensures-1.shown)

pub returns-in-Ok-Failed-clause-line : goal.returns-in-Ok-Failed-clause-line
returns-in-Ok-Failed-clause-line g c = λ _. (
  codes "coz-page: write",
  write_line c.tell.result (bytes_of c.args.words.now) (g.F.Files.held c.args.files.now) c.tell.ensures.status,
  c.tell.ensures.line,
)

pub returns-in-Err-shown-clause-line : goal.returns-in-Err-shown-clause-line
returns-in-Err-shown-clause-line g c = λ _. (
  codes "coz-page: memory",
  memory_line c.tell-in-Err-shown.result (bytes_of c.args.words.now) (g.F.Files.held c.args.files.now) c.tell-in-Err-shown.ensures.status,
  c.tell-in-Err-shown.ensures.line,
)

pub returns-in-Err-clause-line : goal.returns-in-Err-clause-line
returns-in-Err-clause-line g c = λ _. (
  codes "coz-page: " ++ fault_line c.in-Err.fault,
  fault_told (bytes_of c.args.words.now) (g.F.Files.faults c.args.files.now) (g.F.Files.faults c.judge.new.files) c.tell-in-Err.result c.in-Err.fault c.tell-in-Err.ensures.status (g.F.Files.held c.args.files.now) c.in-Err.ensures.fault_of_request c.in-Err.ensures.verdict,
  c.tell-in-Err.ensures.line,
)
