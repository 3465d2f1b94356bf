use Rattle.std.proofs.Common.{◌≡◌, None, Some, Err, refl, subst, arith}
use Rattle.coz_serve.proofs.Served.{serves}
use Rattle.coz_words.specs.Answers.{Answers, bytes_of}
use Rattle.coz_words.specs.declared.request.WordsError.{WordsError}
use Rattle.file_read.specs.declared.fault.FileFault.TheVariants.{Usage, Memory}
use Rattle.program_load.specs.declared.fault.Fault.TheVariants.{File}
use Rattle.program_load.specs.Answer.{fault_line, fault_status, shared_fault}
use Rattle.program_load.specs.Faults.{step_is_fault}
use Rattle.hot_cli.specs.Answer.{text_in}
use Rattle.hot_cli.specs.Program.{hot_program, hot_status}
use Rattle.hot_cli.specs.Words.{hot_request}
use Rattle.hot_cli.proofs.Judging.{lack_judged, served_of, usage_judged}
use Rattle.hot_cli.proofs.top.serve_words.Goals as goal

pub returns-in-Ok-clause-serves : goal.returns-in-Ok-clause-serves
returns-in-Ok-clause-serves g c =
    served_of (Some c.in-Ok.request) (hot_request (bytes_of c.args.words.now)) c.in-Ok.ensures.asked c.serve_request-status.ensures.serves

pub returns-in-Err-Usage-clause-serves : goal.returns-in-Err-Usage-clause-serves
returns-in-Err-Usage-clause-serves g c =
    let told = g.F.Files.held c.args.files.now in
    let faults = g.F.Files.faults c.args.files.now in
    let none : hot_request (bytes_of c.args.words.now) ≡ None = subst (λ (e : WordsError). Answers (hot_request (bytes_of c.args.words.now)) (Err e)) c.in-Err-Usage.field-0-is c.in-Err-Usage.ensures.asked in
    served_of None (hot_request (bytes_of c.args.words.now)) none
    (serves (hot_program None) hot_status text_in fault_status fault_line shared_fault told faults faults _ _ _ _ _ _ _ _ _
    (omega arith) step_is_fault (omega arith) (Err (File Usage)) (usage_judged told faults faults refl)
    (record { same_status = c.tell.ensures.status; same = refl; line = c.tell.ensures.line }))

pub returns-in-Err-Memory-clause-serves : goal.returns-in-Err-Memory-clause-serves
returns-in-Err-Memory-clause-serves g c =
    let told = g.F.Files.held c.args.files.now in
    let faults = g.F.Files.faults c.args.files.now in
    let request = hot_request (bytes_of c.args.words.now) in
    serves (hot_program request) hot_status text_in fault_status fault_line shared_fault told faults faults _ _ _ _ _ _ _ _ _
    (omega arith) step_is_fault (omega arith) (Err (File Memory)) (lack_judged told faults faults request refl)
    (record { same_status = c.tell-in-Err-Memory.ensures.status; same = refl; line = c.tell-in-Err-Memory.ensures.line })
