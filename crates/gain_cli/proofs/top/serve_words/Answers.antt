use Rattle.std.proofs.Common.{◌≡◌, ◌≤◌, None, Some, Err, refl, subst, sym, arith}
use Rattle.coz_serve.proofs.Served.{serves}
use Rattle.coz_words.specs.Answers.{Answers, bytes_of}
use Rattle.coz_words.specs.declared.request.WordsError.{WordsError}
use Rattle.file_read.specs.declared.fault.FileFault.TheVariants.{Usage, Memory}
use Rattle.program_load.specs.declared.fault.Fault.TheVariants.{File}
use Rattle.program_load.specs.Answer.{fault_line, fault_status, shared_fault}
use Rattle.program_load.specs.Faults.{step_is_fault}
use Rattle.gain_words.specs.Words.{gain_request}
use Rattle.gain_cli.specs.Answer.{status_in, text_in}
use Rattle.gain_cli.specs.Program.{gain_program}
use Rattle.gain_cli.proofs.Judging.{lack_judged, served_of, usage_judged}
use Rattle.gain_cli.proofs.Served.{any_workers, headline, not_headline, not_printed}
use Rattle.gain_cli.proofs.top.serve_words.Goals as goal

pub returns-in-Ok-clause-serves : goal.returns-in-Ok-clause-serves
returns-in-Ok-clause-serves g c =
    served_of (Some c.in-Ok.request) (gain_request (bytes_of c.args.words.now)) c.in-Ok.ensures.asked c.serve_request-status.ensures.serves

pub returns-in-Ok-clause-headline : goal.returns-in-Ok-clause-headline
returns-in-Ok-clause-headline g c =
    let of = c.in-Ok.ensures in
    headline (bytes_of c.args.words.now) _ _ c.serve_request-status.result c.timed_runs_keep_the_law.ensures c.in-Ok.request of.asked of.fit of.profile of.few (g.F.Files.held c.args.files.now)
    (served_of (Some c.in-Ok.request) (gain_request (bytes_of c.args.words.now)) of.asked c.serve_request-status.ensures.serves).text

pub returns-in-Ok-clause-workers : goal.returns-in-Ok-clause-workers
returns-in-Ok-clause-workers g c =
    any_workers (bytes_of c.args.words.now) _ _ c.serve_request-status.result (g.F.Files.held c.args.files.now)
    (served_of (Some c.in-Ok.request) (gain_request (bytes_of c.args.words.now)) c.in-Ok.ensures.asked c.serve_request-status.ensures.serves).text

-- what is served of words that make no request
pub returns-in-Err-Usage-clause-serves : goal.returns-in-Err-Usage-clause-serves
returns-in-Err-Usage-clause-serves g c =
    let told = g.F.Files.held c.args.files.now in
    let faults = g.F.Files.faults c.args.files.now in
    let none : gain_request (bytes_of c.args.words.now) ≡ None = subst (λ (e : WordsError). Answers (gain_request (bytes_of c.args.words.now)) (Err e)) c.in-Err-Usage.field-0-is c.in-Err-Usage.ensures.asked in
    served_of None (gain_request (bytes_of c.args.words.now)) none
    (serves (gain_program None) status_in text_in fault_status fault_line shared_fault told faults faults _ _ _ _ _ _ _ _ _
    (omega arith) step_is_fault (omega arith) (Err (File Usage)) (usage_judged told faults faults refl)
    (record { same_status = c.tell.ensures.status; same = refl; line = c.tell.ensures.line }))

-- and of words for which there was no memory
pub returns-in-Err-Memory-clause-serves : goal.returns-in-Err-Memory-clause-serves
returns-in-Err-Memory-clause-serves g c =
    let told = g.F.Files.held c.args.files.now in
    let faults = g.F.Files.faults c.args.files.now in
    let request = gain_request (bytes_of c.args.words.now) in
    serves (gain_program request) status_in text_in fault_status fault_line shared_fault told faults faults _ _ _ _ _ _ _ _ _
    (omega arith) step_is_fault (omega arith) (Err (File Memory)) (lack_judged told faults faults request refl)
    (record { same_status = c.tell-in-Err-Memory.ensures.status; same = refl; line = c.tell-in-Err-Memory.ensures.line })

pub returns-in-Err-Usage-clause-headline : goal.returns-in-Err-Usage-clause-headline
returns-in-Err-Usage-clause-headline g c =
    not_headline (bytes_of c.args.words.now) (g.F.Files.held c.args.files.now) _ _ c.tell.result
    (subst (λ n. 2 ≤ n) (sym c.tell.ensures.status) (omega arith))

pub returns-in-Err-Memory-clause-headline : goal.returns-in-Err-Memory-clause-headline
returns-in-Err-Memory-clause-headline g c =
    not_headline (bytes_of c.args.words.now) (g.F.Files.held c.args.files.now) _ _ c.tell-in-Err-Memory.result
    (subst (λ n. 2 ≤ n) (sym c.tell-in-Err-Memory.ensures.status) (omega arith))

pub returns-in-Err-Usage-clause-workers : goal.returns-in-Err-Usage-clause-workers
returns-in-Err-Usage-clause-workers g c =
    not_printed (bytes_of c.args.words.now) (g.F.Files.held c.args.files.now) _ _ c.tell.result
    (subst (λ n. 2 ≤ n) (sym c.tell.ensures.status) (omega arith))

pub returns-in-Err-Memory-clause-workers : goal.returns-in-Err-Memory-clause-workers
returns-in-Err-Memory-clause-workers g c =
    not_printed (bytes_of c.args.words.now) (g.F.Files.held c.args.files.now) _ _ c.tell-in-Err-Memory.result
    (subst (λ n. 2 ≤ n) (sym c.tell-in-Err-Memory.ensures.status) (omega arith))
