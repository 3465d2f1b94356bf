use Rattle.std.proofs.Common.{◌≡◌, true, arith, sym}
use Rattle.std.specs.Io.KnownBytes.{Appends}
use Rattle.coz_files.specs.Verdict.{bytes_of}
use Rattle.coz_serve.specs.Info.{info_in}
use Rattle.coz_serve.proofs.Informed.{not_both}
use Rattle.coz_serve.proofs.Served.{serves}
use Rattle.elf_load.specs.Loaded.{load_answer}
use Rattle.function_lines.specs.ByFunction.{IsByFunction, ReadsWithoutFault}
use Rattle.function_lines.specs.SameProgram.{is_same_program}
use Rattle.functions_cli.specs.Answer.{fault_line, fault_status, shared_fault}
use Rattle.functions_cli.specs.Faults.{functions_is_fault}
use Rattle.functions_cli.specs.Program.{functions_program, written_status, written_text}
use Rattle.functions_cli.proofs.Served.{writes_both, writes_has}
use Rattle.functions_cli.proofs.Informed.{informs_in}
use Rattle.functions_cli.proofs.top.serve_functions.Goals as goal

pub returns-in-None-clause-serves : goal.returns-in-None-clause-serves
returns-in-None-clause-serves g c = λ none.
    serves (functions_program (bytes_of c.args.words.now)) written_status written_text fault_status fault_line shared_fault (g.F.Files.held c.args.files.now) _ _ _ _ _ _ _ _ _ _ _
    (omega arith) functions_is_fault (omega arith) c.answer_of-answer.result c.answer_of-answer.ensures.judges c.serve_with-status.ensures.written

pub returns-in-None-clause-same_program : goal.returns-in-None-clause-same_program
returns-in-None-clause-same_program g c = λ none.
    let did = serves (functions_program (bytes_of c.args.words.now)) written_status written_text fault_status fault_line shared_fault (g.F.Files.held c.args.files.now) _ _ _ _ _ _ _ _ _ _ _
    (omega arith) functions_is_fault (omega arith) c.answer_of-answer.result c.answer_of-answer.ensures.judges c.serve_with-status.ensures.written in
    writes_has (bytes_of c.args.words.now) (g.F.Files.held c.args.files.now) c.serve_with-status.result
    (λ text. Appends (g.O.Sink.holds c.args.out.now) (g.O.Sink.holds c.serve_with-status.new.out) text)
    (λ image index marks text. is_same_program image (load_answer text) ≡ true)
    did.text (λ image index marks text is. is.same_program)

pub returns-in-None-clause-lines : goal.returns-in-None-clause-lines
returns-in-None-clause-lines g c = λ none.
    let did = serves (functions_program (bytes_of c.args.words.now)) written_status written_text fault_status fault_line shared_fault (g.F.Files.held c.args.files.now) _ _ _ _ _ _ _ _ _ _ _
    (omega arith) functions_is_fault (omega arith) c.answer_of-answer.result c.answer_of-answer.ensures.judges c.serve_with-status.ensures.written in
    writes_both (bytes_of c.args.words.now) (g.F.Files.held c.args.files.now) c.serve_with-status.result
    (λ text. Appends (g.O.Sink.holds c.args.out.now) (g.O.Sink.holds c.serve_with-status.new.out) text)
    (λ image index marks text. IsByFunction image index marks text) (λ text. ReadsWithoutFault text)
    did.text (λ image index marks text is. is.lines) (λ image index marks text is. is.reads)

pub returns-in-Some-clause-info : goal.returns-in-Some-clause-info
returns-in-Some-clause-info g c = informs_in (info_in (bytes_of c.args.words.now)) c.in-Some.info c.in-Some.ensures c.help_text.ensures c.inform.ensures.informs

pub returns-in-Some-clause-serves : goal.returns-in-Some-clause-serves
returns-in-Some-clause-serves g c = λ none. absurd (not_both (bytes_of c.args.words.now) c.in-Some.info (sym c.in-Some.ensures) none)

pub returns-in-Some-clause-same_program : goal.returns-in-Some-clause-same_program
returns-in-Some-clause-same_program g c = λ none. absurd (not_both (bytes_of c.args.words.now) c.in-Some.info (sym c.in-Some.ensures) none)

pub returns-in-Some-clause-lines : goal.returns-in-Some-clause-lines
returns-in-Some-clause-lines g c = λ none. absurd (not_both (bytes_of c.args.words.now) c.in-Some.info (sym c.in-Some.ensures) none)
