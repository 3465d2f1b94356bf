use Rattle.std.proofs.Common.{◌++◌, codes, arith, sym}
use Rattle.coz_files.specs.Puts.{IsPut}
use Rattle.coz_files.specs.Verdict.{bytes_of}
use Rattle.coz_serve.proofs.Informed.{never_usage, not_both}
use Rattle.coz_serve.proofs.Served.{refused_usage, serves}
use Rattle.join_parts.specs.Answer.{fault_line, fault_status, shared_fault}
use Rattle.join_parts.specs.Faults.{join_is_fault}
use Rattle.join_parts.specs.Program.{join_program, joined_status, joined_text}
use Rattle.join_cli.proofs.Informed.{no_paths}
use Rattle.join_cli.proofs.Shards.{joins_shards, no_shards}
use Rattle.join_cli.proofs.top.serve_join.Goals as goal

pub returns-in-None-clause-serves : goal.returns-in-None-clause-serves
returns-in-None-clause-serves g c = λ none.
    serves (join_program (bytes_of c.args.words.now) (g.F.Files.held c.args.files.now)) joined_status joined_text fault_status fault_line shared_fault (g.F.Files.held c.args.files.now) _ _ _ _ _ _ _ _ _ _ _
    (omega arith) join_is_fault (omega arith) c.answer_of-answer.result c.answer_of-answer.ensures.judges c.serve_with-status.ensures.written

pub returns-in-None-clause-usage : goal.returns-in-None-clause-usage
returns-in-None-clause-usage g c =
    let words = bytes_of c.args.words.now in
    let program = join_program words (g.F.Files.held c.args.files.now) in
    let judged = c.answer_of-answer.ensures in
    let did = serves program joined_status joined_text fault_status fault_line shared_fault (g.F.Files.held c.args.files.now) _ _ _ _ _ _ _ _ _ _ _
    (omega arith) join_is_fault (omega arith) c.answer_of-answer.result judged.judges c.serve_with-status.ensures.written in (
      λ two. (sym c.in-None.ensures, did.usage two),
      λ none. refused_usage program joined_status joined_text fault_status fault_line shared_fault (g.F.Files.held c.args.files.now) 0 0 _ _ _ _ _ _ _ _ _
          join_is_fault c.answer_of-answer.result (judged.usage none.1) c.serve_with-status.ensures.written,
    )

pub returns-in-None-clause-shards : goal.returns-in-None-clause-shards
returns-in-None-clause-shards g c =
    let words = bytes_of c.args.words.now in
    let told = g.F.Files.held c.args.files.now in
    let did = serves (join_program words told) joined_status joined_text fault_status fault_line shared_fault told _ _ _ _ _ _ _ _ _ _ _
    (omega arith) join_is_fault (omega arith) c.answer_of-answer.result c.answer_of-answer.ensures.judges c.serve_with-status.ensures.written in
    joins_shards words told (λ line. IsPut g.E.Sink.holds g.E.Sink.faults c.args.err.now c.serve_with-status.new.err (line ++ codes "\n"))
    (g.O.Sink.holds c.args.out.now) (g.O.Sink.holds c.serve_with-status.new.out) c.serve_with-status.result told did.verdict did.text did.prefix
    (λ high. let told_line = did.line (omega (arith, high)) in (told_line.0, told_line.1.verdict, told_line.2))

pub returns-in-Some-clause-serves : goal.returns-in-Some-clause-serves
returns-in-Some-clause-serves g c = λ none. absurd (not_both (bytes_of c.args.words.now) c.in-Some.info (sym c.in-Some.ensures) none)

pub returns-in-Some-clause-usage : goal.returns-in-Some-clause-usage
returns-in-Some-clause-usage g c = (
  λ two. absurd (never_usage c.inform.ensures.informs two),
  λ none. absurd (not_both (bytes_of c.args.words.now) c.in-Some.info (sym c.in-Some.ensures) none.0),
)

pub returns-in-Some-clause-shards : goal.returns-in-Some-clause-shards
returns-in-Some-clause-shards g c =
    no_shards (bytes_of c.args.words.now) (g.F.Files.held c.args.files.now) _ _ _ _ (no_paths (bytes_of c.args.words.now) c.in-Some.info (sym c.in-Some.ensures))
