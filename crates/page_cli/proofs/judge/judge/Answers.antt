use Rattle.std.proofs.Common.{◌≡◌, List, ℕ, Option, IfOk, subst}
use Rattle.page_cli.specs.Verdict.{book_of, bytes_of, file_verdict}
use Rattle.page_words.specs.Words.{Request, asked_of}
use Rattle.page_cli.specs.declared.judge.Ranked.{Ranked}
use Rattle.page_cli.specs.Page.{page_curves}
use Rattle.page_values.specs.Sources.{Answers}
use Rattle.page_cli.specs.Answer.{Suits, IsMemory, verdict_of}
use Rattle.page_cli.proofs.Judged.{curves_are}
use Rattle.page_cli.proofs.Settled.{settled}
use Rattle.page_cli.proofs.judge.judge.Goals as goal

pub returns-clause-fault_of_request : goal.returns-clause-fault_of_request
returns-clause-fault_of_request g c = subst (λ (q : Option Request). Suits q c.rank_timed.result) c.in-Some.ensures c.rank_timed.ensures.fault_of_request

pub returns-clause-ranked : goal.returns-clause-ranked
returns-clause-ranked g c =
    let asked = asked_of c.in-Some.asked in
    curves_are (g.F.Files.held c.args.files.now) asked (g.F.Files.faults c.args.files.now) (g.F.Files.faults c.read_file.new.files) c.in_ok-file.file.items c.rank_timed.result
    c.in_ok-file.ensures.verdict
    c.rank_timed.ensures.fault_of_request
    (subst (λ (bytes : List ℕ). IfOk c.rank_timed.result (λ (r : Ranked). r.curves ≡ page_curves asked.file (book_of bytes))) c.deref.ensures.value c.rank_timed.ensures.ranked)

pub returns-clause-verdict : goal.returns-clause-verdict
returns-clause-verdict g c =
    let asked = asked_of c.in-Some.asked in
    settled (g.F.Files.held c.args.files.now) (bytes_of c.args.words.now) asked (g.F.Files.faults c.args.files.now) (g.F.Files.faults c.read_file.new.files) c.in_ok-file.file.items c.rank_timed.result
    c.in-Some.ensures
    c.in_ok-file.ensures.verdict
    (subst (λ (bytes : List ℕ). (IsMemory c.rank_timed.result → ⊥) → (answers : Answers) → verdict_of answers c.rank_timed.result ≡ file_verdict asked answers bytes) c.deref.ensures.value c.rank_timed.ensures.verdict)
