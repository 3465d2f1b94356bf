use Rattle.std.proofs.Common.{◌≡◌, ◌≤◌, true, ap, subst, sym, refl}
use Rattle.coz_words.specs.Request.{greatest_budget, has_option, is_runner, size_name, workers_name}
use Rattle.coz_words.specs.declared.command.Command.{Command}
use Rattle.coz_commands.specs.Verdict.{trial_verdict}
use Rattle.coz_cli.proofs.Names.{named, version}
use Rattle.coz_cli.proofs.Trials.{trial_no_read, trial_settled, trial_suits}
use Rattle.coz_cli.proofs.answer.judge.Goals as goal

pub judge_source-requires : goal.judge_source-requires
judge_source-requires g c = record { named = named c.args.request.now c.requires; version = version c.args.request.now c.requires c.in-Asm.is }

pub judge_trial-requires-clause-least : goal.judge_trial-requires-clause-least
judge_trial-requires-clause-least g c = λ lifetimes within. c.requires.some_size (subst (λ (k : Command). has_option k size_name ≡ true) (sym c.in-Trial.is) refl)

pub judge_trial-requires-clause-some_workers : goal.judge_trial-requires-clause-some_workers
judge_trial-requires-clause-some_workers g c = λ lifetimes within. c.requires.some_workers (subst (λ (k : Command). has_option k workers_name ≡ true) (sym c.in-Trial.is) refl)

pub returns-in-Trial-clause-fault_of_request : goal.returns-in-Trial-clause-fault_of_request
returns-in-Trial-clause-fault_of_request g c = trial_suits c.args.request.now (trial_verdict c.args.request.now.seed c.args.request.now.size) c.judge_trial.result c.judge_trial.ensures

pub returns-in-Trial-clause-verdict : goal.returns-in-Trial-clause-verdict
returns-in-Trial-clause-verdict g c =
    trial_settled (g.F.Files.held c.args.files.now) c.args.request.now c.args.request.now.command (g.F.Files.faults c.args.files.now) (g.F.Files.faults c.args.files.now) c.judge_trial.result c.in-Trial.is c.judge_trial.ensures

pub returns-in-Trial-clause-read_fault_has_cause : goal.returns-in-Trial-clause-read_fault_has_cause
returns-in-Trial-clause-read_fault_has_cause g c = λ read. absurd (trial_no_read (trial_verdict c.args.request.now.seed c.args.request.now.size) c.judge_trial.result c.judge_trial.ensures read)

pub returns-in-Really-clause-verdict : goal.returns-in-Really-clause-verdict
returns-in-Really-clause-verdict g c = rw c.in-Really.is c.judge_really.ensures.verdict

pub judge_path-requires-clause-some_budget : goal.judge_path-requires-clause-some_budget
judge_path-requires-clause-some_budget g c = c.requires.some_budget (ap is_runner c.in-Path.is)

pub judge_path-requires-clause-few : goal.judge_path-requires-clause-few
judge_path-requires-clause-few g c = subst (λ (k : Command). c.args.request.now.budget ≤ greatest_budget k) c.in-Path.is c.requires.budget
