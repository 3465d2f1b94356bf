use Rattle.std.proofs.Common.{◌∙◌, ◌<◌, [], length, map, ap, sym, arith, All}
use Rattle.std.proofs.lemmas.List.Elements.{All-same}
use Rattle.std.proofs.lemmas.Option.{get_or_from_slice_get}
use Rattle.experiment_plan.specs.ByLine.{by_line, all_pairs}
use Rattle.experiment_plan.specs.declared.experiment.Experiment.{Experiment}
use Rattle.experiment_plan.proofs.Lines.{joined_again}
use Rattle.coz_types.specs.declared.LineId.{LineId}
use Rattle.profile_pool.specs.Work.{summary_of_pair, IsLed}
use Rattle.profile_pool.proofs.Lines.{of_all, of_one_line}
use Rattle.profile_pool.proofs.claimed.WorkClaimWork.summaries.Goals as goal

pub run_pairs-requires-clause-lines : goal.run_pairs-requires-clause-lines
run_pairs-requires-clause-lines c =
    let plan = c.args.self.now.plan.now in
    let P : Experiment → Type 0 = λ pair. pair.line.0 < length c.args.self.now.subject.index.now.lines in
    of_all P (by_line plan) _ c.of_line-pairs.result.now (All-same P (all_pairs (by_line plan)) plan (joined_again plan) c.requires.work.lines) c.of_line-pairs.ensures.pairs

-- what is so of a line is so of each of its pairs
pub run_pairs-requires-clause-lead : goal.run_pairs-requires-clause-lead
run_pairs-requires-clause-lead c =
    let pairs = c.of_line-pairs.result.now in
    let one = c.of_line-pairs.ensures.one_line in
    let P : LineId → Type 0 = λ line. IsLed c.args.self.now c.take_up.new.lead line.0 in
    of_one_line P pairs one _ c.take_up.ensures.led

pub returns-in-Ok-clause-runner : goal.returns-in-Ok-clause-runner
returns-in-Ok-clause-runner c = (c.take_up.ensures.lead, c.run_pairs.ensures.machine)

pub returns-in-Ok-clause-summaries : goal.returns-in-Ok-clause-summaries
returns-in-Ok-clause-summaries c =
    c.new.ensures
    ∙ c.in-Ok.ensures.summaries
    ∙ ap (map (summary_of_pair c.args.self.now)) (sym (get_or_from_slice_get (by_line c.args.self.now.plan.now) c.args.claim c.of_line-pairs.result.now [] c.of_line-pairs.ensures.pairs))

pub returns-in-Err-clause-runner : goal.returns-in-Err-clause-runner
returns-in-Err-clause-runner c = (c.take_up.ensures.lead, c.run_pairs.ensures.machine)

pub take_up-requires-clause-line : goal.take_up-requires-clause-line
take_up-requires-clause-line c =
    let plan = c.args.self.now.plan.now in
    let P : Experiment → Type 0 = λ pair. pair.line.0 < length c.args.self.now.subject.index.now.lines in
    let each : All P c.of_line-pairs.result.now =
    of_all P (by_line plan) _ c.of_line-pairs.result.now (All-same P (all_pairs (by_line plan)) plan (joined_again plan) c.requires.work.lines) c.of_line-pairs.ensures.pairs in
    let some = c.of_line-pairs.ensures.one_line.some in
    each 0 (record { line = record { 0 = 0 }; speedup = 0 }) (omega arith)
