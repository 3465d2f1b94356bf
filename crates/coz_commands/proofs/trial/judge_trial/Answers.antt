use Rattle.std.proofs.Common.{◌≡◌, List, ℕ, ap, subst, ◌∙◌, []}
use Rattle.work_gen.specs.Text.{Source, generated, view}
use Rattle.coz_commands.specs.Answer.{IsOfTrial}
use Rattle.coz_commands.specs.Trial.{IsTrialFile}
use Rattle.coz_commands.specs.Verdict.{Verdict, file_verdict, trial_judging}
use Rattle.coz_commands.proofs.Trials.{file_verdict_is}
use Rattle.coz_commands.proofs.trial.judge_trial.Goals as goal

pub returns : goal.returns
returns g c =
    let asked = c.args.request.now in
    let source = view c.in_ok-source.source in
    let file = c.in_ok-file.file.items in
    let is : source ≡ generated asked.seed asked.size = c.in_ok-source.ensures.text in
    let of_file : IsTrialFile (generated asked.seed asked.size) file = subst (λ (s : Source). IsTrialFile s file) is c.in_ok-file.ensures.file in
    let same = ap (λ (f : List ℕ). file_verdict (trial_judging source) f []) c.deref.ensures.value ∙ ap (λ (s : Source). file_verdict (trial_judging s) file []) is ∙ file_verdict_is asked.seed asked.size file of_file in
    subst (λ (v : Verdict). IsOfTrial v c.file_answer.result) same c.file_answer.ensures
