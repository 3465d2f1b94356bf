use Rattle.std.proofs.Common.{◌≡◌, subst}
use Rattle.coz_types.specs.declared.ending.Ending.{Ending}
use Rattle.machines.specs.Guest.{Experiment}
use Rattle.machines.specs.Delayed.{Delayed}
use Rattle.machines.specs.Records.{record_of}
use Rattle.machines.specs.Standing.{delayed_record}
use Rattle.timed_guest.specs.Guest.{Timed}
use Rattle.run_engine.specs.Seen.{Seen}
use Rattle.run_subject.specs.Subjects.{experiment_on}
use Rattle.hot_lines.specs.HotRun.{IsLeftBy, plain_run}
use Rattle.hot_lines.proofs.Leaving.{all_is, ending_of, experiment_is, none_is, of_ok, seen_is, text_is, whole_is, whole_run}
use Rattle.hot_lines.proofs.run.hot_run.Goals as goal

pub returns-clause-ending : goal.returns-clause-ending
returns-clause-ending c =
    let image = c.args.subject.now.image.now in
    let index = c.args.subject.now.index.now in
    let points = c.args.subject.now.points.now in
    let timing = c.args.subject.now.timing in
    let input = c.args.subject.now.input.now in
    let budget = c.args.budget in
    let old : Seen (Delayed Timed) = c.in_ok-counted.counted in
    let seen : Seen (Delayed Timed) = c.run-ending.new.self in
    let e : Ending = c.run-ending.result in
    let x : Experiment Timed = plain_run (experiment_on c.args.subject.now) budget in
    let is : seen ≡ whole_run image index points timing input budget =
    seen_is image index points timing input budget old seen c.usual-choice.result c.usual-choice.ensures.choice c.in_ok-counted.ensures c.run-ending.ensures.last c.run-ending.ensures.rest in
    let recorded : record_of x seen.state e ≡ delayed_record x =
    subst (λ (y : Experiment Timed). record_of y seen.state e ≡ delayed_record y)
    (experiment_is image index points timing input budget old c.usual-choice.result c.usual-choice.ensures.choice c.in_ok-counted.ensures) c.run-ending.ensures.record in
    of_ok c.hot_of-run.result (IsLeftBy seen e c.count.result c.args.top) _ c.hot_of-run.ensures
    (λ run left. ending_of image index points timing input budget seen is e recorded c.count.result c.args.top run left)

pub returns-clause-text : goal.returns-clause-text
returns-clause-text c =
    let image = c.args.subject.now.image.now in
    let index = c.args.subject.now.index.now in
    let points = c.args.subject.now.points.now in
    let timing = c.args.subject.now.timing in
    let input = c.args.subject.now.input.now in
    let budget = c.args.budget in
    let old : Seen (Delayed Timed) = c.in_ok-counted.counted in
    let seen : Seen (Delayed Timed) = c.run-ending.new.self in
    let e : Ending = c.run-ending.result in
    let x : Experiment Timed = plain_run (experiment_on c.args.subject.now) budget in
    let is : seen ≡ whole_run image index points timing input budget =
    seen_is image index points timing input budget old seen c.usual-choice.result c.usual-choice.ensures.choice c.in_ok-counted.ensures c.run-ending.ensures.last c.run-ending.ensures.rest in
    let recorded : record_of x seen.state e ≡ delayed_record x =
    subst (λ (y : Experiment Timed). record_of y seen.state e ≡ delayed_record y)
    (experiment_is image index points timing input budget old c.usual-choice.result c.usual-choice.ensures.choice c.in_ok-counted.ensures) c.run-ending.ensures.record in
    of_ok c.hot_of-run.result (IsLeftBy seen e c.count.result c.args.top) _ c.hot_of-run.ensures
    (λ run left names. text_is image index points timing input budget seen is e recorded names c.count.result c.args.top run c.count.ensures left)

pub returns-clause-whole : goal.returns-clause-whole
returns-clause-whole c =
    let image = c.args.subject.now.image.now in
    let index = c.args.subject.now.index.now in
    let points = c.args.subject.now.points.now in
    let timing = c.args.subject.now.timing in
    let input = c.args.subject.now.input.now in
    let budget = c.args.budget in
    let old : Seen (Delayed Timed) = c.in_ok-counted.counted in
    let seen : Seen (Delayed Timed) = c.run-ending.new.self in
    let e : Ending = c.run-ending.result in
    let x : Experiment Timed = plain_run (experiment_on c.args.subject.now) budget in
    let is : seen ≡ whole_run image index points timing input budget =
    seen_is image index points timing input budget old seen c.usual-choice.result c.usual-choice.ensures.choice c.in_ok-counted.ensures c.run-ending.ensures.last c.run-ending.ensures.rest in
    let recorded : record_of x seen.state e ≡ delayed_record x =
    subst (λ (y : Experiment Timed). record_of y seen.state e ≡ delayed_record y)
    (experiment_is image index points timing input budget old c.usual-choice.result c.usual-choice.ensures.choice c.in_ok-counted.ensures) c.run-ending.ensures.record in
    of_ok c.hot_of-run.result (IsLeftBy seen e c.count.result c.args.top) _ c.hot_of-run.ensures
    (λ run left. (
      none_is image index points timing input budget seen is e recorded c.count.result c.args.top run left,
      all_is image index points timing input budget seen is e recorded c.count.result c.args.top run left,
      whole_is image index points timing input budget seen is e recorded c.count.result c.args.top run left,
    ))
