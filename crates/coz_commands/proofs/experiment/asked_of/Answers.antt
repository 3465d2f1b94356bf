use Rattle.std.proofs.Common.{◌≡◌, ◌∙◌, ap, ℕ, List, Option, [], option_map}
use Rattle.std.proofs.lemmas.Result.{err_from_is_err_and}
use Rattle.machines.specs.Guest.{Experiment}
use Rattle.guest_calls.specs.Guest.{Guest}
use Rattle.line_index.specs.Lines.{Line}
use Rattle.experiment_plan.specs.Selected.{id_of}
use Rattle.coz_words.specs.Said.{Text}
use Rattle.coz_words.specs.declared.request.Request.{Request}
use Rattle.run_inputs.specs.Experiment.{Runs, choice_of, runs_in}
use Rattle.program_load.specs.Selection.{line_named, lines_named}
use Rattle.coz_commands.specs.Verdict.{Verdict, asked_verdict, named_verdict, points_verdict}
use Rattle.coz_commands.proofs.Budgets.{few_budget}
use Rattle.run_inputs.proofs.Indexed.{experiment_is}
use Rattle.coz_commands.proofs.experiment.asked_of.Goals as goal

module _ (asked : Request) (print : Experiment Guest → Verdict) (lines : List Line) (runs : Runs) where
  -- of the run with this line and these points
  abbrev of_points : Option ℕ → List ℕ → Verdict
  of_points selected points = print (runs (choice_of selected asked.speedup asked.budget) points)

  -- of the points that a list names
  abbrev of_list : Option Text → Option ℕ → Verdict
  of_list list selected = named_verdict (lines_named lines [] list) (λ named. points_verdict named (of_points selected))

  -- of the line that a text names
  abbrev of_line : Option Text → Verdict
  of_line line = named_verdict (line_named lines line) (of_list asked.progress)

  list_is : (selected : Option ℕ) (list : Option Text) → list ≡ asked.progress → of_list list selected ≡ of_list asked.progress selected
  list_is selected list is = ap (λ (list : Option Text). of_list list selected) is

  line_is : (line : Option Text) → line ≡ asked.line → of_line line ≡ asked_verdict asked print lines runs
  line_is line is = ap of_line is

pub usual-choice-requires-clause-few : goal.usual-choice-requires-clause-few
usual-choice-requires-clause-few c = few_budget c.args.request.now c.requires.fit

pub returns-clause-verdict : goal.returns-clause-verdict
returns-clause-verdict c = λ other image input print.
    let index = c.args.index.now in
    let asked = c.args.request.now in
    let runs = runs_in image index input in
    let selected = option_map id_of c.in_ok-selected.selected in
    let points = c.in_ok-points.points in
    ap print (experiment_is image index input points points.lines c.usual-choice.result (choice_of selected asked.speedup asked.budget) c.in_ok-points.ensures.points c.usual-choice.ensures.choice)
    ∙ c.in_ok-points.ensures.verdict (λ never. never) (of_points asked print index.lines runs selected)
    ∙ list_is asked print index.lines runs selected _ c.bytes_of-2.ensures
    ∙ c.in_ok-selected.ensures.verdict (of_list asked print index.lines runs asked.progress)
    ∙ line_is asked print index.lines runs _ c.bytes_of.ensures

pub returns-in_err-points-clause-verdict : goal.returns-in_err-points-clause-verdict
returns-in_err-points-clause-verdict c =
    let index = c.args.index.now in
    let asked = c.args.request.now in
    let selected = option_map id_of c.in_ok-selected.selected in
    let gives = err_from_is_err_and c.from_residual-in_err-points.result c.from_residual-in_err-points.ensures.1 in
    rw (gives.1, gives.2)
    (λ other image input print.
    let runs = runs_in image index input in
    c.in_err-points.ensures.verdict other (of_points asked print index.lines runs selected)
    ∙ list_is asked print index.lines runs selected _ c.bytes_of-2.ensures
    ∙ c.in_ok-selected.ensures.verdict (of_list asked print index.lines runs asked.progress)
    ∙ line_is asked print index.lines runs _ c.bytes_of.ensures)

pub returns-in_err-selected-clause-verdict : goal.returns-in_err-selected-clause-verdict
returns-in_err-selected-clause-verdict c =
    let index = c.args.index.now in
    let asked = c.args.request.now in
    let gives = err_from_is_err_and c.from_residual.result c.from_residual.ensures.1 in
    rw (gives.1, gives.2)
    (λ other image input print.
    let runs = runs_in image index input in
    c.in_err-selected.ensures.verdict (of_list asked print index.lines runs asked.progress)
    ∙ line_is asked print index.lines runs _ c.bytes_of.ensures)
