use Rattle.std.proofs.Common.{◌≡◌, ◌≤◌, None, subst, sym}
use Rattle.run_engine.specs.Run.{IsChoice}
use Rattle.run_engine.specs.declared.choice.Choice.{Choice}
use Rattle.critical_path.specs.Walk.{plain_choice}
use Rattle.run_inputs.specs.Experiment.{choice_of}
use Rattle.coz_commands.proofs.Paths.{both_ok, path_is}
use Rattle.coz_commands.proofs.path.found_path.Goals as goal

pub walk-requires-clause-choice : goal.walk-requires-clause-choice
walk-requires-clause-choice c =
    let is : c.usual-limits.result ≡ choice_of None 0 c.args.budget = c.usual-limits.ensures.choice in
    subst (λ (o : Choice). IsChoice (plain_choice o.budget o.output_limit o.layout)) (sym is) (subst IsChoice is c.usual-limits.ensures.within)

pub walk-requires-clause-few : goal.walk-requires-clause-few
walk-requires-clause-few c =
    let is : c.usual-limits.result ≡ choice_of None 0 c.args.budget = c.usual-limits.ensures.choice in
    subst (λ (o : Choice). o.budget ≤ 4000000) (sym is) c.requires.few

pub returns : goal.returns
returns c =
    let trace = c.in_ok-trace.ensures in
    both_ok c.path_of.result _ _ _
    (λ path ending text. path_is c.args.program.now.image c.args.program.now.index c.args.input.now c.args.budget c.usual-limits.result c.usual-limits.ensures.choice c.in_ok-trace.trace path trace.events trace.ending trace.many trace.whole ending text)
    c.path_of.ensures.ending c.path_of.ensures.text
