use Rattle.std.proofs.Common.{subst, sym, ap, ◌∙◌}
use Rattle.delay_credits.specs.Delays.{Delays}
use Rattle.run_engine.specs.declared.choice.Setting.{Setting}
use Rattle.virtual_run.specs.DelayedRun.{IsPaced}
use Rattle.virtual_run.proofs.CreditedRun.{first_made_here, first_runs_here, first_few_here, first_paced}
use Rattle.virtual_run.proofs.machine.Machine.on.Goals as goal

pub raise_harts-requires-clause-made : goal.raise_harts-requires-clause-made
raise_harts-requires-clause-made c =
    first_made_here c.args.image.now c.args.input.now (record { index = c.args.index; points = c.args.points; timing = c.args.timing; choice = c.args.choice }) c.in_ok-engine.engine (record { choice = c.requires.choice; machine = c.requires.machine }) c.in_ok-engine.ensures _ c.harts.ensures

pub raise_harts-requires-clause-run : goal.raise_harts-requires-clause-run
raise_harts-requires-clause-run c =
    first_runs_here c.args.image.now c.args.input.now (record { index = c.args.index; points = c.args.points; timing = c.args.timing; choice = c.args.choice }) c.in_ok-engine.engine (record { choice = c.requires.choice; machine = c.requires.machine }) c.in_ok-engine.ensures
    c.in_ok-credits.credits c.start.new.self _ c.in_ok-credits.ensures c.start.ensures c.harts.ensures

pub raise_harts-requires-clause-few : goal.raise_harts-requires-clause-few
raise_harts-requires-clause-few c =
    first_few_here c.args.image.now c.args.input.now (record { index = c.args.index; points = c.args.points; timing = c.args.timing; choice = c.args.choice }) c.in_ok-engine.engine (record { choice = c.requires.choice; machine = c.requires.machine }) c.in_ok-engine.ensures
    c.start.new.self _ (ap (λ (d : Delays). d.raised) c.start.ensures ∙ ap (λ (d : Delays). d.raised) c.in_ok-credits.ensures) c.harts.ensures

pub invariant_of-result : goal.invariant_of-result
invariant_of-result c =
    subst (λ (setting : Setting). IsPaced c.args.image.now c.args.input.now setting c.in_ok-engine.engine c.raise_harts.new.credits 0) (sym c.in_ok-marked.ensures)
    (first_paced c.args.image.now c.args.input.now (record { index = c.args.index; points = c.args.points; timing = c.args.timing; choice = c.args.choice }) c.in_ok-engine.engine (record { choice = c.requires.choice; machine = c.requires.machine }) c.in_ok-engine.ensures
    c.in_ok-credits.credits c.start.new.self c.raise_harts.new.credits _ c.in_ok-credits.ensures c.start.ensures c.harts.ensures c.raise_harts.ensures)
