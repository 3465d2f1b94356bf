use Rattle.std.proofs.Common.{sym, ◌∙◌}
use Rattle.rv_execute.specs.Execution.{setting}
use Rattle.hart_steps.proofs.Stepped.{step-executed, step-illegal, step-unfetched}
use Rattle.hart_steps.proofs.steps.step_once.Goals as goal

pub returns-in-Some : goal.returns-in-Some
returns-in-Some c =
    let s = setting c.args.state.now c.args.memory.now c.args.reservations.now in
    c.execute.ensures.effect ∙ step-executed c.args.number.0 s c.in-Ok.raw c.in-Some.instr (sym c.in-Ok.ensures) (sym c.decode.ensures.table ∙ c.in-Some.is)

pub returns-in-None : goal.returns-in-None
returns-in-None c =
    let s = setting c.args.state.now c.args.memory.now c.args.reservations.now in
    step-illegal c.args.number.0 s c.in-Ok.raw (sym c.in-Ok.ensures) (sym c.decode.ensures.table ∙ c.in-None.is)

pub returns-in_default : goal.returns-in_default
returns-in_default c = step-unfetched c.args.number.0 (setting c.args.state.now c.args.memory.now c.args.reservations.now) (sym c.in_default.ensures)
