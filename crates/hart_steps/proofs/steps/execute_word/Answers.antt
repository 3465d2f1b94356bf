use Rattle.std.proofs.Common.{sym, ◌∙◌}
use Rattle.rv_execute.specs.Execution.{setting}
use Rattle.hart_steps.proofs.Stepped.{step-executed, step-illegal}
use Rattle.hart_steps.proofs.steps.execute_word.Goals as goal

pub returns-in-Some : goal.returns-in-Some
returns-in-Some c =
    let s = setting c.args.state.now c.args.memory.now c.args.reservations.now in
    c.execute.ensures.effect ∙ step-executed c.args.number.0 s c.args.word.now.raw c.in-Some.instr c.requires.word.fetched (sym c.requires.word.is.instr ∙ c.in-Some.is)

pub returns-in-None : goal.returns-in-None
returns-in-None c =
    let s = setting c.args.state.now c.args.memory.now c.args.reservations.now in
    step-illegal c.args.number.0 s c.args.word.now.raw c.requires.word.fetched (sym c.requires.word.is.instr ∙ c.in-None.is)
