use Rattle.run_engine.proofs.engine.retire_due.Goals as goal

pub returns-clause-effect : goal.returns-clause-effect
returns-clause-effect c = c.retire.ensures.effect
