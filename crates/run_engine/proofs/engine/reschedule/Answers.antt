use Rattle.run_engine.proofs.engine.reschedule.Goals as goal

pub returns-in-Sleeps : goal.returns-in-Sleeps
returns-in-Sleeps c = rw c.in-Sleeps.is c.rekey.ensures
