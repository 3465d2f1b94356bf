use Rattle.virtual_run.proofs.accounts.stop_retired.Goals as goal

pub returns-in-Sleeps : goal.returns-in-Sleeps
returns-in-Sleeps c = rw c.in-Sleeps.is c.start.ensures
