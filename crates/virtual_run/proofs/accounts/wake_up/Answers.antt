use Rattle.std.proofs.Common.{sym, subst}
use Rattle.delay_credits.specs.Delays.{Delays}
use Rattle.virtual_run.specs.Credited.{AllRun}
use Rattle.virtual_run.proofs.accounts.wake_up.Goals as goal

pub raise_selected-requires-clause-run : goal.raise_selected-requires-clause-run
raise_selected-requires-clause-run c = subst (λ (x : Delays). AllRun x c.args.engine.now.selected) (sym c.start.ensures) c.requires.run
