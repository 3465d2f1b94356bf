use Rattle.std.proofs.Common.{sym, subst}
use Rattle.run_engine.specs.declared.choice.Setting.{Setting}
use Rattle.shortened_run.specs.ShortenedRun.{AreUndelayed, IsShort}
use Rattle.shortened_run.proofs.Law.{none_undelayed}
use Rattle.shortened_run.proofs.Short.on.Goals as goal

pub invariant_of-result : goal.invariant_of-result
invariant_of-result c =
    subst (λ (setting : Setting). IsShort c.args.image.now c.args.input.now setting c.in_ok-engine.engine) (sym c.in_ok-marked.ensures)
    (record {
      valid = record { choice = c.requires.choice; machine = c.requires.machine };
      reached = c.in_ok-engine.ensures.reached;
      undelayed = subst AreUndelayed (sym c.in_ok-engine.ensures.kept) none_undelayed;
    })
