use Rattle.std.proofs.Common.{sym, subst, IfSome, Option}
use Rattle.coz_types.specs.declared.record.Summary.{Summary}
use Rattle.causal_curves.specs.Measured.{IsMeasured}
use Rattle.causal_curves.proofs.Ranks.{found}
use Rattle.average_steps.proofs.paces.first_pace.Goals as goal

pub pace_or-requires : goal.pace_or-requires
pace_or-requires c = subst (λ (run : Option Summary). IfSome run (IsMeasured c.args.point)) (sym c.first_run.ensures) (found (IsMeasured c.args.point) _ c.args.profile.now.summaries c.requires)
