use Rattle.std.proofs.Common.{sym, subst, IfSome, Option}
use Rattle.coz_types.specs.declared.record.Summary.{Summary}
use Rattle.causal_curves.specs.Measured.{IsMeasured}
use Rattle.causal_curves.proofs.Ranks.{found}
use Rattle.causal_curves.proofs.steps.curve.Goals as goal

pub steps_of-requires-clause-base : goal.steps_of-requires-clause-base
steps_of-requires-clause-base c = subst (λ (base : Option Summary). IfSome base (IsMeasured c.args.point)) (sym c.base_of.ensures) (found (IsMeasured c.args.point) _ c.args.group.now c.requires.group)
