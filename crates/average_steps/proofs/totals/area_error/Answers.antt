use Rattle.std.proofs.Common.{arith, refl, not}
use Rattle.std.proofs.lemmas.List.Filters.{length-filter_both}
use Rattle.average_steps.specs.declared.average_step.AverageStep.{AverageStep}
use Rattle.average_steps.specs.Steps.{is_faster}
use Rattle.average_steps.proofs.totals.area_error.Goals as goal

pub variance_of-requires-clause-parts : goal.variance_of-requires-clause-parts
variance_of-requires-clause-parts c = omega (arith, c.count_faster-parts.ensures, c.requires.few, length-filter_both is_faster (λ (s : AverageStep). not (is_faster s)) (λ s. refl) c.args.steps.now)
