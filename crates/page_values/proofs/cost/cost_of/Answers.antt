use Rattle.std.proofs.Common.{Option, ap₂, ◌∙◌}
use Rattle.coz_types.specs.declared.record.Summary.{Summary}
use Rattle.page_values.specs.Cost.{cost_between}
use Rattle.page_values.proofs.cost.cost_of.Goals as goal

pub returns : goal.returns
returns c = c.cost_between.ensures ∙ ap₂ (λ (base sped : Option Summary). cost_between base sped) c.base_in-base.ensures c.sped_in.ensures
