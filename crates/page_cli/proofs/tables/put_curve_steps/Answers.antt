use Rattle.std.proofs.Common.{List, flat_map, ap₂}
use Rattle.coz_types.specs.Labels.{Text}
use Rattle.profile_book.proofs.Gathering.{gathers_as}
use Rattle.causal_curves.specs.declared.curve.CurveStep.{CurveStep}
use Rattle.page_cli.specs.Page.{step_text}
use Rattle.page_cli.proofs.tables.put_curve_steps.Goals as goal

pub returns : goal.returns
returns g c = gathers_as (ap₂ (λ (label : Text) (steps : List CurveStep). flat_map (step_text label) steps) c.bytes.ensures c.as_slice.ensures) c.put_steps.ensures
