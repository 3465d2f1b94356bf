use Rattle.std.proofs.Common.{sym, ap}
use Rattle.page_values.specs.Labels.{html_byte}
use Rattle.page_values.proofs.label.reference_of.Goals as goal

pub returns-in-60 : goal.returns-in-60
returns-in-60 c = sym (ap html_byte c.in-60.is)
