use Rattle.page_values.proofs.Escapes.{label_plain}
use Rattle.page_values.proofs.label.no_markup.Goals as goal

pub returns : goal.returns
returns c = label_plain
