use Rattle.std.proofs.Common.{ℕ, take, ap, ◌∙◌}
use Rattle.std.proofs.lemmas.List.{take_min}
use Rattle.page_values.proofs.table_lines.shown.Goals as goal

pub returns : goal.returns
returns c = let curves = c.args.curves.now in ap (λ (n : ℕ). take n curves) c.min.ensures ∙ take_min c.args.most curves
