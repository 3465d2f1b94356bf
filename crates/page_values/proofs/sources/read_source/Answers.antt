use Rattle.std.proofs.Common.{rules, refl}
use Rattle.page_values.proofs.sources.read_source.Goals as goal

pub returns-then-is_some-clause-once : goal.returns-then-is_some-clause-once
returns-then-is_some-clause-once g c = λ there. (refl, refl)

pub returns-clause-once : goal.returns-clause-once
returns-clause-once g c = λ there. absurd (search (rules, there))
