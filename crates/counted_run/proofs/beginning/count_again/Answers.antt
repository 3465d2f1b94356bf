use Rattle.std.proofs.Common.{[], ap, ◌∙◌}
use Rattle.machines.specs.declared.Fate.{Fate}
use Rattle.machines.specs.Places.{is_among}
use Rattle.run_engine.specs.Begin.{started_by}
use Rattle.counted_run.proofs.Folding.{self_among}
use Rattle.counted_run.proofs.beginning.count_again.Goals as goal

pub count-requires-clause-made : goal.count-requires-clause-made
count-requires-clause-made c =
    let h = c.args.retired.hart.0 in
    c.requires.made h (ap (λ (f : Fate). is_among h (started_by h f [])) c.in-Goes.is ∙ self_among h [])
