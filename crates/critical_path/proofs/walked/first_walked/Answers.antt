use Rattle.std.proofs.Common.{ℕ, ◌<◌, ◌==◌, ◌∙◌, if◌then◌else◌, List, length, ap, arith}
use Rattle.path_causes.specs.declared.cause.Cause.{Cause}
use Rattle.path_causes.specs.Causes.{no_cause, cause_at}
use Rattle.critical_path.proofs.Begun.{set_at, none_at}
use Rattle.critical_path.proofs.walked.first_walked.Goals as goal

pub returns-clause-causes : goal.returns-clause-causes
returns-clause-causes c = λ k.
    let causes : List Cause = c.in_ok-causes.causes.items in
    let below : 0 < length causes = omega (arith, c.in_ok-causes.ensures.len, c.in_ok-causes.causes.ok.0) in
    let first : Cause = record no_cause { cost = c.ticks_from.result } in
    set_at causes 0 k first below
    ∙ ap (λ (d : Cause). if k == 0 then first else d) (ap (λ (cs : List Cause). cause_at cs k) (c.in_ok-causes.ensures.items_if_clones_equal (λ y is. is)) ∙ none_at 256 k)
    ∙ ap (λ (t : ℕ). if k == 0 then record no_cause { cost = t } else no_cause) c.ticks_from.ensures
