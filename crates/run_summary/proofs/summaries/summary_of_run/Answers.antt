use Rattle.std.proofs.Common.{◌∙◌, ℕ, List, length, map, ap, ap₂}
use Rattle.coz_types.specs.declared.record.Summary.{Summary}
use Rattle.machines.specs.KeptVisits.{net_of}
use Rattle.run_summary.specs.Summaries.{kept}
use Rattle.run_summary.proofs.summaries.summary_of_run.Goals as goal

pub returns : goal.returns
returns c =
    let a = c.args in
    let made : List ℕ → List ℕ → List ℕ → Summary =
    λ label counts visits. record (kept label a.speedup a.outcome (length a.output.now) a.digest a.points (map net_of a.visits.now)) { counts = counts; visits = record { bytes = visits } } in
    ap (λ label. made label c.new.result c.digest_of_visits.result.bytes) c.in_ok-selected.ensures
    ∙ ap₂ (made a.label.now) (c.new.ensures ∙ c.in_ok-counts.ensures) c.digest_of_visits.ensures
