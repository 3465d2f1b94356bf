use Rattle.std.proofs.Common.{◌∙◌, ℕ, List, ap₂}
use Rattle.coz_types.specs.declared.record.Summary.{Summary}
use Rattle.run_summary.specs.Summaries.{relabelled}
use Rattle.run_summary.proofs.summaries.relabelled.Goals as goal

pub returns : goal.returns
returns c =
    let a = c.args in
    let made : List ℕ → List ℕ → Summary =
    λ label counts. record (relabelled label a.speedup a.starts a.summary.now) { counts = counts } in
    ap₂ made c.in_ok-label.ensures (c.new.ensures ∙ c.in_ok-counts.ensures.items ∙ c.as_slice.ensures)
