use Rattle.std.proofs.Common.{inr, ap}
use Rattle.coz_files.specs.Verdict.{refusal}
use Rattle.coz_types.specs.Labels.{Text}
use Rattle.join_parts.specs.Verdict.{parts_line}
use Rattle.join_parts.proofs.parts.joined_on.Goals as goal

pub returns-in-Err-Unlike-clause-joined : goal.returns-in-Err-Unlike-clause-joined
returns-in-Err-Unlike-clause-joined c = rw c.in-Err-Unlike.field-0-is (λ _. inr (c.in-Err-Unlike.fault, rw c.in-Err-Unlike.field-0-is at c.in-Err-Unlike.ensures.join, ap (λ (t : Text). refusal 14 (parts_line (c.in-Err-Unlike.fault).kind t)) (rw c.in-Err-Unlike.field-0-is at c.path_at-path.ensures)))
