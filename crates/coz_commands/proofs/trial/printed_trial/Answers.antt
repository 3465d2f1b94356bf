use Rattle.std.proofs.Common.{ℕ, List, [], ap, ap₂, ◌∙◌}
use Rattle.command_texts.specs.TrialText.{trial_lines}
use Rattle.work_gen.specs.Text.{view}
use Rattle.coz_commands.specs.Verdict.{Verdict}
use Rattle.coz_commands.proofs.trial.printed_trial.Goals as goal

pub returns : goal.returns
returns c =
    let verdict : ℕ → List ℕ → Verdict = λ status text. record { status = status; text = text; line = [] } in
    let text = c.in_ok-text.ensures ∙ ap (λ runs. trial_lines (view c.args.source.now) c.args.index.now.lines runs c.args.profile.now) c.requires.whole in
    record {
      verdict = ap₂ verdict c.profile_status.ensures.status text;
      low = c.profile_status.ensures.low;
      memory = tt;
    }
