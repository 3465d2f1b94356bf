use Rattle.std.proofs.Common.{List, ℕ, [], ◌∷◌, ◌++◌, ap, ◌∙◌}
use Rattle.coz_commands.proofs.Trials.{label_one}
use Rattle.coz_commands.proofs.trial.only_label.Goals as goal

pub returns : goal.returns
returns c =
    let copy : List ℕ = c.in_ok-copy.field-0 in
    let text = c.in_ok-copy.ensures ∙ c.bytes.ensures ∙ label_one c.args.index.now.lines c.args.line.0 c.label.result.now c.label.ensures.label in
    c.new.ensures ∙ c.in_ok-push.ensures.items ∙ ap (λ (front : List (List ℕ)). front ++ copy ∷ []) c.new-labels.ensures.items ∙ ap (λ (label : List ℕ). label ∷ []) text
