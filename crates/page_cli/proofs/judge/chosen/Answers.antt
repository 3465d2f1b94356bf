use Rattle.std.proofs.Common.{rules, tests, ap, ◌∙◌}
use Rattle.std.specs.Option.{option_copied}
use Rattle.std.proofs.lemmas.Fn.{filter_same}
use Rattle.causal_curves.specs.declared.curve.Curve.{Curve}
use Rattle.page_cli.specs.Lines.{is_of_file}
use Rattle.page_cli.specs.Page.{chosen_curves}
use Rattle.page_cli.proofs.judge.chosen.Goals as goal

pub returns : goal.returns
returns c =
    let file = option_copied c.args.file in
    let kept = filter_same _ (λ (d : Curve). is_of_file file d.selected) _ (λ x b q k. search (rules, tests)) _ _ c.retain.ensures.filtered in
    c.new.ensures ∙ kept ∙ ap (chosen_curves file) c.into_vec-curves.ensures
