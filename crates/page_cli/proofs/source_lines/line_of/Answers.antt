use Rattle.std.proofs.Common.{ℕ, take, ap, ap₂, ◌∙◌}
use Rattle.std.proofs.lemmas.List.{take_min}
use Rattle.coz_types.specs.Labels.{Text}
use Rattle.coz_files.specs.InMemory.{entries}
use Rattle.page_values.specs.Sources.{look_up}
use Rattle.page_cli.specs.Lines.{line_in}
use Rattle.page_cli.specs.declared.source_lines.TheConstants.{MAX_SHOWN_LINE}
use Rattle.page_cli.proofs.source_lines.line_of.Goals as goal

pub returns : goal.returns
returns c =
    let line = c.line_in-line.result.now in
    let found = c.look_up.ensures ∙ ap (look_up (entries c.args.files.now)) c.path_of.ensures in
    let is = c.line_in-line.ensures ∙ ap₂ (λ (n : ℕ) (text : Text). line_in n text) c.number_of.ensures found in
    ap (λ (n : ℕ). take n line) c.min.ensures ∙ take_min MAX_SHOWN_LINE line ∙ ap (take MAX_SHOWN_LINE) is
