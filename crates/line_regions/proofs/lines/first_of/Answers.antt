use Rattle.std.proofs.Common.{find, option_map, sym, ap, ◌∙◌}
use Rattle.line_index.specs.Changes.{or_else}
use Rattle.line_regions.specs.Lines.{line_in, lines_at}
use Rattle.line_regions.specs.Regions.{is_below, is_in, region_of}
use Rattle.line_regions.proofs.Found.{first_in_lines}
use Rattle.line_regions.proofs.lines.first_of.Goals as goal

pub returns-in-Some-clause-line : goal.returns-in-Some-clause-line
returns-in-Some-clause-line c =
    let region = region_of c.args.region.now in
    let lines = lines_at c.args.locations.now in
    sym (ap (λ o. or_else o (find (is_below region) lines)) (first_in_lines c.args.locations.now (is_in region) c.first_in.result c.first_in.ensures ∙ ap (option_map (line_in lines)) c.in-Some.is))

pub returns-in-None-clause-line : goal.returns-in-None-clause-line
returns-in-None-clause-line c =
    let region = region_of c.args.region.now in
    let lines = lines_at c.args.locations.now in
    sym (
    ap (λ o. or_else o (find (is_below region) lines)) (first_in_lines c.args.locations.now (is_in region) c.first_in.result c.first_in.ensures ∙ ap (option_map (line_in lines)) c.in-None.is)
    ∙ first_in_lines c.args.locations.now (is_below region) c.first_below.result c.first_below.ensures)
