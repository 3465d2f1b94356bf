use Rattle.std.proofs.Common.{ap, ◌∙◌}
use Rattle.page_words.specs.Words.{asked_of}
use Rattle.page_values.specs.Ranks.{by_mean}
use Rattle.page_cli.specs.Harm.{harmful_curves}
use Rattle.page_cli.proofs.Ranking.{curves_told, ranked_page}
use Rattle.page_cli.proofs.judge.rank.Goals as goal

pub returns-clause-verdict : goal.returns-clause-verdict
returns-clause-verdict c = λ none answers.
    let read = c.in_ok-profile.ensures in
    ranked_page (asked_of c.args.asked) c.args.bytes.now c.in_ok-profile.profile read.found answers c.len-all.result c.in_ok-ranked.ranked c.in_ok-curves.curves c.in_ok-harmful.harmful c.len-all.ensures
    read.exact
    c.in_ok-ranked.ensures.ranked
    (c.in_ok-curves.ensures ∙ ap by_mean c.chosen-of_files.ensures)
    (c.in_ok-harmful.ensures ∙ ap harmful_curves c.as_slice.ensures)

pub returns-clause-ranked : goal.returns-clause-ranked
returns-clause-ranked c =
    curves_told (asked_of c.args.asked) c.args.bytes.now c.in_ok-profile.profile c.in_ok-profile.ensures.found c.in_ok-ranked.ranked c.in_ok-curves.curves c.in_ok-ranked.ensures.ranked (c.in_ok-curves.ensures ∙ ap by_mean c.chosen-of_files.ensures)
