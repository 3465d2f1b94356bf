use Rattle.std.proofs.Common.{rules, ◌∙◌, ap, Bor}
use Rattle.std.specs.Str.{bytes_eq}
use Rattle.std.proofs.lemmas.Iterator.{YieldsList-from_slice}
use Rattle.std.proofs.lemmas.Iterator.Search.{any_from_yields_List}
use Rattle.clap.proofs.WalkLemmas.{list_any-map}
use borrow.Author.Tests.{tests}
use Rattle.coz_words.specs.Said.{Text}
use Rattle.coz_words.specs.Request.{is_among}
use Rattle.coz_words.proofs.command.has_option.Goals as goal

pub returns : goal.returns
returns c =
    any_from_yields_List (λ (n : Bor Text). bytes_eq n.now c.args.name.now) _ _ _ c.any.ensures.ran (YieldsList-from_slice c.option_names.result.now cc) (λ x b q k. search (rules, tests))
    ∙ list_any-map (λ n. bytes_eq n c.args.name.now) (λ (s : Bor Text). s.now) c.option_names.result.now
    ∙ ap (λ names. is_among names c.args.name.now) c.option_names.ensures
