use Rattle.std.proofs.Common.{rules, ◌∙◌, ◌&&◌, ap, ap₂, sym, Bor}
use Rattle.std.specs.List.{list_all}
use Rattle.std.proofs.lemmas.Iterator.{YieldsList-from_slice}
use Rattle.std.proofs.lemmas.Iterator.Search.{all_from_yields_List}
use Rattle.std.proofs.lemmas.List.Folds.{list_all-map}
use borrow.Author.Tests.{tests}
use Rattle.clap.specs.Words.{first_value, found_of}
use Rattle.coz_words.specs.Answers.{option_value}
use Rattle.coz_words.specs.Said.{Text}
use Rattle.coz_words.specs.Request.{none_or, is_some_text}
use Rattle.coz_words.proofs.request.are_texts.Goals as goal

pub returns-then-has_text : goal.returns-then-has_text
returns-then-has_text c =
    let test : Text → _ = λ name. none_or is_some_text (option_value c.args.command (first_value (found_of c.args.matches.now)) name) in
    let names = c.option_names.result.now in
    let all = all_from_yields_List (λ (n : Bor Text). test n.now) _ _ _ c.all.ensures.ran (YieldsList-from_slice names cc) (λ x b q k. search (rules, tests))
    ∙ sym (list_all-map test (λ (s : Bor Text). s.now) names) ∙ ap (list_all test) c.option_names.ensures in
    ap₂ ◌&&◌ (c.if-has_text.ensures ∙ ap (none_or is_some_text) c.get_str.ensures) all
