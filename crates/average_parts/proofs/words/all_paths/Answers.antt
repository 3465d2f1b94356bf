use Rattle.std.proofs.Common.{rules, ◌∙◌, sym, string_bytes}
use Rattle.std.proofs.lemmas.Iterator.{YieldsList-from_slice}
use Rattle.std.proofs.lemmas.Iterator.Search.{all_from_yields_List}
use Rattle.std.proofs.lemmas.List.Folds.{list_all-map}
use borrow.Author.Tests.{tests}
use Rattle.average_parts.specs.Words.{is_path}
use Rattle.average_parts.proofs.words.all_paths.Goals as goal

pub returns : goal.returns
returns c = all_from_yields_List (λ w. is_path (string_bytes w)) _ _ _ c.all.ensures.ran (YieldsList-from_slice c.args.words.now cc) (λ x b q k. search (rules, tests)) ∙ sym (list_all-map is_path string_bytes c.args.words.now)
