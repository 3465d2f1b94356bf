use Rattle.std.proofs.Common.{◌∙◌, sym, subst, map, string_bytes, [], ◌∷◌, Option}
use Rattle.std.specs.Prelude.{option_map}
use Rattle.clap.specs.Words.{first_value, found_of}
use Rattle.clap.specs.declared.parser.matches.ArgMatches.{ArgMatches}
use Rattle.coz_words.specs.Parse.{Finds}
use Rattle.functions_cli.specs.Words.{option_names}
use Rattle.functions_cli.proofs.Parsing.{found_is, nothing_found}
use Rattle.functions_cli.proofs.words.asked_of.Goals as goal

pub returns-in-Some-clause-asked : goal.returns-in-Some-clause-asked
returns-in-Some-clause-asked c =
    let words = map string_bytes c.args.words.now in
    c.request_said.ensures.asked ∙ sym (found_is words (first_value (found_of c.in-Some.matches))
    (subst (λ (m : Option ArgMatches). Finds option_names ([] ∷ words) (option_map (λ m. first_value (found_of m)) m)) c.in-Some.is c.in_ok-matches.ensures))

pub returns-in-None-clause-asked : goal.returns-in-None-clause-asked
returns-in-None-clause-asked c =
    let words = map string_bytes c.args.words.now in
    sym (nothing_found words
    (subst (λ (m : Option ArgMatches). Finds option_names ([] ∷ words) (option_map (λ m. first_value (found_of m)) m)) c.in-None.is c.in_ok-matches.ensures))
