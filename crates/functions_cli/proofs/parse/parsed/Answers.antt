use Rattle.std.proofs.Common.{◌≡◌, ◌∙◌, ap, sym, subst, inl, inr, [], ◌∷◌, map, string_bytes}
use Rattle.clap.specs.Words.{App, Kinds, HasKind, fault_of, found_of, first_value, is_simple, is_simple_and_free, kind_of, matches_of, rows_of}
use Rattle.clap.specs.declared.error.Error.{Error}
use Rattle.clap.specs.declared.error.kind.ErrorKind.TheVariants.{OutOfMemory}
use Rattle.clap.proofs.WalkLemmas.{first_value-rows}
use Rattle.coz_words.proofs.Judged.{found_items, given_pass}
use Rattle.functions_cli.specs.Words.{option_names}
use Rattle.functions_cli.proofs.Parsing.{are_names, fault_is, is_right, is_simple_app, matches_are, texts}
use Rattle.functions_cli.proofs.parse.parsed.Goals as goal

only_memory : (e : Error) → HasKind [] e → kind_of e ≡ OutOfMemory
only_memory e (inl is) = is
only_memory e (inr other) = absurd other

pub returns-in-Ok : goal.returns-in-Ok
returns-in-Ok c =
    let words = map string_bytes c.args.words.now in
    let app = c.in_ok-words_command.ensures in
    let fine = c.in-Ok.ensures.kinds (ap is_simple_and_free app ∙ is_right) in
    let has = c.in-Ok.ensures.matches (ap is_simple app ∙ is_simple_app) in
    let found = found_of c.in-Ok.matches in
    found_items option_names ([] ∷ words) (first_value found) (rows_of found) are_names (texts c.args.words.now)
    (sym (fault_is words) ∙ sym (ap (λ (a : App). fault_of a words) app) ∙ fine)
    (λ id. first_value-rows found id) (has.0 ∙ ap (λ (a : App). matches_of a words) app ∙ matches_are words)

pub returns : goal.returns
returns c items given =
    let words = map string_bytes c.args.words.now in
    let app = c.in_ok-words_command.ensures in
    let kinds = c.in-Err.ensures.kinds (ap is_simple_and_free app ∙ is_right) in
    let none = ap (λ (a : App). fault_of a words) app ∙ fault_is words ∙ given_pass option_names ([] ∷ words) items are_names given in
    let memory = only_memory c.in-Err.error (subst (λ (k : Kinds). HasKind k c.in-Err.error) none kinds) in
    absurd (let bad = c.if-is_out_of_memory.ensures memory in cc)
