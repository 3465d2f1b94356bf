use Rattle.std.proofs.Common.{◌∙◌, ap, sym, subst, Bool, Option, None, if◌then◌else◌}
use Rattle.coz_words.specs.Answers.{Answers, bytes_of, option_value}
use Rattle.coz_words.specs.Parse.{target_id}
use Rattle.coz_words.specs.Request.{request_with}
use Rattle.coz_words.specs.declared.request.Request.{Request}
use Rattle.coz_words.proofs.Commands.{texts}
use Rattle.coz_words.proofs.Found.{no_command, parsed_none, parsed_some, said_by}
use Rattle.coz_words.proofs.request.request_in.Goals as goal

pub returns-in_default : goal.returns-in_default
returns-in_default c = no_command (bytes_of c.args.words.now) (sym c.command_in.ensures ∙ c.in_default.is)

pub returns-in_default-2 : goal.returns-in_default-2
returns-in_default-2 c =
    parsed_none (bytes_of c.args.words.now) (texts c.option_names.result.now) c.in-Some.command c.in_ok-matches.field-0
    (sym c.command_in.ensures ∙ c.in-Some.is) c.option_names.ensures c.in_ok-matches.ensures c.in_default-2.is

pub returns-then-not-are_texts : goal.returns-then-not-are_texts
returns-then-not-are_texts c =
    let said = said_by c.in-Some-2.matches in
    parsed_some (bytes_of c.args.words.now) (texts c.option_names.result.now) c.in-Some.command c.in_ok-matches.field-0 c.in-Some-2.matches c.are_texts.result
    (sym c.command_in.ensures ∙ c.in-Some.is) c.option_names.ensures c.in_ok-matches.ensures c.in-Some-2.is c.are_texts.ensures
    ∙ ap (λ (b : Bool). if b then request_with c.in-Some.command (said target_id) (option_value c.in-Some.command said) else None) c.if-not-are_texts.true

pub returns : goal.returns
returns c =
    let said = said_by c.in-Some-2.matches in
    let made = parsed_some (bytes_of c.args.words.now) (texts c.option_names.result.now) c.in-Some.command c.in_ok-matches.field-0 c.in-Some-2.matches c.are_texts.result
    (sym c.command_in.ensures ∙ c.in-Some.is) c.option_names.ensures c.in_ok-matches.ensures c.in-Some-2.is c.are_texts.ensures
    ∙ ap (λ (b : Bool). if b then request_with c.in-Some.command (said target_id) (option_value c.in-Some.command said) else None) c.if-not-are_texts.false in
    subst (λ (o : Option Request). Answers o c.request_of.result) (sym made) c.request_of.ensures
