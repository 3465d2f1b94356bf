use Rattle.std.proofs.Common.{◌≡◌, ◌∷◌, ap, sym, ◌∙◌, subst, map, arith, None}
use Rattle.std.proofs.lemmas.List.{length-map}
use Rattle.rv_asm.specs.Assembled.{take_tokens}
use Rattle.asm_tokens.specs.Views.{all_placed, placed_of}
use Rattle.rv_asm.specs.Views.{state_of, Steps, label_front}
use Rattle.rv_asm.proofs.LineTokens.{at_statement, none_left}
use Rattle.rv_asm.proofs.lines.take_last.Goals as goal

pub returns-in-None : goal.returns-in-None
returns-in-None c = none_left c.args.line c.args.end (all_placed c.args.tokens.now) _ (omega (arith, c.in-None.ensures.cases, length-map c.args.tokens.now placed_of))

pub returns-in-Some : goal.returns-in-Some
returns-in-Some c =
    let parts : all_placed c.args.tokens.now ≡ placed_of c.in-Some.first.now ∷ all_placed c.in-Some.operands.now = ap (map placed_of) c.in-Some.ensures.cases.0 in
    let none : label_front (placed_of c.in-Some.first.now ∷ all_placed c.in-Some.operands.now) ≡ None = ap label_front (sym parts) ∙ c.requires in
    let is = ap (λ ts. take_tokens c.args.line c.args.end ts (state_of c.args.state.now)) parts ∙ at_statement c.args.line c.args.end (placed_of c.in-Some.first.now) (all_placed c.in-Some.operands.now) (state_of c.args.state.now) none in
    subst (λ r. Steps c.take_statement.result (state_of c.take_statement.new.state) r) (sym is) c.take_statement.ensures
