use Rattle.std.proofs.Common.{rules, ◌≡◌, ap, sym, ◌∙◌, subst, map, drop, arith, Some}
use Rattle.std.proofs.lemmas.List.{drop-drop, drop-map, length-map, length-drop}
use Rattle.asm_tokens.specs.Tokens.{◌>>=◌}
use Rattle.rv_asm.specs.Assembled.{take_tokens}
use Rattle.asm_tokens.specs.Views.{all_placed, placed_of, FailsLine}
use Rattle.rv_asm.specs.Views.{state_of, use_of, label_front}
use Rattle.rv_asm.proofs.LineTokens.{over_label, two_left, fails_then}
use Rattle.rv_asm.proofs.lines.take_tokens.Goals as goal

pub returns-in_err-add_label : goal.returns-in_err-add_label
returns-in_err-add_label c =
    let e = c.in_err-add_label.field-0.0 in
    let ts = all_placed (drop c.loop-label.index c.args.tokens.now) in
    let found : label_front ts ≡ Some (use_of c.in-Some.label) = sym c.in-Some.ensures in
    let failed : FailsLine e (take_tokens c.args.line c.args.end (all_placed c.args.tokens.now) (state_of c.args.state.now)) =
    subst (FailsLine e) (sym (over_label c.args.line c.args.end ts (use_of c.in-Some.label) (state_of c.loop-label.state) found) ∙ c.loop-label.invariant.1)
    (fails_then e _ (λ more. take_tokens c.args.line c.args.end (drop 2 ts) more) c.in_err-add_label.ensures) in
    search (rules, failed)

pub loop-label-preserved : goal.loop-label-preserved
loop-label-preserved c =
    let index = c.loop-label.index in
    let ts = all_placed (drop index c.args.tokens.now) in
    let found : label_front ts ≡ Some (use_of c.in-Some.label) = sym c.in-Some.ensures in
    let rest = drop-map placed_of 2 (drop index c.args.tokens.now) ∙ ap (map placed_of) (drop-drop 2 index c.args.tokens.now) in (
      omega (arith, two_left ts _ found, length-map (drop index c.args.tokens.now) placed_of, length-drop index c.args.tokens.now),
      ap (λ xs. take_tokens c.args.line c.args.end xs (state_of c.add_label.new.self)) (sym rest)
          ∙ ap (λ r. r >>= λ more. take_tokens c.args.line c.args.end (drop 2 ts) more) (sym c.in_ok-add_label.ensures)
          ∙ sym (over_label c.args.line c.args.end ts (use_of c.in-Some.label) (state_of c.loop-label.state) found)
          ∙ c.loop-label.invariant.1,
    )
