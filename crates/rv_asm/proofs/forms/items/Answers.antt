use Rattle.std.proofs.Common.{rules, ◌≡◌, [], ◌∷◌, ◌++◌, map, ap, sym, ◌∙◌, true, false, is_err}
use Rattle.std.proofs.lemmas.List.{map-append}
use Rattle.rv_asm.specs.Statements.{items}
use Rattle.asm_tokens.specs.Views.{with_front, FailsLine}
use Rattle.rv_asm.specs.Views.{piece_of, tokens_left}
use Rattle.rv_asm.proofs.Items.{items_behind, begins, no_first, goes_on, ends, stops}
use Rattle.rv_asm.proofs.forms.items.Goals as goal

pub returns-in_err-first : goal.returns-in_err-first
returns-in_err-first c =
    let e = c.in_err-first.field-0.0 in
    let failed : FailsLine e (items c.args.operands.end c.args.size (tokens_left c.args.operands)) = no_first c.args.operands.end c.args.size (tokens_left c.args.operands) e c.in_err-first.ensures in
    search (rules, failed)

pub loop-operands-init : goal.loop-operands-init
loop-operands-init c =
    let old = c.args.operands in
    let new = c.next_item.new.operands in
    let first = piece_of c.in_ok-first.first in
    ap (λ ps. with_front (map piece_of ps) (items_behind new.end c.args.size (tokens_left new))) c.in_ok-pieces.ensures.items
    ∙ ap (λ end. with_front (first ∷ []) (items_behind end c.args.size (tokens_left new))) c.in_ok-first.ensures.1
    ∙ sym (begins old.end c.args.size (tokens_left old) (tokens_left new) first c.in_ok-first.ensures.0)

pub returns-in_err-then_item : goal.returns-in_err-then_item
returns-in_err-then_item c =
    let operands = c.loop-operands.operands in
    let e = c.in_err-then_item.field-0.0 in
    let more : is_err c.finish.result ≡ true = search rules in
    let failed : FailsLine e (items c.args.operands.end c.args.size (tokens_left c.args.operands)) =
    stops operands.end c.args.size (map piece_of c.loop-operands.pieces.items) c.finish.result (tokens_left operands) e _ more c.finish.ensures c.in_err-then_item.ensures c.loop-operands.invariant in
    search (rules, failed)

pub loop-operands-preserved : goal.loop-operands-preserved
loop-operands-preserved c =
    let old = c.loop-operands.operands in
    let new = c.then_item.new.operands in
    let out = map piece_of c.loop-operands.pieces.items in
    let piece = piece_of c.in_ok-then_item.field-0 in
    ap (λ ps. with_front ps (items_behind new.end c.args.size (tokens_left new))) (ap (map piece_of) c.in_ok-push.ensures.items ∙ map-append piece_of c.loop-operands.pieces.items _)
    ∙ ap (λ end. with_front (out ++ piece ∷ []) (items_behind end c.args.size (tokens_left new))) c.in_ok-then_item.ensures.1
    ∙ goes_on old.end c.args.size out piece (tokens_left old) (tokens_left new) _ c.in_ok-then_item.ensures.0 c.loop-operands.invariant

pub returns : goal.returns
returns c =
    let operands = c.loop-operands.operands in
    let no_more : is_err c.finish.result ≡ false = search rules in
    ends operands.end c.args.size (map piece_of c.loop-operands.pieces.items) c.finish.result (tokens_left operands) _ no_more c.finish.ensures c.loop-operands.invariant
