use Rattle.std.proofs.Common.{rules, ◌≡◌, ◌<◌, ap, sym, ◌∙◌, subst, map, drop, length, arith, slice_index_or}
use Rattle.std.proofs.Math.ListN.{drop_of_length-le}
use Rattle.rv_asm.specs.Assembled.{filled_pieces}
use Rattle.failures.specs.Answers.{Fails}
use Rattle.rv_asm.specs.Views.{all_parts, parts_of, put_of, state_of}
use Rattle.rv_asm.proofs.Filling.{over_put, at_fault, from_nothing, at_end}
use Rattle.rv_asm.proofs.fill.fill.Goals as goal

pub returns-in_err-fill_one : goal.returns-in_err-fill_one
returns-in_err-fill_one c =
    let state = c.args.state.now in
    let puts = state.puts.items in
    let e = c.in_err-fill_one.field-0.0 in
    let failed : Fails e (all_parts (filled_pieces (state_of state) (map put_of puts))) =
    at_fault (state_of state) puts c.loop-put.put-index c.put-item.result (parts_of c.loop-put.parts) _ e
    (subst (λ ps. c.loop-put.put-index < length ps) c.deref-put-items.ensures.value c.loop-put-test.true)
    (subst (λ ps. c.put-item.result ≡ slice_index_or ps c.loop-put.put-index c.put-item.result) c.deref-put-items.ensures.value c.put-item.is)
    c.in_err-fill_one.ensures (c.loop-put.invariant ∙ from_nothing (filled_pieces (state_of state) (map put_of puts))) in
    search (rules, failed)

pub loop-put-preserved : goal.loop-put-preserved
loop-put-preserved c =
    let state = c.args.state.now in
    let puts = state.puts.items in
    over_put (state_of state) puts c.loop-put.put-index c.put-item.result (parts_of c.loop-put.parts) (parts_of c.fill_one.new.parts) _
    (subst (λ ps. c.loop-put.put-index < length ps) c.deref-put-items.ensures.value c.loop-put-test.true)
    (subst (λ ps. c.put-item.result ≡ slice_index_or ps c.loop-put.put-index c.put-item.result) c.deref-put-items.ensures.value c.put-item.is)
    c.in_ok-fill_one.ensures c.loop-put.invariant

pub returns : goal.returns
returns c =
    let state = c.args.state.now in
    let puts = state.puts.items in
    let past = drop_of_length-le puts {i = c.loop-put.put-index} (omega (arith, ap length c.deref-put-items.ensures.value, c.loop-put-test.false)) in
    sym (from_nothing (filled_pieces (state_of state) (map put_of puts)))
    ∙ sym c.loop-put.invariant
    ∙ at_end (state_of state) (parts_of c.loop-put.parts) (drop c.loop-put.put-index puts) past
