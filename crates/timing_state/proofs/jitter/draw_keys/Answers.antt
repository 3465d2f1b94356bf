use Rattle.std.proofs.Common.{◌<◌, length, arith, ◌∙◌, refl}
use Rattle.std.proofs.lemmas.List.{length-set}
use Rattle.timing_state.proofs.Drawn.{none_yet, one_key_more, all_keys}
use Rattle.timing_state.proofs.jitter.draw_keys.Goals as goal

pub loop-hart-init : goal.loop-hart-init
loop-hart-init c = record { same = refl; each = none_yet c.args.seed c.args.keys.now.items }

pub loop-hart-preserved : goal.loop-hart-preserved
loop-hart-preserved c =
    let key = c.splitmix.result in
    let inside : c.loop-hart.hart < length c.loop-hart.keys.items = omega (arith, c.loop-hart-test.true, c.len-hart-end.ensures, c.loop-hart.invariant.same) in
    record {
      same = length-set c.loop-hart.keys.items c.loop-hart.hart key ∙ c.loop-hart.invariant.same;
      each = one_key_more c.args.seed c.loop-hart.hart c.loop-hart.keys.items key c.loop-hart.invariant.each inside c.splitmix.ensures;
    }

pub returns-clause-keys : goal.returns-clause-keys
returns-clause-keys c =
    all_keys c.args.seed c.loop-hart.hart c.loop-hart.keys.items (omega (arith, c.loop-hart-test.false, c.len-hart-end.ensures, c.loop-hart.invariant.same)) c.loop-hart.invariant.each
