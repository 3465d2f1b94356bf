use Rattle.std.proofs.Common.{◌<◌, length, arith}
use Rattle.timing_state.proofs.Maps.{extended_first, extended_more, extended_all}
use Rattle.timing_state.proofs.places.extend.Goals as goal

pub loop-fresh-init : goal.loop-fresh-init
loop-fresh-init g c = (extended_first c.args.fresh c.args.count c.args.items.now.items c.requires.fewer, omega arith)

pub loop-fresh-preserved : goal.loop-fresh-preserved
loop-fresh-preserved g c =
    let held = c.loop-fresh.items.ok.0 in
    let test = c.loop-fresh-test.true in
    let len = c.len.ensures in
    let more = c.in-Ok.ensures.capacity in
    let before = c.loop-fresh.invariant.1 in
    let room : length c.loop-fresh.items.items < c.args.count = omega arith in
    (rw c.in-Ok.ensures.items (extended_more c.args.fresh c.args.count c.args.items.now.items c.loop-fresh.items.items c.loop-fresh.invariant.0 room), omega arith)

pub returns : goal.returns
returns g c =
    let held = c.loop-fresh.items.ok.0 in
    let test = c.loop-fresh-test.false in
    let len = c.len.ensures in
    record {
      items = extended_all c.args.fresh c.args.count c.args.items.now.items c.loop-fresh.items.items c.loop-fresh.invariant.0 (omega arith);
      capacity = c.loop-fresh.invariant.1;
    }
