use Rattle.std.proofs.Common.{◌≤◌, arith}
use Rattle.run_engine.specs.Begin.{last_moment}
use Rattle.run_engine.proofs.Quiet.{key_in}
use Rattle.run_engine.proofs.engine.limit_of.Goals as goal

pub overflow_add-result : goal.overflow_add-result
overflow_add-result c =
    let second = c.in-Some.second in
    let few : second.key ≤ last_moment = c.requires.within second.hart.0 second.key (key_in c.args.schedule.now c.args.hart.0 second.hart.0 second.key (c.in-Some.ensures.next c.args.hart.0 c.requires.first).1) in
    omega (arith, few)

pub returns-in-Some-clause-soon : goal.returns-in-Some-clause-soon
returns-in-Some-clause-soon c =
    let second = c.in-Some.second in
    let few : second.key ≤ last_moment = c.requires.within second.hart.0 second.key (key_in c.args.schedule.now c.args.hart.0 second.hart.0 second.key (c.in-Some.ensures.next c.args.hart.0 c.requires.first).1) in
    omega (arith, few)

pub returns-in-Some-2-clause-soon : goal.returns-in-Some-2-clause-soon
returns-in-Some-2-clause-soon c =
    let second = c.in-Some.second in
    let few : second.key ≤ last_moment = c.requires.within second.hart.0 second.key (key_in c.args.schedule.now c.args.hart.0 second.hart.0 second.key (c.in-Some.ensures.next c.args.hart.0 c.requires.first).1) in
    omega (arith, few)
