use Rattle.std.proofs.Common.{◌≡◌, Some, None}
use Rattle.line_index.specs.Changes.{next, least}
use Rattle.line_index.proofs.Merging.{goes_first, goes_on, goes_end, ahead_fewer, joined_position_none}
use Rattle.line_index.proofs.changes.merged.Goals as goal

pub loop-address-init : goal.loop-address-init
loop-address-init c = rw c.new-changes.ensures.items (goes_first c.args.join c.args.first.now c.args.second.now c.requires.first_rises c.requires.second_rises (joined_position_none c.args.join))

pub loop-address-preserved : goal.loop-address-preserved
loop-address-preserved c =
    let e : least (next c.loop-address.first.ahead.now) (next c.loop-address.second.ahead.now) ≡ Some c.in-Some.address = cc in
    let step = goes_on c.args.join c.args.first.now c.args.second.now c.loop-address.changes.items c.loop-address.first.position c.loop-address.second.position c.loop-address.first.ahead.now c.loop-address.second.ahead.now c.in-Some.address e c.loop-address.invariant in
    simp (c.in_ok-push.ensures.items, c.position.ensures, c.pass.ensures.position, c.pass.ensures.ahead, c.pass-in-Some.ensures.position, c.pass-in-Some.ensures.ahead) step

pub loop-address-smaller : goal.loop-address-smaller
loop-address-smaller c =
    let e : least (next c.loop-address.first.ahead.now) (next c.loop-address.second.ahead.now) ≡ Some c.in-Some.address = cc in
    let fewer = ahead_fewer c.loop-address.first.ahead.now c.loop-address.second.ahead.now c.in-Some.address e in
    simp (c.pass.ensures.ahead, c.pass-in-Some.ensures.ahead) fewer

pub returns-clause-values : goal.returns-clause-values
returns-clause-values c =
    let e : least (next c.loop-address.first.ahead.now) (next c.loop-address.second.ahead.now) ≡ None = cc in
    (goes_end c.args.join c.args.first.now c.args.second.now c.loop-address.changes.items c.loop-address.first.position c.loop-address.second.position c.loop-address.first.ahead.now c.loop-address.second.ahead.now e c.loop-address.invariant).values

pub returns-clause-rises : goal.returns-clause-rises
returns-clause-rises c =
    let e : least (next c.loop-address.first.ahead.now) (next c.loop-address.second.ahead.now) ≡ None = cc in
    (goes_end c.args.join c.args.first.now c.args.second.now c.loop-address.changes.items c.loop-address.first.position c.loop-address.second.position c.loop-address.first.ahead.now c.loop-address.second.ahead.now e c.loop-address.invariant).rises

pub returns-clause-few : goal.returns-clause-few
returns-clause-few c =
    let e : least (next c.loop-address.first.ahead.now) (next c.loop-address.second.ahead.now) ≡ None = cc in
    (goes_end c.args.join c.args.first.now c.args.second.now c.loop-address.changes.items c.loop-address.first.position c.loop-address.second.position c.loop-address.first.ahead.now c.loop-address.second.ahead.now e c.loop-address.invariant).few
