use Rattle.std.proofs.Common.{◌≡◌, Some, None, sym, ap, arith}
use Rattle.profile_book.proofs.Gathering.{gathers_as}
use Rattle.page_cli.specs.Page.{side_at}
use Rattle.page_cli.proofs.OneLine.{all_put, fewer_left, is_within, none_put, one_put, skips_sides}
use Rattle.page_cli.proofs.sides.put_sides.Goals as goal

pub loop-at-init : goal.loop-at-init
loop-at-init g c =
    none_put (side_at c.args.top c.args.all.now.points.now c.args.label.now) c.args.label.now c.args.all.now.curves.now (skips_sides c.args.top c.args.all.now.points.now c.args.label.now) c.args.all.now.places.now c.requires.places c.args.out.now c.args.to.now c.first-at.result c.first-at.ensures

pub bounds-all-place : goal.bounds-all-place
bounds-all-place g c =
    let at : c.loop-at.at ≡ Some c.in-Some.place = cc in
    is_within (side_at c.args.top c.args.all.now.points.now c.args.label.now) c.args.label.now c.args.all.now.curves.now (skips_sides c.args.top c.args.all.now.points.now c.args.label.now) c.in-Some.place c.loop-at.at at c.loop-at.invariant

pub offset_bounds-all-place : goal.offset_bounds-all-place
offset_bounds-all-place g c =
    let at : c.loop-at.at ≡ Some c.in-Some.place = cc in
    let within = is_within (side_at c.args.top c.args.all.now.points.now c.args.label.now) c.args.label.now c.args.all.now.curves.now (skips_sides c.args.top c.args.all.now.points.now c.args.label.now) c.in-Some.place c.loop-at.at at c.loop-at.invariant in
    omega (arith, within)

pub loop-at-smaller : goal.loop-at-smaller
loop-at-smaller g c =
    let at : c.loop-at.at ≡ Some c.in-Some.place = cc in
    fewer_left (side_at c.args.top c.args.all.now.points.now c.args.label.now) c.args.label.now c.args.all.now.curves.now (skips_sides c.args.top c.args.all.now.points.now c.args.label.now) c.args.all.now.places.now c.requires.places c.in-Some.place c.loop-at.at c.after-at.result c.index-all-place.result at c.after-at.ensures c.loop-at.invariant

pub loop-at-preserved : goal.loop-at-preserved
loop-at-preserved g c =
    let at : c.loop-at.at ≡ Some c.in-Some.place = cc in
    one_put (side_at c.args.top c.args.all.now.points.now c.args.label.now) c.args.label.now c.args.all.now.curves.now (skips_sides c.args.top c.args.all.now.points.now c.args.label.now) c.args.all.now.places.now c.requires.places c.in-Some.place c.loop-at.at c.index-all-place.result c.after-at.result at c.index-all-place.is c.after-at.ensures c.loop-at.invariant (gathers_as (sym (ap (side_at c.args.top c.args.all.now.points.now c.args.label.now) c.index-all-place.is)) c.put_side.ensures)

pub returns : goal.returns
returns g c =
    let at : c.loop-at.at ≡ None = cc in
    all_put (side_at c.args.top c.args.all.now.points.now c.args.label.now) c.args.label.now c.args.all.now.curves.now (skips_sides c.args.top c.args.all.now.points.now c.args.label.now) c.loop-at.at at c.loop-at.invariant
