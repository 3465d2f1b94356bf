use Rattle.std.proofs.Common.{◌≡◌, ◌+◌, Some, None, drop, sym, ap, ◌∙◌, arith}
use Rattle.std.specs.List.{list_any}
use Rattle.std.specs.Prelude.{not}
use Rattle.causal_curves.specs.declared.curve.Curve.{Curve}
use Rattle.page_values.specs.Lines.{first_of}
use Rattle.page_values.proofs.Along.{begun, found, found_none, inside, moved, shorter}
use Rattle.page_cli.specs.Page.{is_behind}
use Rattle.page_cli.proofs.OneLine.{curve_label, ends, passes, skips_behind}
use Rattle.page_cli.proofs.sides.leads.Goals as goal

pub loop-at-init : goal.loop-at-init
loop-at-init c =
    begun curve_label c.args.curve.now.selected (list_any (is_behind c.args.curve.now)) c.args.all.now.curves.now c.args.all.now.places.now c.requires c.first-at.result (c.first-at.ensures ∙ ap (first_of c.args.all.now.places.now) c.bytes.ensures)

pub bounds-all-place : goal.bounds-all-place
bounds-all-place c =
    let at : c.loop-at.at ≡ Some c.in-Some.place = cc in
    inside curve_label c.args.curve.now.selected (list_any (is_behind c.args.curve.now)) c.args.all.now.curves.now (skips_behind c.args.curve.now) c.in-Some.place c.loop-at.at at c.loop-at.invariant

pub offset_bounds-all-place : goal.offset_bounds-all-place
offset_bounds-all-place c =
    let at : c.loop-at.at ≡ Some c.in-Some.place = cc in
    let within = inside curve_label c.args.curve.now.selected (list_any (is_behind c.args.curve.now)) c.args.all.now.curves.now (skips_behind c.args.curve.now) c.in-Some.place c.loop-at.at at c.loop-at.invariant in
    omega (arith, within)

pub returns-then-is_behind : goal.returns-then-is_behind
returns-then-is_behind c =
    let x : Curve = c.index-all-place.result in
    let rest = drop (c.in-Some.place + 1) c.args.all.now.curves.now in
    let at : c.loop-at.at ≡ Some c.in-Some.place = cc in
    let there = found curve_label c.args.curve.now.selected (list_any (is_behind c.args.curve.now)) c.args.all.now.curves.now (skips_behind c.args.curve.now) c.in-Some.place c.loop-at.at x at c.index-all-place.is c.loop-at.invariant in
    sym (ap not (there ∙ ends (is_behind c.args.curve.now) x rest (ap (is_behind c.args.curve.now) c.index-all-place.is ∙ sym c.is_behind.ensures ∙ c.if-is_behind.true)))

pub loop-at-smaller : goal.loop-at-smaller
loop-at-smaller c =
    let at : c.loop-at.at ≡ Some c.in-Some.place = cc in
    shorter curve_label c.args.curve.now.selected (list_any (is_behind c.args.curve.now)) c.args.all.now.curves.now c.args.all.now.places.now c.requires (skips_behind c.args.curve.now) c.in-Some.place c.loop-at.at c.after-at.result c.index-all-place.result at c.after-at.ensures c.loop-at.invariant

pub loop-at-preserved : goal.loop-at-preserved
loop-at-preserved c =
    let x : Curve = c.index-all-place.result in
    let rest = drop (c.in-Some.place + 1) c.args.all.now.curves.now in
    let at : c.loop-at.at ≡ Some c.in-Some.place = cc in
    moved curve_label c.args.curve.now.selected (list_any (is_behind c.args.curve.now)) c.args.all.now.curves.now c.args.all.now.places.now c.requires (skips_behind c.args.curve.now) c.in-Some.place c.loop-at.at x c.after-at.result at c.index-all-place.is
    (passes (is_behind c.args.curve.now) x rest (ap (is_behind c.args.curve.now) c.index-all-place.is ∙ sym c.is_behind.ensures ∙ c.if-is_behind.false)) c.after-at.ensures c.loop-at.invariant

pub returns : goal.returns
returns c =
    let at : c.loop-at.at ≡ None = cc in
    sym (ap not (found_none curve_label c.args.curve.now.selected (list_any (is_behind c.args.curve.now)) c.args.all.now.curves.now (skips_behind c.args.curve.now) c.loop-at.at at c.loop-at.invariant))
