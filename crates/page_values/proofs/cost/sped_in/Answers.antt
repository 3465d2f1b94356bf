use Rattle.std.proofs.Common.{◌≡◌, ◌+◌, cond, drop, find, Bool, Some, None, sym, ap, ◌∙◌, arith}
use Rattle.coz_types.specs.declared.record.Summary.{Summary}
use Rattle.page_values.specs.Cost.{is_sped}
use Rattle.page_values.proofs.Along.{begun, found, found_none, inside, moved, shorter}
use Rattle.page_values.proofs.Blocks.{block_label, skips_sped}
use Rattle.page_values.proofs.cost.sped_in.Goals as goal

pub loop-at-init : goal.loop-at-init
loop-at-init c =
    let q = c.args.label.now in
    begun block_label q (find (is_sped q)) c.args.summaries.now c.args.places.now c.requires c.first-at.result c.first-at.ensures

pub bounds-summaries-place : goal.bounds-summaries-place
bounds-summaries-place c =
    let q = c.args.label.now in
    let at : c.loop-at.at ≡ Some c.in-Some.place = cc in
    inside block_label q (find (is_sped q)) c.args.summaries.now (skips_sped q) c.in-Some.place c.loop-at.at at c.loop-at.invariant

pub offset_bounds-summaries-place : goal.offset_bounds-summaries-place
offset_bounds-summaries-place c =
    let q = c.args.label.now in
    let at : c.loop-at.at ≡ Some c.in-Some.place = cc in
    let within = inside block_label q (find (is_sped q)) c.args.summaries.now (skips_sped q) c.in-Some.place c.loop-at.at at c.loop-at.invariant in
    omega (arith, within)

pub returns-then-is_sped : goal.returns-then-is_sped
returns-then-is_sped c =
    let q = c.args.label.now in
    let x : Summary = c.index-summaries-place.result in
    let rest = drop (c.in-Some.place + 1) c.args.summaries.now in
    let at : c.loop-at.at ≡ Some c.in-Some.place = cc in
    let there = found block_label q (find (is_sped q)) c.args.summaries.now (skips_sped q) c.in-Some.place c.loop-at.at x at c.index-summaries-place.is c.loop-at.invariant in
    sym (there ∙ ap (λ (b : Bool). cond b (Some x) (find (is_sped q) rest)) (sym c.is_sped.ensures ∙ c.if-is_sped.true))

pub loop-at-smaller : goal.loop-at-smaller
loop-at-smaller c =
    let q = c.args.label.now in
    let at : c.loop-at.at ≡ Some c.in-Some.place = cc in
    shorter block_label q (find (is_sped q)) c.args.summaries.now c.args.places.now c.requires (skips_sped q) c.in-Some.place c.loop-at.at c.after-at.result c.index-summaries-place.result at c.after-at.ensures c.loop-at.invariant

pub loop-at-preserved : goal.loop-at-preserved
loop-at-preserved c =
    let q = c.args.label.now in
    let x : Summary = c.index-summaries-place.result in
    let rest = drop (c.in-Some.place + 1) c.args.summaries.now in
    let at : c.loop-at.at ≡ Some c.in-Some.place = cc in
    moved block_label q (find (is_sped q)) c.args.summaries.now c.args.places.now c.requires (skips_sped q) c.in-Some.place c.loop-at.at x c.after-at.result at c.index-summaries-place.is
    (ap (λ (b : Bool). cond b (Some x) (find (is_sped q) rest)) (sym c.is_sped.ensures ∙ c.if-is_sped.false)) c.after-at.ensures c.loop-at.invariant

pub returns : goal.returns
returns c =
    let q = c.args.label.now in
    let at : c.loop-at.at ≡ None = cc in
    sym (found_none block_label q (find (is_sped q)) c.args.summaries.now (skips_sped q) c.loop-at.at at c.loop-at.invariant)
