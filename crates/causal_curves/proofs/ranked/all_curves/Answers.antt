use Rattle.std.proofs.Common.{rules, ◌++◌, ap, ◌∙◌}
use Rattle.causal_curves.specs.Curves.{curves_of, curves_at}
use Rattle.causal_curves.proofs.Ranks.{points_more, points_whole}
use Rattle.causal_curves.proofs.ranked.all_curves.Goals as goal

pub loop-point-preserved : goal.loop-point-preserved
loop-point-preserved c =
    let p = c.args.profile.now in
    points_more p.summaries p.points c.loop-point.point c.loop-point.curves.items c.push_curves.new.into.items (search rules)
    (c.in_ok-push_curves.ensures ∙ ap (λ xs. c.loop-point.curves.items ++ curves_at xs c.loop-point.point) c.as_slice-summaries.ensures) c.loop-point.invariant

pub returns : goal.returns
unfolding curves_of
returns c = let p = c.args.profile.now in points_whole p.summaries p.points c.loop-point.point c.loop-point.curves.items (search rules) c.loop-point.invariant
