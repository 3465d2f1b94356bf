use Rattle.std.proofs.Common.{◌∙◌, ◌++◌, ◌∷◌, [], length, ap}
use Rattle.coz_commands.proofs.Labels.{one_below, one_label}
use Rattle.coz_commands.proofs.profile.point_labels.Goals as goal

pub label-requires : goal.label-requires
label-requires c = one_below (length c.args.index.now.lines) c.loop-point.point c.line-line.result.0 c.args.points.now.lines c.requires.below c.line-line.ensures

pub loop-point-preserved : goal.loop-point-preserved
loop-point-preserved c =
    one_label c.args.index.now.lines c.args.points.now.lines c.loop-point.point c.line-line.result.0 c.loop-point.labels.items c.push.new.self.items c.label.result.now
    c.line-line.ensures c.loop-point.invariant c.label.ensures.label (c.in_ok-push.ensures.items ∙ ap (λ text. c.loop-point.labels.items ++ text ∷ []) (c.in_ok-copy.ensures ∙ c.bytes.ensures))
