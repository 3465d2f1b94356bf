use Rattle.std.proofs.lemmas.Result.{IfOk-weaker}
use Rattle.line_regions.proofs.Ranks.{are_nodes}
use Rattle.line_regions.proofs.points.nodes_of.Goals as goal

pub returns : goal.returns
returns c =
    let points = c.in_ok-points_of.field-0.items in
    IfOk-weaker c.tree_of.result _ _ (λ nodes adds. are_nodes c.args.locations.now c.args.heads.now points nodes.items c.in_ok-points_of.ensures adds) c.tree_of.ensures
