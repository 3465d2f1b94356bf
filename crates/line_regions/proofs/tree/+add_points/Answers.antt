use Rattle.std.proofs.Common.{◌≡◌, length, refl, arith, rules}
use Rattle.line_regions.proofs.Nodes.{parted_many, subtree_added}
use Rattle.line_regions.proofs.tree.+add_points.Goals as goal

pub add_points-requires-2 : goal.add_points-requires-2
add_points-requires-2 t c =
    let parts = c.select_nth_unstable_by_key-front.result in
    let many = parted_many c.args.points.now parts.0.now parts.2.now parts.1.now c.select_nth_unstable_by_key-front.ensures.permutation in (
      omega (arith, many, c.decreases),
      omega (arith, many, c.requires, c.in_ok-add_points.ensures.as_many),
    )

pub returns : goal.returns
returns t c =
    let parts = c.select_nth_unstable_by_key-front.result in
    let moved = c.select_nth_unstable_by_key-front.ensures.permutation in
    let start : c.len-start.result ≡ length c.args.nodes.now.items = search rules in
    subtree_added c.args.points.now parts.0.now parts.2.now parts.1.now c.args.nodes.now.items c.add_points.new.nodes.items c.add_points-2.new.nodes.items c.push.new.self.items _ moved c.in_ok-add_points.ensures c.in_ok-add_points-2.ensures
    c.in_ok-push.ensures.items refl start c.cover_of-cover.ensures (parted_many c.args.points.now parts.0.now parts.2.now parts.1.now moved)
