use Rattle.std.proofs.Common.{rules, sym, subst}
use Rattle.std.specs.List.{All}
use Rattle.std.proofs.lemmas.List.Elements.{All-drop}
use Rattle.causal_curves.specs.Measured.{IsMeasured}
use Rattle.causal_curves.proofs.Ranks.{one_more, no_more}
use Rattle.causal_curves.proofs.ranked.push_curves.Goals as goal

pub loop-rest-preserved : goal.loop-rest-preserved
loop-rest-preserved c = record {
  measured = subst (All (IsMeasured c.args.point)) (sym c.split_at.ensures.back) (All-drop (IsMeasured c.args.point) c.group_length.result c.loop-rest.rest.now c.loop-rest.invariant.measured);
  so_far = one_more c.loop-rest.into.items c.push.new.self.items _ c.args.point c.group_length.result c.loop-rest.rest.now c.split_at.result.0.now c.split_at.result.1.now _ c.group_length.ensures.group c.split_at.ensures.front c.split_at.ensures.back c.in_ok-curve.ensures c.in_ok-push.ensures.items c.loop-rest.invariant.so_far;
}

pub returns : goal.returns
returns c = no_more _ _ c.args.point c.loop-rest.rest.now (search rules) c.loop-rest.invariant.so_far
