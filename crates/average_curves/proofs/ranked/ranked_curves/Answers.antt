use Rattle.std.proofs.Common.{rules, List, sym, subst}
use Rattle.average_curves.specs.Curves.{IsRanking, curves_of}
use Rattle.average_curves.specs.declared.curve.AverageCurve.{AverageCurve}
use Rattle.average_curves.proofs.Rankings.{ranked_is}
use Rattle.average_curves.proofs.Ranks.{ranking}
use Rattle.average_curves.proofs.ranked.ranked_curves.Goals as goal

pub returns-clause-ranking : goal.returns-clause-ranking
returns-clause-ranking c =
    let sort = c.in_ok-sort_by_key.ensures in
    let by_rank = ranking c.in_ok-curves.curves.items c.sort_by_key.new.self.items sort.permutation sort.sorted sort.stable (λ b r f k. search rules) in
    subst (λ (ranked : List AverageCurve). IsRanking (curves_of c.args.averaged.now) ranked) (sym c.new.ensures)
    (subst (λ (curves : List AverageCurve). IsRanking curves c.sort_by_key.new.self.items) c.in_ok-curves.ensures by_rank)

pub returns-clause-ranked : goal.returns-clause-ranked
returns-clause-ranked c = ranked_is (curves_of c.args.averaged.now) c.new.result (returns-clause-ranking c)
