use Rattle.std.proofs.Common.{ℕ, ◌<◌, List, length, get_or, sym, ◌∙◌, subst, refl, arith}
use Rattle.std.proofs.lemmas.List.{length-set}
use Rattle.std.proofs.lemmas.List.Elements.{All-get_or}
use Rattle.line_index.proofs.Ranking.{ranked_more, all_ranked}
use Rattle.line_index.proofs.endings.ranks.Goals as goal

pub loop-rank-preserved : goal.loop-rank-preserved
loop-rank-preserved c =
    let backwards : List ℕ = c.args.backwards.now in
    let ranks : List ℕ = c.loop-rank.ranks.items in
    let rank : ℕ = c.loop-rank.rank in
    let path : ℕ = get_or backwards rank 0 in
    let own : path < length backwards = All-get_or (λ p. p < length backwards) backwards rank 0 c.loop-rank-test.true c.requires.own in
    record {
      as_many = length-set ranks path rank ∙ c.loop-rank.invariant.as_many;
      so_far = ranked_more backwards ranks rank path c.loop-rank-test.true refl (subst (λ n. path < n) (sym c.loop-rank.invariant.as_many) own) c.loop-rank.invariant.so_far;
    }

pub returns-clause-each : goal.returns-clause-each
returns-clause-each c = all_ranked c.args.backwards.now c.loop-rank.ranks.items c.loop-rank.rank (omega arith) c.loop-rank.invariant.so_far
