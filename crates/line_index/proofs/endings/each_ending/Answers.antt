use Rattle.std.proofs.Common.{ℕ, ◌+◌, ◌<◌, List, All, sym, subst, refl, arith}
use Rattle.std.proofs.lemmas.List.Elements.{All-push}
use Rattle.line_index.specs.declared.endings.Ending.{Ending}
use Rattle.line_index.specs.declared.lines.Key.{Key}
use Rattle.line_index.specs.Endings.{IsRanked, lines_of}
use Rattle.line_index.proofs.Pieces.{Among, from_among}
use Rattle.line_index.proofs.Ranking.{ending_at, ranked_at, lines_more}
use Rattle.line_index.proofs.endings.each_ending.Goals as goal

pub loop-line-preserved : goal.loop-line-preserved
loop-line-preserved c =
    let keys : List Key = c.args.keys.now in
    let ranks : List ℕ = c.args.ranks.now in
    let list : List Ending = c.loop-line.list.items in
    let line : ℕ = c.loop-line.line in
    record {
      own = subst (All (IsRanked keys ranks)) (sym c.in_ok-push.ensures.items) (All-push (IsRanked keys ranks) list (ending_at keys ranks line) c.loop-line.invariant.own (ranked_at keys ranks line c.loop-line-test.true));
      each = subst (λ (more : List Ending). (k : ℕ) → k < line + 1 → Among k (lines_of more)) (sym c.in_ok-push.ensures.items) (lines_more list (ending_at keys ranks line) line refl c.loop-line.invariant.each);
    }

pub returns-clause-each : goal.returns-clause-each
returns-clause-each c = λ k lt. from_among k (lines_of c.loop-line.list.items) (c.loop-line.invariant.each k (omega (arith, lt, c.loop-line-test.false)))
