use Rattle.std.proofs.Common.{◌≡◌, ℕ, ◌+◌, ◌<◌, [], ◌∷◌, List, length, All, sym, ap, ◌∙◌, subst, arith}
use Rattle.std.proofs.lemmas.List.{length-append}
use Rattle.std.proofs.lemmas.List.Elements.{All-push}
use Rattle.line_index.proofs.Pieces.{Among, from_among}
use Rattle.line_index.proofs.Ranking.{positions_more}
use Rattle.line_index.proofs.backwards.all_positions.Goals as goal

pub loop-position-preserved : goal.loop-position-preserved
loop-position-preserved c =
    let list : List ℕ = c.loop-position.list.items in
    let position : ℕ = c.loop-position.position in
    let longer : length c.push.new.self.items ≡ length list + 1 = ap length c.in_ok-push.ensures.items ∙ length-append list (position ∷ []) in
    record {
      as_many = omega (arith, longer, c.loop-position.invariant.as_many);
      own = subst (All (λ p. p < c.args.count)) (sym c.in_ok-push.ensures.items) (All-push (λ p. p < c.args.count) list position c.loop-position.invariant.own (omega arith));
      each = subst (λ (more : List ℕ). (k : ℕ) → k < position + 1 → Among k more) (sym c.in_ok-push.ensures.items) (positions_more list position c.loop-position.invariant.each);
    }

pub returns-clause-each : goal.returns-clause-each
returns-clause-each c = λ k lt. from_among k c.loop-position.list.items (c.loop-position.invariant.each k (omega (arith, lt, c.loop-position-test.false)))
