use Rattle.std.proofs.Common.{ℕ, List, length, All, subst}
use Rattle.line_index.specs.Keys.{texts}
use Rattle.line_index.specs.Endings.{AreRanks, IsRanked}
use Rattle.line_index.proofs.Ranking.{holds_lines}
use Rattle.line_index.proofs.endings.endings_of.Goals as goal

pub returns-clause-lines : goal.returns-clause-lines
returns-clause-lines c =
    let both = holds_lines c.args.keys.now c.in_ok-backwards.backwards.items c.in_ok-ranks.ranks.items (length (texts c.args.paths.now)) c.in_ok-lines.lines.items c.sort.new.self.items
    (subst (λ (backwards : List ℕ). AreRanks backwards c.in_ok-ranks.ranks.items) c.deref.ensures.value c.in_ok-ranks.ensures.each)
    c.in_ok-backwards.ensures.each c.requires.have_paths
    (subst (λ (ranks : List ℕ). All (IsRanked c.args.keys.now ranks) c.in_ok-lines.lines.items) c.deref-2.ensures.value c.in_ok-lines.ensures.own)
    c.in_ok-lines.ensures.each c.in_ok-sort.ensures.permutation in
    record { own = both.0; each = both.1 }
