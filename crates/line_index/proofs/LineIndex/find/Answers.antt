use Rattle.std.proofs.Common.{ℕ, List, sym, subst}
use Rattle.std.specs.Global.{Vec}
use Rattle.line_index.specs.declared.lines.Key.{Key}
use Rattle.line_index.specs.Keys.{texts}
use Rattle.line_index.specs.Endings.{HoldsLines, IsSearchable}
use Rattle.line_index.proofs.LineIndex.find.Goals as goal

pub find-requires-clause-searchable : goal.find-requires-clause-searchable
find-requires-clause-searchable c = subst (λ (paths : List (Vec ℕ)). IsSearchable (texts paths) c.self.inside.endings) (sym c.deref.ensures.value) c.self.invariant.searchable

pub find-requires-clause-lines : goal.find-requires-clause-lines
find-requires-clause-lines c = subst (λ (keys : List Key). HoldsLines keys c.self.inside.endings) (sym c.deref-2.ensures.value) c.self.invariant.endings
