use Rattle.std.proofs.Common.{◌≡◌, ℕ, true}
use Rattle.std.specs.Global.{Vec}
use Rattle.coz_types.specs.Labels.{is_written}
use Rattle.line_index.proofs.Distinct.{distinct, path_total, path_ties, paths_kept}
use Rattle.line_index.proofs.Labelled.{all_of}
use Rattle.line_index.specs.Keys.{entries_view}
use Rattle.line_index.proofs.paths.sorted_paths.Goals as goal

pub returns-clause-in_order : goal.returns-clause-in_order
returns-clause-in_order c = (distinct path_total _ path_ties _ _ _ c.in_ok-sort.ensures.permutation c.in_ok-sort.ensures.sorted c.dedup.ensures.filtered).in_order

pub returns-clause-each : goal.returns-clause-each
returns-clause-each c = paths_kept (entries_view c.args.entries.now) _ _ c.in_ok-paths.ensures.paths (distinct path_total _ path_ties _ _ _ c.in_ok-sort.ensures.permutation c.in_ok-sort.ensures.sorted c.dedup.ensures.filtered)

pub returns-clause-right : goal.returns-clause-right
returns-clause-right c = all_of (λ (text : Vec ℕ). is_written text.items ≡ true) _ _ (distinct path_total _ path_ties _ _ _ c.in_ok-sort.ensures.permutation c.in_ok-sort.ensures.sorted c.dedup.ensures.filtered).from c.in_ok-paths.ensures.right
