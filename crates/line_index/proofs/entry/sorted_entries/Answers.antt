use Rattle.dwarf_lines.specs.Registers.{files_view}
use Rattle.line_index.proofs.Distinct.{distinct, entry_total, entry_ties, entries_kept}
use Rattle.line_index.proofs.entry.sorted_entries.Goals as goal

pub returns-clause-in_order : goal.returns-clause-in_order
returns-clause-in_order c = (distinct entry_total _ entry_ties _ _ _ c.in_ok-sort.ensures.permutation c.in_ok-sort.ensures.sorted c.dedup.ensures.filtered).in_order

pub returns-clause-each : goal.returns-clause-each
returns-clause-each c = entries_kept (files_view c.args.files.now) _ _ c.in_ok-entries.ensures (distinct entry_total _ entry_ties _ _ _ c.in_ok-sort.ensures.permutation c.in_ok-sort.ensures.sorted c.dedup.ensures.filtered)
