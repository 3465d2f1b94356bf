use Rattle.std.proofs.Common.{Some, option_map, Contains, sym, ap, ◌∙◌, subst}
use Rattle.line_index.specs.declared.entry.Entry.{Entry}
use Rattle.line_index.specs.Lines.{entry_path}
use Rattle.line_index.specs.Keys.{entries_view, entry_view}
use Rattle.line_index.proofs.Placing.{entry_not_missed, placed_at}
use Rattle.line_index.proofs.entry.position_of.Goals as goal

pub returns-in-Ok : goal.returns-in-Ok
returns-in-Ok c = λ paths are.
    placed_at paths c.args.positions.now c.args.entries.now c.entry_of.result c.in-Ok.at _ c.requires.as_many c.in-Ok.ensures.bound (c.in-Ok.ensures.ok _) are
    ∙ ap (λ (entry : Entry). option_map Some (entry_path (entry_view entry))) c.entry_of.ensures

pub returns-in-Err : goal.returns-in-Err
returns-in-Err c =
    absurd (entry_not_missed c.args.entries.now c.entry_of.result c.binary_search.result _ c.requires.in_order (subst (Contains (entries_view c.args.entries.now)) (ap entry_view (sym c.entry_of.ensures)) c.requires.one) c.binary_search.ensures.position c.in-Err.is)
