use Rattle.std.proofs.Common.{sym, rules}
use Rattle.dwarf_lines.proofs.Steps.{open_last}
use Rattle.dwarf_lines.proofs.draft.Draft.is_open.Goals as goal

pub returns-in-Some : goal.returns-in-Some
returns-in-Some c = let value = c.in-Some.ensures.value in sym (open_last c.args.self.now.rows.items c.in-Some.row.now (search rules))
