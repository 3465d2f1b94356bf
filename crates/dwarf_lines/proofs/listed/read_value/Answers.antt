use Rattle.dwarf_lines.proofs.listed.read_value.Goals as goal

pub returns-in-LineStrp : goal.returns-in-LineStrp
returns-in-LineStrp c = rw c.in-LineStrp.is c.text_in-in-LineStrp.ensures
