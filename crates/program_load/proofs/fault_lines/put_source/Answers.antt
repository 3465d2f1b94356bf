use Rattle.coz_files.proofs.PutsLemmas.{continues_then}
use Rattle.program_load.proofs.fault_lines.put_source.Goals as goal

pub returns : goal.returns
returns g c =
    continues_then
    (continues_then
    (continues_then
    (continues_then
    (continues_then c.put_next-answer.ensures (rw c.asm_kind_name.ensures at c.put_next-answer-2.ensures))
    c.put_next-answer-3.ensures)
    c.put_number-answer.ensures)
    c.put_next-answer-4.ensures)
    c.put_number.ensures
