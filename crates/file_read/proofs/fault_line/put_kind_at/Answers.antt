use Rattle.coz_files.proofs.PutsLemmas.{continues_then}
use Rattle.file_read.proofs.fault_line.put_kind_at.Goals as goal

pub returns : goal.returns
returns g c =
    continues_then
    (continues_then (continues_then c.put_next-answer.ensures c.put_next-answer-2.ensures) c.put_next-answer-3.ensures)
    c.put_number.ensures
