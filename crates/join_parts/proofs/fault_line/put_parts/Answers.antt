use Rattle.coz_files.proofs.PutsLemmas.{continues_then}
use Rattle.join_parts.proofs.fault_line.put_parts.Goals as goal

pub returns : goal.returns
returns g c =
    continues_then
    (continues_then (continues_then c.put_next-answer.ensures c.put_kind-answer.ensures) c.put_next-answer-2.ensures)
    (rw c.as_bytes.ensures.value at c.put_next.ensures)
