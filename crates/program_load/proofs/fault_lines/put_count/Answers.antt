use Rattle.coz_files.proofs.PutsLemmas.{continues_then}
use Rattle.program_load.proofs.fault_lines.put_count.Goals as goal

pub returns : goal.returns
returns g c = continues_then (continues_then c.put_next-answer.ensures c.put_number-answer.ensures) c.put_next.ensures
