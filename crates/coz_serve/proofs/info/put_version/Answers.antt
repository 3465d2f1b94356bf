use Rattle.coz_files.proofs.PutsLemmas.{continues_then, continues_whole}
use Rattle.coz_serve.proofs.info.put_version.Goals as goal

pub returns : goal.returns
returns g c =
    continues_whole
    (continues_then (continues_then (continues_then c.put_next-answer.ensures c.put_next-answer-2.ensures) c.put_next-answer-3.ensures) c.put_next.ensures)
