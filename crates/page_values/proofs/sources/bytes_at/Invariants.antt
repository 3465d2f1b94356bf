use Rattle.page_values.proofs.Looked.{IsAhead}
use Rattle.page_values.proofs.sources.bytes_at.Given as goal

abbrev pub invariant-loop-file : goal.invariant-loop-file
invariant-loop-file l = IsAhead l.files l.path l.file-index
