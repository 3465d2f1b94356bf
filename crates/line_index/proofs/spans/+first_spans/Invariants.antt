use Rattle.std.proofs.Common.{length}
use Rattle.line_index.proofs.spans.+first_spans.Given as goal

abbrev pub decreases-first_spans : goal.decreases-first_spans
decreases-first_spans l = length l.spans.now
