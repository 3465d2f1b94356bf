use Rattle.std.proofs.Common.{◌≡◌, length, take, All}
use Rattle.line_index.specs.declared.changes.Change.{Change}
use Rattle.line_index.proofs.Needed.{Names}
use Rattle.line_index.proofs.named.named_files.Given as goal

abbrev pub invariant-loop-change : goal.invariant-loop-change
invariant-loop-change l = (length l.named.items ≡ length l.files) × All (λ (change : Change). Names l.rows l.named.items l.files change.position) (take l.change-index l.covering)
