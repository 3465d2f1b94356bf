use Rattle.std.proofs.Common.{◌≡◌, take, map}
use Rattle.line_index.specs.declared.lines.Key.{Key}
use Rattle.line_index.specs.Lines.{label}
use Rattle.line_index.specs.Keys.{texts}
use Rattle.line_index.specs.Index.{line_at}
use Rattle.line_index.proofs.labels.labels.Given as goal

abbrev pub invariant-loop-key : goal.invariant-loop-key
invariant-loop-key l = l.labels.items ≡ map (λ (key : Key). label (line_at (texts l.paths) key)) (take l.key-index l.keys)
