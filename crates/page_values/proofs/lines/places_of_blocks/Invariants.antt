use Rattle.std.proofs.Common.{◌≡◌, take}
use Rattle.page_values.specs.Lines.{block_labels, texts}
use Rattle.page_values.proofs.lines.places_of_blocks.Given as goal

abbrev pub invariant-loop-summary : goal.invariant-loop-summary
invariant-loop-summary l = texts l.labels.items ≡ block_labels (take l.summary-index l.summaries)
