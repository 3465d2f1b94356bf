use Rattle.std.proofs.Common.{◌≡◌, ◌≤◌, length, take}
use Rattle.line_index.specs.Spans.{code_spans}
use Rattle.line_index.proofs.spans.code_spans.Given as goal

abbrev pub invariant-loop-area : goal.invariant-loop-area
invariant-loop-area l = record {
  spans : l.spans.items ≡ code_spans (take l.area-index l.areas);
  few : length l.spans.items ≤ l.area-index;
}
