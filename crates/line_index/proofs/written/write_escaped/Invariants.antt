use Rattle.std.proofs.Common.{◌≡◌, ◌++◌, take}
use Rattle.coz_types.specs.Labels.{written}
use Rattle.line_index.proofs.written.write_escaped.Given as goal

abbrev pub invariant-loop-byte : goal.invariant-loop-byte
invariant-loop-byte l = l.text.items ≡ l.fn.text.items ++ written (take l.byte-index l.bytes)
