use Rattle.std.proofs.Common.{◌≡◌, ◌≤◌, ◌-◌, ◌++◌, true, length, drop}
use Rattle.coz_types.specs.Labels.{is_written, written}
use Rattle.line_remap.proofs.raw_paths.unwritten.Given as goal

abbrev pub invariant-loop-offset : goal.invariant-loop-offset
invariant-loop-offset l = (l.offset ≤ length l.path) × (is_written (drop l.offset l.path) ≡ true) × (written l.out.items ++ drop l.offset l.path ≡ l.path)

abbrev pub decreases-loop-offset : goal.decreases-loop-offset
decreases-loop-offset l = length l.path - l.offset
