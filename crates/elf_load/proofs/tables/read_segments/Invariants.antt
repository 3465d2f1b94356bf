use Rattle.std.proofs.Common.{◌≡◌, map}
use Rattle.elf_load.specs.Tables.{segment_at, places, phoff}
use Rattle.elf_load.proofs.tables.read_segments.Given as goal

abbrev pub invariant-loop-index : goal.invariant-loop-index
invariant-loop-index l = l.segments.items ≡ map (segment_at l.file) (places (phoff l.file) 56 l.index)
