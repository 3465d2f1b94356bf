use Rattle.elf_load.specs.Tables.{segment_at, phoff}
use Rattle.elf_load.proofs.TableLemmas.{entries_more}
use Rattle.elf_load.proofs.tables.read_segments.Goals as goal

pub loop-index-preserved : goal.loop-index-preserved
loop-index-preserved c = entries_more (segment_at c.args.file.now) (phoff c.args.file.now) 56 _ _ _ _ c.loop-index.invariant c.nth_segment.ensures c.in_ok-push.ensures.items
