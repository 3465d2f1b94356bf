use Rattle.elf_load.specs.Tables.{section_at, shoff}
use Rattle.elf_load.proofs.TableLemmas.{entries_more}
use Rattle.elf_load.proofs.tables.read_sections.Goals as goal

pub loop-index-preserved : goal.loop-index-preserved
loop-index-preserved c = entries_more (section_at c.args.file.now) (shoff c.args.file.now) 64 _ _ _ _ c.loop-index.invariant c.nth_section.ensures c.in_ok-push.ensures.items
