use Rattle.std.proofs.Common.{◌≡◌, length}
use Rattle.guest_memory.specs.Copies.{AreCopiedOn}
use Rattle.guest_memory.proofs.copies.copy_pages.Given as goal

abbrev pub invariant-loop-index : goal.invariant-loop-index
invariant-loop-index l = record {
  copied : AreCopiedOn l.start l.index l.others l.from l.initial.pages l.initial.bytes l.pages l.bytes;
  same_bytes : length l.bytes ≡ length l.initial.bytes;
}
