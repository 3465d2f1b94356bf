use Rattle.std.proofs.Common.{◌≡◌, drop, []}
use Rattle.std.specs.BTreeMap.{get}
use Rattle.std.specs.Ordering.{nat_cmp}
use Rattle.elf_load.specs.Faults.{first_after}
use Rattle.elf_load.proofs.SpanLemmas.{SpansOf}
use Rattle.elf_load.proofs.AreaLemmas.{earlier, shares}
use Rattle.elf_load.proofs.pages.no_shared_page.Given as goal

-- no area so far shares a page with an earlier one
abbrev pub invariant-loop-area : goal.invariant-loop-area
invariant-loop-area l =
    SpansOf (get nat_cmp l.spans) (earlier l.area-index l.areas)
    × (first_after shares (earlier l.area-index l.areas) (drop l.area-index l.areas) ≡ first_after shares [] l.areas)
