use Rattle.std.proofs.Common.{◌≡◌, ◌≤◌, drop, [], sum_by}
use Rattle.elf_load.specs.Tables.{pages}
use Rattle.elf_load.specs.Faults.{first_after}
use Rattle.elf_load.proofs.AreaLemmas.{earlier, exceeds}
use Rattle.elf_load.proofs.pages.not_too_much.Given as goal

-- the areas so far have few pages together
abbrev pub invariant-loop-area : goal.invariant-loop-area
invariant-loop-area l =
    (l.pages ≡ sum_by pages (earlier l.area-index l.areas))
    × (l.pages ≤ 16384)
    × (first_after exceeds (earlier l.area-index l.areas) (drop l.area-index l.areas) ≡ first_after exceeds [] l.areas)
