use Rattle.std.proofs.Common.{ℕ, ◌≡◌, ◌+◌, ◌-◌, ◌≤◌, ◌<◌, false, length, get_or}
use Rattle.guest_areas.proofs.FreeRuns.{free_run_from}
use Rattle.guest_areas.proofs.Areas.free_run.Given as goal

abbrev pub invariant-loop-index : goal.invariant-loop-index
invariant-loop-index l = record {
  short : l.free < l.count;
  back : l.free ≤ l.index;
  open_ : (k : ℕ) → l.index - l.free ≤ k → k < l.index → get_or l.is_mapped-items k false ≡ false;
  search_ : free_run_from l.self l.count (length l.is_mapped-items - (l.index - l.free)) (0x2100000 + (l.index - l.free)) ≡ free_run_from l.self l.count (length l.is_mapped-items) 0x2100000;
}
