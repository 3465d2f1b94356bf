use Rattle.std.proofs.Common.{◌≡◌, ◌+◌, ◌*◌, ◌≤◌, fold, map, drop}
use Rattle.coz_types.specs.declared.HartId.{HartId}
use Rattle.run_counts.specs.Counts.{counts_of, IsWithin}
use Rattle.counted_run.specs.Begun.{with_hart}
use Rattle.counted_run.proofs.beginning.count_each.Given as goal

-- once the harts that are left are counted, all are
abbrev pub invariant-loop-hart : goal.invariant-loop-hart
invariant-loop-hart l =
    IsWithin (counts_of l.tallies)
    × (l.tallies.begun ≡ l.initial.tallies.begun + l.hart-index)
    × (l.tallies.all ≤ l.initial.tallies.all + 2000000 * l.hart-index)
    × (fold (with_hart l.guest) (counts_of l.tallies) (map (λ (hart : HartId). hart.0) (drop l.hart-index l.harts))
    ≡ fold (with_hart l.guest) (counts_of l.initial.tallies) (map (λ (hart : HartId). hart.0) l.harts))
