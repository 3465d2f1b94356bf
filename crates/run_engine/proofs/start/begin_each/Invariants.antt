use Rattle.std.proofs.Common.{map, drop}
use Rattle.run_engine.specs.Run.{is_selected_in, ticks_in}
use Rattle.run_engine.proofs.Begin.{IsBeginning}
use Rattle.run_engine.proofs.start.begin_each.Given as goal

-- the harts that are left are to begin
abbrev pub invariant-loop-hart : goal.invariant-loop-hart
invariant-loop-hart l =
    IsBeginning l.guest (ticks_in l.setting l.guest) (is_selected_in l.setting l.guest) l.moment (map (λ hart. hart.0) l.harts) l.initial.schedule l.initial.selected
    (map (λ hart. hart.0) (drop l.hart-index l.harts)) l.schedule l.selected
