use Rattle.std.proofs.Common.{◌≡◌, map, take}
use Rattle.coz_types.specs.declared.HartId.{HartId}
use Rattle.timing_laws.specs.Cores.{in_line}
use Rattle.timing_state.specs.Held.{seats_of}
use Rattle.timing_state.proofs.seats.line_up.Given as goal

abbrev pub invariant-loop-i : goal.invariant-loop-i
invariant-loop-i l = seats_of l.seats ≡ in_line (take l.i (map (λ (hart : HartId). hart.0) l.harts)) (seats_of l.initial.seats)
