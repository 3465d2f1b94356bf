-- The choice of a run of a plan is within the limits.
use Rattle.std.proofs.Common.{ℕ, ◌^◌, ◌≤◌, Some, refl, arith}
use Rattle.guest_memory.specs.Regions.{IsLayout, usual}
use Rattle.run_engine.specs.Choices.{choice_of}
use Rattle.run_engine.specs.Run.{IsChoice}

usual_fits : IsLayout usual
usual_fits = record {
  whole_brk = refl;
  whole_map = refl;
  whole_stack = refl;
  brk = omega arith;
  map = omega arith;
  stack = omega arith;
  some_stack = omega arith;
}

pub valid_choice : (line speedup budget : ℕ) → 1 ≤ budget → budget ≤ 10 ^ 12 → speedup ≤ 95 → IsChoice (choice_of (Some line) speedup budget)
valid_choice line speedup budget some few slow = record {
  speedup = slow;
  some_budget = some;
  few = few;
  some_output = omega arith;
  output = omega arith;
  some_visits = omega arith;
  visits = omega arith;
  layout = usual_fits;
}
