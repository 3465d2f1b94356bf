-- The ticks of an instruction on a machine of the timing model.
use Rattle.std.specs.Prelude.{ℕ, ◌*◌, Bool, if◌then◌else◌, Option}
use Rattle.rv_decode.specs.declared.Instr.{Instr}
use Rattle.cost_table.specs.Costs.{reduced_cost, raise_of}
use Rattle.timing_laws.specs.Noted.{is_doubled}
use Rattle.timing_model.specs.declared.costs.Costs.{Costs}
use Rattle.timing_model.specs.Timing.{cycles_in}

-- the cycles of the instruction that a hart retires after `count` others
abbrev pub timed_cycles : Costs → ℕ → ℕ → ℕ → Option Instr → ℕ
timed_cycles costs seed h count i =
    if is_doubled seed h count then 2 * cycles_in costs i else cycles_in costs i

-- its ticks: fewer if it is selected, as the speedup in per cent says
abbrev pub timed_ticks : ℕ → Bool → ℕ → ℕ
timed_ticks cycles selected speedup = if selected then reduced_cost cycles speedup else 100 * cycles

-- the ticks by which it raises the delay
abbrev pub timed_raise : ℕ → Bool → ℕ → ℕ
timed_raise cycles selected speedup = if selected then raise_of cycles speedup else 0
