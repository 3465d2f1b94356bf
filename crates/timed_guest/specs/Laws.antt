-- The laws of coz's guest on a machine of the timing model.
use Rattle.std.specs.Prelude.{◌≡◌, ℕ, ◌+◌, ◌≤◌, true, false, Option}
use Rattle.cost_table.specs.Costs.{cycles_of}
use Rattle.line_index.specs.Index.{Index, position_at}
use Rattle.machines.specs.Guest.{IsLawful}
use Rattle.guest_calls.specs.Guest as guests
use Rattle.guest_calls.specs.Retire as own
use Rattle.timing_laws.specs.Laws.{AreAlike}
use Rattle.timing_laws.specs.Noted.{noting}
use Rattle.timing_laws.specs.Cores.{on_cores}
use Rattle.timing_model.specs.declared.timing.Timing.{Timing}
use Rattle.timing_model.specs.Timing.{IsUsual}
use Rattle.timing_steps.specs.State.{keeps, first_state}
use Rattle.timed_guest.specs.Guest.{Timed, is_running, is_sleeping, with_wake, pc_of, line_at, first_guest}
use Rattle.timed_guest.specs.Retire.{next_of, retire, retirement, cycles_of_next, has_selected, is_selected_by}
use Rattle.timed_guest.specs.Orderly.{IsOrderly}
use Rattle.timed_guest.specs.Counts.{CountsWithin}
use Rattle.timed_guest.specs.Runs.{Run, run_of, run_on, with_costs, noting_of, slicing_of, on_timing}

-- each run on each machine keeps the rules of a guest of the machines
abbrev pub TimedRunsAreLawful : Type 0
TimedRunsAreLawful =
    (t : Timing) (index : Index) (r : Run) → r.speedup ≤ 100
    → IsLawful (run_on t index r) IsOrderly

-- with another state of its guest
abbrev pub with_guest : guests.Guest → Timed → Timed
with_guest g t = record t { guest = g }

-- of a state on a usual machine: its steps are those of its guest, and all else stays
pub record IsGuestAlone (t : Timed) : Type 0 where
  pub retires : (h v : ℕ) → retire t h v ≡ retirement (with_guest (own.retire t.guest h v).guest t)
      (own.retire t.guest h v).fate (own.retire t.guest h v).others
  pub wakes : (h : ℕ) → with_wake h t ≡ with_guest (guests.with_wake h t.guest) t
  pub cycles : (h : ℕ) → cycles_of_next t h ≡ cycles_of (next_of t h)
  pub selected : (selected : Option ℕ) (h : ℕ)
      → is_selected_by selected t h ≡ has_selected selected (line_at t) (pc_of t h)
  pub running : IsOrderly t → (h : ℕ) → is_running t h ≡ guests.is_running t.guest h
  pub sleeping : IsOrderly t → (h : ℕ) → is_sleeping t h ≡ guests.is_sleeping t.guest h

abbrev pub UsualGuestsAreAlone : Type 0
UsualGuestsAreAlone = (t : Timed) → IsUsual t.beside.timing → IsGuestAlone t

-- at first the numbers are small, and each retirement and each wake adds at most one
pub record CountsGrow : Type 0 where
  pub first : (r : Run) (t : Timing) (index : Index)
      → CountsWithin 0 (first_guest r.image r.input r.output_limit r.layout t index)
  pub retires : (n : ℕ) (t : Timed) (h v : ℕ) → t.beside.timing.cores ≤ 256 → CountsWithin n t
      → CountsWithin (n + 1) (retire t h v).guest
  pub wakes : (n : ℕ) (t : Timed) (h : ℕ) → CountsWithin n t → CountsWithin (n + 1) (with_wake h t)

-- the run on a machine is that of the guest with its costs, with notes, on cores
abbrev pub TimedRunsFollow : Type 0
TimedRunsFollow =
    (t : Timing) → keeps t ≡ true → (index : Index) (r : Run) → r.speedup ≤ 100
    → AreAlike
    (on_cores (slicing_of t) (noting (noting_of t (position_at index) r.selected)
    (with_costs t.costs (run_of (position_at index) r))))
    (run_on t index r) (on_timing t index)

-- and on a machine that keeps nothing it is that of the guest with its costs
abbrev pub PlainRunsFollow : Type 0
PlainRunsFollow =
    (t : Timing) → keeps t ≡ false → (index : Index) (r : Run) → r.speedup ≤ 100
    → AreAlike (with_costs t.costs (run_of (position_at index) r)) (run_on t index r)
    (λ g. record { guest = g; beside = first_state t; index = index })
