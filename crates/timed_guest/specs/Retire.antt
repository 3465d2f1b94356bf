-- The retirement of a hart on a machine of the timing model, and what its next instruction takes.
use Rattle.std.specs.Prelude.{ℕ, ◌==◌, ◌&&◌, ◌||◌, Bool, true, false, if◌then◌else◌, List, Option, Some, None, option_map}
use Rattle.coz_types.specs.declared.HartId.{HartId}
use Rattle.coz_types.specs.declared.LineId.{LineId}
use Rattle.line_index.specs.Keys.{is_at}
use Rattle.machines.specs.declared.Fate.{Fate}
use Rattle.machines.specs.Guest as machines
use Rattle.rv_decode.specs.declared.Instr.{Instr}
use Rattle.rv_decode.specs.declared.Instr.TheVariants.{Ecall}
use Rattle.guest_calls.specs.Guest as guests
use Rattle.guest_calls.specs.Calls.{number}
use Rattle.guest_calls.specs.Retire as own
use Rattle.timing_laws.specs.Noted.{note_of, is_charged, last_line}
use Rattle.timing_laws.specs.Cores.{Turned}
use Rattle.timing_model.specs.Timing.{charges}
use Rattle.timing_steps.specs.State.{after_retirement, turn_in}
use Rattle.timing_steps.specs.Ticks.{timed_cycles}
use Rattle.timing_steps.specs.declared.retirement.Retirement.{Retirement}
use Rattle.timed_guest.specs.Guest.{Timed, pc_of, line_at}

abbrev pub is_ecall : Option Instr → Bool
is_ecall (Some Ecall) = true
is_ecall _ = false

-- the number of sched_yield, by which a hart gives its slice up (Linux man page sched_yield(2))
abbrev pub YIELD : ℕ
YIELD = 124

-- a hart's next instruction is that call
abbrev pub gives_up : guests.Guest → ℕ → Bool
gives_up g h = is_ecall (own.next_of g h) && number g h == YIELD

-- a hart's next instruction; None if the word can't be fetched or is no instruction
abbrev pub next_of : Timed → ℕ → Option Instr
next_of t h = own.next_of t.guest h

abbrev pub line_id : ℕ → LineId
line_id line = record { 0 = line }

-- The line of a hart's next instruction, as it is noted. A machine that charges nothing to a last
-- line reads none, so no line is looked for on it.
abbrev pub line_noted : Timed → ℕ → Option LineId
line_noted t h =
    if charges t.beside.timing.charge then option_map line_id (line_at t (pc_of t h)) else None

-- a retirement at a net time of an instruction of this line
abbrev pub past_of : HartId → ℕ → Option LineId → Bool → Fate → Retirement
past_of hart moment line gives_up fate = record {
  hart = hart;
  moment = moment;
  line = line;
  gives_up = gives_up;
  fate = fate;
}

-- a retirement at a net time, as the guest does it to this fate
abbrev pub retirement_by : Timed → ℕ → ℕ → Fate → Retirement
retirement_by t h v fate = record {
  hart = record { 0 = h };
  moment = v;
  line = line_noted t h;
  gives_up = gives_up t.guest h;
  fate = fate;
}

-- what the guest's retirement comes to on the cores
abbrev pub turned : Timed → ℕ → ℕ → machines.Retirement guests.Guest → Turned
turned t h v r = turn_in t.beside (retirement_by t h v r.fate) r.others

abbrev pub retirement : Timed → Fate → List ℕ → machines.Retirement Timed
retirement t fate others = record { guest = t; fate = fate; others = others }

-- the guest's retirement, and then what it comes to on the machine
abbrev pub on_machine : Timed → ℕ → ℕ → machines.Retirement guests.Guest → machines.Retirement Timed
on_machine t h v r =
    retirement
    (record t {
      guest = r.guest;
      beside = after_retirement t.beside (retirement_by t h v r.fate) r.others;
    })
    (turned t h v r).fate (turned t h v r).others

-- the retirement of a running hart at a net time
unfoldable pub retire : Timed → ℕ → ℕ → machines.Retirement Timed
retire t h v = on_machine t h v (own.retire t.guest h v)

-- the cycles of a hart's next instruction
abbrev pub cycles_of_next : Timed → ℕ → ℕ
cycles_of_next t h =
    timed_cycles t.beside.timing.costs t.beside.timing.seed h (note_of t.beside.notes h).count
    (next_of t h)

-- the address has the selected line; `line` gives the line of an address
abbrev pub has_selected : Option ℕ → (ℕ → Option ℕ) → ℕ → Bool
has_selected None line a = false
has_selected (Some selected) line a = is_at selected (line a)

-- a hart's next instruction is charged to the selected line: it has none, and the hart's last
-- line is that one
abbrev pub is_charged_to : Option ℕ → Timed → ℕ → Bool
is_charged_to selected t h =
    charges t.beside.timing.charge
    && is_charged (line_at t (pc_of t h)) (note_of t.beside.notes h).last selected

-- it has the selected line, or is charged to it
abbrev pub is_selected_by : Option ℕ → Timed → ℕ → Bool
is_selected_by selected t h =
    has_selected selected (line_at t) (pc_of t h) || is_charged_to selected t h

-- the line that code without a line is charged to as a hart runs it, if the machine charges it
abbrev pub line_charged : Timed → ℕ → Option ℕ
line_charged t h =
    if charges t.beside.timing.charge then (note_of t.beside.notes h).last else None

-- the line that a hart's next instruction counts for: its own, or the one that it is charged to
abbrev pub line_counted : Timed → ℕ → Option ℕ
line_counted t h = last_line (line_at t (pc_of t h)) (line_charged t h)
