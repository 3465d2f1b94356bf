-- The retirement of a hart.
use Rattle.std.specs.Prelude.{ℕ, [], Option, Some, None, option_and_then}
use Rattle.coz_types.specs.declared.ending.Ending.TheVariants.{Trapped}
use Rattle.coz_types.specs.declared.ending.TrapCause.{TrapCause}
use Rattle.coz_types.specs.declared.ending.TrapCause.TheVariants.{Fetch, Illegal}
use Rattle.machines.specs.declared.Fate.{Fate}
use Rattle.machines.specs.declared.Fate.TheVariants.{Goes, Ends}
use Rattle.machines.specs.Guest.{Retirement}
use Rattle.rv_decode.specs.declared.Instr.{Instr}
use Rattle.rv_decode.specs.Instructions.{instruction_of}
use Rattle.guest_memory.specs.Memory.{fetch}
use Rattle.rv_execute.specs.declared.hart.Step.{Step}
use Rattle.rv_execute.specs.declared.hart.Step.TheVariants.{Next, Call, Fault}
use Rattle.rv_execute.specs.Execution.{Executed, execute}
use Rattle.guest_calls.specs.Guest.{Guest, pc_of, memory_of, setting_of, with_setting}
use Rattle.guest_calls.specs.Calls.{retirement, call_of}

-- the word at a hart's pc
abbrev pub word_at : Guest → ℕ → Option ℕ
word_at g h = fetch (memory_of g) (pc_of g h)

-- a hart's next instruction; None if the word can't be fetched or is no instruction
unfoldable pub next_of : Guest → ℕ → Option Instr
next_of g h = option_and_then instruction_of (word_at g h)

-- the guest after an instruction, and what follows
pub record Stepped : Type 0 where
  pub guest : Guest
  pub step : Step

abbrev pub step_result : Guest → Step → Stepped
step_result guest step = record { guest = guest; step = step }

abbrev pub stepped_by : Guest → ℕ → Executed → Stepped
stepped_by g h e = step_result (with_setting h e.setting g) e.step

-- a hart executes the instruction at its pc, if there is one
unfoldable pub step : Guest → ℕ → Stepped
step g h =
    elim (word_at g h) [
      | None ↦ step_result g (Fault Fetch)
      | Some w ↦ elim (instruction_of w) [
        | None ↦ step_result g (Fault Illegal)
        | Some i ↦ stepped_by g h (execute h i (setting_of g h))
      ]
    ]

abbrev pub trap_of : Guest → ℕ → TrapCause → Fate
trap_of g h cause =
    Ends (Trapped (record { cause = cause; hart = record { 0 = h }; pc = pc_of g h }))

-- what follows a step of a hart at a net time
abbrev pub retirement_after : ℕ → ℕ → Stepped → Retirement Guest
retirement_after h v s =
    elim (s.step) [
      | Next ↦ retirement s.guest Goes []
      | Call ↦ call_of s.guest h v
      | Fault cause ↦ retirement s.guest (trap_of s.guest h cause) []
    ]

-- the retirement of a running hart at a net time
unfoldable pub retire : Guest → ℕ → ℕ → Retirement Guest
retire g h v = retirement_after h v (step g h)
